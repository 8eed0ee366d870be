use Rattle.std.proofs.Common.{◌++◌, sym, subst, ap, ◌∙◌}
use Rattle.table_state.specs.Changes.{LeadsBack}
use Rattle.table_state.proofs.ChangeLaws.{leads_on}
use Rattle.table_state.proofs.undo_log.UndoLog.append.Goals as goal

pub returns-clause-back : goal.returns-clause-back
returns-clause-back c before between behind first later =
    let is = c.in_ok-append.ensures.items ∙ ap (λ l. l ++ c.later.inside.undos.items) c.self.view_is ∙ ap (λ l. c.args.self.now ++ l) c.later.view_is in
    subst (λ l. LeadsBack l behind before) (sym is) (leads_on c.args.self.now c.args.later.now before between behind first later)
