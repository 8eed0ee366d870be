use Rattle.std.proofs.Common.{sym, subst}
use Rattle.table_state.specs.Changes.{LeadsBack}
use Rattle.table_state.proofs.ChangeLaws.{leads_past}
use Rattle.table_state.proofs.tables.Tables.apply_one.Goals as goal

pub returns-in-Ok-clause-back : goal.returns-in-Ok-clause-back
returns-in-Ok-clause-back c s leads =
    subst (λ l. LeadsBack l c.apply_undoable.new.self s) (sym c.in-Ok.ensures.ok)
    (leads_past c.args.log.now c.in_ok-undo.undo s c.args.self.now c.apply_undoable.new.self leads c.in_ok-undo.ensures.undo c.in_ok-undo.ensures.room)
