use Rattle.std.proofs.Common.{sym, ap, subst, ◌∙◌}
use Rattle.std.specs.FinMap.{remove}
use Rattle.indexed_rows.specs.Indexes.{IsIndexOf}
use Rattle.indexed_rows.proofs.IndexLaws.{gone}
use Rattle.indexed_rows.proofs.parents.Parents.left.Goals as goal

pub returns-in-Ok : goal.returns-in-Ok
returns-in-Ok c rows index is =
    subst (λ es. IsIndexOf (record { columns = c.args.self.columns; entries = es }) (remove rows c.args.key.now)) (sym (c.remove.ensures.new ∙ ap (remove c.args.self.entries) c.in-Ok.ensures))
    (gone c.args.self rows index c.args.key.now c.args.row.now is)
