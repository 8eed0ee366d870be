use Rattle.std.proofs.Common.{sym, subst}
use Rattle.std.specs.FinMap.{insert}
use Rattle.indexed_rows.specs.Indexes.{IsIndexOf}
use Rattle.indexed_rows.proofs.IndexLaws.{entered}
use Rattle.indexed_rows.proofs.parents.Parents.joined.Goals as goal

pub returns-in-Ok : goal.returns-in-Ok
returns-in-Ok c rows index none =
    subst (λ p. IsIndexOf p (insert rows c.args.key.now c.args.row.now)) (sym c.in-Ok.ensures) (entered c.args.self rows index c.args.key.now c.args.row.now none)
