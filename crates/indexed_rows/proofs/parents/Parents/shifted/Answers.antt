use Rattle.std.proofs.Common.{sym, ap, subst, ◌∙◌}
use Rattle.std.specs.FinMap.{insert}
use Rattle.std.specs.List.{find}
use Rattle.indexed_rows.specs.Indexes.{IsIndexOf}
use Rattle.indexed_rows.specs.Rows.{changes}
use Rattle.indexed_rows.proofs.IndexLaws.{moved, parent_stays, stayed}
use Rattle.indexed_rows.proofs.parents.Parents.shifted.Goals as goal

pub returns-in-None : goal.returns-in-None
returns-in-None c rows index is =
    stayed c.args.self rows index c.args.key.now c.args.old.now c.args.new.now is
    (parent_stays c.args.self.columns c.args.old.now c.args.new.now
    (ap (λ l. find (changes c.args.old.now c.args.new.now) l) (sym c.as_slice.ensures) ∙ ap (λ r. find (changes r c.args.new.now) c.as_slice.result.now) (sym c.values.ensures)
    ∙ ap (λ r. find (changes c.values.result.now r) c.as_slice.result.now) (sym c.values-2.ensures) ∙ sym c.first_change.ensures ∙ c.in-None.is))

pub returns-in-Ok : goal.returns-in-Ok
returns-in-Ok c rows index is =
    subst (λ p. IsIndexOf p (insert rows c.args.key.now c.args.new.now)) (sym c.in-Ok.ensures) (moved c.args.self rows index c.args.key.now c.args.old.now c.args.new.now is)
