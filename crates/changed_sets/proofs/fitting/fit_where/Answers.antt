use Rattle.std.proofs.Common.{◌≡◌, ◌∙◌, Some, rules, subst, sym}
use Rattle.aging_cycles.specs.Fitting.{AreListedFit}
use Rattle.order_laws.proofs.TruthLaws.{same_some}
use Rattle.changed_sets.proofs.fitting.fit_where.Goals as goal

pub returns-in-Some : goal.returns-in-Some
returns-in-Some c = λ yes lists is.
    let here : c.args.rows.now ≡ Some c.in-Some.tables = first_of (search rules, cc) in
    subst (AreListedFit c.args.schema.now c.args.tree.now) (c.as_slice.ensures ∙ same_some (sym here ∙ is)) (c.are_listed_fit.ensures yes)
