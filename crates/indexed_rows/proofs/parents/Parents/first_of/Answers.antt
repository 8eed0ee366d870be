use Rattle.std.proofs.Common.{sym, ap, subst, ◌∙◌, arith}
use Rattle.indexed_rows.specs.Indexes.{IsFirstOf, behind}
use Rattle.indexed_rows.proofs.ParentLaws.{first_here, first_past}
use Rattle.indexed_rows.proofs.parents.Parents.first_of.Goals as goal

pub returns-then-place-len : goal.returns-then-place-len
returns-then-place-len c rows index =
    first_past c.args.self.now rows index c.args.parent.now c.args.least.now c.first_at_least_parts-place.result c.first_at_least_parts-place.ensures.below (omega (arith, c.len.ensures, c.if-place-len.true))

pub returns : goal.returns
returns c rows index =
    subst (IsFirstOf c.args.self.now.columns rows c.args.parent.now c.args.least.now)
    (sym (c.behind.ensures ∙ ap (λ l. behind l c.len-2.result c.args.parent.now) c.values.ensures ∙ ap (λ n. behind c.entry_at.result.now.0 n c.args.parent.now) c.len-2.ensures))
    (first_here c.args.self.now rows index c.args.parent.now c.args.least.now c.first_at_least_parts-place.result c.first_at_least_parts-place.ensures.below c.first_at_least_parts-place.ensures.at_least
    c.entry_at.result.now c.entry_at.ensures)
