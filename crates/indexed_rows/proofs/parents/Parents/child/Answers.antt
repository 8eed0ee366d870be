use Rattle.std.proofs.Common.{sym, ap, subst, ◌∙◌, arith}
use Rattle.std.specs.FinMap as fm
use Rattle.std.proofs.lemmas.List.{length-map}
use Rattle.row_types.specs.Order.{key_order}
use Rattle.indexed_rows.specs.Rows.{has_key}
use Rattle.indexed_rows.specs.Indexes.{IsFirst}
use Rattle.indexed_rows.proofs.FirstLaws.{no_more}
use Rattle.indexed_rows.proofs.ParentLaws.{its_child, no_child}
use Rattle.indexed_rows.proofs.parents.Parents.child.Goals as goal

pub returns-then-from-len : goal.returns-then-from-len
returns-then-from-len c =
    sym (no_more (has_key c.args.self.now.columns c.args.key.now) (fm.values c.args.rows.now) c.args.from (omega (arith, length-map (fm.entries c.args.rows.now) (λ x. x.1), fm.len-entries c.args.rows.now)))

pub returns-in-None : goal.returns-in-None
returns-in-None c =
    no_child c.args.self.now.columns c.args.rows.now c.args.key.now c.args.from c.entry_at.result.now c.entry_at.ensures
    (λ k row is child. ap (key_order k) (sym c.values-2.ensures) ∙ c.in-None.ensures c.args.rows.now c.requires k row is (child ∙ sym c.values.ensures))

pub returns-in-Some : goal.returns-in-Some
returns-in-Some c =
    its_child c.args.self.now.columns c.args.rows.now c.args.key.now c.args.from c.entry_at.result.now c.entry_at.ensures c.in-Some.child.now c.first_at_least_parts.result
    (subst (λ p. IsFirst c.args.self.now.columns c.args.rows.now p c.entry_at.result.now.0 c.in-Some.child.now) c.values.ensures
    (subst (λ l. IsFirst c.args.self.now.columns c.args.rows.now c.values.result.now l c.in-Some.child.now) c.values-2.ensures (c.in-Some.ensures c.args.rows.now c.requires)))
    c.first_at_least_parts.ensures.below c.first_at_least_parts.ensures.at_least
