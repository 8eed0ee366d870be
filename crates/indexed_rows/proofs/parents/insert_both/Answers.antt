use Rattle.std.proofs.Common.{sym, ap, subst, ◌∙◌}
use Rattle.std.specs.FinMap.{remove}
use Rattle.indexed_rows.specs.Indexes.{IsIndexOf, entry_of, with_entry}
use Rattle.indexed_rows.proofs.EntryLaws.{taken_out}
use Rattle.indexed_rows.proofs.IndexLaws.{entered, was_new}
use Rattle.indexed_rows.proofs.parents.insert_both.Goals as goal

pub returns-in-Ok-clause-index : goal.returns-in-Ok-clause-index
returns-in-Ok-clause-index c =
    let new = was_new c.args.rows.now c.insert.new.self c.in_ok-kept.kept c.args.key.now c.args.row c.in_ok-insert.field-0 c.in_ok-insert.ensures.was_new c.if-not-branch.false c.in_ok-kept.ensures c.in_ok-insert.ensures.ok in
    subst (λ p. IsIndexOf p c.insert.new.self) (sym (c.in-Ok.ensures.ok ∙ ap (λ e. with_entry e c.args.parents.now) c.in_ok-entry.ensures))
    (subst (IsIndexOf (with_entry (entry_of c.args.parents.now c.args.key.now c.args.row) c.args.parents.now)) (sym new.0) (entered c.args.parents.now c.args.rows.now c.requires c.args.key.now c.args.row new.1))

pub returns-in-Err-clause-err : goal.returns-in-Err-clause-err
returns-in-Err-clause-err c =
    let new = was_new c.args.rows.now c.insert.new.self c.in_ok-kept.kept c.args.key.now c.args.row c.in_ok-insert.field-0 c.in_ok-insert.ensures.was_new c.if-not-branch.false c.in_ok-kept.ensures c.in_ok-insert.ensures.ok in
    c.remove.ensures.new ∙ ap (λ m. remove m c.args.key.now) new.0 ∙ taken_out c.args.rows.now c.args.key.now c.args.row new.1

pub returns-in-Err-clause-index : goal.returns-in-Err-clause-index
returns-in-Err-clause-index c =
    let new = was_new c.args.rows.now c.insert.new.self c.in_ok-kept.kept c.args.key.now c.args.row c.in_ok-insert.field-0 c.in_ok-insert.ensures.was_new c.if-not-branch.false c.in_ok-kept.ensures c.in_ok-insert.ensures.ok in
    let back = c.remove.ensures.new ∙ ap (λ m. remove m c.args.key.now) new.0 ∙ taken_out c.args.rows.now c.args.key.now c.args.row new.1 in
    subst (λ p. IsIndexOf p c.remove.new.self) (sym c.in-Err.ensures.err) (subst (IsIndexOf c.args.parents.now) (sym back) c.requires)
