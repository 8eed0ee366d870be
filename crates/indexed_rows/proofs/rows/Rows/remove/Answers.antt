use Rattle.std.proofs.Common.{T, sym, subst, ap, ◌∙◌}
use Rattle.std.specs.FinMap as fm
use Rattle.row_types.specs.Order.{key_order}
use Rattle.indexed_rows.proofs.MapLaws.{inside, row_of, no_row, sorted_without, removed, not_removed}
use Rattle.indexed_rows.proofs.rows.Rows.remove.Goals as goal

pub remove-row-requires : goal.remove-row-requires
remove-row-requires c = inside c.self.inside.entries c.args.self.now c.self.invariant c.self.view_is _ c.in-Ok.ensures.bound

pub invariant_of-self : goal.invariant_of-self
invariant_of-self c =
    subst (λ es. T (fm.is_sorted key_order es)) (sym c.remove-row.ensures.new) (sorted_without c.self.inside.entries c.args.self.now c.self.invariant c.self.view_is c.in-Ok.place)

pub returns-in-Ok-clause-old : goal.returns-in-Ok-clause-old
returns-in-Ok-clause-old c = sym (row_of c.self.inside.entries c.args.self.now c.self.invariant c.self.view_is _ c.in-Ok.place c.remove-row.result c.in-Ok.ensures.found c.remove-row.ensures.old)

pub returns-in-Ok-clause-new : goal.returns-in-Ok-clause-new
returns-in-Ok-clause-new c =
    ap fm.from_sorted c.remove-row.ensures.new ∙ removed c.self.inside.entries c.args.self.now c.self.invariant c.self.view_is _ c.in-Ok.place c.in-Ok.ensures.found

pub returns-in-Err-clause-old : goal.returns-in-Err-clause-old
returns-in-Err-clause-old c = sym (no_row _ _ c.in-Err.field-0 c.in-Err.ensures.absent)

pub returns-in-Err-clause-new : goal.returns-in-Err-clause-new
returns-in-Err-clause-new c = not_removed _ _ c.in-Err.field-0 c.in-Err.ensures.absent
