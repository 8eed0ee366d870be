use Rattle.std.proofs.Common.{sym, ◌∙◌}
use Rattle.indexed_rows.proofs.MapLaws.{inside, row_of, no_row, goes_over, now_sorted, now_has}
use Rattle.indexed_rows.proofs.rows.Rows.replace.Goals as goal

pub replace-old-requires : goal.replace-old-requires
replace-old-requires c = inside c.self.inside.entries c.args.self.now c.self.invariant c.self.view_is _ c.in-Ok.ensures.bound

pub invariant_of-self : goal.invariant_of-self
invariant_of-self c =
    now_sorted c.self.inside.entries c.args.self.now c.self.invariant c.self.view_is c.args.key c.args.row _ (c.replace-old.ensures.new ∙ goes_over c.self.inside.entries c.args.self.now c.self.invariant c.self.view_is c.args.key c.args.row c.in-Ok.place c.in-Ok.ensures.found)

pub returns-in-Ok-clause-old : goal.returns-in-Ok-clause-old
returns-in-Ok-clause-old c = sym (row_of c.self.inside.entries c.args.self.now c.self.invariant c.self.view_is _ c.in-Ok.place c.replace-old.result c.in-Ok.ensures.found c.replace-old.ensures.old)

pub returns-in-Ok-clause-new : goal.returns-in-Ok-clause-new
returns-in-Ok-clause-new c =
    now_has c.self.inside.entries c.args.self.now c.self.invariant c.self.view_is c.args.key c.args.row _ (c.replace-old.ensures.new ∙ goes_over c.self.inside.entries c.args.self.now c.self.invariant c.self.view_is c.args.key c.args.row c.in-Ok.place c.in-Ok.ensures.found)

pub returns-in-Err-clause-old : goal.returns-in-Err-clause-old
returns-in-Err-clause-old c = sym (no_row _ _ c.in-Err.field-0 c.in-Err.ensures.absent)
