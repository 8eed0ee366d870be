use Rattle.std.proofs.Common.{not, cond, sym, ap, ◌∙◌}
use Rattle.std.specs.FinMap as fm
use Rattle.indexed_rows.proofs.MapLaws.{up_to_end, has_key, no_key, goes_in, now_sorted, now_has}
use Rattle.indexed_rows.proofs.rows.Rows.insert.Goals as goal

pub insert-requires : goal.insert-requires
insert-requires c = up_to_end c.self.inside.entries c.args.self.now c.self.invariant c.self.view_is _ c.in-Err.ensures.bound

pub invariant_of-self-in-Err : goal.invariant_of-self-in-Err
invariant_of-self-in-Err c =
    now_sorted c.self.inside.entries c.args.self.now c.self.invariant c.self.view_is c.args.key c.args.row _ (c.in_ok-insert-in-Err.ensures.ok ∙ goes_in c.self.inside.entries c.args.self.now c.self.invariant c.self.view_is c.args.key c.args.row c.in-Err.place c.in-Err.ensures.absent)

pub returns-in-Ok-clause-was_new : goal.returns-in-Ok-clause-was_new
returns-in-Ok-clause-was_new c = ap not (sym (has_key _ _ c.in-Ok.field-0 c.in-Ok.ensures.found))

pub returns-in-Ok-clause-ok : goal.returns-in-Ok-clause-ok
returns-in-Ok-clause-ok c =
    ap (λ b. cond b c.args.self.now (fm.insert c.args.self.now c.args.key c.args.row)) (sym (has_key c.args.self.now c.args.key c.in-Ok.field-0 c.in-Ok.ensures.found))

pub returns-in_ok-insert-in-Err-clause-was_new : goal.returns-in_ok-insert-in-Err-clause-was_new
returns-in_ok-insert-in-Err-clause-was_new c =
    ap not (sym (no_key _ _ c.in-Err.place c.in-Err.ensures.absent))

pub returns-in_ok-insert-in-Err-clause-ok : goal.returns-in_ok-insert-in-Err-clause-ok
returns-in_ok-insert-in-Err-clause-ok c =
    now_has c.self.inside.entries c.args.self.now c.self.invariant c.self.view_is c.args.key c.args.row _ (c.in_ok-insert-in-Err.ensures.ok ∙ goes_in c.self.inside.entries c.args.self.now c.self.invariant c.self.view_is c.args.key c.args.row c.in-Err.place c.in-Err.ensures.absent)
    ∙ ap (λ b. cond b c.args.self.now (fm.insert c.args.self.now c.args.key c.args.row)) (sym (no_key c.args.self.now c.args.key c.in-Err.place c.in-Err.ensures.absent))
