use Rattle.std.proofs.Common.{None, cond, sym, ap, ◌∙◌}
use Rattle.std.specs.FinMap as fm
use Rattle.pending_writes.proofs.MapLaws.{up_to_end, has_key, no_key, goes_in, now_sorted, now_has}
use Rattle.pending_writes.proofs.writers.Writers.enter.Goals as goal

pub insert-requires : goal.insert-requires
insert-requires c = up_to_end c.self.inside.entries c.args.self.now c.self.invariant c.self.view_is _ c.in-Err.ensures.bound

pub invariant_of-self-in-Err : goal.invariant_of-self-in-Err
invariant_of-self-in-Err c =
    now_sorted c.self.inside.entries c.args.self.now c.self.invariant c.self.view_is c.args.key.now None _
    (c.in_ok-insert-in-Err.ensures.ok
    ∙ ap (λ key. Rattle.std.specs.List.insert c.self.inside.entries c.in-Err.place (key, None)) (c.in_ok-key-in-Err.ensures)
    ∙ goes_in c.self.inside.entries c.args.self.now c.self.invariant c.self.view_is c.args.key.now None c.in-Err.place c.in-Err.ensures.absent)

pub returns-in-Ok-clause-ok : goal.returns-in-Ok-clause-ok
returns-in-Ok-clause-ok c =
    ap (λ b. cond b c.args.self.now (fm.insert c.args.self.now c.args.key.now None)) (sym (has_key c.args.self.now c.args.key.now c.in-Ok.field-0 c.in-Ok.ensures.found))

pub returns-in_ok-insert-in-Err-clause-ok : goal.returns-in_ok-insert-in-Err-clause-ok
returns-in_ok-insert-in-Err-clause-ok c =
    now_has c.self.inside.entries c.args.self.now c.self.invariant c.self.view_is c.args.key.now None _
    (c.in_ok-insert-in-Err.ensures.ok
    ∙ ap (λ key. Rattle.std.specs.List.insert c.self.inside.entries c.in-Err.place (key, None)) (c.in_ok-key-in-Err.ensures)
    ∙ goes_in c.self.inside.entries c.args.self.now c.self.invariant c.self.view_is c.args.key.now None c.in-Err.place c.in-Err.ensures.absent)
    ∙ ap (λ b. cond b c.args.self.now (fm.insert c.args.self.now c.args.key.now None)) (sym (no_key c.args.self.now c.args.key.now c.in-Err.place c.in-Err.ensures.absent))
