use Rattle.std.proofs.Common.{◌+◌, ◌<◌, cond, sym, ap, subst, ◌∙◌}
use Rattle.std.specs.FinMap as fm
use Rattle.indexed_rows.specs.Places.{IsGapFor, IsKeyAt}
use Rattle.indexed_rows.proofs.MapLaws.{up_to_end, has_key, no_key, goes_in, now_sorted, now_has, length_of}
use Rattle.indexed_rows.proofs.rows.Rows.put_back.Goals as goal

pub put_back-requires-clause-within : goal.put_back-requires-clause-within
put_back-requires-clause-within c = up_to_end c.self.inside.entries c.args.self.now c.self.invariant c.self.view_is _ c.in-Err.ensures.bound

pub put_back-requires-clause-room : goal.put_back-requires-clause-room
put_back-requires-clause-room c =
    subst (λ n. n + 1 < 9223372036854775808) (length_of c.self.inside.entries c.args.self.now c.self.invariant c.self.view_is) c.requires

pub invariant_of-self : goal.invariant_of-self
invariant_of-self c =
    let gap = subst (λ key. IsGapFor (fm.entries c.args.self.now) key c.in-Err.place) c.key.ensures c.in-Err.ensures.absent in
    now_sorted c.self.inside.entries c.args.self.now c.self.invariant c.self.view_is c.args.spare.0 c.args.spare.1 _ (c.put_back.ensures c.args.spare c.into_room.ensures ∙ goes_in c.self.inside.entries c.args.self.now c.self.invariant c.self.view_is c.args.spare.0 c.args.spare.1 c.in-Err.place gap)

pub returns-in-Ok : goal.returns-in-Ok
returns-in-Ok c =
    let here = subst (λ key. IsKeyAt (fm.entries c.args.self.now) key c.in-Ok.field-0) c.key.ensures c.in-Ok.ensures.found in
    ap (λ b. cond b c.args.self.now (fm.insert c.args.self.now c.args.spare.0 c.args.spare.1)) (sym (has_key c.args.self.now c.args.spare.0 c.in-Ok.field-0 here))

pub returns-in-Err : goal.returns-in-Err
returns-in-Err c =
    let gap = subst (λ key. IsGapFor (fm.entries c.args.self.now) key c.in-Err.place) c.key.ensures c.in-Err.ensures.absent in
    now_has c.self.inside.entries c.args.self.now c.self.invariant c.self.view_is c.args.spare.0 c.args.spare.1 _ (c.put_back.ensures c.args.spare c.into_room.ensures ∙ goes_in c.self.inside.entries c.args.self.now c.self.invariant c.self.view_is c.args.spare.0 c.args.spare.1 c.in-Err.place gap)
    ∙ ap (λ b. cond b c.args.self.now (fm.insert c.args.self.now c.args.spare.0 c.args.spare.1)) (sym (no_key c.args.self.now c.args.spare.0 c.in-Err.place gap))
