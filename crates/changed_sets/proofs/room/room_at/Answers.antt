use Rattle.std.proofs.Common.{◌≡◌, ◌+◌, ◌∙◌, None, Some, ap, rules, sym}
use Rattle.changed_sets.specs.Turning.{count_cuts, count_turns}
use Rattle.changed_sets.proofs.ListSteps.{found}
use Rattle.changed_sets.proofs.RoomSteps.{Room, room_made, room_same}
use Rattle.changed_sets.proofs.ShowSteps.{at_set}
use Rattle.changed_sets.proofs.room.room_at.Goals as goal

pub returns-in_err-count-in-Some-patch-clause-same : goal.returns-in_err-count-in-Some-patch-clause-same
returns-in_err-count-in-Some-patch-clause-same c = room_same c.args.place c.args.stores.now.items

pub returns-in-None-clause-same : goal.returns-in-None-clause-same
returns-in-None-clause-same c = room_same c.args.place c.args.stores.now.items

pub returns-in-None-clause-room : goal.returns-in-None-clause-room
returns-in-None-clause-room c = λ p s is at. (let wrong : None ≡ Some (Some p) = c.in-None.ensures ∙ is in cc)

pub returns-in-None-patch-clause-same : goal.returns-in-None-patch-clause-same
returns-in-None-patch-clause-same c = room_same c.args.place c.args.stores.now.items

pub returns-in-None-patch-clause-room : goal.returns-in-None-patch-clause-room
returns-in-None-patch-clause-room c = λ p s is at. (
    let none : c.in-Some.patch.now ≡ None = first_of (search rules, cc) in
    let wrong : Some None ≡ Some (Some p) = ap Some (sym none) ∙ c.in-Some.ensures ∙ is in
    cc)

pub returns-in_ok-count-in-Some-patch-clause-same : goal.returns-in_ok-count-in-Some-patch-clause-same
returns-in_ok-count-in-Some-patch-clause-same c =
    at_set Room c.args.place None c.args.stores.now.items c.index_mut.result.now c.reserve.new.self
    (found c.args.stores.now.items c.args.place c.index_mut.result.now c.requires c.index_mut.ensures.value) c.reserve.ensures.same

pub returns-in_ok-count-in-Some-patch-clause-room : goal.returns-in_ok-count-in-Some-patch-clause-room
returns-in_ok-count-in-Some-patch-clause-room c =
    let some : c.in-Some.patch.now ≡ Some c.in-Some-patch.patch = first_of (search rules, cc) in
    room_made c.args.place c.args.patches.now c.args.stores.now.items c.reserve.new.self c.in-Some-patch.patch c.in_ok-count-in-Some-patch.count c.reserve.result c.requires
    (sym c.in-Some.ensures ∙ ap Some some)
    (c.in_ok-count-in-Some-patch.ensures ∙ (λ i. count_cuts (c.as_slice.ensures i) + count_turns (c.as_slice-in-Some-patch.ensures i))) c.reserve.ensures.ok
