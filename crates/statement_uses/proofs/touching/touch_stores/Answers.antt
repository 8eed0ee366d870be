use Rattle.std.proofs.Common.{◌≡◌, ◌<◌, Some, [], ap, arith, length, option_copied, slice_get, subst, sym, unwrap_or, ◌∙◌}
use Rattle.statement_uses.specs.Touching.{HaveRows, newest_by, roomless, touched_by}
use Rattle.statement_uses.specs.Uses.{keys_at}
use Rattle.statement_uses.proofs.TouchLaws.{all_newest, all_touched, bare_long, get_is, got_item, one_done, set_long, set_other}
use Rattle.statement_uses.proofs.touching.touch_stores.Goals as goal

pub loop-place-preserved : goal.loop-place-preserved
loop-place-preserved c =
    let n = c.loop-place.place in
    let long = c.loop-place.invariant.long in
    let lt : n < length c.loop-place.stores.items = omega (arith, c.loop-place-test.true, long) in
    let here : slice_get c.loop-place.stores.items n ≡ Some c.index_mut.result.now = got_item c.loop-place.stores.items n c.index_mut.result.now lt c.index_mut.ensures.value in
    let old = sym (c.loop-place.invariant.later n (omega arith)) ∙ here in
    let given : unwrap_or (option_copied c.get.result) [] ≡ keys_at c.args.uses.now n = c.get.ensures.lookup.4 (omega arith) [] ∙ get_is c.args.uses.now n in
    record {
      touched =
          one_done touched_by n c.args.uses.now c.args.stores.now.items c.loop-place.stores.items c.index_mut.result.now c.touch_some.new.store c.loop-place.invariant.touched old
          (c.touch_some.ensures.touched ∙ ap (λ roots. touched_by roots (roomless c.index_mut.result.now)) given);
      newest = λ have.
          one_done newest_by n c.args.uses.now c.args.stores.now.items c.loop-place.stores.items c.index_mut.result.now c.touch_some.new.store (c.loop-place.invariant.newest have) old
          (c.touch_some.ensures.newest (subst (λ roots. HaveRows roots c.index_mut.result.now) (sym given) (have n c.index_mut.result.now old))
          ∙ ap (λ roots. newest_by roots (roomless c.index_mut.result.now)) given);
      later = λ k le.
          set_other c.loop-place.stores.items n k c.touch_some.new.store le ∙ c.loop-place.invariant.later k (omega (arith, le));
      long = set_long c.loop-place.stores.items n c.touch_some.new.store ∙ long;
      same = c.loop-place.invariant.same;
    }

pub returns-clause-touched : goal.returns-clause-touched
returns-clause-touched c =
    let same = c.loop-place.invariant.same in
    let bare = bare_long c.args.stores.now.items in
    c.loop-place.invariant.touched
    ∙ all_touched c.loop-place.place c.args.uses.now _ (omega (arith, bare, same, c.loop-place-test.false))

pub returns-clause-newest : goal.returns-clause-newest
returns-clause-newest c = λ have.
    let same = c.loop-place.invariant.same in
    let bare = bare_long c.args.stores.now.items in
    c.loop-place.invariant.newest have
    ∙ all_newest c.loop-place.place c.args.uses.now _ (omega (arith, bare, same, c.loop-place-test.false))
