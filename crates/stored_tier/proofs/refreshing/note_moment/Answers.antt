use Rattle.std.proofs.Common.{◌≡◌, ◌<◌, ◌∙◌, ap, arith, length, set, sym}
use Rattle.stored_tier.proofs.RefreshSteps.{moment_passed, not_noted, noted_here, same_got, set_at, set_long, set_same, there_now}
use Rattle.stored_tier.proofs.refreshing.note_moment.Goals as goal
use Rattle.stored_tier.proofs.refreshing.note_moment.Goals.{then-index-interval, else-index-interval}

pub loop-place-preserved : goal.loop-place-preserved
loop-place-preserved c =
    let i = c.loop-place.place in
    let old = c.args.sets.now.items in
    let sets = c.loop-place.sets.items in
    let s = c.index.result.now in
    let long = c.loop-place.invariant.long in
    let was = c.loop-place.invariant.was in
    let test = c.loop-place-test.true in
    let lt : c.loop-place.place < length c.args.sets.now.items = omega (arith, test, was) in
    let within : c.loop-place.place < length c.loop-place.sets.items = omega (arith, test, long) in
    let at = set_at sets old c.args.interval c.args.now i s (omega (arith, long, was)) c.loop-place.invariant.same c.index.ensures lt in
    elim c.if-index-interval.branch [
      | then-index-interval w ↦
          let items : c.if-index-interval.sets.items ≡ set sets i (record { interval = w.index_mut.result.now.interval; refreshed = c.args.now }) = ap (λ v. v.items) w.sets-is in
          record {
            same = moment_passed c.args.interval c.args.now sets old i s c.if-index-interval.sets.items at c.loop-place.invariant.same
                (items ∙ ap (λ x. set sets i (record { interval = x.interval; refreshed = c.args.now })) (same_got sets i w.index_mut.result.now s within w.index_mut.ensures.value c.index.ensures)
                ∙ ap (set sets i) (sym (noted_here c.args.interval c.args.now s w.if-index-interval.true)));
            long = ap length items ∙ set_long sets i (record { interval = w.index_mut.result.now.interval; refreshed = c.args.now }) ∙ long;
            was = was;
          }
      | else-index-interval w ↦
          let items : c.if-index-interval.sets.items ≡ sets = ap (λ v. v.items) w.sets-is in
          record {
            same = moment_passed c.args.interval c.args.now sets old i s c.if-index-interval.sets.items at c.loop-place.invariant.same
                (items ∙ sym (ap (set sets i) (not_noted c.args.interval c.args.now s w.if-index-interval.false) ∙ set_same sets i s (there_now sets i s within c.index.ensures)));
            long = ap length items ∙ long;
            was = was;
          }
    ]
