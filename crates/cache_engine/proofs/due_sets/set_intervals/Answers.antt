use Rattle.std.proofs.Common.{◌≡◌, ◌+◌, ◌-◌, ◌∙◌, ◌&&◌, ap, arith, drop, sym}
use Rattle.cache_tier.specs.DueWork.{intervals, with_number}
use Rattle.cache_tier.specs.Groups.{is_on}
use Rattle.group_catalog.specs.Catalogs.{groups_in}
use Rattle.group_catalog.specs.Kept.{group_seen}
use Rattle.cache_engine.proofs.DueSteps.{interval_passed, interval_put}
use Rattle.cache_engine.proofs.due_sets.set_intervals.Goals as goal
use Rattle.cache_engine.proofs.due_sets.set_intervals.Goals.{else-is_read_only-via-then-is_read_only+else-is_on, else-is_read_only-via-else-is_read_only}

pub loop-place-preserved-then-is_on : goal.loop-place-preserved-then-is_on
loop-place-preserved-then-is_on c =
    let groups = groups_in c.args.catalog.now in
    let g = group_seen c.in-Some.group.now in
    let test = c.loop-place-test.true in
    let within = c.loop-place.invariant.within in
    let next : (c.loop-place.place - 1) + 1 ≡ c.loop-place.place = omega (arith, test) in
    record {
      within = omega (arith, within);
      found = c.in_ok-put_number.ensures
          ∙ ap (with_number g.def.interval) (c.loop-place.invariant.found ∙ ap (λ n. intervals (drop n groups)) (sym next))
          ∙ interval_put groups (c.loop-place.place - 1) g (sym c.in-Some.ensures)
          (λ i. sym c.if-is_read_only.ensures i && sym c.if-is_on.ensures i);
    }

pub loop-place-preserved : goal.loop-place-preserved
loop-place-preserved c =
    let groups = groups_in c.args.catalog.now in
    let g = group_seen c.in-Some.group.now in
    let test = c.loop-place-test.true in
    let within = c.loop-place.invariant.within in
    let next : (c.loop-place.place - 1) + 1 ≡ c.loop-place.place = omega (arith, test) in
    let found = c.loop-place.invariant.found ∙ ap (λ n. intervals (drop n groups)) (sym next) in
    elim c.else-is_read_only.branch [
      | else-is_read_only-via-then-is_read_only+else-is_on w ↦ record {
        within = omega (arith, within);
        found = found ∙ interval_passed groups (c.loop-place.place - 1) g (sym c.in-Some.ensures)
            (λ i. sym w.if-is_read_only.ensures i && sym w.if-is_on.ensures i);
      }
      | else-is_read_only-via-else-is_read_only w ↦ record {
        within = omega (arith, within);
        found = found ∙ interval_passed groups (c.loop-place.place - 1) g (sym c.in-Some.ensures)
            (ap (λ b. b && is_on g.state) (sym w.if-is_read_only.ensures));
      }
    ]
