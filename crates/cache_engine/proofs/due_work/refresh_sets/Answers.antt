use Rattle.std.proofs.Common.{arith, get_or}
use Rattle.std.proofs.Common.{None}
use Rattle.cache_engine.specs.DueItems.{over}
use Rattle.cache_engine.proofs.DueItemLaws.{set_done, set_ended, sets_begun, sets_done}
use Rattle.cache_engine.proofs.DueSteps.{at_number, entries_begun, entries_behind, entry_here}
use Rattle.cache_engine.proofs.due_work.refresh_sets.Goals as goal

pub loop-interval-init : goal.loop-interval-init
loop-interval-init g c =
    let room = c.requires.room in
    record {
      does = λ k. sets_begun g.P.Disk.state g.P.Disk.possible c.args.intervals.now c.args.tier.now (over k c.args.site.now) c.args.notes.now.items;
      sound = c.requires.sound;
      entries = entries_begun c.args.tier.now.clock.sets.items c.args.intervals.now c.requires.entries;
      room = omega (arith, room);
    }

pub refresh_due-requires-clause-entry : goal.refresh_due-requires-clause-entry
refresh_due-requires-clause-entry g c =
    let test = c.loop-interval-test.true in
    entry_here c.loop-interval.tier.clock.sets.items c.args.intervals.now c.loop-interval.interval-index (get_or c.args.intervals.now c.loop-interval.interval-index 0)
    (at_number c.args.intervals.now c.loop-interval.interval-index (omega (arith, test))) c.loop-interval.invariant.entries

pub loop-interval-preserved : goal.loop-interval-preserved
loop-interval-preserved g c =
    let test = c.loop-interval-test.true in
    let room = c.loop-interval.invariant.room in
    let few = c.in-None.ensures.few in
    let capacity = c.in-None.ensures.capacity in
    let at = at_number c.args.intervals.now c.loop-interval.interval-index (omega (arith, test)) in
    record {
      does = λ k. set_done g.P.Disk.state g.P.Disk.possible c.args.intervals.now c.loop-interval.interval-index
          (get_or c.args.intervals.now c.loop-interval.interval-index 0) c.args.tier.now c.loop-interval.tier
          c.refresh_due.new.tier (over k c.args.site.now) (over k c.loop-interval.site) (over k c.refresh_due.new.site)
          c.args.notes.now.items c.loop-interval.notes.items c.refresh_due.new.notes.items at
          (c.loop-interval.invariant.does k) (c.in-None.ensures.does k);
      sound = c.in-None.ensures.sound;
      entries = entries_behind c.loop-interval.tier.clock.sets.items c.refresh_due.new.tier.clock.sets.items c.args.intervals.now
          c.loop-interval.interval-index (get_or c.args.intervals.now c.loop-interval.interval-index 0) at (c.in-None.ensures.does None).entries c.loop-interval.invariant.entries;
      room = omega (arith, room, few, capacity);
    }

pub returns-in-Some-clause-does : goal.returns-in-Some-clause-does
returns-in-Some-clause-does g c = λ k.
    let test = c.loop-interval-test.true in
    let at = at_number c.args.intervals.now c.loop-interval.interval-index (omega (arith, test)) in
    set_ended g.P.Disk.state g.P.Disk.possible c.args.intervals.now c.loop-interval.interval-index
    (get_or c.args.intervals.now c.loop-interval.interval-index 0) c.args.tier.now c.loop-interval.tier
    c.refresh_due.new.tier (over k c.args.site.now) (over k c.loop-interval.site) (over k c.refresh_due.new.site)
    c.args.notes.now.items c.loop-interval.notes.items c.refresh_due.new.notes.items c.in-Some.stop at
    (c.loop-interval.invariant.does k) (c.in-Some.ensures.does k)

pub returns-clause-does : goal.returns-clause-does
returns-clause-does g c = λ k.
    let past = c.loop-interval-test.false in
    sets_done g.P.Disk.state g.P.Disk.possible c.args.intervals.now c.loop-interval.interval-index c.args.tier.now c.loop-interval.tier
    (over k c.args.site.now) (over k c.loop-interval.site) c.args.notes.now.items c.loop-interval.notes.items
    (omega (arith, past)) (c.loop-interval.invariant.does k)
