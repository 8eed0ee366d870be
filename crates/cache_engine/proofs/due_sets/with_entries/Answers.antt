use Rattle.std.proofs.Common.{◌∙◌, arith}
use Rattle.cache_engine.proofs.DueSteps.{at_number, entry_made}
use Rattle.cache_engine.proofs.due_sets.with_entries.Goals as goal

pub loop-interval-preserved : goal.loop-interval-preserved
loop-interval-preserved c =
    let test = c.loop-interval-test.true in
    record {
      same = λ i. c.in_ok-make_moment.ensures.same i ∙ c.loop-interval.invariant.same i;
      entries = entry_made c.loop-interval.all.items c.make_moment.new.sets.items c.args.intervals.now
          c.loop-interval.interval-index _ (at_number c.args.intervals.now c.loop-interval.interval-index (omega (arith, test)))
          c.in_ok-make_moment.ensures.kept c.in_ok-make_moment.ensures.ok c.loop-interval.invariant.entries;
    }
