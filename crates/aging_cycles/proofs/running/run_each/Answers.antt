use Rattle.std.proofs.Common.{arith}
use Rattle.aging_cycles.proofs.Steps.{all_run, groups_there, hidden_there, hides_there, none_run, sessions_there, steps, stores_there}
use Rattle.aging_cycles.proofs.running.run_each.Goals as goal

pub loop-place-init : goal.loop-place-init
loop-place-init c = none_run c.args.tier.now

pub run_at-requires : goal.run_at-requires
run_at-requires c =
    let below = c.loop-place-test.true in
    let end = c.len-place-end.ensures in
    record {
      sessions = sessions_there c.loop-place.place c.args.tier.now c.loop-place.tier c.requires (omega (arith, below, end)) c.loop-place.invariant;
      groups = groups_there c.loop-place.place c.args.tier.now c.loop-place.tier c.requires (omega (arith, below, end)) c.loop-place.invariant;
      stores = stores_there c.loop-place.place c.args.tier.now c.loop-place.tier c.requires (omega (arith, below, end)) c.loop-place.invariant;
      hidden = hidden_there c.loop-place.place c.args.tier.now c.loop-place.tier c.requires (omega (arith, below, end)) c.loop-place.invariant;
      hides = hides_there c.loop-place.place c.args.tier.now c.loop-place.tier c.requires (omega (arith, below, end)) c.loop-place.invariant;
    }

pub loop-place-preserved : goal.loop-place-preserved
loop-place-preserved c = steps c.loop-place.place c.args.tier.now c.loop-place.tier c.run_at.new.tier c.loop-place.invariant c.run_at.ensures

pub returns : goal.returns
returns c =
    let past = c.loop-place-test.false in
    let end = c.len-place-end.ensures in
    all_run c.loop-place.place c.args.tier.now c.loop-place.tier (omega (arith, past, end)) c.loop-place.invariant
