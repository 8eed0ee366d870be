use Rattle.std.proofs.Common.{arith, subst, sym}
use Rattle.stored_tier.specs.Refreshing.{choice_of, is_filled}
use Rattle.stored_tier.proofs.RefreshSteps.{MakesUpTo, makes_all, makes_more, makes_none}
use Rattle.stored_tier.proofs.refreshing.make_stores.Goals as goal

pub loop-place-init : goal.loop-place-init
loop-place-init c =
    subst (MakesUpTo (is_filled (choice_of c.args.chosen) c.args.loads) c.args.tier.now c.args.tables.now 0) (sym c.new-made.ensures.items)
    (makes_none (is_filled (choice_of c.args.chosen) c.args.loads) c.args.tier.now c.args.tables.now)

pub loop-place-preserved : goal.loop-place-preserved
loop-place-preserved c =
    makes_more (is_filled (choice_of c.args.chosen) c.args.loads) c.args.tier.now c.args.tables.now c.loop-place.place c.loop-place.made.items c.push.new.self.items c.in_ok-one.one c.loop-place.invariant c.in_ok-push.ensures.items c.in_ok-one.ensures

pub returns : goal.returns
returns c =
    let past = c.loop-place-test.false in
    let long = c.len-place-end.ensures in
    let range = c.loop-place.auto in
    makes_all (is_filled (choice_of c.args.chosen) c.args.loads) c.args.tier.now c.args.tables.now c.loop-place.place c.loop-place.made.items (omega (arith, past, long)) c.loop-place.invariant
