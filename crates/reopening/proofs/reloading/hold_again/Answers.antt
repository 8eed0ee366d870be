use Rattle.std.proofs.Common.{◌∙◌, Err, arith, refl}
use Rattle.std.specs.Prelude.{Result}
use Rattle.outside.specs.declared.fault.BankError.{BankError}
use Rattle.cache_tier.specs.Worlds.{bank_fault}
use Rattle.propagators.proofs.CertainLaws.{certain_then, same_certain}
use Rattle.reopening.specs.Reloading.{all_well}
use Rattle.reopening.proofs.CalledLaws.{called_then, uncalled}
use Rattle.reopening.proofs.HoldingLaws.{loop_begun, loop_ended, loop_next, loop_stopped}
use Rattle.reopening.proofs.reloading.hold_again.Goals as goal

pub loop-place-init : goal.loop-place-init
loop-place-init g c = record {
  sound = c.requires.sound;
  quiet = record { unsettled = c.requires.settled; groups = refl };
  holds = loop_begun c.args.tier.now (g.P.Disk.state c.args.site.now);
  called = uncalled (g.P.Disk.state c.args.site.now);
  certain = same_certain g.P.Disk.state g.P.Disk.possible c.args.site.now;
}

pub hold_if_wanted-requires-clause-sound : goal.hold_if_wanted-requires-clause-sound
hold_if_wanted-requires-clause-sound g c = c.loop-place.invariant.sound

pub hold_if_wanted-requires-clause-settled : goal.hold_if_wanted-requires-clause-settled
hold_if_wanted-requires-clause-settled g c = c.loop-place.invariant.quiet.unsettled

pub loop-place-preserved : goal.loop-place-preserved
loop-place-preserved g c =
    let within = c.loop-place-test.true in
    let long = c.len-place-end.ensures in
    record {
      sound = c.in-Ok.ensures.sound;
      quiet = record { unsettled = c.in-Ok.ensures.quiet.unsettled; groups = c.in-Ok.ensures.quiet.groups ∙ c.loop-place.invariant.quiet.groups };
      holds = loop_next c.args.tier.now c.loop-place.tier c.hold_if_wanted.new.tier _ _ _ c.loop-place.place (omega (arith, within, long)) c.loop-place.invariant.holds c.in-Ok.ensures.performs;
      called = called_then _ _ _ all_well all_well c.loop-place.invariant.called c.in-Ok.ensures.called;
      certain = certain_then g.P.Disk.state g.P.Disk.possible c.args.site.now c.loop-place.site c.hold_if_wanted.new.site c.loop-place.invariant.certain c.in-Ok.ensures.certain;
    }

pub returns-in-Err-clause-performs : goal.returns-in-Err-clause-performs
returns-in-Err-clause-performs g c =
    let within = c.loop-place-test.true in
    let long = c.len-place-end.ensures in
    loop_stopped c.args.tier.now c.loop-place.tier c.hold_if_wanted.new.tier _ _ _ c.loop-place.place (bank_fault c.in-Err.error) (omega (arith, within, long)) c.loop-place.invariant.holds c.in-Err.ensures.performs

pub returns-in-Err-clause-called : goal.returns-in-Err-clause-called
returns-in-Err-clause-called g c = called_then _ _ _ all_well (let r : Result (Unit {0}) BankError = Err c.in-Err.error in r) c.loop-place.invariant.called c.in-Err.ensures.called

pub returns-in-Err-clause-certain : goal.returns-in-Err-clause-certain
returns-in-Err-clause-certain g c = certain_then g.P.Disk.state g.P.Disk.possible c.args.site.now c.loop-place.site c.hold_if_wanted.new.site c.loop-place.invariant.certain c.in-Err.ensures.certain

pub returns-clause-performs : goal.returns-clause-performs
returns-clause-performs g c =
    let past = c.loop-place-test.false in
    let long = c.len-place-end.ensures in
    loop_ended c.args.tier.now c.loop-place.tier _ _ c.loop-place.place (omega (arith, past, long)) c.loop-place.invariant.holds
