-- Groups before the place hold their instances again, and the tier is as sound and as quiet as before.
use Rattle.group_engine.specs.Fresh.{IsCalled}
use Rattle.propagators.specs.Certainty.{KeepsCertain}
use Rattle.stored_tier.specs.Performing.{Performs}
use Rattle.stored_tier.specs.Stored.{IsSound}
use Rattle.reopening.specs.Reloading.{IsHeldTo, IsQuiet, all_well}
use Rattle.reopening.proofs.reloading.hold_again.Given as goal

abbrev pub invariant-loop-place : goal.invariant-loop-place
invariant-loop-place g l = record {
  sound : IsSound l.tier;
  quiet : IsQuiet l.fn.tier l.tier;
  holds : Performs l.fn.tier l.tier (g.P.Disk.state l.fn.site) (g.P.Disk.state l.site) (λ w mid. IsHeldTo l.place w mid);
  called : IsCalled (g.P.Disk.state l.fn.site) (g.P.Disk.state l.site) all_well;
  certain : KeepsCertain g.P.Disk.state g.P.Disk.possible l.fn.site l.site;
}
