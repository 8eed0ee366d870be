-- The writes so far.
use Rattle.std.proofs.Common.{◌≡◌, map}
use Rattle.resolution.specs.Results.{then_make}
use Rattle.resolution.specs.Writes.{all_sound, change_seen, changes_seen}
use Rattle.resolution.proofs.write.all_sound.Given as goal

abbrev pub invariant-loop-change : goal.invariant-loop-change
invariant-loop-change l = then_make changes_seen l.sound ≡ all_sound (map (then_make change_seen) l.yielded)
