-- The rows so far.
use Rattle.std.proofs.Common.{◌≡◌, take}
use Rattle.changed_sets.specs.Turning.{count_cuts}
use Rattle.changed_sets.proofs.preparing.count_cuts.Given as goal

abbrev pub invariant-loop-cut : goal.invariant-loop-cut
invariant-loop-cut l = l.count ≡ count_cuts (take l.cut-index l.cuts)
