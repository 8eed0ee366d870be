-- The rows so far.
use Rattle.std.proofs.Common.{◌≡◌, take}
use Rattle.changed_sets.specs.Turning.{count_turns}
use Rattle.changed_sets.proofs.preparing.count_turns.Given as goal

abbrev pub invariant-loop-turn : goal.invariant-loop-turn
invariant-loop-turn l = l.count ≡ count_turns (take l.turn-index l.turns)
