-- The copies so far are those of the values so far.
use Rattle.std.proofs.Common.{◌≡◌, take}
use Rattle.row_types.proofs.values.copied_values.Given as goal

abbrev pub invariant-loop-value : goal.invariant-loop-value
invariant-loop-value l = l.copies.items ≡ take l.value-index l.values
