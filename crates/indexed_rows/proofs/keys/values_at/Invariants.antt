-- The values so far are those at the places so far.
use Rattle.std.proofs.Common.{◌≡◌, take}
use Rattle.indexed_rows.specs.Rows.{key_of}
use Rattle.indexed_rows.proofs.keys.values_at.Given as goal

abbrev pub invariant-loop-place : goal.invariant-loop-place
invariant-loop-place l = l.values.items ≡ key_of (take l.place-index l.places) l.row
