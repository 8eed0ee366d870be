-- The copies have the entries so far.
use Rattle.std.proofs.Common.{◌≡◌, List, take}
use Rattle.std.specs.FinMap.{entries, find, get}
use Rattle.row_types.specs.declared.value.Value.{Value}
use Rattle.row_types.specs.Order.{key_order}
use Rattle.indexed_rows.proofs.copy.copied_rows.Given as goal

abbrev pub invariant-loop-place : goal.invariant-loop-place
invariant-loop-place l = (key : List Value) → get l.copies key ≡ find key_order key (take l.place (entries l.rows))
