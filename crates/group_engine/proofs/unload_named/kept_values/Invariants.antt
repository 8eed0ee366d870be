-- Each key that is the one that is given has the values so far at the places so far.
use Rattle.std.proofs.Common.{◌≡◌, List, take, true}
use Rattle.row_types.specs.declared.value.Value.{Value}
use Rattle.indexed_rows.specs.Rows.{key_of}
use Rattle.evaluator.specs.KeyPaths.{IsOfTypes}
use Rattle.group_catalog.specs.Identified.{are_equal}
use Rattle.group_engine.proofs.unload_named.kept_values.Given as goal

abbrev pub invariant-loop-at : goal.invariant-loop-at
invariant-loop-at l = (row : List Value) → IsOfTypes l.columns row → are_equal (key_of l.places row) l.values ≡ true → key_of (take l.at l.places) row ≡ l.kept.items
