-- The rows so far, at the same columns.
use Rattle.std.proofs.Common.{◌≡◌, take}
use Rattle.std.specs.FinMap.{empty, values}
use Rattle.group_engine.specs.Gaining.{rows_put}
use Rattle.group_engine.proofs.gaining.copied_rows.Given as goal

abbrev pub invariant-loop-place : goal.invariant-loop-place
invariant-loop-place l = record {
  table : l.copy.table ≡ rows_put l.rows.places (take l.place (values l.rows.table)) empty;
  places : l.copy.places ≡ l.rows.places;
}
