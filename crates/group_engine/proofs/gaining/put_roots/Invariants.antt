-- The rows so far, at the same columns.
use Rattle.std.proofs.Common.{◌≡◌, take}
use Rattle.std.specs.FinMap.{values}
use Rattle.group_engine.specs.Gaining.{rows_put}
use Rattle.group_engine.proofs.gaining.put_roots.Given as goal

abbrev pub invariant-loop-place : goal.invariant-loop-place
invariant-loop-place l = record {
  table : l.out.table ≡ rows_put l.initial.out.places (take l.place (values l.rows)) l.initial.out.table;
  places : l.out.places ≡ l.initial.out.places;
}
