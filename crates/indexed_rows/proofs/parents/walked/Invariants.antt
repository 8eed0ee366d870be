-- No row before this place has the key.
use Rattle.std.proofs.Common.{◌≡◌, drop}
use Rattle.std.specs.FinMap.{values}
use Rattle.indexed_rows.specs.Rows.{first_from, has_key}
use Rattle.indexed_rows.proofs.parents.walked.Given as goal

abbrev pub invariant-loop-place : goal.invariant-loop-place
invariant-loop-place l = first_from (has_key l.fn.columns l.fn.key) l.fn.from (drop l.fn.from (values l.fn.rows)) ≡ first_from (has_key l.fn.columns l.fn.key) l.place (drop l.place (values l.fn.rows))
