-- Of the rows so far the keys of those that match.
use Rattle.std.proofs.Common.{◌≡◌, filter, map, take}
use Rattle.std.specs.FinMap.{values}
use Rattle.indexed_rows.specs.Rows.{key_of}
use Rattle.stored_tier.specs.Choosing.{matches_at}
use Rattle.group_engine.proofs.unload_hidden.all_hidden.Given as goal

abbrev pub invariant-loop-place : goal.invariant-loop-place
invariant-loop-place l = l.keys.items ≡ map (key_of l.columns) (filter (λ row. matches_at l.which (key_of l.columns row) row) (take l.place (values l.hidden.table)))
