-- Of the rows so far the keys of those that match.
use Rattle.std.proofs.Common.{◌≡◌, filter, map, take}
use Rattle.std.specs.FinMap.{values}
use Rattle.indexed_rows.specs.Rows.{key_of}
use Rattle.instances.specs.Views.{kept_at}
use Rattle.stored_tier.specs.Choosing.{matches_at}
use Rattle.group_engine.proofs.unload_named.leaving_all.Given as goal

abbrev pub invariant-loop-place : goal.invariant-loop-place
invariant-loop-place l = l.keys.items ≡ map (key_of l.columns) (filter (λ row. matches_at l.which (key_of l.columns row) row) (take l.place (values (kept_at l.store.tables 0))))
