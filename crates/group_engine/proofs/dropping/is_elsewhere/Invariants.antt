use Rattle.std.proofs.Common.{◌≡◌, ◌≢◌, ◌<◌, ℕ, false, slice_get, unwrap_or}
use Rattle.std.specs.Option.{option_map}
use Rattle.group_catalog.specs.Catalogs.{groups_in}
use Rattle.cache_tier.specs.Groups.{covers}
use Rattle.group_engine.proofs.dropping.is_elsewhere.Given as goal

abbrev pub invariant-loop-number : goal.invariant-loop-number
invariant-loop-number l =
    (k : ℕ) → k < l.number → k ≢ l.place → unwrap_or (option_map (covers l.table) (slice_get (groups_in l.catalog) k)) false ≡ false
