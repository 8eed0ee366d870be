use Rattle.std.proofs.Common.{◌≡◌, remove, take}
use Rattle.group_catalog.specs.Catalogs.{groups_in}
use Rattle.stored_tier.specs.Stored.{named_where_cached}
use Rattle.group_engine.proofs.dropping.names_without.Given as goal

abbrev pub invariant-loop-number : goal.invariant-loop-number
invariant-loop-number l = l.visible.items ≡ named_where_cached (remove (groups_in l.catalog) l.place) (take l.number l.schema)
