use Rattle.std.proofs.Common.{◌≡◌, take}
use Rattle.group_catalog.specs.Catalogs.{groups_in}
use Rattle.stored_tier.specs.Stored.{named_where_cached}
use Rattle.stored_tier.proofs.naming.name_cached.Given as goal

abbrev pub invariant-loop-number : goal.invariant-loop-number
invariant-loop-number l = l.visible.items ≡ named_where_cached (groups_in l.catalog) (take l.number l.schema)
