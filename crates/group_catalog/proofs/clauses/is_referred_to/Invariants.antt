-- No table so far refers to one of these from outside.
use Rattle.std.proofs.Common.{◌≡◌, drop}
use Rattle.cache_tier.specs.Definitions.{is_referred_to}
use Rattle.group_catalog.specs.Placed.{tables_seen}
use Rattle.group_catalog.proofs.clauses.is_referred_to.Given as goal

abbrev pub invariant-loop-place : goal.invariant-loop-place
invariant-loop-place l = is_referred_to (tables_seen l.tables) 0 l.schema ≡ is_referred_to (tables_seen l.tables) l.place (drop l.place l.schema)
