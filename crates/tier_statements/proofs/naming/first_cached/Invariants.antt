-- No table so far is cached and has the name.
use Rattle.std.proofs.Common.{true}
use Rattle.cache_tier.specs.Groups.{is_table_of}
use Rattle.tier_statements.proofs.NameLaws.{Left}
use Rattle.tier_statements.proofs.naming.first_cached.Given as goal

abbrev pub invariant-loop-place : goal.invariant-loop-place
invariant-loop-place g l = Left (is_table_of (λ x. true) (g.C.Catalog.groups l.catalog)) l.name l.schema l.place
