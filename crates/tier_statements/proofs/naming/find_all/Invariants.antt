-- The names so far stand for cached tables.
use Rattle.std.proofs.Common.{take}
use Rattle.std.specs.List.{All}
use Rattle.tier_statements.specs.Sights.{StandsForOne, cached_alone}
use Rattle.tier_statements.proofs.naming.find_all.Given as goal

abbrev pub invariant-loop-from : goal.invariant-loop-from
invariant-loop-from g l = All (λ f. StandsForOne (cached_alone (g.C.Catalog.groups l.catalog) l.schema) l.schema f.table) (take l.from-index l.tables)
