-- The tables so far, and those that are left.
use Rattle.std.proofs.Common.{◌≡◌, ◌++◌, drop}
use Rattle.resolution.specs.Results.{then_make}
use Rattle.resolution.specs.Scopes.{tables_of}
use Rattle.resolution.proofs.scope.tables_of.Given as goal

abbrev pub invariant-loop-from : goal.invariant-loop-from
invariant-loop-from l = tables_of l.schema l.tables ≡ then_make (λ ts. l.ids.items ++ ts) (tables_of l.schema (drop l.from-index l.tables))
