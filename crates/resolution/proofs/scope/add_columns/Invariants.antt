-- The columns so far stand behind those that were there.
use Rattle.std.proofs.Common.{◌≡◌, ◌++◌, take}
use Rattle.resolution.specs.Scopes.{columns_seen, shown}
use Rattle.resolution.proofs.scope.add_columns.Given as goal

abbrev pub invariant-loop-column : goal.invariant-loop-column
invariant-loop-column l = shown l.scope.items ≡ shown l.fn.scope.items ++ columns_seen l.table (take l.column-index l.columns)
