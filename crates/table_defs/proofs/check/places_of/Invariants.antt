-- The places so far are those of the names so far.
use Rattle.std.proofs.Common.{◌≡◌, take}
use Rattle.table_defs.specs.Declarations.{places_of}
use Rattle.table_defs.proofs.check.places_of.Given as goal

abbrev pub invariant-loop-name : goal.invariant-loop-name
invariant-loop-name l = l.places.items ≡ places_of l.columns (take l.name-index l.names)
