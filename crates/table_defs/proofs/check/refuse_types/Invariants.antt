-- There is the type of each column so far, so the columns that are left decide. They get fewer.
use Rattle.std.proofs.Common.{◌≡◌, length}
use Rattle.table_defs.specs.Declarations.{type_fault}
use Rattle.table_defs.proofs.check.refuse_types.Given as goal

abbrev pub invariant-loop-column : goal.invariant-loop-column
invariant-loop-column l = type_fault l.columns ≡ type_fault l.rest

abbrev pub decreases-loop-column : goal.decreases-loop-column
decreases-loop-column l = length l.rest
