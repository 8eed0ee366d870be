-- The number is that of the digits so far.
use Rattle.std.proofs.Common.{◌≡◌, ◌≤◌, take}
use Rattle.table_defs.specs.Declarations.{number_of}
use Rattle.table_defs.proofs.types.number_up_to.Given as goal

abbrev pub invariant-loop-digit : goal.invariant-loop-digit
invariant-loop-digit l = record { number : l.number ≡ number_of (take l.digit-index l.digits); small : l.number ≤ 4000 }
