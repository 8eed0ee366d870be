-- How the store's answers are told, and failed calls counted. (This project's rule: each fault has a failed call of its
-- own.)

use Rattle.std.specs.Prelude.{ℕ, ◌≤◌, Result, Ok, Err}
use Rattle.std.specs.Result.{IsErrOf}
use Rattle.outside.specs.Faults.{Rose}
use Rattle.outside.specs.declared.fault.BankError.{BankError}
use Rattle.outside.specs.declared.fault.BankError.TheVariants.{Failed, Memory}
use Rattle.backing_sqlite.specs.declared.fault.StoreFault.{StoreFault}
use Rattle.backing_sqlite.specs.declared.fault.StoreFault.TheVariants as fault

-- the answer of the store, as the bank tells it
abbrev pub answer_of : {T : Type 0} → Result T StoreFault → Result T BankError
answer_of (Ok told) = Ok told
answer_of (Err fault.Failed) = Err Failed
answer_of (Err fault.Memory) = Err Memory

-- the count never falls, and a failed call raised it, up to 2^64 - 1
pub record Counts {T : Type 0} (before now : ℕ) (result : Result T BankError) : Type 0 where
  pub later : before ≤ now
  pub failed : IsErrOf result Failed → Rose before now
