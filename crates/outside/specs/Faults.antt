-- When a fault may be told. (This project's rule: each fault has a failed call of its own.)

use Rattle.std.specs.Prelude.{◌≡◌, ℕ, ◌+◌, ◌-◌, ◌^◌, ◌≤◌, ◌<◌, min, Result, Ok}
use Rattle.std.specs.Result.{OnErr, IsErrOf}
use Rattle.outside.specs.Sites.{SiteState}
use Rattle.outside.specs.declared.fault.BankError.{BankError}
use Rattle.outside.specs.declared.fault.BankError.TheVariants.{Failed}

-- a count of faults went up, or stands at its last value
abbrev pub Rose : ℕ → ℕ → Type 0
Rose before now = min (before + 1) (2 ^ 64 - 1) ≤ now

-- a fault is told only where the count rose, and the count never falls
pub record HasCause {T E : Type 0} (before now : ℕ) (result : Result T E) : Type 0 where
  pub later : before ≤ now
  pub failed : OnErr result (Rose before now)

-- the same, and taking nothing of something is a fault too
pub record PutHasCause {E : Type 0} (before now offered : ℕ) (result : Result ℕ E) : Type 0 where
  pub later : before ≤ now
  pub failed : OnErr result (Rose before now)
  pub none_taken : result ≡ Ok 0 → 0 < offered → Rose before now

-- A failed call of the disk has its cause. The count of the bank's faults, and the tables that others change, stay.
pub record DiskHasCause {T E : Type 0} (old new : SiteState) (result : Result T E) : Type 0 where
  pub later : old.disk_faults ≤ new.disk_faults
  pub failed : OnErr result (Rose old.disk_faults new.disk_faults)
  pub bank : new.bank_faults ≡ old.bank_faults
  pub shared : new.shared ≡ old.shared

-- A failed call of the backing database has its cause; want of memory needs none. The count of the disk's faults, and
-- the tables that others change, stay.
pub record BankHasCause {T : Type 0} (old new : SiteState) (result : Result T BankError) : Type 0 where
  pub later : old.bank_faults ≤ new.bank_faults
  pub failed : IsErrOf result Failed → Rose old.bank_faults new.bank_faults
  pub disk : new.disk_faults ≡ old.disk_faults
  pub shared : new.shared ≡ old.shared
