-- When a call of the journal may tell a fault of the disk. (This project's rule: each fault has a failed call of its
-- own.)

use Rattle.std.specs.Prelude.{◌≡◌, ◌≤◌, Result}
use Rattle.std.specs.Result.{IsErrOf}
use Rattle.outside.specs.Faults.{Rose}
use Rattle.outside.specs.Sites.{SiteState}
use Rattle.commit_journal.specs.declared.fault.OpenError.{OpenError}
use Rattle.commit_journal.specs.declared.fault.OpenError.TheVariants as open_error
use Rattle.commit_journal.specs.declared.fault.RotateError.{RotateError}
use Rattle.commit_journal.specs.declared.fault.RotateError.TheVariants as rotate_error
use Rattle.commit_journal.specs.declared.fault.ReserveError.{ReserveError}
use Rattle.commit_journal.specs.declared.fault.ReserveError.TheVariants as reserve_error

-- A failed disk call has its cause; want of memory needs none. The count of the bank's faults, and the tables that
-- others change, stay.
pub record OpenHasCause {T : Type 0} (old new : SiteState) (result : Result T OpenError) : Type 0 where
  pub later : old.disk_faults ≤ new.disk_faults
  pub failed : IsErrOf result open_error.Disk → Rose old.disk_faults new.disk_faults
  pub bank : new.bank_faults ≡ old.bank_faults
  pub shared : new.shared ≡ old.shared

-- the same; the limit has a clause of its own
pub record RotateHasCause {T : Type 0} (old new : SiteState) (result : Result T RotateError) : Type 0 where
  pub later : old.disk_faults ≤ new.disk_faults
  pub failed : IsErrOf result rotate_error.Disk → Rose old.disk_faults new.disk_faults
  pub bank : new.bank_faults ≡ old.bank_faults
  pub shared : new.shared ≡ old.shared

-- where there is no room for a batch
abbrev pub without_room : ReserveError → RotateError
without_room reserve_error.Limit = rotate_error.Limit
without_room reserve_error.Memory = rotate_error.Memory
