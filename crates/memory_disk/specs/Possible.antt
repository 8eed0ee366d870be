-- What a disk in memory tells, and what a crash leaves of it. (This project's model of disk and crash.)

use Rattle.std.specs.Prelude.{◌≡◌, ℕ, List, [], ◌∷◌, ◌++◌, Option, Some, length, take}
use Rattle.outside.specs.declared.disk.Slot.TheVariants.{First, Second}
use Rattle.outside.specs.Holding.{Held}
use Rattle.outside.specs.Sites.{SiteState}
use Rattle.memory_disk.specs.declared.call.DiskCall.{DiskCall}
use Rattle.memory_disk.specs.declared.failure.Failure.{Failure}
use Rattle.memory_disk.specs.declared.memory_disk.MemoryDisk.{MemoryDisk}
use Rattle.memory_disk.specs.Images.{Image, after_calls, certain_image}

abbrev pub held_of : MemoryDisk → Held
held_of d = record { slots = record { first = d.first.items; second = d.second.items }; history = [] }

abbrev pub told_of : MemoryDisk → Option Held
told_of d = Some (held_of d)

-- how many calls have changed something
abbrev pub moment_of : MemoryDisk → ℕ
moment_of d = length d.calls.items

-- what is known of it: it has no bank, and others change nothing that it keeps
abbrev pub site_state : MemoryDisk → SiteState
site_state d = record {
  held = told_of d;
  disk_faults = d.faults;
  bank_faults = 0;
  moment = moment_of d;
  shared = [];
}

abbrev pub first_after : MemoryDisk → List DiskCall → Image
first_after d calls = after_calls First calls (certain_image d.base_first.items)

abbrev pub second_after : MemoryDisk → List DiskCall → Image
second_after d calls = after_calls Second calls (certain_image d.base_second.items)

-- each slot is one of its images; beside the slots nothing is kept
pub record IsPossible (first second : Image) (p : Held) : Type 0 where
  pub first_can : first.can p.slots.first
  pub second_can : second.can p.slots.second
  pub history : p.history ≡ []

-- after so many of the calls
abbrev pub possible_of : MemoryDisk → ℕ → Held → Type 0
possible_of d k p =
    IsPossible (first_after d (take k d.calls.items)) (second_after d (take k d.calls.items)) p

-- the call was done, and nothing else
pub record IsDone (call : DiskCall) (old new : MemoryDisk) : Type 0 where
  pub calls : new.calls.items ≡ old.calls.items ++ call ∷ []
  pub base_first : new.base_first.items ≡ old.base_first.items
  pub base_second : new.base_second.items ≡ old.base_second.items
  pub faults : new.faults ≡ old.faults

-- nothing was done
pub record IsIdle (old new : MemoryDisk) : Type 0 where
  pub calls : new.calls.items ≡ old.calls.items
  pub base_first : new.base_first.items ≡ old.base_first.items
  pub base_second : new.base_second.items ≡ old.base_second.items

-- nothing was done, and no fault came
pub record IsUntouched (old new : MemoryDisk) : Type 0 where
  pub idle : IsIdle old new
  pub faults : new.faults ≡ old.faults

-- two slots that were never used
abbrev pub unused : Held
unused = record { slots = record { first = 0 ∷ []; second = 0 ∷ [] }; history = [] }

-- which calls of it are planned to fail
abbrev pub plans_of : MemoryDisk → List Failure
plans_of d = d.failing.items

-- no call of it is
abbrev pub IsUnplanned : MemoryDisk → Type 0
IsUnplanned d = plans_of d ≡ []
