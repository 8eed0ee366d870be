-- What a site in memory holds, and what a crash leaves of it. (This project's model of disk and crash.)

use Rattle.std.specs.Prelude.{◌≡◌, ℕ, List, [], Option, Some, length, take}
use Rattle.table_state.specs.declared.history.Entry.{Entry}
use Rattle.outside.specs.Calls.{Certain, GoesOn}
use Rattle.outside.specs.Holding.{Held}
use Rattle.outside.specs.Sites.{SiteState}
use Rattle.memory_disk.specs.declared.memory_disk.MemoryDisk.{MemoryDisk}
use Rattle.memory_disk.specs.declared.pick.Pick.{Pick}
use Rattle.memory_disk.specs.Picking.{left_at as disk_left}
use Rattle.memory_disk.specs.Possible.{held_of as disk_held, moment_of as disk_moment, possible_of as disk_possible, site_state as disk_state}
use Rattle.backing_gate.specs.Marks.{mark_at}
use Rattle.backing_gate.specs.Plans.{Planned, no_plans}
use Rattle.backing_gate.specs.Visits.{Visiting, no_visits}
use Rattle.backing_gate.specs.declared.mark.Mark.{Mark}

-- the disk, the history, how far both were at each moment before the present one, the planned outcomes of calls, the
-- planned transactions of others, and the faults so far
pub record MemoryState : Type 0 where
  pub disk : MemoryDisk
  pub history : List Entry
  pub past : List Mark
  pub planned : Planned
  pub visits : Visiting
  pub bank_faults : ℕ
  pub disk_faults : ℕ

abbrev pub held_of : MemoryState → Held
held_of s = record { slots = (disk_held s.disk).slots; history = s.history }

-- it tells all that it holds
abbrev pub told_of : MemoryState → Option Held
told_of s = Some (held_of s)

-- how many calls have changed something
abbrev pub moment_of : MemoryState → ℕ
moment_of s = length s.past

-- What is known of it. The tables that others change are those that the planned transactions of others name.
abbrev pub site_state : MemoryState → SiteState
site_state s = record {
  held = told_of s;
  disk_faults = s.disk_faults;
  bank_faults = s.bank_faults;
  moment = moment_of s;
  shared = s.visits.shared;
}

-- how far it is
abbrev pub now_of : MemoryState → Mark
now_of s = record { calls = disk_moment s.disk; entries = length s.history }

-- how far it was at a moment
abbrev pub then_of : MemoryState → ℕ → Mark
then_of s moment = mark_at s.past (now_of s) moment

-- the slots with nothing beside them, as a disk alone has them
abbrev pub alone : Held → Held
alone p = record { slots = p.slots; history = [] }

-- A crash at a moment leaves of the slots what it may leave of the disk after its calls up to then, and the history as
-- long as it was then.
pub record IsPossible (s : MemoryState) (moment : ℕ) (p : Held) : Type 0 where
  pub slots : disk_possible s.disk (then_of s moment).calls (alone p)
  pub history : p.history ≡ take (then_of s moment).entries s.history

abbrev pub possible_of : MemoryState → ℕ → Held → Type 0
possible_of s moment p = IsPossible s moment p

-- what this pick leaves at a moment
abbrev pub left_at : MemoryState → ℕ → Pick → Held
left_at s moment pick = record {
  slots = (disk_left s.disk (then_of s moment).calls pick).slots;
  history = take (then_of s moment).entries s.history;
}

-- a crash now leaves what is told, and nothing else: of a disk, and of a site
abbrev pub IsCertainDisk : MemoryDisk → Type 0
IsCertainDisk disk = Certain disk_state disk_possible disk (disk_held disk)

abbrev pub IsCertain : MemoryState → Type 0
IsCertain s = Certain site_state possible_of s (held_of s)

-- several calls of the disk, or one
abbrev pub DiskGoesOn : MemoryDisk → MemoryDisk → (Held → Held → Type 0) → Type 0
DiskGoesOn old new step = GoesOn disk_state disk_possible old new step

-- what a crash now may leave of a disk
abbrev pub now_possible : MemoryDisk → Held → Type 0
now_possible disk p = disk_possible disk (disk_moment disk) p

-- a site of this disk and a bank with this history, at its first moment: nothing is planned, and nothing failed
abbrev pub site_of : MemoryDisk → List Entry → MemoryState
site_of disk history = record {
  disk = disk;
  history = history;
  past = [];
  planned = no_plans;
  visits = no_visits;
  bank_faults = 0;
  disk_faults = 0;
}
