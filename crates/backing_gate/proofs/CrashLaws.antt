-- What a crash leaves of a site.
use Rattle.std.proofs.Common.{◌≡◌, ℕ, ◌≤◌, ◌<◌, ◌+◌, List, length, get_or, drop, refl, sym, ap, ◌∙◌}
use Rattle.std.proofs.lemmas.List.{drop_more}
use Rattle.table_state.specs.declared.history.Entry.{Entry}
use Rattle.outside.specs.Calls.{Certain}
use Rattle.outside.specs.Holding.{Held, Slots}
use Rattle.memory_disk.specs.declared.memory_disk.MemoryDisk.{MemoryDisk}
use Rattle.memory_disk.specs.declared.pick.Pick.{Pick}
use Rattle.memory_disk.specs.DiskLaws.{take_all}
use Rattle.memory_disk.specs.Possible.{held_of as disk_held, moment_of as disk_moment, possible_of as disk_possible, site_state as disk_state}
use Rattle.memory_disk.proofs.PickLaws.{left_possible as disk_left_possible}
use Rattle.backing_gate.specs.Marks.{least, lesser}
use Rattle.backing_gate.specs.Memory.{MemoryState, alone, held_of, left_at, now_of, possible_of, site_of, site_state, then_of}
use Rattle.backing_gate.specs.declared.mark.Mark.{Mark}
use Rattle.backing_gate.proofs.MomentLaws.{least_calls, least_entries}

-- what is picked is possible
pub left_possible : (s : MemoryState) (k : ℕ) (pick : Pick) → possible_of s k (left_at s k pick)
left_possible s k pick = record { slots = disk_left_possible s.disk (then_of s k).calls pick; history = refl }

abbrev held_from : Slots → List Entry → Held
held_from slots history = record { slots = slots; history = history }

-- a site of a disk that is certain is certain
pub fresh_certain : (disk : MemoryDisk) (history : List Entry) → Certain disk_state disk_possible disk (disk_held disk) → Certain site_state possible_of (site_of disk history) (held_of (site_of disk history))
fresh_certain disk history certain = record {
  told = refl;
  only = λ p can.
      let slots : p.slots ≡ (disk_held disk).slots = ap (λ (x : Held). x.slots) (certain.only (alone p) can.slots) in
      let here : p.history ≡ history = can.history ∙ take_all history in
      ap (λ (x : Slots). held_from x p.history) slots ∙ ap (λ (x : List Entry). held_from (disk_held disk).slots x) here;
}

pub then_calls : (s : MemoryState) (k : ℕ) → (then_of s k).calls ≤ disk_moment s.disk
then_calls s k = least_calls (drop k s.past) (now_of s)

pub then_entries : (s : MemoryState) (k : ℕ) → (then_of s k).entries ≤ length s.history
then_entries s k = least_entries (drop k s.past) (now_of s)

-- one mark more, from the last to the first
pub least_more : (marks : List Mark) (place : ℕ) (mark so_far now : Mark) → place < length marks → mark ≡ get_or marks place mark → so_far ≡ least (drop (place + 1) marks) now → lesser mark so_far ≡ least (drop place marks) now
least_more marks place mark so_far now lt here is =
    ap (lesser mark) is ∙ ap (λ (m : Mark). lesser m (least (drop (place + 1) marks) now)) here
    ∙ sym (ap (λ (l : List Mark). least l now) (drop_more marks place mark lt))
