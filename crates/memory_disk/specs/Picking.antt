-- The image of a slot that a pick leaves. (This project's rule.)

use Rattle.std.specs.Prelude.{ℕ, zero, suc, ◌+◌, ◌*◌, ◌^◌, ◌/◌, ◌%◌, List, [], ◌∷◌, length, take, replicate, nat_le, if◌then◌else◌}
use Rattle.outside.specs.declared.disk.Slot.{Slot}
use Rattle.outside.specs.declared.disk.Slot.TheVariants.{First, Second}
use Rattle.outside.specs.Calls.{patched}
use Rattle.outside.specs.Holding.{Held}
use Rattle.memory_disk.specs.declared.call.DiskCall.{DiskCall}
use Rattle.memory_disk.specs.declared.call.DiskCall.TheVariants.{Write, Cut, Sync}
use Rattle.memory_disk.specs.declared.memory_disk.MemoryDisk.{MemoryDisk}
use Rattle.memory_disk.specs.declared.pick.Pick.{Pick}
use Rattle.memory_disk.specs.declared.pick.Pick.TheVariants.{Old, New, Ones, Drawn}

-- ---- the generator

abbrev pub next_draw : ℕ → ℕ
next_draw x = (x * 6364136223846793005 + 1442695040888963407) % 2 ^ 64

-- so many bytes of it
abbrev pub drawn : ℕ → ℕ → List ℕ
drawn x zero = []
drawn x (suc n) = ((next_draw x / 2 ^ 33) % 256) ∷ drawn (next_draw x) n

-- ---- images

-- what a crash leaves of a slot, and what a read gives
pub record Chosen : Type 0 where
  pub left : List ℕ
  pub seen : List ℕ

-- these bytes at this place, where the slot reaches it
abbrev pub patched_within : ℕ → List ℕ → List ℕ → List ℕ
patched_within at bytes old = if nat_le at (length old) then patched at bytes old else old

-- what a write leaves
abbrev pub written_left : Pick → ℕ → List ℕ → Chosen → List ℕ
written_left Old at bytes c = c.left
written_left New at bytes c = patched at bytes c.seen
written_left Ones at bytes c = patched_within at (replicate (length bytes) 255) c.left
written_left (Drawn x) at bytes c = patched_within at (drawn x (length bytes)) c.left

-- what a cut leaves
abbrev pub cut_left : Pick → ℕ → Chosen → List ℕ
cut_left Old n c = c.left
cut_left New n c = take n c.seen
cut_left Ones n c = take n c.left
cut_left (Drawn x) n c = take n c.left

abbrev pub write_chosen : Pick → ℕ → List ℕ → Chosen → Chosen
write_chosen pick at bytes c = record { left = written_left pick at bytes c; seen = patched at bytes c.seen }

abbrev pub cut_chosen : Pick → ℕ → Chosen → Chosen
cut_chosen pick n c = record { left = cut_left pick n c; seen = take n c.seen }

abbrev pub certain_chosen : List ℕ → Chosen
certain_chosen bytes = record { left = bytes; seen = bytes }

-- a call on one slot keeps the other
abbrev pub choose_call : Slot → Pick → DiskCall → Chosen → Chosen
choose_call First pick (Write First at bytes) c = write_chosen pick at bytes c
choose_call First pick (Cut First n) c = cut_chosen pick n c
choose_call First pick (Sync First) c = certain_chosen c.seen
choose_call Second pick (Write Second at bytes) c = write_chosen pick at bytes c
choose_call Second pick (Cut Second n) c = cut_chosen pick n c
choose_call Second pick (Sync Second) c = certain_chosen c.seen
choose_call First pick (Write Second at bytes) c = c
choose_call First pick (Cut Second n) c = c
choose_call First pick (Sync Second) c = c
choose_call Second pick (Write First at bytes) c = c
choose_call Second pick (Cut First n) c = c
choose_call Second pick (Sync First) c = c

-- after several calls, the first of them first
abbrev pub choose_calls : Slot → Pick → List DiskCall → Chosen → Chosen
choose_calls slot pick [] c = c
choose_calls slot pick (call ∷ calls) c = choose_calls slot pick calls (choose_call slot pick call c)

-- what this pick leaves after so many of the calls
abbrev pub left_at : MemoryDisk → ℕ → Pick → Held
left_at d k pick = record {
  slots = record {
    first = (choose_calls First pick (take k d.calls.items) (certain_chosen d.base_first.items)).left;
    second = (choose_calls Second pick (take k d.calls.items) (certain_chosen d.base_second.items)).left;
  };
  history = [];
}
