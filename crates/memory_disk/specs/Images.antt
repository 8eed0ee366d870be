-- What a crash may leave of a disk in memory. (This project's model of disk and crash.)

use Rattle.std.specs.Prelude.{◌≡◌, ◌⊎◌, ℕ, List, [], ◌∷◌, length, take}
use Rattle.outside.specs.declared.disk.Slot.{Slot}
use Rattle.outside.specs.declared.disk.Slot.TheVariants.{First, Second}
use Rattle.outside.specs.Calls.{Cut as IsCut, Torn, patched}
use Rattle.memory_disk.specs.declared.call.DiskCall.{DiskCall}
use Rattle.memory_disk.specs.declared.call.DiskCall.TheVariants.{Write, Cut, Sync}

-- what a read gives of a slot, and what a crash may leave of it
pub record Image : Type 1 where
  pub seen : List ℕ
  pub can : List ℕ → Type 0

-- a slot that is certain
abbrev pub certain_image : List ℕ → Image
certain_image bytes = record { seen = bytes; can = λ x. x ≡ bytes }

-- a write leaves what it says, or any bytes in its range
abbrev pub written : ℕ → List ℕ → Image → Image
written at bytes i = record {
  seen = patched at bytes i.seen;
  can = λ x. (x ≡ patched at bytes i.seen) ⊎ ((y : List ℕ) × i.can y × Torn at (length bytes) y x);
}

-- a cut leaves what it says, or some length between
abbrev pub shortened : ℕ → Image → Image
shortened n i = record {
  seen = take n i.seen;
  can = λ x. (x ≡ take n i.seen) ⊎ ((y : List ℕ) × i.can y × IsCut n y x);
}

-- a call on one slot keeps the other
abbrev pub after_call : Slot → DiskCall → Image → Image
after_call First (Write First at bytes) i = written at bytes i
after_call First (Cut First n) i = shortened n i
after_call First (Sync First) i = certain_image i.seen
after_call Second (Write Second at bytes) i = written at bytes i
after_call Second (Cut Second n) i = shortened n i
after_call Second (Sync Second) i = certain_image i.seen
after_call First (Write Second at bytes) i = i
after_call First (Cut Second n) i = i
after_call First (Sync Second) i = i
after_call Second (Write First at bytes) i = i
after_call Second (Cut First n) i = i
after_call Second (Sync First) i = i

-- after several calls, the first of them first
abbrev pub after_calls : Slot → List DiskCall → Image → Image
after_calls slot [] i = i
after_calls slot (call ∷ calls) i = after_calls slot calls (after_call slot call i)
