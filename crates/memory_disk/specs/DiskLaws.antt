-- Laws of a disk in memory.

use Rattle.std.specs.Prelude.{◌≡◌, ℕ, List, [], ◌∷◌, Some, length, take, refl, unwrap_or}
use Rattle.std.proofs.Common.{inl, sym, ap, subst, ◌∙◌}
use Rattle.outside.specs.declared.disk.Slot.{Slot}
use Rattle.outside.specs.declared.disk.Slot.TheVariants.{First, Second}
use Rattle.outside.specs.Holding.{Held}
use Rattle.memory_disk.specs.declared.call.DiskCall.{DiskCall}
use Rattle.memory_disk.specs.declared.call.DiskCall.TheVariants.{Write, Cut, Sync}
use Rattle.memory_disk.specs.declared.memory_disk.MemoryDisk.{MemoryDisk}
use Rattle.memory_disk.specs.Images.{Image, after_call, after_calls, certain_image}
use Rattle.memory_disk.specs.Possible.{IsPossible, first_after, held_of, moment_of, possible_of, second_after}

-- what a read gives is one of the images
seen_step : (slot : Slot) (call : DiskCall) (i : Image) → i.can i.seen
    → (after_call slot call i).can (after_call slot call i).seen
seen_step First (Write First at bytes) i h = inl refl
seen_step First (Cut First n) i h = inl refl
seen_step First (Sync First) i h = refl
seen_step Second (Write Second at bytes) i h = inl refl
seen_step Second (Cut Second n) i h = inl refl
seen_step Second (Sync Second) i h = refl
seen_step First (Write Second at bytes) i h = h
seen_step First (Cut Second n) i h = h
seen_step First (Sync Second) i h = h
seen_step Second (Write First at bytes) i h = h
seen_step Second (Cut First n) i h = h
seen_step Second (Sync First) i h = h

pub seen_can : (slot : Slot) (calls : List DiskCall) (i : Image) → i.can i.seen
    → (after_calls slot calls i).can (after_calls slot calls i).seen
seen_can slot [] i h = h
seen_can slot (call ∷ calls) i h = seen_can slot calls (after_call slot call i) (seen_step slot call i h)

pub take_all : {X : Type 0} (xs : List X) → take (length xs) xs ≡ xs
take_all [] = refl
take_all (x ∷ xs) = ap (λ l. x ∷ l) (take_all xs)

-- the images now
abbrev pub first_now : MemoryDisk → Image
first_now d = first_after d d.calls.items

abbrev pub second_now : MemoryDisk → Image
second_now d = second_after d d.calls.items

abbrev pub possible_after : MemoryDisk → List DiskCall → Held → Type 0
possible_after d calls p = IsPossible (first_after d calls) (second_after d calls) p

same_held : (a b : Held) → Some a ≡ Some b → a ≡ b
same_held a b e = ap (λ o. unwrap_or o a) e

pub certain_law : (d : MemoryDisk) (o p : Held) → Some (held_of d) ≡ Some o → possible_of d (moment_of d) p
    → p.history ≡ o.history
certain_law d o p e h = h.history ∙ ap (λ (x : Held). x.history) (same_held (held_of d) o e)

pub possible_law : (d : MemoryDisk) (o : Held) → Some (held_of d) ≡ Some o → possible_of d (moment_of d) o
possible_law d o e =
    let first = seen_can First d.calls.items (certain_image d.base_first.items) refl in
    let second = seen_can Second d.calls.items (certain_image d.base_second.items) refl in
    let now : possible_after d d.calls.items (held_of d) = record {
      first_can = subst (λ (l : List ℕ). (first_now d).can l) (sym d.first_is) first;
      second_can = subst (λ (l : List ℕ). (second_now d).can l) (sym d.second_is) second;
      history = refl;
    } in
    subst (λ (x : Held). possible_of d (moment_of d) x) (same_held (held_of d) o e)
    (subst (λ (l : List DiskCall). possible_after d l (held_of d)) (sym (take_all d.calls.items)) now)
