-- What a crash may leave of a disk in memory, call by call.
use Rattle.std.proofs.Common.{◌≡◌, inl, inr, ℕ, ◌+◌, ◌≤◌, List, [], ◌∷◌, ◌++◌, length, take, refl, sym, ap, subst, ◌∙◌, arith}
use Rattle.std.proofs.lemmas.List.{length-append, take-append-le}
use Rattle.outside.specs.declared.disk.Slot.{Slot}
use Rattle.outside.specs.declared.disk.Slot.TheVariants.{First, Second}
use Rattle.outside.specs.Calls.{Changes, Cut as IsCut, GoesOn, MayCut, MayWrite, Stays, Torn, patched}
use Rattle.outside.specs.Holding.{Held, Slots, slot_of, with_bytes}
use Rattle.memory_disk.specs.declared.call.DiskCall.{DiskCall}
use Rattle.memory_disk.specs.declared.call.DiskCall.TheVariants.{Write, Cut, Sync}
use Rattle.memory_disk.specs.declared.memory_disk.MemoryDisk.{MemoryDisk}
use Rattle.memory_disk.specs.Images.{Image, after_call, after_calls, certain_image}
use Rattle.memory_disk.specs.Possible.{IsDone, IsIdle, IsPossible, IsUntouched, first_after, held_of, moment_of, possible_of, second_after, site_state, told_of}
use Rattle.memory_disk.specs.DiskLaws.{first_now, possible_after, second_now, seen_can, take_all}
use Rattle.memory_disk.proofs.SlotLaws.{torn_within, cut_within}

pub after_push : (slot : Slot) (calls : List DiskCall) (call : DiskCall) (i : Image) → after_calls slot (calls ++ call ∷ []) i ≡ after_call slot call (after_calls slot calls i)
after_push slot [] call i = refl
after_push slot (c ∷ calls) call i = after_push slot calls call (after_call slot c i)

-- nothing was done
module _ (a b : MemoryDisk) (idle : IsIdle a b) where
  calls_idle : (k : ℕ) → take k b.calls.items ≡ take k a.calls.items
  calls_idle k = ap (take k) idle.calls

  first_idle : (calls : List DiskCall) → first_after b calls ≡ first_after a calls
  first_idle calls = ap (λ (x : List ℕ). after_calls First calls (certain_image x)) idle.base_first

  second_idle : (calls : List DiskCall) → second_after b calls ≡ second_after a calls
  second_idle calls = ap (λ (x : List ℕ). after_calls Second calls (certain_image x)) idle.base_second

  possible_idle : (k : ℕ) (p : Held) → possible_of b k p → possible_of a k p
  possible_idle k p h = subst (λ (c : List DiskCall). possible_after a c p) (calls_idle k) (subst (λ (i : Image). IsPossible i (second_after a (take k b.calls.items)) p) (first_idle (take k b.calls.items)) (subst (λ (i : Image). IsPossible (first_after b (take k b.calls.items)) i p) (second_idle (take k b.calls.items)) h))

pub turned : (a b : MemoryDisk) → IsIdle a b → IsIdle b a
turned a b idle = record { calls = sym idle.calls; base_first = sym idle.base_first; base_second = sym idle.base_second }

pub idle_goes : (a b : MemoryDisk) (step : Held → Held → Type 0) → IsIdle a b → GoesOn site_state possible_of a b step
idle_goes a b step idle =
    let same : length b.calls.items ≡ length a.calls.items = ap length idle.calls in
    record {
      later = omega arith;
      past = λ k p le h. possible_idle a b idle k p h;
      kept = λ k p le h. possible_idle b a (turned a b idle) k p h;
      since = λ k p lt le h. absurd (omega arith);
    }

-- a fault behind a call that was done
pub then_idle : (a b c : MemoryDisk) (step : Held → Held → Type 0) → GoesOn site_state possible_of a b step → IsIdle b c → GoesOn site_state possible_of a c step
then_idle a b c step g idle =
    let same : length c.calls.items ≡ length b.calls.items = ap length idle.calls in
    let le : length a.calls.items ≤ length b.calls.items = g.later in
    record {
      later = omega arith;
      past = λ k p le h. g.past k p le (possible_idle b c idle k p h);
      kept = λ k p le h. possible_idle c b (turned b c idle) k p (g.kept k p le h);
      since = λ k p lt le h. g.since k p lt (omega arith) (possible_idle b c idle k p h);
    }

pub idle_told : (a b : MemoryDisk) → IsIdle a b → held_of b ≡ held_of a
idle_told a b idle =
    let first : b.first.items ≡ a.first.items = b.first_is ∙ ap (λ (i : Image). i.seen) (first_idle a b idle b.calls.items) ∙ ap (λ (c : List DiskCall). (first_after a c).seen) idle.calls ∙ sym a.first_is in
    let second : b.second.items ≡ a.second.items = b.second_is ∙ ap (λ (i : Image). i.seen) (second_idle a b idle b.calls.items) ∙ ap (λ (c : List DiskCall). (second_after a c).seen) idle.calls ∙ sym a.second_is in
    cc

rebased : (a b : MemoryDisk) (calls : List DiskCall) (p : Held) → b.base_first.items ≡ a.base_first.items → b.base_second.items ≡ a.base_second.items → possible_after b calls p → possible_after a calls p
rebased a b calls p f s h =
    subst (λ (x : List ℕ). IsPossible (after_calls First calls (certain_image x)) (second_after a calls) p) f (subst (λ (y : List ℕ). IsPossible (first_after b calls) (after_calls Second calls (certain_image y)) p) s h)

-- a call was done
module _ (a b : MemoryDisk) (call : DiskCall) (is : IsDone call a b) where
  front_same : (k : ℕ) → k ≤ length a.calls.items → take k b.calls.items ≡ take k a.calls.items
  front_same k le = ap (take k) is.calls ∙ take-append-le k a.calls.items (call ∷ []) le

  longer : length b.calls.items ≡ length a.calls.items + 1
  longer = ap length is.calls ∙ length-append a.calls.items (call ∷ [])

  -- a pair that is possible behind the call, by the images before it
  came : (p : Held) → possible_of b (length b.calls.items) p → IsPossible (after_call First call (first_now a)) (after_call Second call (second_now a)) p
  came p h =
      let all : possible_after b b.calls.items p = subst (λ (c : List DiskCall). possible_after b c p) (take_all b.calls.items) h in
      let pushed : possible_after b (a.calls.items ++ call ∷ []) p = subst (λ (c : List DiskCall). possible_after b c p) is.calls all in
      let based : possible_after a (a.calls.items ++ call ∷ []) p = rebased a b (a.calls.items ++ call ∷ []) p is.base_first is.base_second pushed in
      subst (λ (i : Image). IsPossible i (after_call Second call (second_now a)) p) (after_push First a.calls.items call (certain_image a.base_first.items))
      (subst (λ (i : Image). IsPossible (first_after a (a.calls.items ++ call ∷ [])) i p) (after_push Second a.calls.items call (certain_image a.base_second.items)) based)

  pub done_goes : (step : Held → Held → Type 0) → ((p : Held) → IsPossible (after_call First call (first_now a)) (after_call Second call (second_now a)) p → (q : Held) × possible_after a a.calls.items q × step q p) → GoesOn site_state possible_of a b step
  done_goes step own = record {
    later = omega (arith, longer);
    past = λ k p le h. rebased a b (take k a.calls.items) p is.base_first is.base_second (subst (λ (c : List DiskCall). possible_after b c p) (front_same k le) h);
    kept = λ k p le h. subst (λ (c : List DiskCall). possible_after b c p) (sym (front_same k le)) (rebased b a (take k a.calls.items) p (sym is.base_first) (sym is.base_second) h);
    since = λ k p lt le h.
        let last : k ≡ length b.calls.items = omega (arith, longer) in
        let s = own p (came p (subst (λ (n : ℕ). possible_of b n p) last h)) in
        (s.0, subst (λ (c : List DiskCall). possible_after a c s.0) (sym (take_all a.calls.items)) s.1, s.2);
  }

  pub first_done : b.first.items ≡ (after_call First call (first_now a)).seen
  first_done = b.first_is ∙ ap (λ (c : List DiskCall). (first_after b c).seen) is.calls ∙ ap (λ (x : List ℕ). (after_calls First (a.calls.items ++ call ∷ []) (certain_image x)).seen) is.base_first
      ∙ ap (λ (i : Image). i.seen) (after_push First a.calls.items call (certain_image a.base_first.items))

  pub second_done : b.second.items ≡ (after_call Second call (second_now a)).seen
  second_done = b.second_is ∙ ap (λ (c : List DiskCall). (second_after b c).seen) is.calls ∙ ap (λ (x : List ℕ). (after_calls Second (a.calls.items ++ call ∷ []) (certain_image x)).seen) is.base_second
      ∙ ap (λ (i : Image). i.seen) (after_push Second a.calls.items call (certain_image a.base_second.items))

first_has : (a : MemoryDisk) → (first_now a).can (first_now a).seen
first_has a = seen_can First a.calls.items (certain_image a.base_first.items) refl

second_has : (a : MemoryDisk) → (second_now a).can (second_now a).seen
second_has a = seen_can Second a.calls.items (certain_image a.base_second.items) refl

abbrev seen_of : Image → Image → Slots
seen_of i j = record { first = i.seen; second = j.seen }

write_step : (slot : Slot) (at : ℕ) (bytes : List ℕ) (i j : Image) (p : Held) → i.can i.seen → j.can j.seen → at ≤ length (slot_of slot (seen_of i j))
    → IsPossible (after_call First (Write slot at bytes) i) (after_call Second (Write slot at bytes) j) p → (q : Held) × IsPossible i j q × Changes slot (Torn at (length bytes)) q p
write_step First at bytes i j p hi hj le h = elim h.first_can [
  | inl e ↦ (
    with_bytes First i.seen p,
    record { first_can = hi; second_can = h.second_can; history = h.history },
    record { there = subst (λ (x : List ℕ). Torn at (length bytes) i.seen x) (sym e) (torn_within at bytes i.seen le); elsewhere = refl; beside = refl },
  )
  | inr t ↦ (with_bytes First t.0 p, record { first_can = t.1; second_can = h.second_can; history = h.history }, record { there = t.2; elsewhere = refl; beside = refl })
]
write_step Second at bytes i j p hi hj le h = elim h.second_can [
  | inl e ↦ (
    with_bytes Second j.seen p,
    record { first_can = h.first_can; second_can = hj; history = h.history },
    record { there = subst (λ (x : List ℕ). Torn at (length bytes) j.seen x) (sym e) (torn_within at bytes j.seen le); elsewhere = refl; beside = refl },
  )
  | inr t ↦ (with_bytes Second t.0 p, record { first_can = h.first_can; second_can = t.1; history = h.history }, record { there = t.2; elsewhere = refl; beside = refl })
]

cut_step : (slot : Slot) (n : ℕ) (i j : Image) (p : Held) → i.can i.seen → j.can j.seen → n ≤ length (slot_of slot (seen_of i j))
    → IsPossible (after_call First (Cut slot n) i) (after_call Second (Cut slot n) j) p → (q : Held) × IsPossible i j q × Changes slot (IsCut n) q p
cut_step First n i j p hi hj le h = elim h.first_can [
  | inl e ↦ (
    with_bytes First i.seen p,
    record { first_can = hi; second_can = h.second_can; history = h.history },
    record { there = subst (λ (x : List ℕ). IsCut n i.seen x) (sym e) (cut_within n i.seen le); elsewhere = refl; beside = refl },
  )
  | inr t ↦ (with_bytes First t.0 p, record { first_can = t.1; second_can = h.second_can; history = h.history }, record { there = t.2; elsewhere = refl; beside = refl })
]
cut_step Second n i j p hi hj le h = elim h.second_can [
  | inl e ↦ (
    with_bytes Second j.seen p,
    record { first_can = h.first_can; second_can = hj; history = h.history },
    record { there = subst (λ (x : List ℕ). IsCut n j.seen x) (sym e) (cut_within n j.seen le); elsewhere = refl; beside = refl },
  )
  | inr t ↦ (with_bytes Second t.0 p, record { first_can = h.first_can; second_can = t.1; history = h.history }, record { there = t.2; elsewhere = refl; beside = refl })
]

sync_step : (slot : Slot) (i j : Image) (p : Held) → i.can i.seen → j.can j.seen → IsPossible (after_call First (Sync slot) i) (after_call Second (Sync slot) j) p → IsPossible i j p
sync_step First i j p hi hj h = record { first_can = subst (λ (x : List ℕ). i.can x) (sym h.first_can) hi; second_can = h.second_can; history = h.history }
sync_step Second i j p hi hj h = record { first_can = h.first_can; second_can = subst (λ (x : List ℕ). j.can x) (sym h.second_can) hj; history = h.history }

-- what a read gives of a slot is what its image says
in_image : (a : MemoryDisk) (slot : Slot) (n : ℕ) → n ≤ length (slot_of slot (held_of a).slots) → n ≤ length (slot_of slot (seen_of (first_now a) (second_now a)))
in_image a First n le = subst (λ (l : List ℕ). n ≤ length l) a.first_is le
in_image a Second n le = subst (λ (l : List ℕ). n ≤ length l) a.second_is le

pub write_goes : (a b : MemoryDisk) (slot : Slot) (at : ℕ) (bytes : List ℕ) → at ≤ length (slot_of slot (held_of a).slots) → IsDone (Write slot at bytes) a b → GoesOn site_state possible_of a b (MayWrite (told_of a) slot at bytes)
write_goes a b slot at bytes le is = done_goes a b (Write slot at bytes) is (MayWrite (told_of a) slot at bytes)
    (λ p h. let s = write_step slot at bytes (first_now a) (second_now a) p (first_has a) (second_has a) (in_image a slot at le) h in (s.0, s.1, λ _. s.2))

pub cut_goes : (a b : MemoryDisk) (slot : Slot) (n : ℕ) → n ≤ length (slot_of slot (held_of a).slots) → IsDone (Cut slot n) a b → GoesOn site_state possible_of a b (MayCut (told_of a) slot n)
cut_goes a b slot n le is = done_goes a b (Cut slot n) is (MayCut (told_of a) slot n)
    (λ p h. let s = cut_step slot n (first_now a) (second_now a) p (first_has a) (second_has a) (in_image a slot n le) h in (s.0, s.1, λ _. s.2))

pub sync_goes : (a b : MemoryDisk) (slot : Slot) → IsDone (Sync slot) a b → GoesOn site_state possible_of a b Stays
sync_goes a b slot is = done_goes a b (Sync slot) is Stays (λ p h. (p, sync_step slot (first_now a) (second_now a) p (first_has a) (second_has a) h, refl))

held_from : (d : MemoryDisk) (first second : List ℕ) → d.first.items ≡ first → d.second.items ≡ second → held_of d ≡ record { slots = record { first = first; second = second }; history = [] }
held_from d first second f s = cc

pub write_told : (a b : MemoryDisk) (slot : Slot) (at : ℕ) (bytes : List ℕ) → IsDone (Write slot at bytes) a b → held_of b ≡ with_bytes slot (patched at bytes (slot_of slot (held_of a).slots)) (held_of a)
write_told a b First at bytes is = held_from b (patched at bytes a.first.items) a.second.items (first_done a b (Write First at bytes) is ∙ ap (patched at bytes) (sym a.first_is)) (second_done a b (Write First at bytes) is ∙ sym a.second_is)
write_told a b Second at bytes is = held_from b a.first.items (patched at bytes a.second.items) (first_done a b (Write Second at bytes) is ∙ sym a.first_is) (second_done a b (Write Second at bytes) is ∙ ap (patched at bytes) (sym a.second_is))

pub cut_told : (a b : MemoryDisk) (slot : Slot) (n : ℕ) → IsDone (Cut slot n) a b → held_of b ≡ with_bytes slot (take n (slot_of slot (held_of a).slots)) (held_of a)
cut_told a b First n is = held_from b (take n a.first.items) a.second.items (first_done a b (Cut First n) is ∙ ap (take n) (sym a.first_is)) (second_done a b (Cut First n) is ∙ sym a.second_is)
cut_told a b Second n is = held_from b a.first.items (take n a.second.items) (first_done a b (Cut Second n) is ∙ sym a.first_is) (second_done a b (Cut Second n) is ∙ ap (take n) (sym a.second_is))

pub sync_told : (a b : MemoryDisk) (slot : Slot) → IsDone (Sync slot) a b → held_of b ≡ held_of a
sync_told a b First is = held_from b a.first.items a.second.items (first_done a b (Sync First) is ∙ sym a.first_is) (second_done a b (Sync First) is ∙ sym a.second_is)
sync_told a b Second is = held_from b a.first.items a.second.items (first_done a b (Sync Second) is ∙ sym a.first_is) (second_done a b (Sync Second) is ∙ sym a.second_is)

pub sync_durable : (a b : MemoryDisk) (slot : Slot) (p : Held) → IsDone (Sync slot) a b → possible_of b (moment_of b) p → slot_of slot p.slots ≡ slot_of slot (held_of a).slots
sync_durable a b First p is h = (came a b (Sync First) is p h).first_can ∙ sym a.first_is
sync_durable a b Second p is h = (came a b (Sync Second) is p h).second_can ∙ sym a.second_is

-- a slot is tied to the calls with one more
pub tie_push : (slot : Slot) (calls more : List DiskCall) (call : DiskCall) (base before behind : List ℕ) → before ≡ (after_calls slot calls (certain_image base)).seen → more ≡ calls ++ call ∷ []
    → ((i : Image) → i.seen ≡ before → behind ≡ (after_call slot call i).seen) → behind ≡ (after_calls slot more (certain_image base)).seen
tie_push slot calls more call base before behind tie is by =
    let i = after_calls slot calls (certain_image base) in
    by i (sym tie) ∙ ap (λ (i : Image). i.seen) (sym (after_push slot calls call (certain_image base))) ∙ ap (λ (c : List DiskCall). (after_calls slot c (certain_image base)).seen) (sym is)

pub untouched_then : (a b c : MemoryDisk) → IsIdle a b → IsIdle b c → IsIdle a c
untouched_then a b c f g = record { calls = g.calls ∙ f.calls; base_first = g.base_first ∙ f.base_first; base_second = g.base_second ∙ f.base_second }

-- a call that was done behind nothing
pub done_behind : (a b c : MemoryDisk) (call : DiskCall) → IsUntouched a b → IsDone call b c → IsDone call a c
done_behind a b c call f g = record {
  calls = g.calls ∙ ap (λ (l : List DiskCall). l ++ call ∷ []) f.idle.calls;
  base_first = g.base_first ∙ f.idle.base_first;
  base_second = g.base_second ∙ f.idle.base_second;
  faults = g.faults ∙ f.faults;
}
