-- What a pick leaves is possible.
use Rattle.std.proofs.Common.{◌≡◌, inl, inr, ℕ, zero, suc, ◌+◌, ◌-◌, ◌/◌, ◌%◌, ◌≤◌, ◌<◌, List, [], ◌∷◌, ◌++◌, length, get_or, take, drop, min, replicate, Bool, true, false, cond, refl, sym, ap, subst, ◌∙◌, append_assoc, arith}
use Rattle.std.specs.Prelude.{nat_le}
use Rattle.std.proofs.lemmas.Bool.{leb-true}
use Rattle.std.proofs.lemmas.List.{append-nil, length-take, length-replicate, drop_more, take_min}
use Rattle.outside.specs.declared.disk.Slot.{Slot}
use Rattle.outside.specs.declared.disk.Slot.TheVariants.{First, Second}
use Rattle.outside.specs.Calls.{Certain, Cut as IsCut, Torn, patched}
use Rattle.outside.specs.Holding.{Held}
use Rattle.outside.proofs.Moments.{same_held, slots_from}
use Rattle.memory_disk.specs.declared.call.DiskCall.{DiskCall}
use Rattle.memory_disk.specs.declared.call.DiskCall.TheVariants.{Write, Cut, Sync}
use Rattle.memory_disk.specs.declared.pick.Pick.{Pick}
use Rattle.memory_disk.specs.declared.pick.Pick.TheVariants.{Old, New, Ones, Drawn}
use Rattle.memory_disk.specs.declared.memory_disk.MemoryDisk.{MemoryDisk}
use Rattle.memory_disk.specs.DiskLaws.{take_all}
use Rattle.memory_disk.specs.Images.{Image, after_call, after_calls, certain_image, written, shortened}
use Rattle.memory_disk.specs.Picking.{Chosen, certain_chosen, choose_call, choose_calls, cut_chosen, drawn, left_at, next_draw, write_chosen}
use Rattle.memory_disk.specs.Possible.{held_of, possible_of, site_state}
use Rattle.memory_disk.proofs.SlotLaws.{torn_within}

pub drawn_length : (x n : ℕ) → length (drawn x n) ≡ n
drawn_length x zero = refl
drawn_length x (suc n) = ap suc (drawn_length (next_draw x) n)

torn_same : (at n : ℕ) (old : List ℕ) → Torn at n old old
torn_same at n old = record { before = refl; after = refl; no_shorter = omega arith; no_longer = omega arith }

cut_same : (n : ℕ) (old : List ℕ) → IsCut n old old
cut_same n old = record { no_shorter = omega arith; front = take_all old }

cut_any : (n : ℕ) (old : List ℕ) → IsCut n old (take n old)
cut_any n old =
    let size : length (take n old) ≡ min n (length old) = length-take n old in
    let all : take (length (take n old)) old ≡ take n old = ap (λ (k : ℕ). take k old) size ∙ take_min n old in
    record { no_shorter = omega arith; front = all }

patched_within_torn : (at n : ℕ) (bytes old : List ℕ) (b : Bool) → nat_le at (length old) ≡ b → length bytes ≡ n → Torn at n old (cond b (patched at bytes old) old)
patched_within_torn at n bytes old true e size = let le : at ≤ length old = leb-true at (length old) e in subst (λ (k : ℕ). Torn at k old (patched at bytes old)) size (torn_within at bytes old le)
patched_within_torn at n bytes old false e size = torn_same at n old

write_can : (pick : Pick) (at : ℕ) (bytes : List ℕ) (i : Image) (c : Chosen) → c.seen ≡ i.seen → i.can c.left → (written at bytes i).can (write_chosen pick at bytes c).left
write_can Old at bytes i c same can = inr (c.left, can, torn_same at (length bytes) c.left)
write_can New at bytes i c same can = inl (ap (patched at bytes) same)
write_can Ones at bytes i c same can = inr (c.left, can, patched_within_torn at (length bytes) (replicate (length bytes) 255) c.left (nat_le at (length c.left)) refl (length-replicate (length bytes) 255))
write_can (Drawn x) at bytes i c same can = inr (c.left, can, patched_within_torn at (length bytes) (drawn x (length bytes)) c.left (nat_le at (length c.left)) refl (drawn_length x (length bytes)))

cut_can : (pick : Pick) (n : ℕ) (i : Image) (c : Chosen) → c.seen ≡ i.seen → i.can c.left → (shortened n i).can (cut_chosen pick n c).left
cut_can Old n i c same can = inr (c.left, can, cut_same n c.left)
cut_can New n i c same can = inl (ap (take n) same)
cut_can Ones n i c same can = inr (c.left, can, cut_any n c.left)
cut_can (Drawn x) n i c same can = inr (c.left, can, cut_any n c.left)

pub record Tied (i : Image) (c : Chosen) : Type 0 where
  pub seen : c.seen ≡ i.seen
  pub can : i.can c.left

call_tied : (slot : Slot) (pick : Pick) (call : DiskCall) (i : Image) (c : Chosen) → Tied i c → Tied (after_call slot call i) (choose_call slot pick call c)
call_tied First pick (Write First at bytes) i c t = record { seen = ap (patched at bytes) t.seen; can = write_can pick at bytes i c t.seen t.can }
call_tied First pick (Cut First n) i c t = record { seen = ap (take n) t.seen; can = cut_can pick n i c t.seen t.can }
call_tied First pick (Sync First) i c t = record { seen = t.seen; can = t.seen }
call_tied Second pick (Write Second at bytes) i c t = record { seen = ap (patched at bytes) t.seen; can = write_can pick at bytes i c t.seen t.can }
call_tied Second pick (Cut Second n) i c t = record { seen = ap (take n) t.seen; can = cut_can pick n i c t.seen t.can }
call_tied Second pick (Sync Second) i c t = record { seen = t.seen; can = t.seen }
call_tied First pick (Write Second at bytes) i c t = t
call_tied First pick (Cut Second n) i c t = t
call_tied First pick (Sync Second) i c t = t
call_tied Second pick (Write First at bytes) i c t = t
call_tied Second pick (Cut First n) i c t = t
call_tied Second pick (Sync First) i c t = t

calls_tied : (slot : Slot) (pick : Pick) (calls : List DiskCall) (i : Image) (c : Chosen) → Tied i c → Tied (after_calls slot calls i) (choose_calls slot pick calls c)
calls_tied slot pick [] i c t = t
calls_tied slot pick (call ∷ calls) i c t = calls_tied slot pick calls (after_call slot call i) (choose_call slot pick call c) (call_tied slot pick call i c t)

pub left_possible : (d : MemoryDisk) (k : ℕ) (pick : Pick) → possible_of d k (left_at d k pick)
left_possible d k pick = record {
  first_can = (calls_tied First pick (take k d.calls.items) (certain_image d.base_first.items) (certain_chosen d.base_first.items) (record { seen = refl; can = refl })).can;
  second_can = (calls_tied Second pick (take k d.calls.items) (certain_image d.base_second.items) (certain_chosen d.base_second.items) (record { seen = refl; can = refl })).can;
  history = refl;
}

-- one call more is followed
pub choose_step : (slot : Slot) (pick : Pick) (calls : List DiskCall) (i : ℕ) (call : DiskCall) (c begun next : Chosen) → i < length calls → call ≡ get_or calls i call → next ≡ choose_call slot pick call c
    → choose_calls slot pick (drop i calls) c ≡ choose_calls slot pick calls begun → choose_calls slot pick (drop (i + 1) calls) next ≡ choose_calls slot pick calls begun
choose_step slot pick calls i call c begun next lt here is so_far =
    ap (λ (x : Chosen). choose_calls slot pick (drop (i + 1) calls) x) (is ∙ ap (λ (x : DiskCall). choose_call slot pick x c) here)
    ∙ sym (ap (λ (l : List DiskCall). choose_calls slot pick l c) (drop_more calls i call lt)) ∙ so_far

held_from : (d : MemoryDisk) (p : Held) → d.first.items ≡ p.slots.first → d.second.items ≡ p.slots.second → [] ≡ p.history → held_of d ≡ p
held_from d p f s h = same_held (held_of d) p (ap (λ (x : List ℕ). slots_from x d.second.items) f ∙ ap (λ (x : List ℕ). slots_from p.slots.first x) s) h

-- a disk without a call is certain
pub fresh_certain : (d : MemoryDisk) → d.calls.items ≡ [] → Certain site_state possible_of d (held_of d)
fresh_certain d none = record {
  told = refl;
  only = λ p h.
      let here : take (length d.calls.items) d.calls.items ≡ [] = ap (λ (l : List DiskCall). take (length l) l) none in
      let first : p.slots.first ≡ d.base_first.items = subst (λ (l : List DiskCall). (after_calls First l (certain_image d.base_first.items)).can p.slots.first) here h.first_can in
      let second : p.slots.second ≡ d.base_second.items = subst (λ (l : List DiskCall). (after_calls Second l (certain_image d.base_second.items)).can p.slots.second) here h.second_can in
      let first_is : d.first.items ≡ d.base_first.items = d.first_is ∙ ap (λ (l : List DiskCall). (after_calls First l (certain_image d.base_first.items)).seen) none in
      let second_is : d.second.items ≡ d.base_second.items = d.second_is ∙ ap (λ (l : List DiskCall). (after_calls Second l (certain_image d.base_second.items)).seen) none in
      sym (held_from d p (first_is ∙ sym first) (second_is ∙ sym second) (sym h.history));
}

-- one byte more is drawn
pub draw_step : (x y count done byte : ℕ) (bytes more whole : List ℕ) → done < count → y ≡ next_draw x → byte ≡ (y / 8589934592) % 256 → more ≡ bytes ++ byte ∷ [] → bytes ++ drawn x (count - done) ≡ whole
    → more ++ drawn y (count - (done + 1)) ≡ whole
draw_step x y count done byte bytes more whole lt y-is byte-is more-is so_far =
    let left : count - done ≡ suc (count - (done + 1)) = omega arith in
    let draw : drawn x (count - done) ≡ byte ∷ drawn y (count - (done + 1)) =
    ap (λ (n : ℕ). drawn x n) left ∙ ap (λ (z : ℕ). ((z / 8589934592) % 256) ∷ drawn z (count - (done + 1))) (sym y-is) ∙ ap (λ (b : ℕ). b ∷ drawn y (count - (done + 1))) (sym byte-is) in
    ap (λ (l : List ℕ). l ++ drawn y (count - (done + 1))) more-is ∙ append_assoc bytes (byte ∷ []) (drawn y (count - (done + 1))) ∙ ap (λ (l : List ℕ). bytes ++ l) (sym draw) ∙ so_far

pub draw_end : (x count done : ℕ) (bytes whole : List ℕ) → count ≤ done → bytes ++ drawn x (count - done) ≡ whole → bytes ≡ whole
draw_end x count done bytes whole le so_far =
    let none : count - done ≡ 0 = omega arith in
    sym (append-nil bytes) ∙ ap (λ (n : ℕ). bytes ++ drawn x n) (sym none) ∙ so_far
