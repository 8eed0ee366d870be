-- The keys of the rows in slots.
use Rattle.std.proofs.Common.{◌≡◌, ℕ, zero, suc, ◌<◌, Bool, true, false, cond, List, [], ◌∷◌, length, slice_get, Option, Some, None, is_some, Less, Equal, Greater, Ordering, unwrap_or, refl, sym, ap, subst, ◌∙◌, arith}
use Rattle.std.specs.List.{insert, remove}
use Rattle.std.specs.Ordering.{eq_by_cmp, is_eq, nat_cmp}
use Rattle.std.proofs.lemmas.Cmp.{nat_cmp_total, tied_itself}
use Rattle.std.specs.FinMap as fm
use Rattle.slab.specs.Slab.{Slab, Updates, get}
use Rattle.indexed_rows.specs.row_types.specs.declared.value.Value.{Value}
use Rattle.indexed_rows.specs.row_types.specs.Order.{key_order}
use Rattle.indexed_rows.specs.row_types.proofs.OrderLaws.{key_exact}
use Rattle.indexed_rows.specs.Places.{IsGapFor, IsKeyAt}
use Rattle.indexed_rows.proofs.EntryLaws.{same_values}
use Rattle.indexed_rows.proofs.MapLaws.{entries_of, has_key, no_key}
use Rattle.indexed_rows.specs.Rows.{key_of}
use Rattle.slot_rows.specs.Slots.{AreOrdered, entries_in, row_in, slots_of, table_in}
use Rattle.slot_rows.specs.SlotKeys.{IsKeyedBy, PutsInSlot, RowsHeld, SlotKeys, slot_entries, slot_keys_in}
use Rattle.slot_rows.specs.declared.order.Entry.{Entry}
use Rattle.slot_rows.proofs.SlotLaws.{map_insert, map_remove, others_differ}
use Rattle.slot_rows.proofs.OrderLaws.{row_at_key, same_len}
use Rattle.slot_rows.proofs.ManyLaws.{key_of_slot, same_slot, slot_of_key}

abbrev Row : Type 0
Row = List Value

abbrev eq : ℕ → ℕ → Bool
eq a b = eq_by_cmp nat_cmp a b

pub same_number : (q s : ℕ) → eq q s ≡ true → q ≡ s
same_number q s e = by (nat_cmp q s) refl e
  where
    by : (r : Ordering) → nat_cmp q s ≡ r → is_eq r ≡ true → q ≡ s
    by Less n e = cc
    by Equal n e = fm.nat_cmp-IsAntisymmetric q s n
    by Greater n e = cc

pub number_itself : (s : ℕ) → eq s s ≡ true
number_itself s = ap is_eq (tied_itself nat_cmp_total s)

-- entries with one more or one less
module _ {X : Type 0} (s : ℕ) (k : X) (q : ℕ) where
  module _ (e : ℕ × X) (apart : eq s e.0 ≡ false) where
    apart_by : eq q e.0 ≡ true → eq q s ≡ true → true ≡ false
    apart_by b d = sym (number_itself s) ∙ ap (eq s) (sym (same_number q s d) ∙ same_number q e.0 b) ∙ apart

    swapped : (b d : Bool) (x : Option X) (o : Option X) → eq q e.0 ≡ b → eq q s ≡ d → cond b (Some e.1) (cond d x o) ≡ cond d x (cond b (Some e.1) o)
    swapped true true x o p r = let z = apart_by p r in cc
    swapped true false x o p r = refl
    swapped false true x o p r = refl
    swapped false false x o p r = refl

  by_head : (e : ℕ × X) (es : List (ℕ × X)) → fm.find nat_cmp s (e ∷ es) ≡ None → (eq s e.0 ≡ false) × (fm.find nat_cmp s es ≡ None)
  by_head e es none = by (eq s e.0) refl none
    where
      by : (b : Bool) → eq s e.0 ≡ b → cond b (Some e.1) (fm.find nat_cmp s es) ≡ None → (eq s e.0 ≡ false) × (fm.find nat_cmp s es ≡ None)
      by true p none = cc
      by false p none = (p, none)

  find_insert : (es : List (ℕ × X)) (i : ℕ) → fm.find nat_cmp s es ≡ None → fm.find nat_cmp q (insert es i (s, k)) ≡ cond (eq q s) (Some k) (fm.find nat_cmp q es)
  find_insert [] zero none = refl
  find_insert [] (suc i) none = refl
  find_insert (e ∷ es) zero none = refl
  find_insert (e ∷ es) (suc i) none =
      let h = by_head e es none in
      ap (cond (eq q e.0) (Some e.1)) (find_insert es i h.1) ∙ swapped e h.0 (eq q e.0) (eq q s) (Some k) (fm.find nat_cmp q es) refl refl

  find_remove : (es : List (ℕ × X)) (i : ℕ) → slice_get es i ≡ Some (s, k) → fm.find nat_cmp s (remove es i) ≡ None → fm.find nat_cmp q (remove es i) ≡ cond (eq q s) None (fm.find nat_cmp q es)
  find_remove [] i at none = cc
  find_remove (e ∷ es) zero at none = by (eq q s) refl
    where
      head : e.0 ≡ s
      head = ap (λ o. (unwrap_or o e).0) at

      by : (d : Bool) → eq q s ≡ d → fm.find nat_cmp q es ≡ cond d None (cond (eq q e.0) (Some e.1) (fm.find nat_cmp q es))
      by true r = ap (λ x. fm.find nat_cmp x es) (same_number q s r) ∙ none
      by false r = sym (ap (λ b. cond b (Some e.1) (fm.find nat_cmp q es)) (ap (eq q) head ∙ r))
  find_remove (e ∷ es) (suc i) at none =
      let h = by_head e (remove es i) none in
      ap (cond (eq q e.0) (Some e.1)) (find_remove es i at h.1) ∙ swapped e h.0 (eq q e.0) (eq q s) None (fm.find nat_cmp q es) refl refl

module _ (slab : Slab Row) (places : List ℕ) where
  abbrev key : ℕ → Row
  key s = key_of places (row_in slab s)

  none_there : (slots : List ℕ) (x : ℕ) → ((j s : ℕ) → slice_get slots j ≡ Some s → s ≡ x → ⊥) → fm.find nat_cmp x (slot_entries slab places slots) ≡ None
  none_there [] x h = refl
  none_there (s ∷ slots) x h = by (eq x s) refl (none_there slots x (λ j t e. h (suc j) t e))
    where
      by : (b : Bool) → eq x s ≡ b → fm.find nat_cmp x (slot_entries slab places slots) ≡ None → cond b (Some (key s)) (fm.find nat_cmp x (slot_entries slab places slots)) ≡ None
      by true e rest = absurd (h 0 s refl (sym (same_number x s e)))
      by false e rest = rest

  is_there : (slots : List ℕ) (j s : ℕ) → slice_get slots j ≡ Some s → fm.find nat_cmp s (slot_entries slab places slots) ≡ Some (key s)
  is_there [] j s at = cc
  is_there (x ∷ slots) zero s at = let z : x ≡ s = cc in ap (λ b. cond b (Some (key x)) (fm.find nat_cmp s (slot_entries slab places slots))) (ap (eq s) z ∙ number_itself s) ∙ ap (λ t. Some (key t)) z
  is_there (x ∷ slots) (suc j) s at = by (eq s x) refl (is_there slots j s at)
    where
      by : (b : Bool) → eq s x ≡ b → fm.find nat_cmp s (slot_entries slab places slots) ≡ Some (key s) → cond b (Some (key x)) (fm.find nat_cmp s (slot_entries slab places slots)) ≡ Some (key s)
      by true e rest = ap (λ t. Some (key t)) (sym (same_number s x e))
      by false e rest = rest

  which : (slots : List ℕ) (s : ℕ) (k : Row) → fm.find nat_cmp s (slot_entries slab places slots) ≡ Some k → (j : ℕ) × (slice_get slots j ≡ Some s) × (key s ≡ k)
  which [] s k e = cc
  which (x ∷ slots) s k e = by (eq s x) refl e (which slots s k)
    where
      by : (b : Bool) → eq s x ≡ b → cond b (Some (key x)) (fm.find nat_cmp s (slot_entries slab places slots)) ≡ Some k
          → (fm.find nat_cmp s (slot_entries slab places slots) ≡ Some k → (j : ℕ) × (slice_get slots j ≡ Some s) × (key s ≡ k))
          → (j : ℕ) × (slice_get (x ∷ slots) j ≡ Some s) × (key s ≡ k)
      by true p e rest = (0, ap Some (sym (same_number s x p)), ap key (same_number s x p) ∙ (let z : key x ≡ k = cc in z))
      by false p e rest = let r = rest e in (suc r.0, r.1, r.2)

-- slots whose rows stay keep their keys
entries_alike : (old new : Slab Row) (places slots : List ℕ) → ((j s : ℕ) → slice_get slots j ≡ Some s → get new s ≡ get old s) → slot_entries new places slots ≡ slot_entries old places slots
entries_alike old new places [] h = refl
entries_alike old new places (s ∷ slots) h =
    let first : key_of places (row_in new s) ≡ key_of places (row_in old s) = ap (λ o. key_of places (unwrap_or o [])) (h 0 s refl) in
    let rest = entries_alike old new places slots (λ j t e. h (suc j) t e) in
    λ i. (s, first i) ∷ rest i

entry_there : (slab : Slab Row) (places slots : List ℕ) (i s : ℕ) → slice_get slots i ≡ Some s → slice_get (slot_entries slab places slots) i ≡ Some (s, key_of places (row_in slab s))
entry_there slab places [] i s e = cc
entry_there slab places (x ∷ slots) zero s e = let z : x ≡ s = cc in ap (λ t. Some (t, key_of places (row_in slab t))) z
entry_there slab places (x ∷ slots) (suc i) s e = entry_there slab places slots i s e

inside : (xs : List ℕ) (i x : ℕ) → slice_get xs i ≡ Some x → i < length xs
inside [] i x e = cc
inside (y ∷ xs) zero x e = omega arith
inside (y ∷ xs) (suc i) x e = let r = inside xs i x e in omega (arith, r)

-- a key that is found has a place
at_some : (es : List (Row × Row)) (k : Row) → is_some (fm.find key_order k es) ≡ true → (j : ℕ) × IsKeyAt es k j
at_some [] k e = cc
at_some (x ∷ es) k e = by (eq_by_cmp key_order k x.0) refl e (at_some es k)
  where
    by : (b : Bool) → eq_by_cmp key_order k x.0 ≡ b → is_some (cond b (Some x.1) (fm.find key_order k es)) ≡ true → (is_some (fm.find key_order k es) ≡ true → (j : ℕ) × IsKeyAt es k j) → (j : ℕ) × IsKeyAt (x ∷ es) k j
    by true p e rest = (0, ap Some (sym (same_values k x.0 p)))
    by false p e rest = let r = rest e in (suc r.0, r.1)

-- the keys by slot of rows in order
module _ (slab : Slab Row) (places : List ℕ) (entries : List Entry) (are : AreOrdered slab places entries) where
  got : (q : ℕ) → fm.get (slot_keys_in slab places entries) q ≡ fm.find nat_cmp q (slot_entries slab places (slots_of entries))
  got q = fm.get-from_entries nat_cmp_total (slot_entries slab places (slots_of entries)) q

  slot_at_front : (slot : ℕ) (k : Row) → fm.get (slot_keys_in slab places entries) slot ≡ Some k → (j : ℕ) × (slice_get (slots_of entries) j ≡ Some slot) × (key_of places (row_in slab slot) ≡ k)
  slot_at_front slot k e = which slab places (slots_of entries) slot k (sym (got slot) ∙ e)

  pub key_there : (j slot : ℕ) → slice_get (slots_of entries) j ≡ Some slot → fm.get (slot_keys_in slab places entries) slot ≡ Some (key_of places (row_in slab slot))
  key_there j slot at = got slot ∙ is_there slab places (slots_of entries) j slot at

  -- the slot at the place of a key has it
  pub key_in_slot : (k : Row) (j slot : ℕ) → slice_get (slots_of entries) j ≡ Some slot → IsKeyAt (fm.entries (table_in slab places entries)) k j → key_of places (row_in slab slot) ≡ k
  key_in_slot k j slot at found =
      let s = slot_of_key slab places entries are k j found in
      let z : s.0 ≡ slot = (let o : Some s.0 ≡ Some slot = sym s.1 ∙ at in cc) in
      ap (λ t. key_of places (row_in slab t)) (sym z) ∙ s.2

  -- the key at a place has a slot
  pub slot_at_key : (k : Row) (j : ℕ) → IsKeyAt (fm.entries (table_in slab places entries)) k j → (slot : ℕ) × (fm.get (slot_keys_in slab places entries) slot ≡ Some k)
  slot_at_key k j found = let s = slot_of_key slab places entries are k j found in (s.0, key_there j s.0 s.1 ∙ ap Some s.2)

  -- and is the only one
  pub only_slot : (k : Row) (j slot : ℕ) → slice_get (slots_of entries) j ≡ Some slot → key_of places (row_in slab slot) ≡ k → (other : ℕ) → fm.get (slot_keys_in slab places entries) other ≡ Some k → slot ≡ other
  only_slot k j slot at is other e =
      let w = slot_at_front other k e in
      same_slot slab places (slots_of entries) are.slots.sorted j w.0 slot other at w.1 (is ∙ sym w.2)

  -- a key in a slot is in the table
  pub in_table : (slot : ℕ) (k : Row) → fm.get (slot_keys_in slab places entries) slot ≡ Some k → fm.contains_key (table_in slab places entries) k ≡ true
  in_table slot k e =
      let w = slot_at_front slot k e in
      has_key (table_in slab places entries) k w.0 (subst (λ x. IsKeyAt (fm.entries (table_in slab places entries)) x w.0) w.2 (key_of_slot slab places entries are w.0 slot w.1))

  -- a key in the table has a slot
  pub in_slots : (k : Row) → fm.contains_key (table_in slab places entries) k ≡ true → (slot : ℕ) × (fm.get (slot_keys_in slab places entries) slot ≡ Some k)
  in_slots k e =
      let table = table_in slab places entries in
      let found = at_some (fm.entries table) k (ap is_some (sym (fm.get-entries table k)) ∙ e) in
      slot_at_key k found.0 found.1

  -- and no other
  pub one_slot : (k : Row) (slot other : ℕ) → fm.get (slot_keys_in slab places entries) slot ≡ Some k → fm.get (slot_keys_in slab places entries) other ≡ Some k → slot ≡ other
  one_slot k slot other e f =
      let w = slot_at_front slot k e in
      only_slot k w.0 slot w.1 w.2 other f

  pub no_slot : (k : Row) (at : ℕ) → IsGapFor (fm.entries (table_in slab places entries)) k at → (slot : ℕ) → fm.get (slot_keys_in slab places entries) slot ≡ Some k → ⊥
  no_slot k at gap slot e = let z : true ≡ false = sym (in_table slot k e) ∙ no_key (table_in slab places entries) k at gap in cc

  -- its row is that of the table
  pub slot_row : (slot : ℕ) (k : Row) → fm.get (slot_keys_in slab places entries) slot ≡ Some k → get slab slot ≡ fm.get (table_in slab places entries) k
  slot_row slot k e =
      let w = slot_at_front slot k e in
      row_at_key slab places entries are k w.0 slot (subst (λ n. w.0 < n) (same_len entries) (inside (slots_of entries) w.0 slot w.1)) w.1 (subst (λ x. IsKeyAt (fm.entries (table_in slab places entries)) x w.0) w.2 (key_of_slot slab places entries are w.0 slot w.1))

  -- a row goes into a slot
  module _ (new : Slab Row) (slot : ℕ) (row : Row) (vacant : get slab slot ≡ None) (u : Updates slab new slot (Some row)) (live : (j s : ℕ) → slice_get (slots_of entries) j ≡ Some s → s ≡ slot → ⊥) where
    pub slot_was_free : fm.get (slot_keys_in slab places entries) slot ≡ None
    slot_was_free = got slot ∙ none_there slab places (slots_of entries) slot live

    pub slot_filled : (at : ℕ) → fm.from_entries {R = nat_cmp} (slot_entries new places (insert (slots_of entries) at slot)) ≡ fm.insert (slot_keys_in slab places entries) slot (key_of places row)
    slot_filled at = fm.same_map nat_cmp_total fm.nat_cmp-IsAntisymmetric _ _ (λ q.
        fm.get-from_entries nat_cmp_total (slot_entries new places (insert (slots_of entries) at slot)) q
        ∙ ap (fm.find nat_cmp q) (
        map_insert (λ s. (s, key_of places (row_in new s))) (slots_of entries) at slot
        ∙ ap (λ es. insert es at (slot, key_of places (row_in new slot))) (entries_alike slab new places (slots_of entries) (λ j s e. u.others s (live j s e)))
        ∙ ap (λ o. insert (slot_entries slab places (slots_of entries)) at (slot, key_of places (unwrap_or o []))) u.changed
        )
        ∙ find_insert slot (key_of places row) q (slot_entries slab places (slots_of entries)) at (none_there slab places (slots_of entries) slot live)
        ∙ ap (cond (eq q slot) (Some (key_of places row))) (sym (got q))
        ∙ sym (fm.get-insert nat_cmp_total (slot_keys_in slab places entries) slot (key_of places row) q))

  -- a row leaves its slot
  module _ (new : Slab Row) (at slot : ℕ) (there : slice_get (slots_of entries) at ≡ Some slot) (u : Updates slab new slot None) where
    differ : (j s : ℕ) → slice_get (remove (slots_of entries) at) j ≡ Some s → s ≡ slot → ⊥
    differ = others_differ slab places (slots_of entries) are.slots.sorted at slot there

    same_left : slot_entries new places (remove (slots_of entries) at) ≡ remove (slot_entries slab places (slots_of entries)) at
    same_left = entries_alike slab new places (remove (slots_of entries) at) (λ j s e. u.others s (differ j s e)) ∙ map_remove (λ s. (s, key_of places (row_in slab s))) (slots_of entries) at

    pub slot_emptied : fm.from_entries {R = nat_cmp} (slot_entries new places (remove (slots_of entries) at)) ≡ fm.remove (slot_keys_in slab places entries) slot
    slot_emptied = fm.same_map nat_cmp_total fm.nat_cmp-IsAntisymmetric _ _ (λ q.
        fm.get-from_entries nat_cmp_total (slot_entries new places (remove (slots_of entries) at)) q
        ∙ ap (fm.find nat_cmp q) same_left
        ∙ find_remove slot (key_of places (row_in slab slot)) q (slot_entries slab places (slots_of entries)) at (entry_there slab places (slots_of entries) at slot there)
        (ap (fm.find nat_cmp slot) (sym same_left) ∙ none_there new places (remove (slots_of entries) at) slot differ)
        ∙ ap (cond (eq q slot) None) (sym (got q))
        ∙ sym (fm.get-remove nat_cmp_total (slot_keys_in slab places entries) slot q))

-- a key that left its slot goes in again there
pub slot_again : (m : SlotKeys) (slot : ℕ) (k : Row) → fm.get m slot ≡ Some k → fm.insert (fm.remove m slot) slot k ≡ m
slot_again m slot k e = fm.same_map nat_cmp_total fm.nat_cmp-IsAntisymmetric _ _ (λ q.
    fm.get-insert nat_cmp_total (fm.remove m slot) slot k q ∙ ap (cond (eq q slot) (Some k)) (fm.get-remove nat_cmp_total m slot q) ∙ by q (eq q slot) refl)
  where
    by : (q : ℕ) (b : Bool) → eq q slot ≡ b → cond b (Some k) (cond b None (fm.get m q)) ≡ fm.get m q
    by q true r = sym e ∙ ap (fm.get m) (sym (same_number q slot r))
    by q false r = refl

-- a row that left its slot goes in again, into the same slot
pub back_in : (old less new : RowsHeld) (k : Row) (slot : ℕ) → fm.get old.slots slot ≡ Some k → (less.slots ≡ fm.remove old.slots slot) × (less.vacant ≡ slot) → fm.contains_key less.table k ≡ false
    → (r : Option ℕ) → PutsInSlot less new k r → new.slots ≡ old.slots
back_in old less new k slot e left none None puts = let z : true ≡ false = sym puts.0 ∙ none in cc
back_in old less new k slot e left none (Some s) puts =
    puts.2 ∙ ap (λ m. fm.insert m s k) left.0 ∙ ap (λ t. fm.insert (fm.remove old.slots slot) t k) (puts.3 ∙ left.1) ∙ slot_again old.slots slot k e

-- each row stands under its key
pub rows_keyed : (slab : Slab Row) (places : List ℕ) (entries : List Entry) → AreOrdered slab places entries → IsKeyedBy places (table_in slab places entries)
rows_keyed slab places entries are k row e =
    by (slots_of entries) (sym (fm.get-entries (table_in slab places entries) k ∙ ap (fm.find key_order k) (entries_of (entries_in slab places (slots_of entries)) (table_in slab places entries) are.slots.sorted refl)) ∙ e)
  where
    tied : (a b : Row) → eq_by_cmp key_order a b ≡ true → a ≡ b
    tied a b e = same (key_order a b) refl e
      where
        same : (r : Ordering) → key_order a b ≡ r → is_eq r ≡ true → a ≡ b
        same Less n e = cc
        same Equal n e = key_exact a b n
        same Greater n e = cc

    by : (slots : List ℕ) → fm.find key_order k (entries_in slab places slots) ≡ Some row → key_of places row ≡ k
    by [] e = cc
    by (s ∷ slots) e = at (eq_by_cmp key_order k (key_of places (row_in slab s))) refl e (by slots)
      where
        at : (b : Bool) → eq_by_cmp key_order k (key_of places (row_in slab s)) ≡ b → cond b (Some (row_in slab s)) (fm.find key_order k (entries_in slab places slots)) ≡ Some row
            → (fm.find key_order k (entries_in slab places slots) ≡ Some row → key_of places row ≡ k) → key_of places row ≡ k
        at true r e rest = let z : row_in slab s ≡ row = cc in ap (key_of places) (sym z) ∙ sym (tied k (key_of places (row_in slab s)) r)
        at false r e rest = rest e
