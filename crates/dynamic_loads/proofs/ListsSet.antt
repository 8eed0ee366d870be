-- The lists of keys and the hidden rows of groups, where the store of one of them becomes another.
use Rattle.std.proofs.Common.{◌≡◌, ℕ, Bool, true, false, cond, ◌||◌, ◌&&◌, nat_eq, Some, List, [], ◌∷◌, zero, suc, ◌+◌, length, map, set, slice_get, arith, refl, sym, ap, subst, ◌∙◌}
use Rattle.std.specs.Bool.{MatchBool}
use Rattle.std.specs.FinMap.{contains_key}
use Rattle.std.proofs.lemmas.Bool.{eq-eqb, eqb-true}
use Rattle.indexed_rows.specs.Rows.{Table}
use Rattle.table_defs.specs.declared.definition.TableDef.{TableDef}
use Rattle.slot_rows.specs.SlotKeys.{RowsHeld}
use Rattle.group_store.specs.Stores.{Kept, SameButSpare}
use Rattle.cache_tier.specs.Groups.{Group, has_list, is_key, is_read_only, with_keys}
use Rattle.cache_tier.specs.Sets.{Choice, alone, changed_from}
use Rattle.cache_tier.proofs.KeyListLaws.{key_with}
use Rattle.stored_tier.specs.Lists.{AreHiding, AreListed, HasKeysOf, IsHidingFor, IsListed, hides_keys, is_by_time, is_by_use}
use Rattle.stored_tier.specs.Stored.{without_list}
use Rattle.stored_tier.proofs.ListLaws.{all_hiding, all_listed, hiding_there, listed_there}
use Rattle.stored_tier.proofs.StoreChanges.{get_here, get_there}
use Rattle.dynamic_loads.proofs.RootRows.{Row}

-- elements of lists

pub there_too : {X Y : Type 0} (xs : List X) (ys : List Y) (i : ℕ) (x : X) → length ys ≡ length xs → slice_get xs i ≡ Some x → (y : Y) × (slice_get ys i ≡ Some y)
there_too [] ys i x long at = Prim.cc
there_too (z ∷ xs) [] i x long at = absurd (Prim.omega (arith, long))
there_too (z ∷ xs) (y ∷ ys) zero x long at = (y, refl)
there_too (z ∷ xs) (y ∷ ys) (suc i) x long at = there_too xs ys i x (Prim.omega (arith, long)) at

pub same_there : {X : Type 0} (xs : List X) (i : ℕ) (x y : X) → slice_get xs i ≡ Some x → slice_get xs i ≡ Some y → x ≡ y
same_there xs i x y a b = let both : Some x ≡ Some y = sym a ∙ b in Prim.cc

pub long_set : {X : Type 0} (xs : List X) (i : ℕ) (x : X) → length (set xs i x) ≡ length xs
long_set [] i x = refl
long_set (y ∷ xs) zero x = refl
long_set (y ∷ xs) (suc i) x = ap suc (long_set xs i x)

-- groups of which some are changed

changed_there : (c : Choice) (f : Group → Group) (from : ℕ) (groups : List Group) (k : ℕ) (g : Group) → slice_get groups k ≡ Some g → slice_get (changed_from c f from groups) k ≡ Some (cond (c (from + k) g) (f g) g)
changed_there c f from [] k g at = Prim.cc
changed_there c f from (x ∷ groups) zero g at =
    let same : x ≡ g = Prim.cc in
    let here : from ≡ from + 0 = Prim.omega arith in
    λ i. Some (cond (c (here i) (same i)) (f (same i)) (same i))
changed_there c f from (x ∷ groups) (suc k) g at =
    let here : suc from + k ≡ from + suc k = Prim.omega arith in
    changed_there c f (suc from) groups k g at ∙ ap (λ n. Some (cond (c n g) (f g) g)) here

pub changed_long : (c : Choice) (f : Group → Group) (from : ℕ) (groups : List Group) → length (changed_from c f from groups) ≡ length groups
changed_long c f from [] = refl
changed_long c f from (x ∷ groups) = ap suc (changed_long c f (suc from) groups)

pub changed_at : (c : Choice) (f : Group → Group) (groups : List Group) (k : ℕ) (g : Group) → slice_get groups k ≡ Some g → slice_get (changed_from c f 0 groups) k ≡ Some (cond (c k g) (f g) g)
changed_at c f groups k g at = let here : 0 + k ≡ k = Prim.omega arith in changed_there c f 0 groups k g at ∙ ap (λ m. Some (cond (c m g) (f g) g)) here

-- where their lists alone are others, they are the same without
pub seen_alike : (c : Choice) (f : Group → Group) (from : ℕ) (groups : List Group) → ((g : Group) → without_list (f g) ≡ without_list g) → map without_list (changed_from c f from groups) ≡ map without_list groups
seen_alike c f from [] same = refl
seen_alike c f from (x ∷ groups) same =
    let first : without_list (cond (c from x) (f x) x) ≡ without_list x = by (c from x) in
    let rest = seen_alike c f (suc from) groups same in
    λ i. first i ∷ rest i
  where
    by : (d : Bool) → without_list (cond d (f x) x) ≡ without_list x
    by true = same x
    by false = refl

-- where the one that is chosen is the same, all stay
pub changed_none : (place : ℕ) (f : Group → Group) (from : ℕ) (groups : List Group) → ((i : ℕ) (g : Group) → slice_get groups i ≡ Some g → from + i ≡ place → f g ≡ g) → changed_from (alone place) f from groups ≡ groups
changed_none place f from [] same = refl
changed_none place f from (x ∷ groups) same =
    let first : cond (nat_eq from place) (f x) x ≡ x = by (nat_eq from place) refl in
    let rest = changed_none place f (suc from) groups (λ i g at e. same (suc i) g at (Prim.omega (arith, e))) in
    λ i. first i ∷ rest i
  where
    by : (d : Bool) → nat_eq from place ≡ d → cond d (f x) x ≡ x
    by true e = let is = eqb-true from place e in same 0 x refl (Prim.omega (arith, is))
    by false e = refl

-- the store at a place becomes another

module _ (place : ℕ) (gs : List Group) (stores : List Kept) (s left : Kept) (at : slice_get stores place ≡ Some s) (long : length stores ≡ length gs) where
  left_here : (k : ℕ) (n : Kept) → nat_eq k place ≡ true → slice_get (set stores place left) k ≡ Some n → n ≡ left
  left_here k n e kept = same_there (set stores place left) place n left (ap (slice_get (set stores place left)) (sym (eqb-true k place e)) ∙ kept) (get_here stores place s left at)

  kept_there : (k : ℕ) (n : Kept) → nat_eq k place ≡ false → slice_get (set stores place left) k ≡ Some n → slice_get stores k ≡ Some n
  kept_there k n e kept = sym (get_there stores place k left (λ same. let wrong : true ≡ false = sym (eq-eqb k place same) ∙ e in Prim.cc)) ∙ kept

  pub hiding_set : (schema : List TableDef) (hidden : List RowsHeld) → length hidden ≡ length gs → ((g : Group) (x : RowsHeld) → slice_get gs place ≡ Some g → slice_get hidden place ≡ Some x → IsHidingFor schema g s x → IsHidingFor schema g left x)
      → AreHiding schema gs stores hidden → AreHiding schema gs (set stores place left) hidden
  hiding_set schema hidden also one are =
      all_hiding schema gs (set stores place left) hidden (long_set stores place left ∙ long) also
      (λ k g n x there kept held. by k n x g there kept held (nat_eq k place) refl)
    where
      by : (k : ℕ) (n : Kept) (x : RowsHeld) (g : Group) → slice_get gs k ≡ Some g → slice_get (set stores place left) k ≡ Some n → slice_get hidden k ≡ Some x → (b : Bool) → nat_eq k place ≡ b → IsHidingFor schema g n x
      by k n x g there kept held true e =
          let same = eqb-true k place e in
          let g_at : slice_get gs place ≡ Some g = ap (slice_get gs) (sym same) ∙ there in
          let x_at : slice_get hidden place ≡ Some x = ap (slice_get hidden) (sym same) ∙ held in
          subst (λ y. IsHidingFor schema g y x) (sym (left_here k n e kept)) (one g x g_at x_at (hiding_there schema gs stores hidden place g s x are g_at at x_at))
      by k n x g there kept held false e = hiding_there schema gs stores hidden k g n x are there (kept_there k n e kept) held

  -- and its group
  module _ (f : Group → Group) where
    abbrev final : List Group
    final = changed_from (alone place) f 0 gs

    -- what is at a place
    record Was (k : ℕ) (h : Group) : Type 0 where
      group : Group
      there : slice_get gs k ≡ Some group
      is : h ≡ cond (nat_eq k place) (f group) group

    was : (k : ℕ) (h : Group) → slice_get final k ≡ Some h → Was k h
    was k h at_k =
        let (g, there) = there_too final gs k h (sym (changed_long (alone place) f 0 gs)) at_k in
        record { group = g; there = there; is = same_there final k h (cond (nat_eq k place) (f g) g) at_k (changed_at (alone place) f gs k g there) }

    pub listed_set : (hidden : List RowsHeld) → length hidden ≡ length gs → ((g : Group) (x : RowsHeld) → slice_get gs place ≡ Some g → slice_get hidden place ≡ Some x → IsListed g s x.table → IsListed (f g) left x.table)
        → AreListed gs stores hidden → AreListed final (set stores place left) hidden
    listed_set hidden also one are =
        all_listed final (set stores place left) hidden (long_set stores place left ∙ long ∙ sym (changed_long (alone place) f 0 gs)) (also ∙ sym (changed_long (alone place) f 0 gs))
        (λ k h n x at_k kept held. let w = was k h at_k in subst (λ y. IsListed y n x.table) (sym w.is) (by k n x w.group w.there kept held (nat_eq k place) refl))
      where
        by : (k : ℕ) (n : Kept) (x : RowsHeld) (g : Group) → slice_get gs k ≡ Some g → slice_get (set stores place left) k ≡ Some n → slice_get hidden k ≡ Some x → (b : Bool) → nat_eq k place ≡ b → IsListed (cond b (f g) g) n x.table
        by k n x g there kept held true e =
            let same = eqb-true k place e in
            let g_at : slice_get gs place ≡ Some g = ap (slice_get gs) (sym same) ∙ there in
            let x_at : slice_get hidden place ≡ Some x = ap (slice_get hidden) (sym same) ∙ held in
            subst (λ y. IsListed (f g) y x.table) (sym (left_here k n e kept)) (one g x g_at x_at (listed_there gs stores hidden place g s x are g_at at x_at))
        by k n x g there kept held false e = listed_there gs stores hidden k g n x are there (kept_there k n e kept) held

-- the room of a store doesn't count

pub listed_room : (g : Group) (s n : Kept) (hidden : Table) → SameButSpare s n → IsListed g s hidden → IsListed g n hidden
listed_room g s n hidden same is = subst (λ ks. IsListed g (record s { keys = ks }) hidden) (sym same.keys) is

-- the list grows as the keys of the store do
pub grown_listed : (g : Group) (more : List Row) (s n : Kept) (hidden : Table) → n.keys ≡ with_keys more s.keys → IsListed g s hidden → IsListed (record g { keys = with_keys more g.keys }) n hidden
grown_listed g more s n hidden keys is = by (has_list g && is_by_use g.def.aging) g.def.dynamic is
  where
    swapped : (a h m : Bool) → ((a || h) || m) ≡ ((a || m) || h)
    swapped true h m = refl
    swapped false true true = refl
    swapped false true false = refl
    swapped false false true = refl
    swapped false false false = refl

    by : (u d : Bool) → MatchBool u (g.keys ≡ s.keys) (MatchBool d (HasKeysOf g.keys s hidden) (Unit {0})) → MatchBool u (with_keys more g.keys ≡ n.keys) (MatchBool d (HasKeysOf (with_keys more g.keys) n hidden) (Unit {0}))
    by true d same = ap (with_keys more) same ∙ sym keys
    by false true are = λ k.
        key_with more g.keys k
        ∙ ap (λ b. b || is_key more k) (are k)
        ∙ swapped (is_key s.keys k) (contains_key hidden k) (is_key more k)
        ∙ ap (λ b. b || contains_key hidden k) (sym (key_with more s.keys k) ∙ ap (λ l. is_key l k) (sym keys))
    by false false none = tt

-- a writethrough group hides no rows, whatever its store
never : (b : Bool) → b ≡ true → b ≡ false → ⊥
never true e f = Prim.cc
never false e f = Prim.cc

pub hides_none : (schema : List TableDef) (g : Group) (s n : Kept) (x : RowsHeld) → is_read_only g ≡ false → IsHidingFor schema g s x → IsHidingFor schema g n x
hides_none schema g s n x writes is =
    let none : hides_keys g ≡ false = ap (λ b. (b && g.def.dynamic) && is_by_time g.def.aging) writes in
    record { key = is.key; room = λ hides. absurd (never (hides_keys g) hides none); none = is.none }
