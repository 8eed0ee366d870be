-- The lists of keys and the hidden rows of groups, where the store of one of them becomes another.
use Rattle.std.proofs.Common.{◌≡◌, ◌≤◌, ℕ, Bool, true, false, cond, ◌&&◌, ◌||◌, nat_eq, Some, List, [], ◌∷◌, zero, suc, length, set, slice_get, refl, sym, ap, subst, ◌∙◌}
use Rattle.std.specs.Bool.{MatchBool}
use Rattle.std.specs.FinMap.{contains_key, len}
use Rattle.std.proofs.lemmas.Bool.{eqb-true}
use Rattle.instances.specs.Views.{kept_at}
use Rattle.row_types.specs.declared.value.Value.{Value}
use Rattle.indexed_rows.specs.Rows.{Table}
use Rattle.table_defs.specs.declared.definition.TableDef.{TableDef}
use Rattle.slot_rows.specs.SlotKeys.{RowsHeld}
use Rattle.group_store.specs.Stores.{Kept, SameButSpare}
use Rattle.cache_tier.specs.Groups.{Group, has_list, is_key, is_read_only, with_keys}
use Rattle.cache_tier.specs.Sets.{alone, changed_from}
use Rattle.cache_tier.proofs.KeyListLaws.{key_with}
use Rattle.stored_tier.specs.Lists.{AreHiding, AreListed, HasKeysOf, IsHidingFor, IsListed, hides_keys, is_by_time, is_by_use}
use Rattle.stored_tier.proofs.ListLaws.{all_hiding, all_listed, hiding_there, listed_there}
use Rattle.stored_tier.proofs.StoreChanges.{get_here, get_there}
use Rattle.group_engine.specs.Taking.{Pairs}
use Rattle.group_engine.proofs.ChangedLists.{changed_at, changed_long}
use Rattle.group_engine.proofs.GroupRows.{same_there, there_too}

abbrev Row : Type 0
Row = List Value

-- the room of stores is another

listed_spare : (g : Group) (s n : Kept) (hidden : Table) → SameButSpare s n → IsListed g s hidden → IsListed g n hidden
listed_spare g s n hidden same is = subst (λ ks. IsListed g (record s { keys = ks }) hidden) (sym same.keys) is

pub listed_pairs : (gs : List Group) (old new : List Kept) (hidden : List RowsHeld) → Pairs SameButSpare old new → AreListed gs old hidden → AreListed gs new hidden
listed_pairs [] old new hidden same are = tt
listed_pairs (g ∷ gs) [] new hidden same are = absurd are
listed_pairs (g ∷ gs) (s ∷ old) [] hidden same are = absurd same
listed_pairs (g ∷ gs) (s ∷ old) (n ∷ new) [] same are = absurd are
listed_pairs (g ∷ gs) (s ∷ old) (n ∷ new) (x ∷ hidden) same are = (listed_spare g s n x.table same.0 are.0, listed_pairs gs old new hidden same.1 are.1)

hiding_spare : (schema : List TableDef) (g : Group) (s n : Kept) (x : RowsHeld) → SameButSpare s n → IsHidingFor schema g s x → IsHidingFor schema g n x
hiding_spare schema g s n x same is = record { key = is.key; room = λ hides. subst (λ ts. len (kept_at ts 0) ≤ x.spare) (sym same.tables) (is.room hides); none = is.none }

pub hiding_pairs : (schema : List TableDef) (gs : List Group) (old new : List Kept) (hidden : List RowsHeld) → Pairs SameButSpare old new → AreHiding schema gs old hidden → AreHiding schema gs new hidden
hiding_pairs schema [] old new [] same are = tt
hiding_pairs schema [] old new (x ∷ hidden) same are = absurd are
hiding_pairs schema (g ∷ gs) old new [] same are = absurd are
hiding_pairs schema (g ∷ gs) [] new (x ∷ hidden) same are = absurd are
hiding_pairs schema (g ∷ gs) (s ∷ old) [] (x ∷ hidden) same are = absurd same
hiding_pairs schema (g ∷ gs) (s ∷ old) (n ∷ new) (x ∷ hidden) same are = (hiding_spare schema g s n x same.0 are.0, hiding_pairs schema gs old new hidden same.1 are.1)

-- the store at a place becomes another, and its group

long_set : {X : Type 0} (xs : List X) (i : ℕ) (x : X) → length (set xs i x) ≡ length xs
long_set [] i x = refl
long_set (y ∷ xs) zero x = refl
long_set (y ∷ xs) (suc i) x = ap suc (long_set xs i x)

module _ (place : ℕ) (f : Group → Group) (gs : List Group) (stores : List Kept) (s left : Kept) (at : slice_get stores place ≡ Some s) (long : length stores ≡ length gs) where
  abbrev final : List Group
  final = changed_from (alone place) f 0 gs

  -- what is at a place
  record Was (k : ℕ) (h : Group) (n : Kept) : Type 0 where
    group : Group
    there : slice_get gs k ≡ Some group
    is : h ≡ cond (nat_eq k place) (f group) group

  was : (k : ℕ) (h : Group) (n : Kept) → slice_get final k ≡ Some h → Was k h n
  was k h n at_k =
      let (g, there) = there_too final gs k h (sym (changed_long (alone place) f 0 gs)) at_k in
      record { group = g; there = there; is = same_there final k h (cond (nat_eq k place) (f g) g) at_k (changed_at (alone place) f gs k g there) }

  left_here : (k : ℕ) (n : Kept) → nat_eq k place ≡ true → slice_get (set stores place left) k ≡ Some n → n ≡ left
  left_here k n e kept = same_there (set stores place left) place n left (ap (slice_get (set stores place left)) (sym (eqb-true k place e)) ∙ kept) (get_here stores place s left at)

  kept_there : (k : ℕ) (n : Kept) → nat_eq k place ≡ false → slice_get (set stores place left) k ≡ Some n → slice_get stores k ≡ Some n
  kept_there k n e kept = sym (get_there stores place k left (λ same. let wrong : true ≡ false = sym (Rattle.std.proofs.lemmas.Bool.eq-eqb k place same) ∙ e in cc)) ∙ kept

  pub listed_set : (hidden : List RowsHeld) → length hidden ≡ length gs → ((g : Group) (x : RowsHeld) → slice_get gs place ≡ Some g → slice_get hidden place ≡ Some x → IsListed g s x.table → IsListed (f g) left x.table)
      → AreListed gs stores hidden → AreListed final (set stores place left) hidden
  listed_set hidden also one are =
      all_listed final (set stores place left) hidden (long_set stores place left ∙ long ∙ sym (changed_long (alone place) f 0 gs)) (also ∙ sym (changed_long (alone place) f 0 gs))
      (λ k h n x at_k kept held. let w = was k h n at_k in subst (λ y. IsListed y n x.table) (sym w.is) (by k n x w.group w.there kept held (nat_eq k place) refl))
    where
      by : (k : ℕ) (n : Kept) (x : RowsHeld) (g : Group) → slice_get gs k ≡ Some g → slice_get (set stores place left) k ≡ Some n → slice_get hidden k ≡ Some x → (b : Bool) → nat_eq k place ≡ b → IsListed (cond b (f g) g) n x.table
      by k n x g there kept held true e =
          let same = eqb-true k place e in
          let g_at : slice_get gs place ≡ Some g = ap (slice_get gs) (sym same) ∙ there in
          let x_at : slice_get hidden place ≡ Some x = ap (slice_get hidden) (sym same) ∙ held in
          subst (λ y. IsListed (f g) y x.table) (sym (left_here k n e kept)) (one g x g_at x_at (listed_there gs stores hidden place g s x are g_at at x_at))
      by k n x g there kept held false e = listed_there gs stores hidden k g n x are there (kept_there k n e kept) held

  pub hiding_set : (schema : List TableDef) (hidden : List RowsHeld) → length hidden ≡ length gs → ((g : Group) (x : RowsHeld) → slice_get gs place ≡ Some g → slice_get hidden place ≡ Some x → IsHidingFor schema g s x → IsHidingFor schema (f g) left x)
      → AreHiding schema gs stores hidden → AreHiding schema final (set stores place left) hidden
  hiding_set schema hidden also one are =
      all_hiding schema final (set stores place left) hidden (long_set stores place left ∙ long ∙ sym (changed_long (alone place) f 0 gs)) (also ∙ sym (changed_long (alone place) f 0 gs))
      (λ k h n x at_k kept held. let w = was k h n at_k in subst (λ y. IsHidingFor schema y n x) (sym w.is) (by k n x w.group w.there kept held (nat_eq k place) refl))
    where
      by : (k : ℕ) (n : Kept) (x : RowsHeld) (g : Group) → slice_get gs k ≡ Some g → slice_get (set stores place left) k ≡ Some n → slice_get hidden k ≡ Some x → (b : Bool) → nat_eq k place ≡ b → IsHidingFor schema (cond b (f g) g) n x
      by k n x g there kept held true e =
          let same = eqb-true k place e in
          let g_at : slice_get gs place ≡ Some g = ap (slice_get gs) (sym same) ∙ there in
          let x_at : slice_get hidden place ≡ Some x = ap (slice_get hidden) (sym same) ∙ held in
          subst (λ y. IsHidingFor schema (f g) y x) (sym (left_here k n e kept)) (one g x g_at x_at (hiding_there schema gs stores hidden place g s x are g_at at x_at))
      by k n x g there kept held false e = hiding_there schema gs stores hidden k g n x are there (kept_there k n e kept) held

-- the list grows as the keys of the store do
pub grown_listed : (g : Group) (more : List Row) (s n : Kept) (hidden : Table) → n.keys ≡ with_keys more s.keys → IsListed g s hidden → IsListed (record g { keys = with_keys more g.keys }) n hidden
grown_listed g more s n hidden keys is = by (has_list g && is_by_use g.def.aging) g.def.dynamic is
  where
    swapped : (a h m : Bool) → ((a || h) || m) ≡ ((a || m) || h)
    swapped true h m = refl
    swapped false true true = refl
    swapped false true false = refl
    swapped false false true = refl
    swapped false false false = refl

    by : (u d : Bool) → MatchBool u (g.keys ≡ s.keys) (MatchBool d (HasKeysOf g.keys s hidden) (Unit {0})) → MatchBool u (with_keys more g.keys ≡ n.keys) (MatchBool d (HasKeysOf (with_keys more g.keys) n hidden) (Unit {0}))
    by true d same = ap (with_keys more) same ∙ sym keys
    by false true are = λ k.
        key_with more g.keys k
        ∙ ap (λ b. b || is_key more k) (are k)
        ∙ swapped (is_key s.keys k) (contains_key hidden k) (is_key more k)
        ∙ ap (λ b. b || contains_key hidden k) (sym (key_with more s.keys k) ∙ ap (λ l. is_key l k) (sym keys))
    by false false none = tt

-- a writethrough group hides no rows
pub writes_hides : (g : Group) → is_read_only g ≡ false → hides_keys g ≡ false
writes_hides g e = ap (λ b. (b && g.def.dynamic) && is_by_time g.def.aging) e

-- an explicit group hides no rows
pub unhidden : (g : Group) → g.def.dynamic ≡ false → hides_keys g ≡ false
unhidden g e = by (is_read_only g) g.def.dynamic (is_by_time g.def.aging) e
  where
    by : (r d t : Bool) → d ≡ false → ((r && d) && t) ≡ false
    by r true t e = cc
    by true false t e = refl
    by false false t e = refl

-- a group that hides no rows hides none with another store
pub hides_none : (schema : List TableDef) (g : Group) (s n : Kept) (x : RowsHeld) → hides_keys g ≡ false → IsHidingFor schema g s x → IsHidingFor schema g n x
hides_none schema g s n x none is = record { key = is.key; room = λ hides. absurd (never (hides_keys g) hides none); none = is.none }
  where
    never : (b : Bool) → b ≡ true → b ≡ false → ⊥
    never true e f = cc
    never false e f = cc
