-- Instances that leave from the old end.
use Rattle.std.proofs.Common.{◌≡◌, ◌<◌, ◌≤◌, ◌+◌, ◌-◌, ℕ, zero, suc, Bool, true, false, not, cond, ◌||◌, Option, Some, None, List, [], ◌∷◌, ◌++◌, filter, length, drop, slice_get, arith, refl, sym, ap, subst, ◌∙◌}
use Rattle.std.specs.FinMap as fm
use Rattle.row_types.specs.declared.value.Value.{Value}
use Rattle.indexed_rows.specs.Places.{IsKeyAt}
use Rattle.indexed_rows.specs.Rows.{Table, is_same}
use Rattle.indexed_rows.proofs.EntryLaws.{same_itself}
use Rattle.indexed_rows.proofs.MapLaws.{has_key}
use Rattle.instances.specs.Views.{kept_at}
use Rattle.recency.specs.Rings.{next_key}
use Rattle.session_state.specs.declared.session.Session.{Session}
use Rattle.group_store.specs.Stores.{HasRootKeys, Kept, SameButSpare, cut_store}
use Rattle.cache_tier.specs.Aging.{leaving, oldest}
use Rattle.cache_tier.specs.Groups.{is_key}
use Rattle.cache_tier.specs.Standing.{AreDistinct}
use Rattle.cache_tier.proofs.KeyListLaws.{key_append}
use Rattle.aging_cycles.specs.Busy.{is_busy_at, is_kept_by}
use Rattle.group_store.specs.Recent.{StandsAt}
use Rattle.aging_cycles.specs.Running.{cut_all}
use Rattle.aging_cycles.specs.Walking.{LeavesUnless, Passes, place_without}
use Rattle.aging_cycles.specs.declared.by_use.Step.{Step}
use Rattle.aging_cycles.proofs.KeyLists.{cut_keys}
use Rattle.aging_cycles.proofs.RootPlaces.{stands_left}
use Rattle.aging_cycles.proofs.StillHeld.{held_same, held_still}
use Rattle.aging_cycles.proofs.Walks.{apart_there, cut_end, cut_same, drop_all, leaving_few, leaving_many, next_left, next_other, no_end, oldest_full, oldest_less, oldest_more, same_two}

abbrev Row : Type 0
Row = List Value

-- each root key of a store stands once

nothing_left : (k : Row) (keys : List Row) → is_key keys k ≡ true → filter (is_same k) keys ≡ [] → true ≡ false
nothing_left k [] e h = cc
nothing_left k (q ∷ keys) e h = by (is_same k q) e h (λ x y. nothing_left k keys x y)
  where
    by : (b : Bool) → (b || is_key keys k) ≡ true → cond b (q ∷ filter (is_same k) keys) (filter (is_same k) keys) ≡ [] → (is_key keys k ≡ true → filter (is_same k) keys ≡ [] → true ≡ false) → true ≡ false
    by true x y rest = cc
    by false x y rest = rest x y

tail_of : {X : Type 0} (x y : X) (xs : List X) → x ∷ xs ≡ y ∷ [] → xs ≡ []
tail_of x y xs e = cc

once_apart : (keys : List Row) → ((k : Row) → is_key keys k ≡ true → filter (is_same k) keys ≡ k ∷ []) → AreDistinct keys
once_apart [] once = tt
once_apart (q ∷ keys) once = (first (is_key keys q) refl, once_apart keys rest)
  where
    none : filter (is_same q) keys ≡ []
    none = tail_of q q (filter (is_same q) keys) (
        sym (ap (λ b. cond b (q ∷ filter (is_same q) keys) (filter (is_same q) keys)) (same_itself q q refl))
        ∙ once q (ap (λ b. b || is_key keys q) (same_itself q q refl)))

    first : (b : Bool) → is_key keys q ≡ b → is_key keys q ≡ false
    first true e = let wrong = nothing_left q keys e none in cc
    first false e = e

    rest : (k : Row) → is_key keys k ≡ true → filter (is_same k) keys ≡ k ∷ []
    rest k e = by (is_same k q) (once k (or_later (is_same k q)))
      where
        or_later : (b : Bool) → (b || is_key keys k) ≡ true
        or_later true = refl
        or_later false = e

        by : (b : Bool) → cond b (q ∷ filter (is_same k) keys) (filter (is_same k) keys) ≡ k ∷ [] → filter (is_same k) keys ≡ k ∷ []
        by true h = let wrong = nothing_left k keys e (tail_of q k (filter (is_same k) keys) h) in cc
        by false h = h

pub keys_once : (s : Kept) → HasRootKeys s → AreDistinct s.keys
keys_once s has = once_apart s.keys (λ k e. has.once k (sym (has.are k) ∙ e))

-- one instance

pub passes_busy : (sessions : List Session) (root : Row) (s : Kept) (next : Option ℕ) → is_busy_at sessions s root ≡ true → StandsAt (kept_at s.tables 0) (next_key is_same root s.keys) next
    → Passes (is_busy_at sessions s root) root s s (record { next = next; gone = false })
passes_busy sessions root s next busy stands = record {
  gone = sym (ap not busy);
  leaves = subst (λ b. LeavesUnless b root s s) (sym busy) refl;
  next = stands;
}

pub passes_gone : (sessions : List Session) (root : Row) (s left : Kept) (at : ℕ) (next : Option ℕ) → HasRootKeys s → is_busy_at sessions s root ≡ false → IsKeyAt (fm.entries (kept_at s.tables 0)) root at
    → StandsAt (kept_at s.tables 0) (next_key is_same root s.keys) next → SameButSpare (cut_store 0 root s) left
    → Passes (is_busy_at sessions s root) root s left (record { next = place_without at next; gone = true })
passes_gone sessions root s left at next has idle here stands gone = record {
  gone = sym (ap not idle);
  leaves = subst (λ b. LeavesUnless b root s left) (sym idle) gone;
  next = stands_left s left root gone (has_key (kept_at s.tables 0) root at here) at (next_key is_same root s.keys) next here (λ q e. next_other s.keys root q (keys_once s has) e) stands;
}

-- so many have been looked at
pub record Walked (sessions : List Session) (most left n : ℕ) (s now : Kept) (next : Option ℕ) : Type 0 where
  pub out : List Row
  pub found : oldest most (is_busy_at sessions s) s.keys ≡ out ++ oldest left (is_busy_at sessions s) (drop n s.keys)
  pub gone : SameButSpare (cut_all out s) now
  pub ahead : (i : ℕ) (q : Row) → n ≤ i → slice_get s.keys i ≡ Some q → is_key out q ≡ false
  pub stands : StandsAt (kept_at now.tables 0) (slice_get s.keys n) next

pub walk_start : (sessions : List Session) (most : ℕ) (s : Kept) (next : Option ℕ) → StandsAt (kept_at s.tables 0) (slice_get s.keys 0) next → Walked sessions most most 0 s s next
walk_start sessions most s next stands = record {
  out = [];
  found = refl;
  gone = record { table = refl; key = refl; foreign = refl; layers = refl; tables = refl; keys = refl };
  ahead = λ i q le at. refl;
  stands = stands;
}

-- the key whose row is next
key_next : (rows : Table) (o : Option Row) (at : ℕ) → StandsAt rows o (Some at) → (k : Row) × (o ≡ Some k) × IsKeyAt (fm.entries rows) k at
key_next rows None at e = cc
key_next rows (Some k) at e = (k, refl, e)

-- all have been looked at, or so many have left as are to
pub walk_end : (sessions : List Session) (most left n : ℕ) (s now : Kept) (next : Option ℕ) → Walked sessions most left n s now next → drop n s.keys ≡ [] → SameButSpare (cut_all (oldest most (is_busy_at sessions s) s.keys) s) now
walk_end sessions most left n s now next w none =
    subst (λ ks. SameButSpare (cut_all ks s) now) (sym (w.found ∙ ap (λ l. w.out ++ oldest left (is_busy_at sessions s) l) none ∙ no_end w.out)) w.gone

pub walk_full : (sessions : List Session) (most left n : ℕ) (s now : Kept) (next : Option ℕ) → Walked sessions most left n s now next → left ≡ 0 → SameButSpare (cut_all (oldest most (is_busy_at sessions s) s.keys) s) now
walk_full sessions most left n s now next w none =
    subst (λ ks. SameButSpare (cut_all ks s) now) (oldest_full most left n (is_busy_at sessions s) s.keys w.out w.found none) w.gone

no_next : (rows : Table) (o : Option Row) → StandsAt rows o None → o ≡ None
no_next rows None e = refl
no_next rows (Some k) e = absurd e

past_end : {X : Type 0} (xs : List X) (n : ℕ) → slice_get xs n ≡ None → drop n xs ≡ []
past_end [] zero e = refl
past_end [] (suc n) e = refl
past_end (x ∷ xs) zero e = cc
past_end (x ∷ xs) (suc n) e = past_end xs n e

pub walk_none : (sessions : List Session) (most left n : ℕ) (s now : Kept) → Walked sessions most left n s now None → SameButSpare (cut_all (oldest most (is_busy_at sessions s) s.keys) s) now
walk_none sessions most left n s now w = walk_end sessions most left n s now None w (past_end s.keys n (no_next (kept_at now.tables 0) (slice_get s.keys n) w.stands))

pub walk_over : (sessions : List Session) (most left n : ℕ) (s now : Kept) (next : Option ℕ) → Walked sessions most left n s now next → length s.keys ≤ n → SameButSpare (cut_all (oldest most (is_busy_at sessions s) s.keys) s) now
walk_over sessions most left n s now next w le = walk_end sessions most left n s now next w (drop_all s.keys n le)

-- one more is looked at
module _ (sessions : List Session) (most left n at : ℕ) (s now new : Kept) (apart : AreDistinct s.keys) (w : Walked sessions most left n s now (Some at)) (step : Step)
    (passes : (root : Row) → IsKeyAt (fm.entries (kept_at now.tables 0)) root at → Passes (is_busy_at sessions now root) root now new step) where
  found_next : (k : Row) × (slice_get s.keys n ≡ Some k) × IsKeyAt (fm.entries (kept_at now.tables 0)) k at
  found_next = key_next (kept_at now.tables 0) (slice_get s.keys n) at w.stands

  abbrev key : Row
  key = found_next.0

  there : slice_get s.keys n ≡ Some key
  there = found_next.1

  its : Passes (is_busy_at sessions now key) key now new step
  its = passes key found_next.2

  same_busy : is_busy_at sessions now key ≡ is_busy_at sessions s key
  same_busy =
      held_same (is_kept_by sessions) (cut_all w.out s) now key w.gone
      ∙ held_still (is_kept_by sessions) w.out s key (w.ahead n key (omega arith) there)

  next_there : next_key is_same key now.keys ≡ slice_get s.keys (n + 1)
  next_there =
      ap (next_key is_same key) (w.gone.keys ∙ cut_keys w.out s)
      ∙ next_left w.out s.keys n key apart there w.ahead

  stands : StandsAt (kept_at new.tables 0) (slice_get s.keys (n + 1)) step.next
  stands = subst (λ o. StandsAt (kept_at new.tables 0) o step.next) next_there its.next

  not_true : (b : Bool) → not b ≡ false → b ≡ true
  not_true true e = refl
  not_true false e = cc

  not_false : (b : Bool) → not b ≡ true → b ≡ false
  not_false true e = cc
  not_false false e = refl

  -- it is busy
  pub walk_skips : step.gone ≡ false → (new ≡ now) × Walked sessions most left (n + 1) s new step.next
  walk_skips stays =
      let busy : is_busy_at sessions now key ≡ true = not_true _ (sym its.gone ∙ stays) in
      let same : new ≡ now = subst (λ b. LeavesUnless b key now new) busy its.leaves in (
        same,
        record {
          out = w.out;
          found = oldest_less most left n (is_busy_at sessions s) s.keys w.out w.found key there (sym same_busy ∙ busy);
          gone = subst (SameButSpare (cut_all w.out s)) (sym same) w.gone;
          ahead = λ i q le here. w.ahead i q (omega (arith, le)) here;
          stands = stands;
        },
      )

  -- it has left
  pub walk_takes : step.gone ≡ true → 0 < left → Walked sessions most (left - 1) (n + 1) s new step.next
  walk_takes leaves some =
      let idle : is_busy_at sessions now key ≡ false = not_false _ (sym its.gone ∙ leaves) in
      let cut : SameButSpare (cut_store 0 key now) new = subst (λ b. LeavesUnless b key now new) idle its.leaves in
      record {
        out = w.out ++ key ∷ [];
        found = oldest_more most left n (is_busy_at sessions s) s.keys w.out w.found key
            (w.out ++ key ∷ []) there (sym same_busy ∙ idle) some refl;
        gone = subst (λ z. SameButSpare z new) (sym (cut_end w.out key s))
            (same_two (cut_store 0 key (cut_all w.out s)) (cut_store 0 key now) new
            (cut_same key (cut_all w.out s) now w.gone) cut);
        ahead = λ i q le here. key_append w.out (key ∷ []) q
            ∙ (λ j. w.ahead i q (omega (arith, le)) here j || (other i q le here (is_same q key) refl j || false));
        stands = stands;
      }
    where
      other : (i : ℕ) (q : Row) → n + 1 ≤ i → slice_get s.keys i ≡ Some q → (b : Bool) → is_same q key ≡ b → b ≡ false
      other i q le here true e = let z = apart_there s.keys n i key q apart there here e in absurd (omega (arith, le, z))
      other i q le here false e = refl

-- few instances stay, and of many the oldest leave

pub few_leave : (high low : ℕ) (busy : Row → Bool) (s : Kept) → length s.keys ≤ high → SameButSpare (cut_all (leaving high low busy s.keys) s) s
few_leave high low busy s le =
    subst (λ ks. SameButSpare (cut_all ks s) s) (leaving_few high low busy s.keys le) (record { table = refl; key = refl; foreign = refl; layers = refl; tables = refl; keys = refl })

pub many_leave : (high low most : ℕ) (busy : Row → Bool) (s left : Kept) → high < length s.keys → most ≡ length s.keys - low → SameButSpare (cut_all (oldest most busy s.keys) s) left → SameButSpare (cut_all (leaving high low busy s.keys) s) left
many_leave high low most busy s left lt is gone =
    subst (λ ks. SameButSpare (cut_all ks s) left) (ap (λ n. oldest n busy s.keys) is ∙ leaving_many high low busy s.keys lt) gone
