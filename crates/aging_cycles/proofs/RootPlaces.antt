-- Root rows by their place in key order, where an instance leaves.
use Rattle.std.proofs.Common.{◌≡◌, ◌<◌, ◌≤◌, ◌-◌, ℕ, zero, suc, ◌⊎◌, inl, inr, Bool, true, false, T, not, cond, ◌&&◌, ◌||◌, nat_lt, Option, Some, None, List, [], ◌∷◌, filter, length, map, slice_get, lt-ltb, le-ltb, arith, refl, sym, ap, ◌∙◌}
use Rattle.std.proofs.lemmas.Bool.{cases_lt}
use Rattle.std.specs.Ordering.{is_eq, is_lt}
use Rattle.std.specs.declared.cmp.Ordering.{Ordering}
use Rattle.std.specs.declared.cmp.Ordering.TheVariants.{Less, Equal, Greater}
use Rattle.std.specs.FinMap as fm
use Rattle.std.specs.FinMap.Entries.{below_all}
use Rattle.row_types.specs.Order.{key_order}
use Rattle.row_types.specs.declared.value.Value.{Value}
use Rattle.indexed_rows.specs.Places.{IsKeyAt}
use Rattle.indexed_rows.specs.Rows.{Table, is_same}
use Rattle.indexed_rows.proofs.EntryLaws.{same_itself, same_values}
use Rattle.instances.specs.Views.{kept_at}
use Rattle.group_store.specs.Stores.{Kept, SameButSpare, cut_store}
use Rattle.group_store.specs.Trees.{leads}
use Rattle.cache_tier.specs.Groups.{is_key}
use Rattle.cache_tier.specs.Standing.{AreDistinct}
use Rattle.stored_tier.proofs.GatherLaws.{entries_kept}
use Rattle.group_store.specs.Recent.{StandsAt}
use Rattle.aging_cycles.specs.Walking.{place_without}
use Rattle.aging_cycles.proofs.KeyLists.{not_led}
use Rattle.aging_cycles.proofs.RootRows.{kept_through}
use Rattle.aging_cycles.proofs.Walks.{apart_there, not_there}

abbrev Row : Type 0
Row = List Value

-- the keys of a table are apart

both_first : (a b : Bool) → T (a && b) → T a
both_first true b p = tt
both_first false b p = p

both_second : (a b : Bool) → T (a && b) → T b
both_second true b p = p
both_second false b p = absurd p

less : (r : Ordering) → T (is_lt r) → is_eq r ≡ false
less Less p = refl
less Equal p = absurd p
less Greater p = refl

neither : (a b : Bool) → a ≡ false → b ≡ false → (a || b) ≡ false
neither true b e h = e
neither false b e h = h

above : (key : Row) (es : List (Row × Row)) → T (below_all key_order key es) → is_key (map (λ e. e.0) es) key ≡ false
above key [] h = refl
above key (e ∷ es) h = neither _ _ (less (key_order key e.0) (both_first _ _ h)) (above key es (both_second _ _ h))

rising : (es : List (Row × Row)) → T (fm.is_sorted key_order es) → AreDistinct (map (λ e. e.0) es)
rising [] h = tt
rising (e ∷ es) h = (above e.0 es (both_first _ _ h), rising es (both_second _ _ h))

pub keys_apart : (m : Table) → AreDistinct (fm.keys m)
keys_apart m = rising (fm.entries m) (fm.entries_sorted m)

-- lists without one of their elements

keys_filtered : (f : Row → Bool) (es : List (Row × Row)) → map (λ (e : Row × Row). e.0) (filter (λ (e : Row × Row). f e.0) es) ≡ filter f (map (λ (e : Row × Row). e.0) es)
keys_filtered f [] = refl
keys_filtered f (e ∷ es) = by (f e.0) (keys_filtered f es)
  where
    by : (b : Bool) → map (λ (x : Row × Row). x.0) (filter (λ (x : Row × Row). f x.0) es) ≡ filter f (map (λ (x : Row × Row). x.0) es)
        → map (λ (x : Row × Row). x.0) (cond b (e ∷ filter (λ (x : Row × Row). f x.0) es) (filter (λ (x : Row × Row). f x.0) es)) ≡ cond b (e.0 ∷ filter f (map (λ (x : Row × Row). x.0) es)) (filter f (map (λ (x : Row × Row). x.0) es))
    by true rest = ap (λ l. e.0 ∷ l) rest
    by false rest = rest

pub filter_front : {X : Type 0} (f : X → Bool) (xs : List X) (n i : ℕ) → i < n → ((j : ℕ) (x : X) → j < n → slice_get xs j ≡ Some x → f x ≡ true) → slice_get (filter f xs) i ≡ slice_get xs i
filter_front f [] n i lt all = refl
filter_front f (x ∷ xs) zero i lt all = absurd (omega (arith, lt))
filter_front f (x ∷ xs) (suc n) zero lt all = ap (λ b. slice_get (cond b (x ∷ filter f xs) (filter f xs)) 0) (all 0 x (omega arith) refl)
filter_front f (x ∷ xs) (suc n) (suc i) lt all =
    ap (λ b. slice_get (cond b (x ∷ filter f xs) (filter f xs)) (suc i)) (all 0 x (omega arith) refl)
    ∙ filter_front f xs n i (omega (arith, lt)) (λ j y le at. all (suc j) y (omega (arith, le)) at)

-- without one key
abbrev isnt : Row → Row → Bool
isnt root k = not (is_same k root)

all_there : (keys : List Row) (root : Row) → is_key keys root ≡ false → filter (isnt root) keys ≡ keys
all_there [] root e = refl
all_there (x ∷ keys) root e = by (is_same root x) refl e (λ y. all_there keys root y)
  where
    back : (b : Bool) → is_same x root ≡ b → is_same root x ≡ false → b ≡ false
    back true h f = let wrong : true ≡ false = sym (same_itself root x (sym (same_values x root h))) ∙ f in cc
    back false h f = refl

    by : (b : Bool) → is_same root x ≡ b → (b || is_key keys root) ≡ false → (is_key keys root ≡ false → filter (isnt root) keys ≡ keys) → filter (isnt root) (x ∷ keys) ≡ x ∷ keys
    by true h y rest = cc
    by false h y rest = ap (λ b. cond (not b) (x ∷ filter (isnt root) keys) (filter (isnt root) keys)) (back (is_same x root) refl h) ∙ ap (λ l. x ∷ l) (rest y)

pub without_at : (keys : List Row) (root q : Row) (at p : ℕ) → AreDistinct keys → slice_get keys at ≡ Some root → slice_get keys p ≡ Some q → is_same q root ≡ false
    → slice_get (filter (isnt root) keys) (cond (nat_lt at p) (p - 1) p) ≡ Some q
without_at [] root q at p apart here there other = cc
without_at (x ∷ keys) root q zero zero apart here there other =
    let one : x ≡ root = cc in
    let two : x ≡ q = cc in
    let wrong : true ≡ false = sym (same_itself q root (sym two ∙ one)) ∙ other in cc
without_at (x ∷ keys) root q zero (suc p) apart here there other =
    let one : x ≡ root = cc in
    let less : suc p - 1 ≡ p = omega arith in
    ap (λ b. slice_get (filter (isnt root) (x ∷ keys)) (cond b (suc p - 1) (suc p))) (lt-ltb 0 (suc p) (omega arith))
    ∙ ap (λ b. slice_get (cond (not b) (x ∷ filter (isnt root) keys) (filter (isnt root) keys)) (suc p - 1)) (same_itself x root one)
    ∙ ap (slice_get (filter (isnt root) keys)) less
    ∙ ap (λ l. slice_get l p) (all_there keys root (ap (is_key keys) (sym one) ∙ apart.0))
    ∙ there
without_at (x ∷ keys) root q (suc at) zero apart here there other =
    let two : x ≡ q = cc in
    ap (λ b. slice_get (filter (isnt root) (x ∷ keys)) (cond b (zero - 1) zero)) (le-ltb (suc at) zero (omega arith))
    ∙ ap (λ b. slice_get (cond (not b) (x ∷ filter (isnt root) keys) (filter (isnt root) keys)) 0) (ap (λ z. is_same z root) two ∙ other)
    ∙ ap Some two
without_at (x ∷ keys) root q (suc at) (suc p) apart here there other =
    ap (λ b. slice_get (cond (not b) (x ∷ filter (isnt root) keys) (filter (isnt root) keys)) (cond (nat_lt (suc at) (suc p)) (suc p - 1) (suc p))) (unlike (is_same x root) refl)
    ∙ by (cases_lt at p) ∙ without_at keys root q at p apart.1 here there other
  where
    unlike : (b : Bool) → is_same x root ≡ b → b ≡ false
    unlike true h = let wrong : true ≡ false = sym (not_there keys at root here) ∙ ap (is_key keys) (sym (same_values x root h)) ∙ apart.0 in cc
    unlike false h = refl

    pred : (n : ℕ) → at < n → suc n - 1 ≡ suc (n - 1)
    pred n lt = omega (arith, lt)

    by : (at < p) ⊎ (p ≤ at) → slice_get (x ∷ filter (isnt root) keys) (cond (nat_lt (suc at) (suc p)) (suc p - 1) (suc p)) ≡ slice_get (filter (isnt root) keys) (cond (nat_lt at p) (p - 1) p)
    by (inl lt) =
        ap (λ b. slice_get (x ∷ filter (isnt root) keys) (cond b (suc p - 1) (suc p))) (lt-ltb (suc at) (suc p) (omega (arith, lt)))
        ∙ ap (slice_get (x ∷ filter (isnt root) keys)) (pred p lt)
        ∙ sym (ap (λ b. slice_get (filter (isnt root) keys) (cond b (p - 1) p)) (lt-ltb at p lt))
    by (inr le) =
        ap (λ b. slice_get (x ∷ filter (isnt root) keys) (cond b (suc p - 1) (suc p))) (le-ltb (suc at) (suc p) (omega (arith, le)))
        ∙ sym (ap (λ b. slice_get (filter (isnt root) keys) (cond b (p - 1) p)) (le-ltb at p le))

-- a store without the instance of a root that it had

module _ (s left : Kept) (root : Row) (gone : SameButSpare (cut_store 0 root s) left) (has : fm.contains_key (kept_at s.tables 0) root ≡ true) where
  stays : (k : Row) → not (leads s.layers s.tables 0 root (length s.layers) 0 k) ≡ isnt root k
  stays k = ap not (not_led s root k ∙ by (is_same k root))
    where
      by : (b : Bool) → (b && fm.contains_key (kept_at s.tables 0) root) ≡ b
      by true = has
      by false = refl

  pub entries_left : fm.entries (kept_at left.tables 0) ≡ filter (λ (e : Row × Row). isnt root e.0) (fm.entries (kept_at s.tables 0))
  entries_left =
      ap (λ ts. fm.entries (kept_at ts 0)) gone.tables
      ∙ ap (λ (m : Table). fm.entries m) (kept_through (λ place k. not (leads s.layers s.tables 0 root (length s.layers) place k)) s.tables 0)
      ∙ entries_kept (kept_at s.tables 0) (λ k. not (leads s.layers s.tables 0 root (length s.layers) 0 k))
      ∙ ap (λ (f : Row → Bool). filter (λ (e : Row × Row). f e.0) (fm.entries (kept_at s.tables 0))) (λ i k. stays k i)

  -- another key stands where it stood, or a place before
  pub stands_left : (at : ℕ) (o : Option Row) (place : Option ℕ) → IsKeyAt (fm.entries (kept_at s.tables 0)) root at → ((q : Row) → o ≡ Some q → is_same q root ≡ false)
      → StandsAt (kept_at s.tables 0) o place → StandsAt (kept_at left.tables 0) o (place_without at place)
  stands_left at None None here other none = refl
  stands_left at None (Some p) here other none = cc
  stands_left at (Some q) None here other there = there
  stands_left at (Some q) (Some p) here other there = by (nat_lt at p) refl
    where
      all : slice_get (map (λ (e : Row × Row). e.0) (fm.entries (kept_at left.tables 0))) (cond (nat_lt at p) (p - 1) p) ≡ Some q
      all =
          ap (λ es. slice_get (map (λ (e : Row × Row). e.0) es) (cond (nat_lt at p) (p - 1) p)) entries_left
          ∙ ap (λ l. slice_get l (cond (nat_lt at p) (p - 1) p)) (keys_filtered (isnt root) (fm.entries (kept_at s.tables 0)))
          ∙ without_at (fm.keys (kept_at s.tables 0)) root q at p (keys_apart (kept_at s.tables 0)) here there (other q refl)

      by : (b : Bool) → nat_lt at p ≡ b → StandsAt (kept_at left.tables 0) (Some q) (cond b (Some (p - 1)) (Some p))
      by true e = sym (ap (λ b. slice_get (map (λ (x : Row × Row). x.0) (fm.entries (kept_at left.tables 0))) (cond b (p - 1) p)) e) ∙ all
      by false e = sym (ap (λ b. slice_get (map (λ (x : Row × Row). x.0) (fm.entries (kept_at left.tables 0))) (cond b (p - 1) p)) e) ∙ all

  -- those before it stand where they stood
  pub front_left : (at i : ℕ) → IsKeyAt (fm.entries (kept_at s.tables 0)) root at → i < at → slice_get (fm.entries (kept_at left.tables 0)) i ≡ slice_get (fm.entries (kept_at s.tables 0)) i
  front_left at i here lt =
      ap (λ es. slice_get es i) entries_left
      ∙ filter_front (λ (e : Row × Row). isnt root e.0) (fm.entries (kept_at s.tables 0)) at i lt (λ j e le there. ap not (by j e le there (is_same e.0 root) refl))
    where
      key_there : (es : List (Row × Row)) (j : ℕ) (e : Row × Row) → slice_get es j ≡ Some e → slice_get (map (λ (x : Row × Row). x.0) es) j ≡ Some e.0
      key_there [] j e h = cc
      key_there (x ∷ es) zero e h = let same : x ≡ e = cc in ap (λ (y : Row × Row). Some y.0) same
      key_there (x ∷ es) (suc j) e h = key_there es j e h

      by : (j : ℕ) (e : Row × Row) → j < at → slice_get (fm.entries (kept_at s.tables 0)) j ≡ Some e → (b : Bool) → is_same e.0 root ≡ b → b ≡ false
      by j e le there true h = let z = apart_there (fm.keys (kept_at s.tables 0)) at j root e.0 (keys_apart (kept_at s.tables 0)) here (key_there (fm.entries (kept_at s.tables 0)) j e there) h in absurd (omega (arith, le, z))
      by j e le there false h = refl
