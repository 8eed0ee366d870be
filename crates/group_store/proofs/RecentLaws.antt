-- Recent slots, and the keys of the rows in them.
use Rattle.std.proofs.Common.{◌≡◌, ◌<◌, ℕ, zero, suc, Bool, true, false, not, cond, ◌&&◌, ◌||◌, List, [], ◌∷◌, ◌++◌, map, filter, nat_eq, slice_get, Option, Some, None, is_some, unwrap_or, refl, sym, ap, subst, ◌∙◌, eq-eqb, eqb-true, length, arith, Result, Ok, Err, IsOk, OnOk}
use Rattle.std.specs.List.{list_any}
use Rattle.std.specs.Option.{option_and_then, option_map}
use Rattle.std.specs.Ordering.{eq_by_cmp, is_eq, nat_cmp}
use Rattle.std.proofs.lemmas.Cmp.{nat_cmp_total, tied_itself}
use Rattle.std.specs.FinMap as fm
use Rattle.slot_rows.specs.row_types.specs.declared.value.Value.{Value}
use Rattle.slot_rows.specs.row_types.specs.Order.{key_order}
use Rattle.slot_rows.specs.row_types.proofs.OrderLaws.{key_exact, key_total}
use Rattle.slot_rows.specs.indexed_rows.specs.Rows.{Table, is_same}
use Rattle.slot_rows.specs.indexed_rows.proofs.EntryLaws.{same_values}
use Rattle.slot_rows.specs.indexed_rows.specs.Places.{IsKeyAt}
use Rattle.slot_rows.specs.indexed_rows.proofs.MapLaws.{slice_get_map}
use Rattle.cache_store.specs.recency.specs.Rings.{keys_without, next_key, touched}
use Rattle.slot_rows.specs.SlotKeys.{IsPlaceOf, RowsHeld, SlotKeys}
use Rattle.slot_rows.proofs.SlotKeyLaws.{number_itself, same_number}
use Rattle.cache_store.specs.Tying.{HasOwnKey}
use Rattle.cache_store.proofs.TieLaws.{ties_keys}
use Rattle.group_store.specs.Recent.{AreOnce, AreRecent, IsRowPlace, key_in, keys_of}

abbrev Row : Type 0
Row = List Value

pub same_itself : (k : Row) → is_same k k ≡ true
same_itself k = ap is_eq (tied_itself key_total k)

abbrev pub any : ℕ → List ℕ → Bool
any s xs = list_any (nat_eq s) xs

unsigned_tied : (x y : ℕ) → eq_by_cmp nat_cmp x y ≡ nat_eq x y
unsigned_tied x y = by (nat_eq x y) refl
  where
    other : (b : Bool) → eq_by_cmp nat_cmp x y ≡ b → nat_eq x y ≡ false → eq_by_cmp nat_cmp x y ≡ false
    other true r e = let z : true ≡ false = sym (eq-eqb x y (same_number x y r)) ∙ e in cc
    other false r e = r

    by : (b : Bool) → nat_eq x y ≡ b → eq_by_cmp nat_cmp x y ≡ nat_eq x y
    by true e = ap (eq_by_cmp nat_cmp x) (sym (eqb-true x y e)) ∙ number_itself x ∙ sym e
    by false e = other (eq_by_cmp nat_cmp x y) refl e ∙ sym e

or_true : (b : Bool) → (b || true) ≡ true
or_true true = refl
or_true false = refl

pub member : (xs : List ℕ) (i s : ℕ) → slice_get xs i ≡ Some s → any s xs ≡ true
member [] i s at = cc
member (x ∷ xs) zero s at = let z : x ≡ s = cc in ap (λ b. b || any s xs) (eq-eqb s x (sym z))
member (x ∷ xs) (suc i) s at = ap (λ b. nat_eq s x || b) (member xs i s at) ∙ or_true (nat_eq s x)

pub has_some : {X : Type 0} (o : Option X) → is_some o ≡ true → (x : X) × (o ≡ Some x)
has_some None e = cc
has_some (Some x) e = (x, refl)

pub in_slot : (slots : SlotKeys) (s : ℕ) (k : Row) → fm.get slots s ≡ Some k → key_in slots s ≡ k
in_slot slots s k e = ap (λ o. unwrap_or o []) e

pub map_append : (f : ℕ → Row) (xs ys : List ℕ) → map f (xs ++ ys) ≡ map f xs ++ map f ys
map_append f [] ys = refl
map_append f (x ∷ xs) ys = ap (λ l. f x ∷ l) (map_append f xs ys)

map_alike : (f g : ℕ → Row) (xs : List ℕ) → ((i s : ℕ) → slice_get xs i ≡ Some s → f s ≡ g s) → map f xs ≡ map g xs
map_alike f g [] h = refl
map_alike f g (x ∷ xs) h = let first = h 0 x refl in let rest = map_alike f g xs (λ i s at. h (suc i) s at) in λ i. first i ∷ rest i

map_got : (f : ℕ → Row) (xs : List ℕ) (i : ℕ) (k : Row) → slice_get (map f xs) i ≡ Some k → (s : ℕ) × (slice_get xs i ≡ Some s) × (f s ≡ k)
map_got f [] i k at = cc
map_got f (x ∷ xs) zero k at = (x, refl, (let z : f x ≡ k = cc in z))
map_got f (x ∷ xs) (suc i) k at = map_got f xs i k at

-- a test of each, and of some
or_swap : (a b c d : Bool) → (a || b) ≡ d → (a || (c || b)) ≡ (c || d)
or_swap true b true d e = refl
or_swap true b false d e = e
or_swap false b c d e = ap (λ x. c || x) e

or_first : (a b c d : Bool) → (a || b) ≡ d → ((c || a) || b) ≡ (c || d)
or_first a b true d e = refl
or_first a b false d e = e

module _ (p q : ℕ → Bool) where
  any_split : (xs : List ℕ) → (list_any p (filter (λ o. not (q o)) xs) || list_any p (filter q xs)) ≡ list_any p xs
  any_split [] = refl
  any_split (x ∷ xs) = by (q x) refl (any_split xs)
    where
      by : (b : Bool) → q x ≡ b → (list_any p (filter (λ o. not (q o)) xs) || list_any p (filter q xs)) ≡ list_any p xs → (list_any p (filter (λ o. not (q o)) (x ∷ xs)) || list_any p (filter q (x ∷ xs))) ≡ (p x || list_any p xs)
      by true e rest = ap (λ b. list_any p (cond (not b) (x ∷ filter (λ o. not (q o)) xs) (filter (λ o. not (q o)) xs)) || list_any p (cond b (x ∷ filter q xs) (filter q xs))) e
          ∙ or_swap (list_any p (filter (λ o. not (q o)) xs)) (list_any p (filter q xs)) (p x) (list_any p xs) rest
      by false e rest = ap (λ b. list_any p (cond (not b) (x ∷ filter (λ o. not (q o)) xs) (filter (λ o. not (q o)) xs)) || list_any p (cond b (x ∷ filter q xs) (filter q xs))) e
          ∙ or_first (list_any p (filter (λ o. not (q o)) xs)) (list_any p (filter q xs)) (p x) (list_any p xs) rest

pub any_append : (p : ℕ → Bool) (xs ys : List ℕ) → list_any p (xs ++ ys) ≡ (list_any p xs || list_any p ys)
any_append p [] ys = refl
any_append p (x ∷ xs) ys = ap (λ b. p x || b) (any_append p xs ys) ∙ assoc (p x) (list_any p xs) (list_any p ys)
  where
    assoc : (a b c : Bool) → (a || (b || c)) ≡ ((a || b) || c)
    assoc true b c = refl
    assoc false b c = refl

any_touched : (s slot : ℕ) (xs : List ℕ) → any s (touched nat_eq slot xs) ≡ any s xs
any_touched s slot xs = any_append (nat_eq s) (keys_without nat_eq slot xs) (filter (nat_eq slot) xs) ∙ any_split (nat_eq s) (nat_eq slot) xs

pub any_without : (s slot : ℕ) (xs : List ℕ) → any s (keys_without nat_eq slot xs) ≡ (any s xs && not (nat_eq s slot))
any_without s slot [] = refl
any_without s slot (x ∷ xs) = by (nat_eq slot x) refl (any_without s slot xs)
  where
    gone : (d a : Bool) → (a && not d) ≡ ((d || a) && not d)
    gone true true = refl
    gone true false = refl
    gone false a = refl

    stays : (c d a : Bool) → (c ≡ true → d ≡ true → ⊥) → (c || (a && not d)) ≡ ((c || a) && not d)
    stays true true a h = absurd (h refl refl)
    stays true false a h = refl
    stays false d a h = refl

    by : (b : Bool) → nat_eq slot x ≡ b → any s (keys_without nat_eq slot xs) ≡ (any s xs && not (nat_eq s slot)) → any s (keys_without nat_eq slot (x ∷ xs)) ≡ ((nat_eq s x || any s xs) && not (nat_eq s slot))
    by true e rest = ap (λ b. any s (cond (not b) (x ∷ keys_without nat_eq slot xs) (keys_without nat_eq slot xs))) e ∙ rest ∙ gone (nat_eq s slot) (any s xs) ∙ ap (λ t. (nat_eq s t || any s xs) && not (nat_eq s slot)) (eqb-true slot x e)
    by false e rest = ap (λ b. any s (cond (not b) (x ∷ keys_without nat_eq slot xs) (keys_without nat_eq slot xs))) e ∙ ap (λ a. nat_eq s x || a) rest
        ∙ stays (nat_eq s x) (nat_eq s slot) (any s xs) (λ c d. let z : true ≡ false = sym (eq-eqb slot x (sym (eqb-true s slot d) ∙ eqb-true s x c)) ∙ e in cc)

-- keys by slot, with one more or one less
has_more : (slots : SlotKeys) (slot : ℕ) (k : Row) (s : ℕ) → fm.contains_key (fm.insert slots slot k) s ≡ (fm.contains_key slots s || (nat_eq s slot || false))
has_more slots slot k s = ap is_some (fm.get-insert nat_cmp_total slots slot k s ∙ ap (λ b. cond b (Some k) (fm.get slots s)) (unsigned_tied s slot)) ∙ by (nat_eq s slot) (fm.get slots s)
  where
    by : (b : Bool) (o : Option Row) → is_some (cond b (Some k) o) ≡ (is_some o || (b || false))
    by true None = refl
    by true (Some x) = refl
    by false None = refl
    by false (Some x) = refl

has_less : (slots : SlotKeys) (slot s : ℕ) → fm.contains_key (fm.remove slots slot) s ≡ (fm.contains_key slots s && not (nat_eq s slot))
has_less slots slot s = ap is_some (fm.get-remove nat_cmp_total slots slot s ∙ ap (λ b. cond b None (fm.get slots s)) (unsigned_tied s slot)) ∙ by (nat_eq s slot) (fm.get slots s)
  where
    by : (b : Bool) (o : Option Row) → is_some (cond b None o) ≡ (is_some o && not b)
    by true None = refl
    by true (Some x) = refl
    by false None = refl
    by false (Some x) = refl

-- what a filter keeps passes
passes : (q : ℕ → Bool) (xs : List ℕ) (i s : ℕ) → slice_get (filter q xs) i ≡ Some s → q s ≡ true
passes q [] i s at = cc
passes q (x ∷ xs) i s at = by (q x) refl i at (λ j h. passes q xs j s h)
  where
    by : (b : Bool) → q x ≡ b → (i : ℕ) → slice_get (cond b (x ∷ filter q xs) (filter q xs)) i ≡ Some s → ((j : ℕ) → slice_get (filter q xs) j ≡ Some s → q s ≡ true) → q s ≡ true
    by true e zero at rest = let z : x ≡ s = cc in ap q (sym z) ∙ e
    by true e (suc i) at rest = rest i at
    by false e i at rest = rest i at

nothing_moves : (key : Row) (keys : List Row) → ((i : ℕ) (k : Row) → slice_get keys i ≡ Some k → is_same key k ≡ false) → keys_without is_same key keys ≡ keys
nothing_moves key [] h = refl
nothing_moves key (k ∷ keys) h = ap (λ b. cond (not b) (k ∷ keys_without is_same key keys) (keys_without is_same key keys)) (h 0 k refl) ∙ ap (λ l. k ∷ l) (nothing_moves key keys (λ i x at. h (suc i) x at))

nothing_found : (key : Row) (keys : List Row) → ((i : ℕ) (k : Row) → slice_get keys i ≡ Some k → is_same key k ≡ false) → filter (is_same key) keys ≡ []
nothing_found key [] h = refl
nothing_found key (k ∷ keys) h = ap (λ b. cond b (k ∷ filter (is_same key) keys) (filter (is_same key) keys)) (h 0 k refl) ∙ nothing_found key keys (λ i x at. h (suc i) x at)

append_none : (xs : List Row) → xs ++ [] ≡ xs
append_none [] = refl
append_none (x ∷ xs) = ap (λ l. x ∷ l) (append_none xs)

module _ (slots : SlotKeys) (recent : List ℕ) (are : AreRecent slots recent) where
  pub of_recent : (i s : ℕ) → slice_get recent i ≡ Some s → (k : Row) × (fm.get slots s ≡ Some k)
  of_recent i s at = has_some (fm.get slots s) (sym (are s) ∙ member recent i s at)

  module _ (key : Row) where
    -- a key that has a slot has it alone
    pub own_key : (slot : ℕ) → fm.get slots slot ≡ Some key → ((other : ℕ) → fm.get slots other ≡ Some key → Some slot ≡ Some other) → HasOwnKey (key_in slots) recent slot
    own_key slot e only i other at =
        let o = of_recent i other at in
        ap (λ k. is_same k (key_in slots other)) (in_slot slots slot key e) ∙ ap (is_same key) (in_slot slots other o.0 o.1) ∙ by (is_same key o.0) o.0 o.1 refl
      where
        absurd_by : (k : Row) → fm.get slots other ≡ Some k → is_same key k ≡ false → (b : Bool) → nat_eq slot other ≡ b → false ≡ b
        absurd_by k f r true t =
            let same : Some key ≡ Some k = sym e ∙ ap (fm.get slots) (eqb-true slot other t) ∙ f in
            let z : key ≡ k = cc in
            sym r ∙ ap (is_same key) (sym z) ∙ same_itself key
        absurd_by k f r false t = refl

        by : (b : Bool) (k : Row) → fm.get slots other ≡ Some k → is_same key k ≡ b → is_same key k ≡ nat_eq slot other
        by true k f r =
            let w : Some slot ≡ Some other = only other (f ∙ ap Some (sym (same_values key k r))) in
            let z : slot ≡ other = cc in r ∙ sym (eq-eqb slot other z)
        by false k f r = r ∙ absurd_by k f r (nat_eq slot other) refl

    -- no recent key is one that has no slot
    none_same : ((other : ℕ) → fm.get slots other ≡ Some key → ⊥) → (i : ℕ) (k : Row) → slice_get (keys_of slots recent) i ≡ Some k → is_same key k ≡ false
    none_same none i k at =
        let s = map_got (key_in slots) recent i k at in
        let o = of_recent i s.0 s.1 in
        by s.0 (o.1 ∙ ap Some (sym (in_slot slots s.0 o.0 o.1) ∙ s.2)) (is_same key k) refl
      where
        by : (s : ℕ) → fm.get slots s ≡ Some k → (b : Bool) → is_same key k ≡ b → is_same key k ≡ false
        by s e true r = absurd (none s (e ∙ ap Some (sym (same_values key k r))))
        by s e false r = r

    module _ (none : (other : ℕ) → fm.get slots other ≡ Some key → ⊥) where
      pub untouched : keys_of slots recent ≡ touched is_same key (keys_of slots recent)
      untouched =
          let one = nothing_moves key (keys_of slots recent) (none_same none) in
          let two = nothing_found key (keys_of slots recent) (none_same none) in
          sym (append_none (keys_of slots recent)) ∙ sym (λ i. one i ++ two i)

      pub not_left : keys_of slots recent ≡ keys_without is_same key (keys_of slots recent)
      not_left = sym (nothing_moves key (keys_of slots recent) (none_same none))

      pub no_next : next_key is_same key (keys_of slots recent) ≡ None
      no_next = by (keys_of slots recent) (none_same none)
        where
          by : (keys : List Row) → ((i : ℕ) (k : Row) → slice_get keys i ≡ Some k → is_same key k ≡ false) → next_key is_same key keys ≡ None
          by [] h = refl
          by (k ∷ keys) h = ap (λ b. cond b (slice_get keys 0) (next_key is_same key keys)) (h 0 k refl) ∙ by keys (λ i x at. h (suc i) x at)

    module _ (slot : ℕ) (e : fm.get slots slot ≡ Some key) (only : (other : ℕ) → fm.get slots other ≡ Some key → Some slot ≡ Some other) where
      pub touched_keys : keys_of slots (touched nat_eq slot recent) ≡ touched is_same key (keys_of slots recent)
      touched_keys = (ties_keys (key_in slots) recent slot (own_key slot e only)).0 ∙ ap (λ k. touched is_same k (keys_of slots recent)) (in_slot slots slot key e)

      pub left_keys : keys_of (fm.remove slots slot) (keys_without nat_eq slot recent) ≡ keys_without is_same key (keys_of slots recent)
      left_keys =
          map_alike (key_in (fm.remove slots slot)) (key_in slots) (keys_without nat_eq slot recent) (λ i s at. ap (λ o. unwrap_or o []) (fm.get-remove nat_cmp_total slots slot s ∙ ap (λ b. cond b None (fm.get slots s)) (unsigned_tied s slot ∙ apart i s at)))
          ∙ (ties_keys (key_in slots) recent slot (own_key slot e only)).1 ∙ ap (λ k. keys_without is_same k (keys_of slots recent)) (in_slot slots slot key e)
        where
          apart : (i s : ℕ) → slice_get (keys_without nat_eq slot recent) i ≡ Some s → nat_eq s slot ≡ false
          apart i s at = by (nat_eq s slot) refl (passes (λ o. not (nat_eq slot o)) recent i s at)
            where
              by : (b : Bool) → nat_eq s slot ≡ b → not (nat_eq slot s) ≡ true → nat_eq s slot ≡ false
              by true t h = let z : false ≡ true = ap not (sym (eq-eqb slot s (sym (eqb-true s slot t)))) ∙ h in cc
              by false t h = t

      next_keys : (xs : List ℕ) → HasOwnKey (key_in slots) xs slot → next_key is_same (key_in slots slot) (keys_of slots xs) ≡ option_map (key_in slots) (next_key nat_eq slot xs)
      next_keys [] own = refl
      next_keys (x ∷ xs) own = ap (λ b. cond b (slice_get (keys_of slots xs) 0) (next_key is_same (key_in slots slot) (keys_of slots xs))) (own 0 x refl) ∙ by (nat_eq slot x) (next_keys xs (λ i o at. own (suc i) o at))
        where
          head : (ys : List ℕ) → slice_get (keys_of slots ys) 0 ≡ option_map (key_in slots) (slice_get ys 0)
          head [] = refl
          head (y ∷ ys) = refl

          by : (b : Bool) → next_key is_same (key_in slots slot) (keys_of slots xs) ≡ option_map (key_in slots) (next_key nat_eq slot xs) → cond b (slice_get (keys_of slots xs) 0) (next_key is_same (key_in slots slot) (keys_of slots xs)) ≡ option_map (key_in slots) (cond b (slice_get xs 0) (next_key nat_eq slot xs))
          by true rest = head xs
          by false rest = rest

      pub next_is : next_key is_same key (keys_of slots recent) ≡ option_map (key_in slots) (next_key nat_eq slot recent)
      next_is = ap (λ k. next_key is_same k (keys_of slots recent)) (sym (in_slot slots slot key e)) ∙ next_keys recent (own_key slot e only)

  pub next_there : (slot s : ℕ) (xs : List ℕ) → next_key nat_eq slot xs ≡ Some s → (i : ℕ) × (slice_get xs i ≡ Some s)
  next_there slot s [] e = cc
  next_there slot s (x ∷ xs) e = by (nat_eq slot x) e (next_there slot s xs)
    where
      by : (b : Bool) → cond b (slice_get xs 0) (next_key nat_eq slot xs) ≡ Some s → (next_key nat_eq slot xs ≡ Some s → (i : ℕ) × (slice_get xs i ≡ Some s)) → (i : ℕ) × (slice_get (x ∷ xs) i ≡ Some s)
      by true e rest = (1, e)
      by false e rest = let r = rest e in (suc r.0, r.1)

  -- the row in a recent slot
  module _ (table : Table) (r : Option Row) where
    row_of : (i s : ℕ) → slice_get recent i ≡ Some s → ((k : Row) → fm.get slots s ≡ Some k → r ≡ fm.get table k) → r ≡ fm.get table (key_in slots s)
    row_of i s at row = let o = of_recent i s at in row o.0 o.1 ∙ ap (fm.get table) (sym (in_slot slots s o.0 o.1))

    pub first_row : (s : ℕ) → slice_get recent 0 ≡ Some s → ((k : Row) → fm.get slots s ≡ Some k → r ≡ fm.get table k) → r ≡ option_and_then (fm.get table) (slice_get (keys_of slots recent) 0)
    first_row s at row = row_of 0 s at row ∙ sym (ap (option_and_then (fm.get table)) (slice_get_map (key_in slots) recent 0 s at))

    pub next_row : (key : Row) (slot s : ℕ) → fm.get slots slot ≡ Some key → ((other : ℕ) → fm.get slots other ≡ Some key → Some slot ≡ Some other) → next_key nat_eq slot recent ≡ Some s
        → ((k : Row) → fm.get slots s ≡ Some k → r ≡ fm.get table k) → r ≡ option_and_then (fm.get table) (next_key is_same key (keys_of slots recent))
    next_row key slot s e only next row =
        let i = next_there slot s recent next in
        row_of i.0 s i.1 row ∙ sym (ap (option_and_then (fm.get table)) (next_is key slot e only ∙ ap (option_map (key_in slots)) next))

  pub no_first : slice_get recent 0 ≡ None → slice_get (keys_of slots recent) 0 ≡ None
  no_first e = by recent e
    where
      by : (xs : List ℕ) → slice_get xs 0 ≡ None → slice_get (keys_of slots xs) 0 ≡ None
      by [] e = refl
      by (x ∷ xs) e = cc

  pub left_recent : (slot : ℕ) → AreRecent (fm.remove slots slot) (keys_without nat_eq slot recent)
  left_recent slot s = any_without s slot recent ∙ ap (λ b. b && not (nat_eq s slot)) (are s) ∙ sym (has_less slots slot s)

  pub touched_recent : (slot : ℕ) → AreRecent slots (touched nat_eq slot recent)
  touched_recent slot s = any_touched s slot recent ∙ are s

  -- a slot that had no row has one
  module _ (slot : ℕ) (key : Row) (free : fm.get slots slot ≡ None) where
    pub not_recent : any slot recent ≡ false
    not_recent = are slot ∙ ap is_some free

    apart : (i s : ℕ) → slice_get recent i ≡ Some s → nat_eq s slot ≡ false
    apart i s at = by (nat_eq s slot) refl
      where
        by : (b : Bool) → nat_eq s slot ≡ b → nat_eq s slot ≡ false
        by true t = let z : true ≡ false = sym (member recent i s at) ∙ ap (λ x. any x recent) (eqb-true s slot t) ∙ not_recent in cc
        by false t = t

    pub more_keys : keys_of (fm.insert slots slot key) (recent ++ slot ∷ []) ≡ keys_of slots recent ++ key ∷ []
    more_keys =
        let old = map_alike (key_in (fm.insert slots slot key)) (key_in slots) recent (λ i s at. ap (λ o. unwrap_or o []) (fm.get-insert nat_cmp_total slots slot key s ∙ ap (λ b. cond b (Some key) (fm.get slots s)) (unsigned_tied s slot ∙ apart i s at))) in
        let new : key_in (fm.insert slots slot key) slot ≡ key = ap (λ o. unwrap_or o []) (fm.get-insert nat_cmp_total slots slot key slot ∙ ap (λ b. cond b (Some key) (fm.get slots slot)) (unsigned_tied slot slot ∙ eq-eqb slot slot refl)) in
        map_append (key_in (fm.insert slots slot key)) recent (slot ∷ []) ∙ (λ i. old i ++ new i ∷ [])

    pub more_recent : AreRecent (fm.insert slots slot key) (recent ++ slot ∷ [])
    more_recent s = any_append (nat_eq s) recent (slot ∷ []) ∙ ap (λ b. b || (nat_eq s slot || false)) (are s) ∙ sym (has_more slots slot key s)

-- the keys are those of the table that the slots are of
module _ (slots : SlotKeys) (recent : List ℕ) (are : AreRecent slots recent) (table : Table) where
  found_key : (xs : List ℕ) (s : ℕ) (k : Row) → any s xs ≡ true → key_in slots s ≡ k → list_any (is_same k) (map (key_in slots) xs) ≡ true
  found_key [] s k e is = cc
  found_key (x ∷ xs) s k e is = by (nat_eq s x) refl e (found_key xs s k)
    where
      by : (b : Bool) → nat_eq s x ≡ b → (b || any s xs) ≡ true → (any s xs ≡ true → key_in slots s ≡ k → list_any (is_same k) (map (key_in slots) xs) ≡ true)
          → (is_same k (key_in slots x) || list_any (is_same k) (map (key_in slots) xs)) ≡ true
      by true p e rest = ap (λ b. b || list_any (is_same k) (map (key_in slots) xs)) (ap (λ t. is_same k (key_in slots t)) (sym (eqb-true s x p)) ∙ ap (is_same k) is ∙ same_itself k)
      by false p e rest = ap (λ b. is_same k (key_in slots x) || b) (rest e is) ∙ or_true (is_same k (key_in slots x))

  slot_with : (xs : List ℕ) (k : Row) → ((i s : ℕ) → slice_get xs i ≡ Some s → (q : Row) × (fm.get slots s ≡ Some q)) → list_any (is_same k) (map (key_in slots) xs) ≡ true → (s : ℕ) × (fm.get slots s ≡ Some k)
  slot_with [] k each e = cc
  slot_with (x ∷ xs) k each e = by (is_same k (key_in slots x)) refl e (slot_with xs k (λ i s at. each (suc i) s at))
    where
      by : (b : Bool) → is_same k (key_in slots x) ≡ b → (b || list_any (is_same k) (map (key_in slots) xs)) ≡ true → (list_any (is_same k) (map (key_in slots) xs) ≡ true → (s : ℕ) × (fm.get slots s ≡ Some k)) → (s : ℕ) × (fm.get slots s ≡ Some k)
      by true p e rest =
          let q = each 0 x refl in
          (x, q.1 ∙ ap Some (sym (same_values k q.0 (ap (is_same k) (sym (in_slot slots x q.0 q.1)) ∙ p))))
      by false p e rest = rest e

  pub recent_keys : ((slot : ℕ) (key : Row) → fm.get slots slot ≡ Some key → fm.contains_key table key ≡ true) → ((key : Row) → fm.contains_key table key ≡ true → (slot : ℕ) × (fm.get slots slot ≡ Some key))
      → (k : Row) → list_any (is_same k) (keys_of slots recent) ≡ fm.contains_key table k
  recent_keys row slot k = by (fm.contains_key table k) refl
    where
      other : (a : Bool) → list_any (is_same k) (keys_of slots recent) ≡ a → fm.contains_key table k ≡ false → list_any (is_same k) (keys_of slots recent) ≡ false
      other true p e = let s = slot_with recent k (of_recent slots recent are) p in let z : true ≡ false = sym (row s.0 k s.1) ∙ e in cc
      other false p e = p

      by : (b : Bool) → fm.contains_key table k ≡ b → list_any (is_same k) (keys_of slots recent) ≡ fm.contains_key table k
      by true e = let s = slot k e in found_key recent s.0 k (are s.0 ∙ ap is_some s.1) (in_slot slots s.0 k s.1) ∙ sym e
      by false e = other (list_any (is_same k) (keys_of slots recent)) refl e ∙ sym e

-- each of them once
pub recent_once : (slots : SlotKeys) (recent : List ℕ) → AreRecent slots recent → AreOnce recent → ((key : Row) (slot other : ℕ) → fm.get slots slot ≡ Some key → fm.get slots other ≡ Some key → slot ≡ other)
    → (k : Row) (slot : ℕ) → fm.get slots slot ≡ Some k → filter (is_same k) (keys_of slots recent) ≡ k ∷ []
recent_once slots recent are once only k slot e =
    let own = own_key slots recent are k slot e (λ other f. ap Some (only k slot other e f)) in
    let there : any slot recent ≡ true = are slot ∙ ap is_some e in
    ap (λ q. filter (is_same q) (keys_of slots recent)) (sym (in_slot slots slot k e))
    ∙ sym (keys_filtered (key_in slots) (is_same (key_in slots slot)) (nat_eq slot) recent own)
    ∙ ap (map (key_in slots)) (once slot ∙ ap (λ b. cond b (slot ∷ []) []) there)
    ∙ ap (λ q. q ∷ []) (in_slot slots slot k e)
  where
    keys_filtered : (f : ℕ → Row) (t : Row → Bool) (u : ℕ → Bool) (xs : List ℕ) → ((i x : ℕ) → slice_get xs i ≡ Some x → t (f x) ≡ u x) → map f (filter u xs) ≡ filter t (map f xs)
    keys_filtered f t u [] h = refl
    keys_filtered f t u (x ∷ xs) h = by (u x) refl (h 0 x refl) (keys_filtered f t u xs (λ i y at. h (suc i) y at))
      where
        by : (b : Bool) → u x ≡ b → t (f x) ≡ u x → map f (filter u xs) ≡ filter t (map f xs) → map f (cond (u x) (x ∷ filter u xs) (filter u xs)) ≡ cond (t (f x)) (f x ∷ filter t (map f xs)) (filter t (map f xs))
        by true is same rest = ap (λ b. map f (cond b (x ∷ filter u xs) (filter u xs))) is ∙ ap (λ l. f x ∷ l) rest ∙ sym (ap (λ b. cond b (f x ∷ filter t (map f xs)) (filter t (map f xs))) (same ∙ is))
        by false is same rest = ap (λ b. map f (cond b (x ∷ filter u xs) (filter u xs))) is ∙ rest ∙ sym (ap (λ b. cond b (f x ∷ filter t (map f xs)) (filter t (map f xs))) (same ∙ is))

pub sure : {A E P : Type 0} (r : Result A E) → OnOk r P → IsOk r → P
sure (Ok x) h k = h
sure (Err e) h k = let z : false ≡ true = k in cc

pub key_there : (m : Table) (i : ℕ) → i < fm.len m → (k : Row) × IsKeyAt (fm.entries m) k i
key_there m i h = by (fm.entries m) i (subst (λ n. i < n) (fm.len-entries m) h)
  where
    by : (es : List (Row × Row)) (i : ℕ) → i < length es → (k : Row) × (slice_get (map (λ e. e.0) es) i ≡ Some k)
    by [] i h = absurd (omega (arith, h))
    by (e ∷ es) zero h = (e.0, refl)
    by (e ∷ es) (suc i) h = by es i (omega (arith, h))

pub none_of : (m : Table) (k : Row) → fm.contains_key m k ≡ false → fm.get m k ≡ None
none_of m k h = by (fm.get m k) refl h
  where
    by : (o : Option Row) → fm.get m k ≡ o → is_some o ≡ false → fm.get m k ≡ None
    by None e h = e
    by (Some x) e h = cc

pub without_none : (m : Table) (k : Row) → fm.contains_key m k ≡ false → m ≡ fm.remove m k
without_none m k h = fm.same_map key_total key_exact m (fm.remove m k) (λ q. by q (eq_by_cmp key_order q k) refl ∙ sym (fm.get-remove key_total m k q))
  where
    by : (q : Row) (b : Bool) → is_same q k ≡ b → fm.get m q ≡ cond b None (fm.get m q)
    by q true e = ap (fm.get m) (same_values q k e) ∙ none_of m k h
    by q false e = refl

pub spot_within : (m : Table) (spot : ℕ) (k : Row) → IsKeyAt (fm.entries m) k spot → spot < fm.len m
spot_within m spot k at = subst (λ n. spot < n) (sym (fm.len-entries m)) (by (fm.entries m) spot at)
  where
    by : (es : List (Row × Row)) (i : ℕ) → slice_get (map (λ e. e.0) es) i ≡ Some k → i < length es
    by [] i e = cc
    by (x ∷ es) zero e = omega arith
    by (x ∷ es) (suc i) e = let r = by es i e in omega (arith, r)

pub place_is : (h : RowsHeld) (k : Row) (r : Option ℕ) → IsPlaceOf h k r → IsRowPlace h.table k r
place_is h k None e = e.0
place_is h k (Some place) e = e
