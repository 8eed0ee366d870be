-- What uses make of the order of last use.
use Rattle.std.proofs.Common.{◌≡◌, ℕ, zero, suc, ◌+◌, ◌<◌, ◌≤◌, Bool, true, false, cond, not, ◌||◌, Some, List, [], ◌∷◌, ◌++◌, drop, filter, get_or, length, set, slice_get, refl, sym, ap, subst, ◌∙◌, arith}
use Rattle.row_types.specs.declared.value.Value.{Value}
use Rattle.indexed_rows.specs.Rows.{is_same}
use Rattle.indexed_rows.proofs.EntryLaws.{same_itself, same_values}
use Rattle.recency.specs.Rings.{keys_without, touched}
use Rattle.cache_store.specs.Shown.{is_among}
use Rattle.group_store.specs.Stores.{Kept, SameButSpare, touched_store}
use Rattle.cache_tier.specs.Groups.{is_key, used, without_keys}
use Rattle.cache_tier.specs.Standing.{AreDistinct}
use Rattle.cache_tier.proofs.ApartLaws.{use_one}
use Rattle.statement_uses.specs.Touching.{newest_by, newest_stores, roomless, roomless_all, touched_by, touched_stores}
use Rattle.statement_uses.specs.Uses.{keys_at, used_all}

abbrev Row : Type 0
Row = List Value

-- the same keys, one way and the other
turned : (a b : Row) → is_same a b ≡ is_same b a
turned a b = by (is_same a b) refl (is_same b a) refl
  where
    by : (x : Bool) → is_same a b ≡ x → (y : Bool) → is_same b a ≡ y → is_same a b ≡ is_same b a
    by true e y f = e ∙ sym (same_itself b a (sym (same_values a b e)))
    by false e true f = let z : true ≡ false = sym (same_itself a b (sym (same_values b a f))) ∙ e in cc
    by false e false f = e ∙ sym f

alike : (p q : Row → Bool) (xs : List Row) → ((x : Row) → p x ≡ q x) → filter p xs ≡ filter q xs
alike p q xs h = ap (λ f. filter f xs) (λ i x. h x i)

-- a touch of a list in which no key stands twice is a use

without_same : (key : Row) (keys : List Row) → keys_without is_same key keys ≡ without_keys (key ∷ []) keys
without_same key keys = alike (λ o. not (is_same key o)) (λ o. not (is_same o key || false)) keys (λ o. ap not (turned key o ∙ or_none (is_same o key)))
  where
    or_none : (b : Bool) → b ≡ (b || false)
    or_none true = refl
    or_none false = refl

once : (key : Row) (keys : List Row) → AreDistinct keys → filter (is_same key) keys ≡ cond (is_key keys key) (key ∷ []) []
once key [] apart = refl
once key (x ∷ keys) apart = by (is_same key x) refl (once key keys apart.1)
  where
    by : (b : Bool) → is_same key x ≡ b → filter (is_same key) keys ≡ cond (is_key keys key) (key ∷ []) [] → cond b (x ∷ filter (is_same key) keys) (filter (is_same key) keys) ≡ cond (b || is_key keys key) (key ∷ []) []
    by true e rest =
        let same : key ≡ x = same_values key x e in
        let none : is_key keys key ≡ false = ap (is_key keys) same ∙ apart.0 in
        ap (λ l. x ∷ l) (rest ∙ ap (λ b. cond b (key ∷ []) []) none) ∙ ap (λ y. y ∷ []) (sym same)
    by false e rest = rest

not_there : (key : Row) (keys : List Row) → is_key keys key ≡ false → without_keys (key ∷ []) keys ≡ keys
not_there key [] none = refl
not_there key (x ∷ keys) none = by (is_same key x) refl none (not_there key keys)
  where
    by : (b : Bool) → is_same key x ≡ b → (b || is_key keys key) ≡ false → (is_key keys key ≡ false → without_keys (key ∷ []) keys ≡ keys)
        → cond (not (is_same x key || false)) (x ∷ without_keys (key ∷ []) keys) (without_keys (key ∷ []) keys) ≡ x ∷ keys
    by true e h rest = cc
    by false e h rest =
        ap (λ b. cond (not (b || false)) (x ∷ without_keys (key ∷ []) keys) (without_keys (key ∷ []) keys)) (turned x key ∙ e)
        ∙ ap (λ l. x ∷ l) (rest h)

append_none : (xs : List Row) → xs ++ [] ≡ xs
append_none [] = refl
append_none (x ∷ xs) = ap (λ l. x ∷ l) (append_none xs)

pub touched_used : (key : Row) (keys : List Row) → AreDistinct keys → touched is_same key keys ≡ used key keys
touched_used key keys apart =
    ap (λ l. l ++ filter (is_same key) keys) (without_same key keys)
    ∙ ap (λ l. without_keys (key ∷ []) keys ++ l) (once key keys apart) ∙ by (is_key keys key) refl
  where
    by : (b : Bool) → is_key keys key ≡ b → without_keys (key ∷ []) keys ++ cond b (key ∷ []) [] ≡ cond b (without_keys (key ∷ []) keys ++ key ∷ []) keys
    by true e = refl
    by false e = append_none (without_keys (key ∷ []) keys) ∙ not_there key keys e

-- the same of several
pub touches_used : (roots : List Row) (s : Kept) → AreDistinct s.keys → (touched_by roots s).keys ≡ used_all roots s.keys
touches_used [] s apart = refl
touches_used (root ∷ roots) s apart =
    touches_used roots (touched_store root s) (subst AreDistinct (sym (touched_used root s.keys apart)) (use_one root s.keys apart))
    ∙ ap (used_all roots) (touched_used root s.keys apart)

-- nothing but the keys changes
pub touched_form : (roots : List Row) (s : Kept) → touched_by roots s ≡ record s { keys = (touched_by roots s).keys }
touched_form [] s = refl
touched_form (root ∷ roots) s = touched_form roots (touched_store root s)

-- room plays no part

pub same_roomless : (old new : Kept) → SameButSpare old new → roomless new ≡ roomless old
same_roomless old new same =
    let table = same.table in
    let key = same.key in
    let foreign = same.foreign in
    let layers = same.layers in
    let tables = same.tables in
    let keys = same.keys in
    cc

-- the element at a place
pub got_item : {A : Type 0} (xs : List A) (i : ℕ) (x : A) → i < length xs → x ≡ get_or xs i x → slice_get xs i ≡ Some x
got_item [] i x lt is = absurd (omega (arith, lt))
got_item (y ∷ xs) zero x lt is = ap Some (sym is)
got_item (y ∷ xs) (suc i) x lt is = got_item xs i x (omega (arith, lt)) is

-- each touch of a list
pub touch_step : (roots : List Row) (i : ℕ) (root : Row) (old new : Kept) → slice_get roots i ≡ Some root → SameButSpare (touched_store root old) new → touched_by (drop i roots) (roomless old) ≡ touched_by (drop (i + 1) roots) (roomless new)
touch_step [] i root old new at same = cc
touch_step (x ∷ roots) zero root old new at same =
    let is : x ≡ root = cc in
    ap (λ r. touched_by roots (touched_store r (roomless old))) is
    ∙ ap (touched_by roots) (sym (same_roomless (touched_store root old) new same))
touch_step (x ∷ roots) (suc i) root old new at same =
    let next : suc i + 1 ≡ suc (i + 1) = omega arith in
    touch_step roots i root old new at same ∙ ap (λ n. touched_by (drop n (x ∷ roots)) (roomless new)) (sym next)

pub newest_step : (roots : List Row) (i : ℕ) (root : Row) (old new : Kept) → slice_get roots i ≡ Some root → SameButSpare (touched_store root old) new → new.keys ≡ keys_without is_same root old.keys ++ root ∷ []
    → newest_by (drop i roots) (roomless old) ≡ newest_by (drop (i + 1) roots) (roomless new)
newest_step [] i root old new at same last = cc
newest_step (x ∷ roots) zero root old new at same last =
    let is : x ≡ root = cc in
    ap (λ r. newest_by roots (record (roomless old) { keys = keys_without is_same r old.keys ++ r ∷ [] })) is
    ∙ ap (newest_by roots) (sym (put_last old new root same last))
  where
    put_last : (a b : Kept) (r : Row) → SameButSpare (touched_store r a) b → b.keys ≡ keys_without is_same r a.keys ++ r ∷ [] → roomless b ≡ record (roomless a) { keys = keys_without is_same r a.keys ++ r ∷ [] }
    put_last a b r but is =
        let table = but.table in
        let key = but.key in
        let foreign = but.foreign in
        let layers = but.layers in
        let tables = but.tables in
        cc
newest_step (x ∷ roots) (suc i) root old new at same last =
    let next : suc i + 1 ≡ suc (i + 1) = omega arith in
    newest_step roots i root old new at same last ∙ ap (λ n. newest_by (drop n (x ∷ roots)) (roomless new)) (sym next)

-- a key of a list is among its keys
pub among_them : (roots : List Row) (i : ℕ) (root : Row) → slice_get roots i ≡ Some root → is_among roots root ≡ true
among_them [] i root at = cc
among_them (x ∷ roots) zero root at = let is : x ≡ root = cc in ap (λ b. b || is_among roots root) (same_itself root x (sym is))
among_them (x ∷ roots) (suc i) root at = ap (λ b. is_same root x || b) (among_them roots i root at) ∙ or_true (is_same root x)
  where
    or_true : (b : Bool) → (b || true) ≡ true
    or_true true = refl
    or_true false = refl

-- the keys at a place, where they are asked for
pub get_is : (uses : List (List Row)) (n : ℕ) → get_or uses n [] ≡ keys_at uses n
get_is [] zero = refl
get_is [] (suc n) = refl
get_is (roots ∷ uses) zero = refl
get_is (roots ∷ uses) (suc n) = get_is uses n

-- stores, one after another, each by its keys

abbrev pub first_keys : List (List Row) → List Row
first_keys [] = []
first_keys (roots ∷ uses) = roots

abbrev pub other_keys : List (List Row) → List (List Row)
other_keys [] = []
other_keys (roots ∷ uses) = uses

none_at : (n : ℕ) → keys_at [] n ≡ []
none_at zero = refl
none_at (suc n) = refl

first_at : (uses : List (List Row)) → keys_at uses 0 ≡ first_keys uses
first_at [] = refl
first_at (roots ∷ uses) = refl

pub other_at : (uses : List (List Row)) (n : ℕ) → keys_at uses (suc n) ≡ keys_at (other_keys uses) n
other_at [] n = none_at (suc n) ∙ sym (none_at n)
other_at (roots ∷ uses) n = refl

heads : (a b : Kept) (more rest : List Kept) → a ∷ more ≡ b ∷ rest → (a ≡ b) × (more ≡ rest)
heads a b more rest e = (cc, cc)

module _ (does : List Row → Kept → Kept) where
  -- so it is of the first so many stores
  abbrev pub done_to : ℕ → List (List Row) → List Kept → List Kept
  done_to zero uses stores = stores
  done_to (suc n) uses [] = []
  done_to (suc n) uses (s ∷ stores) = does (first_keys uses) s ∷ done_to n (other_keys uses) stores

  -- one store more
  put : (n : ℕ) (uses : List (List Row)) (olds news : List Kept) (x y : Kept) → roomless_all news ≡ done_to n uses (roomless_all olds) → slice_get olds n ≡ Some x → roomless y ≡ does (keys_at uses n) (roomless x) → roomless_all (set news n y) ≡ done_to (suc n) uses (roomless_all olds)
  put n uses [] news x y so at is = cc
  put zero uses (o ∷ olds) [] x y so at is = cc
  put (suc n) uses (o ∷ olds) [] x y so at is = cc
  put zero uses (o ∷ olds) (k ∷ news) x y so at is =
      let of : o ≡ x = cc in
      ap (λ l. roomless y ∷ l) (heads (roomless k) (roomless o) (roomless_all news) (roomless_all olds) so).1
      ∙ ap (λ z. z ∷ roomless_all olds) (is ∙ ap (λ q. does q (roomless x)) (first_at uses) ∙ ap (λ q. does (first_keys uses) (roomless q)) (sym of))
  put (suc n) uses (o ∷ olds) (k ∷ news) x y so at is =
      let both = heads (roomless k) (does (first_keys uses) (roomless o)) (roomless_all news) (done_to n (other_keys uses) (roomless_all olds)) so in
      ap (λ z. z ∷ roomless_all (set news n y)) both.0
      ∙ ap (λ l. does (first_keys uses) (roomless o) ∷ l) (put n (other_keys uses) olds news x y both.1 at (is ∙ ap (λ q. does q (roomless x)) (other_at uses n)))

  pub one_done : (n : ℕ) (uses : List (List Row)) (olds news : List Kept) (x y : Kept) → roomless_all news ≡ done_to n uses (roomless_all olds) → slice_get olds n ≡ Some x → roomless y ≡ does (keys_at uses n) (roomless x) → roomless_all (set news n y) ≡ done_to (n + 1) uses (roomless_all olds)
  one_done n uses olds news x y so at is =
      let next : suc n ≡ n + 1 = omega arith in
      put n uses olds news x y so at is ∙ ap (λ m. done_to m uses (roomless_all olds)) next

-- of all of them

none_left : (n : ℕ) (stores : List Kept) → done_to touched_by n [] stores ≡ stores
none_left zero stores = refl
none_left (suc n) [] = refl
none_left (suc n) (s ∷ stores) = ap (λ l. s ∷ l) (none_left n stores)

pub all_touched : (n : ℕ) (uses : List (List Row)) (stores : List Kept) → length stores ≤ n → done_to touched_by n uses stores ≡ touched_stores uses stores
all_touched n [] stores le = none_left n stores
all_touched zero (roots ∷ uses) [] le = refl
all_touched zero (roots ∷ uses) (s ∷ stores) le = absurd (omega (arith, le))
all_touched (suc n) (roots ∷ uses) [] le = refl
all_touched (suc n) (roots ∷ uses) (s ∷ stores) le = ap (λ l. touched_by roots s ∷ l) (all_touched n uses stores (omega (arith, le)))

none_newer : (n : ℕ) (stores : List Kept) → done_to newest_by n [] stores ≡ stores
none_newer zero stores = refl
none_newer (suc n) [] = refl
none_newer (suc n) (s ∷ stores) = ap (λ l. s ∷ l) (none_newer n stores)

pub all_newest : (n : ℕ) (uses : List (List Row)) (stores : List Kept) → length stores ≤ n → done_to newest_by n uses stores ≡ newest_stores uses stores
all_newest n [] stores le = none_newer n stores
all_newest zero (roots ∷ uses) [] le = refl
all_newest zero (roots ∷ uses) (s ∷ stores) le = absurd (omega (arith, le))
all_newest (suc n) (roots ∷ uses) [] le = refl
all_newest (suc n) (roots ∷ uses) (s ∷ stores) le = ap (λ l. newest_by roots s ∷ l) (all_newest n uses stores (omega (arith, le)))

-- stores, but for one

pub set_other : (xs : List Kept) (i k : ℕ) (y : Kept) → i + 1 ≤ k → slice_get (set xs i y) k ≡ slice_get xs k
set_other [] i k y le = refl
set_other (x ∷ xs) zero zero y le = absurd (omega (arith, le))
set_other (x ∷ xs) zero (suc k) y le = refl
set_other (x ∷ xs) (suc i) zero y le = absurd (omega (arith, le))
set_other (x ∷ xs) (suc i) (suc k) y le = set_other xs i k y (omega (arith, le))

pub set_long : (xs : List Kept) (i : ℕ) (y : Kept) → length (set xs i y) ≡ length xs
set_long [] i y = refl
set_long (x ∷ xs) zero y = refl
set_long (x ∷ xs) (suc i) y = ap suc (set_long xs i y)

pub bare_long : (xs : List Kept) → length (roomless_all xs) ≡ length xs
bare_long [] = refl
bare_long (x ∷ xs) = ap suc (bare_long xs)
