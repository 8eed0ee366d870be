-- Walks over keys, rows and places.
use Rattle.std.proofs.Common.{◌≡◌, ◌<◌, ◌≤◌, ◌+◌, ◌-◌, ℕ, zero, suc, Bool, true, false, not, cond, ◌||◌, nat_lt, Some, List, [], ◌∷◌, ◌++◌, append_assoc, filter, get_or, length, map, take, drop, slice_get, le-ltb, lt-ltb, eqb-true, arith, refl, sym, ap, ◌∙◌}
use Rattle.std.specs.Bool.{◌==◌}
use Rattle.row_types.specs.declared.value.Value.{Value}
use Rattle.indexed_rows.specs.Rows.{is_same}
use Rattle.indexed_rows.proofs.EntryLaws.{same_itself, same_values}
use Rattle.recency.specs.Rings.{keys_without, next_key}
use Rattle.group_store.specs.Stores.{Kept, SameButSpare, cut_store}
use Rattle.group_store.specs.Trees.{cut_from}
use Rattle.cache_tier.specs.Aging.{leaving, oldest}
use Rattle.cache_tier.specs.Groups.{is_key, without_keys}
use Rattle.cache_tier.specs.Standing.{AreDistinct}
use Rattle.aging_cycles.specs.Running.{cut_all}

abbrev Row : Type 0
Row = List Value

-- elements of lists of one length

pub there_too : {X Y : Type 0} (xs : List X) (ys : List Y) (i : ℕ) (x : X) → length ys ≡ length xs → slice_get xs i ≡ Some x → (y : Y) × (slice_get ys i ≡ Some y)
there_too [] ys i x long at = cc
there_too (z ∷ xs) [] i x long at = absurd (omega (arith, long))
there_too (z ∷ xs) (y ∷ ys) zero x long at = (y, refl)
there_too (z ∷ xs) (y ∷ ys) (suc i) x long at = there_too xs ys i x (omega (arith, long)) at

-- one element more, or none

pub none_in : {X : Type 0} (xs : List X) → (length xs == 0) ≡ true → xs ≡ []
none_in [] e = refl
none_in (x ∷ xs) e = let z : suc (length xs) ≡ 0 = eqb-true (suc (length xs)) 0 e in cc

pub got : {X : Type 0} (xs : List X) (i : ℕ) (x : X) → i < length xs → x ≡ get_or xs i x → slice_get xs i ≡ Some x
got [] i x lt is = absurd (omega arith)
got (y ∷ xs) zero x lt is = ap Some (sym is)
got (y ∷ xs) (suc i) x lt is = got xs i x (omega arith) is

pub take_next : {X : Type 0} (xs : List X) (n : ℕ) (x : X) → slice_get xs n ≡ Some x → take (n + 1) xs ≡ take n xs ++ x ∷ []
take_next [] n x at = cc
take_next (y ∷ xs) zero x at =
    let one : zero + 1 ≡ 1 = omega arith in
    let same : y ≡ x = cc in
    ap (λ k. take k (y ∷ xs)) one ∙ ap (λ z. z ∷ []) same
take_next (y ∷ xs) (suc n) x at = let one : suc n + 1 ≡ suc (n + 1) = omega arith in ap (λ k. take k (y ∷ xs)) one ∙ ap (λ ys. y ∷ ys) (take_next xs n x at)

pub drop_next : {X : Type 0} (xs : List X) (n : ℕ) (x : X) → slice_get xs n ≡ Some x → drop n xs ≡ x ∷ drop (n + 1) xs
drop_next [] n x at = cc
drop_next (y ∷ xs) zero x at =
    let one : zero + 1 ≡ 1 = omega arith in
    let same : y ≡ x = cc in
    ap (λ z. z ∷ xs) same ∙ sym (ap (λ k. x ∷ drop k (y ∷ xs)) one)
drop_next (y ∷ xs) (suc n) x at = let one : suc n + 1 ≡ suc (n + 1) = omega arith in drop_next xs n x at ∙ sym (ap (λ k. x ∷ drop k (y ∷ xs)) one)

pub drop_all : {X : Type 0} (xs : List X) (n : ℕ) → length xs ≤ n → drop n xs ≡ []
drop_all [] zero le = refl
drop_all [] (suc n) le = refl
drop_all (x ∷ xs) zero le = absurd (omega arith)
drop_all (x ∷ xs) (suc n) le = drop_all xs n (omega arith)

pub take_all : {X : Type 0} (xs : List X) (n : ℕ) → length xs ≤ n → take n xs ≡ xs
take_all [] zero le = refl
take_all [] (suc n) le = refl
take_all (x ∷ xs) zero le = absurd (omega arith)
take_all (x ∷ xs) (suc n) le = ap (λ ys. x ∷ ys) (take_all xs n (omega arith))

pub filter_end : {X : Type 0} (p : X → Bool) (xs : List X) (x : X) → filter p (xs ++ x ∷ []) ≡ filter p xs ++ cond (p x) (x ∷ []) []
filter_end p [] x = refl
filter_end p (y ∷ xs) x = by (p y) (filter_end p xs x)
  where
    by : (b : Bool) → filter p (xs ++ x ∷ []) ≡ filter p xs ++ cond (p x) (x ∷ []) [] → cond b (y ∷ filter p (xs ++ x ∷ [])) (filter p (xs ++ x ∷ [])) ≡ cond b (y ∷ filter p xs) (filter p xs) ++ cond (p x) (x ∷ []) []
    by true e = ap (λ ys. y ∷ ys) e
    by false e = e

map_end : {X Y : Type 0} (f : X → Y) (xs ys : List X) → map f (xs ++ ys) ≡ map f xs ++ map f ys
map_end f [] ys = refl
map_end f (x ∷ xs) ys = ap (λ zs. f x ∷ zs) (map_end f xs ys)

pub no_end : {X : Type 0} (xs : List X) → xs ++ [] ≡ xs
no_end [] = refl
no_end (x ∷ xs) = ap (λ ys. x ∷ ys) (no_end xs)

map_one : {X Y : Type 0} (f : X → Y) (b : Bool) (x : X) → map f (cond b (x ∷ []) []) ≡ cond b (f x ∷ []) []
map_one f true x = refl
map_one f false x = refl

-- one element more, whose image comes where it passes
pub keys_step : {X Y : Type 0} (f : X → Y) (p : X → Bool) (xs : List X) (n : ℕ) (x : X) (ks new : List Y) → slice_get xs n ≡ Some x → ks ≡ map f (filter p (take n xs)) → new ≡ ks ++ cond (p x) (f x ∷ []) [] → new ≡ map f (filter p (take (n + 1) xs))
keys_step f p xs n x ks new at so is =
    is ∙ ap (λ l. l ++ cond (p x) (f x ∷ []) []) so
    ∙ sym (ap (λ l. map f (filter p l)) (take_next xs n x at) ∙ ap (map f) (filter_end p (take n xs) x) ∙ map_end f (filter p (take n xs)) (cond (p x) (x ∷ []) []) ∙ ap (λ l. map f (filter p (take n xs)) ++ l) (map_one f (p x) x))

-- the keys that leave from the old end

pub oldest_none : (busy : Row → Bool) (keys : List Row) → oldest 0 busy keys ≡ []
oldest_none busy [] = refl
oldest_none busy (k ∷ keys) = by (busy k) (oldest_none busy keys)
  where
    by : (b : Bool) → oldest 0 busy keys ≡ [] → cond b (oldest 0 busy keys) [] ≡ []
    by true e = e
    by false e = refl

oldest_skip : (n : ℕ) (busy : Row → Bool) (k : Row) (keys : List Row) → busy k ≡ true → oldest n busy (k ∷ keys) ≡ oldest n busy keys
oldest_skip n busy k keys e = ap (λ b. cond b (oldest n busy keys) (cond (nat_lt 0 n) (k ∷ oldest (n - 1) busy keys) [])) e

oldest_take : (n : ℕ) (busy : Row → Bool) (k : Row) (keys : List Row) → busy k ≡ false → nat_lt 0 n ≡ true → oldest n busy (k ∷ keys) ≡ k ∷ oldest (n - 1) busy keys
oldest_take n busy k keys e some =
    ap (λ b. cond b (oldest n busy keys) (cond (nat_lt 0 n) (k ∷ oldest (n - 1) busy keys) [])) e
    ∙ ap (λ b. cond b (k ∷ oldest (n - 1) busy keys) []) some

-- where so many have been looked at
module _ (most left n : ℕ) (busy : Row → Bool) (keys ks : List Row) (found : oldest most busy keys ≡ ks ++ oldest left busy (drop n keys)) where
  pub oldest_less : (key : Row) → slice_get keys n ≡ Some key → busy key ≡ true → oldest most busy keys ≡ ks ++ oldest left busy (drop (n + 1) keys)
  oldest_less key at e = found ∙ ap (λ l. ks ++ oldest left busy l) (drop_next keys n key at) ∙ ap (λ l. ks ++ l) (oldest_skip left busy key (drop (n + 1) keys) e)

  pub oldest_more : (key : Row) (new : List Row) → slice_get keys n ≡ Some key → busy key ≡ false → 0 < left → new ≡ ks ++ key ∷ [] → oldest most busy keys ≡ new ++ oldest (left - 1) busy (drop (n + 1) keys)
  oldest_more key new at e some is =
      found ∙ ap (λ l. ks ++ oldest left busy l) (drop_next keys n key at)
      ∙ ap (λ l. ks ++ l) (oldest_take left busy key (drop (n + 1) keys) e (lt-ltb 0 left some))
      ∙ sym (append_assoc ks (key ∷ []) (oldest (left - 1) busy (drop (n + 1) keys)))
      ∙ ap (λ l. l ++ oldest (left - 1) busy (drop (n + 1) keys)) (sym is)

  pub oldest_full : left ≡ 0 → ks ≡ oldest most busy keys
  oldest_full none = sym (found ∙ ap (λ m. ks ++ oldest m busy (drop n keys)) none ∙ ap (λ l. ks ++ l) (oldest_none busy (drop n keys)) ∙ no_end ks)

pub leaving_few : (high low : ℕ) (busy : Row → Bool) (keys : List Row) → length keys ≤ high → [] ≡ leaving high low busy keys
leaving_few high low busy keys le = sym (ap (λ b. cond b (oldest (length keys - low) busy keys) []) (le-ltb high (length keys) le))

pub leaving_many : (high low : ℕ) (busy : Row → Bool) (keys : List Row) → high < length keys → oldest (length keys - low) busy keys ≡ leaving high low busy keys
leaving_many high low busy keys lt = sym (ap (λ b. cond b (oldest (length keys - low) busy keys) []) (lt-ltb high (length keys) lt))

-- the key behind another

pub not_there : (keys : List Row) (i : ℕ) (k : Row) → slice_get keys i ≡ Some k → is_key keys k ≡ true
not_there [] i k at = cc
not_there (q ∷ keys) zero k at = let same : q ≡ k = cc in ap (λ b. b || is_key keys k) (same_itself k q (sym same))
not_there (q ∷ keys) (suc i) k at = by (is_same k q) (not_there keys i k at)
  where
    by : (b : Bool) → is_key keys k ≡ true → (b || is_key keys k) ≡ true
    by true e = refl
    by false e = e

-- no key is there twice
pub apart_there : (keys : List Row) (i j : ℕ) (k q : Row) → AreDistinct keys → slice_get keys i ≡ Some k → slice_get keys j ≡ Some q → is_same q k ≡ true → i ≡ j
apart_there [] i j k q apart at there same = cc
apart_there (x ∷ keys) zero zero k q apart at there same = refl
apart_there (x ∷ keys) zero (suc j) k q apart at there same =
    let is : x ≡ k = cc in
    let wrong : true ≡ false = sym (not_there keys j q there) ∙ ap (is_key keys) (same_values q k same ∙ sym is) ∙ apart.0 in cc
apart_there (x ∷ keys) (suc i) zero k q apart at there same =
    let is : x ≡ q = cc in
    let wrong : true ≡ false = sym (not_there keys i k at) ∙ ap (is_key keys) (sym (same_values q k same) ∙ sym is) ∙ apart.0 in cc
apart_there (x ∷ keys) (suc i) (suc j) k q apart at there same = ap suc (apart_there keys i j k q apart.1 at there same)

-- the key behind another is another one
pub next_other : (keys : List Row) (k q : Row) → AreDistinct keys → next_key is_same k keys ≡ Some q → is_same q k ≡ false
next_other [] k q apart e = cc
next_other (x ∷ keys) k q apart e = by (is_same k x) refl e (λ z. next_other keys k q apart.1 z)
  where
    isnt : (b : Bool) → is_same q k ≡ b → is_same k x ≡ true → slice_get keys 0 ≡ Some q → b ≡ false
    isnt true h same at = let wrong : true ≡ false = sym (not_there keys 0 q at) ∙ ap (is_key keys) (same_values q k h ∙ same_values k x same) ∙ apart.0 in cc
    isnt false h same at = refl

    by : (b : Bool) → is_same k x ≡ b → cond b (slice_get keys 0) (next_key is_same k keys) ≡ Some q → (next_key is_same k keys ≡ Some q → is_same q k ≡ false) → is_same q k ≡ false
    by true same at rest = isnt (is_same q k) refl same at
    by false same at rest = rest at

-- the key behind another, where some before it have left
pub next_left : (ks keys : List Row) (n : ℕ) (key : Row) → AreDistinct keys → slice_get keys n ≡ Some key → ((i : ℕ) (q : Row) → n ≤ i → slice_get keys i ≡ Some q → is_key ks q ≡ false) → next_key is_same key (without_keys ks keys) ≡ slice_get keys (n + 1)
next_left ks [] n key apart at ahead = cc
next_left ks (x ∷ keys) zero key apart at ahead =
    let is : x ≡ key = cc in
    let one : zero + 1 ≡ 1 = omega arith in
    ap (λ b. next_key is_same key (cond (not b) (x ∷ without_keys ks keys) (without_keys ks keys))) (ahead 0 x (omega arith) refl)
    ∙ ap (λ b. cond b (slice_get (without_keys ks keys) 0) (next_key is_same key (without_keys ks keys))) (same_itself key x (sym is))
    ∙ ap (λ l. slice_get l 0) (all_stay keys (λ i q e. ahead (suc i) q (omega arith) e))
    ∙ sym (ap (slice_get (x ∷ keys)) one)
  where
    all_stay : (l : List Row) → ((i : ℕ) (q : Row) → slice_get l i ≡ Some q → is_key ks q ≡ false) → without_keys ks l ≡ l
    all_stay [] h = refl
    all_stay (y ∷ l) h = ap (λ b. cond (not b) (y ∷ without_keys ks l) (without_keys ks l)) (h 0 y refl) ∙ ap (λ z. y ∷ z) (all_stay l (λ i q e. h (suc i) q e))
next_left ks (x ∷ keys) (suc n) key apart at ahead =
    let one : suc n + 1 ≡ suc (n + 1) = omega arith in
    by (is_key ks x) ∙ next_left ks keys n key apart.1 at (λ i q le e. ahead (suc i) q (omega (arith, le)) e) ∙ sym (ap (slice_get (x ∷ keys)) one)
  where
    other : (b : Bool) → is_same key x ≡ b → b ≡ false
    other true e = let wrong : true ≡ false = sym (ap (is_key keys) (sym (same_values key x e)) ∙ not_there keys n key at) ∙ apart.0 in cc
    other false e = refl

    by : (b : Bool) → next_key is_same key (cond (not b) (x ∷ without_keys ks keys) (without_keys ks keys)) ≡ next_key is_same key (without_keys ks keys)
    by true = refl
    by false = ap (λ b. cond b (slice_get (without_keys ks keys) 0) (next_key is_same key (without_keys ks keys))) (other (is_same key x) refl)

-- stores

pub cut_same : (key : Row) (a b : Kept) → SameButSpare a b → SameButSpare (cut_store 0 key a) (cut_store 0 key b)
cut_same key a b same = record {
  table = same.table;
  key = same.key;
  foreign = same.foreign;
  layers = same.layers;
  tables = λ i. cut_from (same.layers i) (same.tables i) 0 key;
  keys = ap (keys_without is_same key) same.keys;
}

pub same_two : (a b c : Kept) → SameButSpare a b → SameButSpare b c → SameButSpare a c
same_two a b c x y = record {
  table = y.table ∙ x.table;
  key = y.key ∙ x.key;
  foreign = y.foreign ∙ x.foreign;
  layers = y.layers ∙ x.layers;
  tables = y.tables ∙ x.tables;
  keys = y.keys ∙ x.keys;
}

pub cut_end : (keys : List Row) (key : Row) (s : Kept) → cut_all (keys ++ key ∷ []) s ≡ cut_store 0 key (cut_all keys s)
cut_end [] key s = refl
cut_end (k ∷ keys) key s = cut_end keys key (cut_store 0 k s)
