-- Instances of a store that leave, one after another.
use Rattle.std.proofs.Common.{◌≡◌, ◌<◌, ◌+◌, ℕ, zero, suc, Bool, true, false, cond, Some, None, List, [], ◌∷◌, ◌++◌, filter, get_or, length, map, take, slice_get, arith, refl, sym, ap, subst, ◌∙◌}
use Rattle.row_types.specs.declared.value.Value.{Value}
use Rattle.indexed_rows.specs.Rows.{is_same}
use Rattle.recency.specs.Rings.{keys_without}
use Rattle.group_store.specs.Stores.{Kept, SameButSpare, cut_store}
use Rattle.group_store.specs.Trees.{cut_from}
use Rattle.changed_sets.specs.OfAgingCycles.Running.{cut_all}
use Rattle.group_engine.proofs.GroupingLaws.{got, take_one}

-- one element more, or none

pub take_past : {X : Type 0} (xs : List X) (n : ℕ) → slice_get xs n ≡ None → take (n + 1) xs ≡ take n xs
take_past [] zero e = let one : zero + 1 ≡ 1 = omega arith in ap (λ k. take k []) one
take_past [] (suc n) e = let one : suc n + 1 ≡ suc (suc n) = omega arith in ap (λ k. take k []) one
take_past (x ∷ xs) zero e = cc
take_past (x ∷ xs) (suc n) e = let one : suc n + 1 ≡ suc (n + 1) = omega arith in ap (λ k. take k (x ∷ xs)) one ∙ ap (λ ys. x ∷ ys) (take_past xs n e)

take_next : {X : Type 0} (xs : List X) (n : ℕ) (x : X) → slice_get xs n ≡ Some x → take (n + 1) xs ≡ take n xs ++ x ∷ []
take_next xs n x at = let one : n + 1 ≡ suc n = omega arith in ap (λ k. take k xs) one ∙ take_one xs n x at

filter_end : {X : Type 0} (p : X → Bool) (xs : List X) (x : X) → filter p (xs ++ x ∷ []) ≡ filter p xs ++ cond (p x) (x ∷ []) []
filter_end p [] x = by (p x)
  where
    by : (b : Bool) → cond b (x ∷ []) [] ≡ cond b (x ∷ []) []
    by b = refl
filter_end p (y ∷ xs) x = by (p y) (filter_end p xs x)
  where
    by : (b : Bool) → filter p (xs ++ x ∷ []) ≡ filter p xs ++ cond (p x) (x ∷ []) [] → cond b (y ∷ filter p (xs ++ x ∷ [])) (filter p (xs ++ x ∷ [])) ≡ cond b (y ∷ filter p xs) (filter p xs) ++ cond (p x) (x ∷ []) []
    by true e = ap (λ ys. y ∷ ys) e
    by false e = e

map_end : {X Y : Type 0} (f : X → Y) (xs ys : List X) → map f (xs ++ ys) ≡ map f xs ++ map f ys
map_end f [] ys = refl
map_end f (x ∷ xs) ys = ap (λ zs. f x ∷ zs) (map_end f xs ys)

no_end : {X : Type 0} (xs : List X) → xs ++ [] ≡ xs
no_end [] = refl
no_end (x ∷ xs) = ap (λ ys. x ∷ ys) (no_end xs)

pub keys_more : {X Y : Type 0} (f : X → Y) (p : X → Bool) (xs : List X) (n : ℕ) (x : X) (ks : List Y) → slice_get xs n ≡ Some x → ks ≡ map f (filter p (take n xs)) → p x ≡ true → ks ++ f x ∷ [] ≡ map f (filter p (take (n + 1) xs))
keys_more f p xs n x ks at so good =
    ap (λ l. l ++ f x ∷ []) so ∙ sym (ap (λ l. map f (filter p l)) (take_next xs n x at) ∙ ap (map f) (filter_end p (take n xs) x ∙ ap (λ b. filter p (take n xs) ++ cond b (x ∷ []) []) good) ∙ map_end f (filter p (take n xs)) (x ∷ []))

pub keys_skip : {X Y : Type 0} (f : X → Y) (p : X → Bool) (xs : List X) (n : ℕ) (x : X) (ks : List Y) → slice_get xs n ≡ Some x → ks ≡ map f (filter p (take n xs)) → p x ≡ false → ks ≡ map f (filter p (take (n + 1) xs))
keys_skip f p xs n x ks at so bad =
    so ∙ sym (ap (λ l. map f (filter p l)) (take_next xs n x at) ∙ ap (map f) (filter_end p (take n xs) x ∙ ap (λ b. filter p (take n xs) ++ cond b (x ∷ []) []) bad ∙ no_end (filter p (take n xs))))

-- stores

pub cut_same : (key : List Value) (a b : Kept) → SameButSpare a b → SameButSpare (cut_store 0 key a) (cut_store 0 key b)
cut_same key a b same = record {
  table = same.table;
  key = same.key;
  foreign = same.foreign;
  layers = same.layers;
  tables = λ i. cut_from (same.layers i) (same.tables i) 0 key;
  keys = ap (keys_without is_same key) same.keys;
}

same_two : (a b c : Kept) → SameButSpare a b → SameButSpare b c → SameButSpare a c
same_two a b c x y = record {
  table = y.table ∙ x.table;
  key = y.key ∙ x.key;
  foreign = y.foreign ∙ x.foreign;
  layers = y.layers ∙ x.layers;
  tables = y.tables ∙ x.tables;
  keys = y.keys ∙ x.keys;
}

cut_end : (keys : List (List Value)) (key : List Value) (s : Kept) → cut_all (keys ++ key ∷ []) s ≡ cut_store 0 key (cut_all keys s)
cut_end [] key s = refl
cut_end (k ∷ keys) key s = cut_end keys key (cut_store 0 k s)

pub cut_more : (keys : List (List Value)) (n : ℕ) (key : List Value) (old mid new : Kept) → n < length keys → key ≡ get_or keys n key → SameButSpare (cut_all (take n keys) old) mid → SameButSpare (cut_store 0 key mid) new → SameButSpare (cut_all (take (n + 1) keys) old) new
cut_more keys n key old mid new lt is before step =
    subst (λ s. SameButSpare s new) (sym (ap (λ l. cut_all l old) (take_next keys n key (got keys n key lt is)) ∙ cut_end (take n keys) key old))
    (same_two (cut_store 0 key (cut_all (take n keys) old)) (cut_store 0 key mid) new (cut_same key (cut_all (take n keys) old) mid before) step)
