-- Lists of groups and of stores of which some elements change.
use Rattle.std.proofs.Common.{◌≡◌, ℕ, zero, suc, ◌+◌, Bool, true, false, cond, Option, Some, List, [], ◌∷◌, length, map, slice_get, unwrap_or, refl, sym, ap, ◌∙◌, arith}
use Rattle.std.specs.List.{list_all}
use Rattle.order_laws.proofs.TruthLaws.{both_true}
use Rattle.cache_tier.specs.Groups.{Group}
use Rattle.cache_tier.specs.Sets.{Choice, changed_from}
use Rattle.stored_tier.specs.Refreshing.{exchanged}
use Rattle.stored_tier.specs.Stored.{without_list}

-- lists of which some elements change

pub changed_there : (c : Choice) (f : Group → Group) (from : ℕ) (groups : List Group) (k : ℕ) (g : Group) → slice_get groups k ≡ Some g → slice_get (changed_from c f from groups) k ≡ Some (cond (c (from + k) g) (f g) g)
changed_there c f from [] k g at = Prim.cc
changed_there c f from (x ∷ groups) zero g at =
    let same : x ≡ g = Prim.cc in
    let here : from ≡ from + 0 = Prim.omega arith in
    λ i. Some (cond (c (here i) (same i)) (f (same i)) (same i))
changed_there c f from (x ∷ groups) (suc k) g at =
    let here : suc from + k ≡ from + suc k = Prim.omega arith in
    changed_there c f (suc from) groups k g at ∙ ap (λ n. Some (cond (c n g) (f g) g)) here

pub changed_long : (c : Choice) (f : Group → Group) (from : ℕ) (groups : List Group) → length (changed_from c f from groups) ≡ length groups
changed_long c f from [] = refl
changed_long c f from (x ∷ groups) = ap suc (changed_long c f (suc from) groups)

pub changed_mapped : (c : Choice) (a b : Group → Group) (from : ℕ) (groups : List Group) → ((k : ℕ) (g : Group) → c k (without_list g) ≡ c k g) → ((g : Group) → without_list (a g) ≡ b (without_list g)) → map without_list (changed_from c a from groups) ≡ changed_from c b from (map without_list groups)
changed_mapped c a b from [] same one = refl
changed_mapped c a b from (x ∷ groups) same one =
    let first : without_list (cond (c from x) (a x) x) ≡ cond (c from (without_list x)) (b (without_list x)) (without_list x) = by (c from x) ∙ ap (λ d. cond d (b (without_list x)) (without_list x)) (sym (same from x)) in
    let rest = changed_mapped c a b (suc from) groups same one in
    λ i. first i ∷ rest i
  where
    by : (d : Bool) → without_list (cond d (a x) x) ≡ cond d (b (without_list x)) (without_list x)
    by true = one x
    by false = refl

pub exchanged_there : {X : Type 0} (stores : List X) (made : List (Option X)) (k : ℕ) (s : X) (o : Option X) → slice_get stores k ≡ Some s → slice_get made k ≡ Some o → slice_get (exchanged stores made) k ≡ Some (unwrap_or o s)
exchanged_there [] made k s o at there = Prim.cc
exchanged_there (x ∷ stores) [] k s o at there = Prim.cc
exchanged_there (x ∷ stores) (y ∷ made) zero s o at there =
    let one : x ≡ s = Prim.cc in
    let other : y ≡ o = Prim.cc in
    λ i. Some (unwrap_or (other i) (one i))
exchanged_there (x ∷ stores) (y ∷ made) (suc k) s o at there = exchanged_there stores made k s o at there

pub exchanged_long : {X : Type 0} (stores : List X) (made : List (Option X)) → length (exchanged stores made) ≡ length stores
exchanged_long [] made = refl
exchanged_long (x ∷ stores) [] = refl
exchanged_long (x ∷ stores) (y ∷ made) = ap suc (exchanged_long stores made)

pub mapped_there : (groups : List Group) (k : ℕ) (g : Group) → slice_get groups k ≡ Some g → slice_get (map without_list groups) k ≡ Some (without_list g)
mapped_there [] k g at = Prim.cc
mapped_there (x ∷ groups) zero g at = let same : x ≡ g = Prim.cc in λ i. Some (without_list (same i))
mapped_there (x ∷ groups) (suc k) g at = mapped_there groups k g at

pub mapped_long : (groups : List Group) → length (map without_list groups) ≡ length groups
mapped_long [] = refl
mapped_long (x ∷ groups) = ap suc (mapped_long groups)

pub all_there : (p : Group → Bool) (groups : List Group) (k : ℕ) (g : Group) → list_all p groups ≡ true → slice_get groups k ≡ Some g → p g ≡ true
all_there p [] k g all at = Prim.cc
all_there p (x ∷ groups) zero g all at = let same : x ≡ g = Prim.cc in ap p (sym same) ∙ (both_true (p x) (list_all p groups) all).0
all_there p (x ∷ groups) (suc k) g all at = all_there p groups k g (both_true (p x) (list_all p groups) all).1 at

pub changed_at : (c : Choice) (f : Group → Group) (groups : List Group) (k : ℕ) (g : Group) → slice_get groups k ≡ Some g → slice_get (changed_from c f 0 groups) k ≡ Some (cond (c k g) (f g) g)
changed_at c f groups k g at = let here : 0 + k ≡ k = Prim.omega arith in changed_there c f 0 groups k g at ∙ ap (λ m. Some (cond (c m g) (f g) g)) here
