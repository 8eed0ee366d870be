-- Lists with an element for each group.
use Rattle.std.proofs.Common.{◌≡◌, ℕ, zero, suc, ◌+◌, ◌<◌, ◌≤◌, nat_lt, Bool, true, false, ◌⊎◌, inl, inr, Some, List, [], ◌∷◌, ◌++◌, length, slice_get, unwrap_or, refl, sym, ap, subst, ◌∙◌, arith}
use Rattle.std.proofs.lemmas.Bool.{ltb-false, ltb-true}
use Rattle.row_types.specs.declared.value.Value.{Value}
use Rattle.cache_tier.specs.Groups.{Group}
use Rattle.statement_uses.specs.Uses.{HaveKeys, keys_at}

abbrev Row : Type 0
Row = List Value

-- those of the groups before a place
pub record HaveSome (P : ℕ → List Row → Type 0) (uses : List (List Row)) (n : ℕ) : Type 0 where
  pub long : length uses ≡ n
  pub each : (place : ℕ) → place < n → P place (keys_at uses place)

pub none_yet : (P : ℕ → List Row → Type 0) → HaveSome P [] 0
none_yet P = record { long = refl; each = λ place lt. absurd (omega (arith, lt)) }

at_front : (xs : List (List Row)) (x : List Row) (i : ℕ) → i < length xs → slice_get (xs ++ x ∷ []) i ≡ slice_get xs i
at_front [] x i lt = absurd (omega (arith, lt))
at_front (y ∷ xs) x zero lt = refl
at_front (y ∷ xs) x (suc i) lt = at_front xs x i (omega (arith, lt))

at_end : (xs : List (List Row)) (x : List Row) (i : ℕ) → i ≡ length xs → slice_get (xs ++ x ∷ []) i ≡ Some x
at_end [] x i e = ap (slice_get (x ∷ [])) e
at_end (y ∷ xs) x i e = ap (slice_get (y ∷ (xs ++ x ∷ []))) e ∙ at_end xs x (length xs) refl

longer : (xs : List (List Row)) (x : List Row) → length (xs ++ x ∷ []) ≡ length xs + 1
longer [] x = refl
longer (y ∷ xs) x = let rest = longer xs x in omega (arith, rest)

pub one_more : (P : ℕ → List Row → Type 0) (uses : List (List Row)) (n : ℕ) (roots : List Row) → HaveSome P uses n → P n roots → HaveSome P (uses ++ roots ∷ []) (n + 1)
one_more P uses n roots have here = record {
  long = let more = longer uses roots in let long = have.long in omega (arith, more, long);
  each = λ place lt. by place lt (below place lt);
}
  where
    below : (place : ℕ) → place < n + 1 → (place < n) ⊎ (place ≡ n)
    below place lt = cases (nat_lt place n) refl
      where
        cases : (b : Bool) → nat_lt place n ≡ b → (place < n) ⊎ (place ≡ n)
        cases true e = inl (ltb-true place n e)
        cases false e = let no = ltb-false place n e in inr (omega (arith, lt, no))

    by : (place : ℕ) → place < n + 1 → (place < n) ⊎ (place ≡ n) → P place (keys_at (uses ++ roots ∷ []) place)
    by place lt (inl under) =
        let long = have.long in
        let in_it : place < length uses = omega (arith, under, long) in
        subst (P place) (ap (λ o. unwrap_or o []) (sym (at_front uses roots place in_it))) (have.each place under)
    by place lt (inr same) =
        subst (P place) (ap (λ o. unwrap_or o []) (sym (at_end uses roots place (same ∙ sym have.long))))
        (subst (λ k. P k roots) (sym same) here)

-- the group at a place gets these, where it is of a kind
abbrev pub IsOf : (Group → Bool) → List Group → (Group → List Row) → ℕ → List Row → Type 0
IsOf test groups keys place roots = (g : Group) → slice_get groups place ≡ Some g → test g ≡ true → roots ≡ keys g

pub got_below : {X : Type 0} (xs : List X) (i : ℕ) (x : X) → slice_get xs i ≡ Some x → i < length xs
got_below [] i x at = cc
got_below (y ∷ xs) zero x at = omega arith
got_below (y ∷ xs) (suc i) x at = let lt = got_below xs i x at in omega (arith, lt)

pub all_had : (test : Group → Bool) (groups : List Group) (keys : Group → List Row) (uses : List (List Row)) (n : ℕ) → HaveSome (IsOf test groups keys) uses n → length groups ≤ n → HaveKeys test groups keys uses
all_had test groups keys uses n have past place g at is =
    let lt = got_below groups place g at in
    have.each place (omega (arith, lt, past)) g at is
