-- Lists of tests: which tokens pass one of them, and when no token passes one here and one there.
use Rattle.std.proofs.Common.{◌≡◌, ℕ, Bool, true, false, not, ◌&&◌, ◌||◌, cond, leb, List, [], ◌∷◌, ◌++◌, refl, sym, arith, append_assoc, append-nil, ◌⊎◌, inl, inr}
use Rattle.std.proofs.lemmas.Bool.Decides.{nat_tests}
use Rattle.sql_tokens.specs.declared.kind.Kind.{Kind}
use Rattle.sql_tokens.specs.Kinds.{code}
use Rattle.sql_grammar.specs.declared.test.Test.{Test}
use Rattle.sql_grammar.specs.Tests.{passes, low_of, high_of}
use Rattle.sql_grammar.specs.Decided.{has, clash, clashes, apart, implies, is_in, all_in}

-- no token passes one here and one there
abbrev pub Apart : List Test → List Test → Type 0
Apart ts us = (k : Kind) → has ts k ≡ true → has us k ≡ true → ⊥

pub and_left : (a b : Bool) → a && b ≡ true → a ≡ true
and_left true b h = refl
and_left false b h = h

pub and_right : (a b : Bool) → a && b ≡ true → b ≡ true
and_right true b h = h
and_right false b h = absurd (cc)

pub or_cases : (a b : Bool) → a || b ≡ true → (a ≡ true) ⊎ (b ≡ true)
or_cases true b h = inl refl
or_cases false b h = inr h

pub or_left : (a b : Bool) → a ≡ true → a || b ≡ true
or_left true b h = refl
or_left false b h = absurd (cc)

pub or_right : (a b : Bool) → b ≡ true → a || b ≡ true
or_right true b h = refl
or_right false b h = h

pub has_left : (ts us : List Test) (k : Kind) → has ts k ≡ true → has (ts ++ us) k ≡ true
has_left [] us k h = absurd (cc)
has_left (t ∷ ts) us k h = elim (or_cases (passes t k) (has ts k) h) [ inl p ↦ or_left (passes t k) (has (ts ++ us) k) p | inr q ↦ or_right (passes t k) (has (ts ++ us) k) (has_left ts us k q) ]

pub has_right : (ts us : List Test) (k : Kind) → has us k ≡ true → has (ts ++ us) k ≡ true
has_right [] us k h = h
has_right (t ∷ ts) us k h = or_right (passes t k) (has (ts ++ us) k) (has_right ts us k h)

pub has_cases : (ts us : List Test) (k : Kind) → has (ts ++ us) k ≡ true → (has ts k ≡ true) ⊎ (has us k ≡ true)
has_cases [] us k h = inr h
has_cases (t ∷ ts) us k h =
    elim (or_cases (passes t k) (has (ts ++ us) k) h) [
      | inl p ↦ inl (or_left (passes t k) (has ts k) p)
      | inr q ↦ elim (has_cases ts us k q) [ inl r ↦ inl (or_right (passes t k) (has ts k) r) | inr r ↦ inr r ]
    ]

clash_numbers : (a b c d k : ℕ) → leb a k && leb k b ≡ true → leb c k && leb k d ≡ true → leb a d && leb c b ≡ true
clash_numbers a b c d k p q = grind (arith, nat_tests)

pub clash_when : (t u : Test) (k : Kind) → passes t k ≡ true → passes u k ≡ true → clash t u ≡ true
clash_when t u k p q = clash_numbers (low_of t) (high_of t) (low_of u) (high_of u) (code k) p q

pub clashes_when : (t : Test) (us : List Test) (k : Kind) → passes t k ≡ true → has us k ≡ true → clashes t us ≡ true
clashes_when t [] k p h = absurd (cc)
clashes_when t (u ∷ us) k p h =
    elim (or_cases (passes u k) (has us k) h) [ inl q ↦ or_left (clash t u) (clashes t us) (clash_when t u k p q) | inr q ↦ or_right (clash t u) (clashes t us) (clashes_when t us k p q) ]

not_true : (b : Bool) → not b ≡ true → b ≡ true → ⊥
not_true true h p = absurd (cc)
not_true false h p = absurd (cc)

pub apart_when : (ts us : List Test) → apart ts us ≡ true → Apart ts us
apart_when [] us h k p q = absurd (cc)
apart_when (t ∷ ts) us h k p q =
    elim (or_cases (passes t k) (has ts k) p) [
      | inl r ↦ not_true (clashes t us) (and_left (not (clashes t us)) (apart ts us) h) (clashes_when t us k r q)
      | inr r ↦ apart_when ts us (and_right (not (clashes t us)) (apart ts us) h) k r q
    ]

implies_numbers : (a b c d k : ℕ) → leb c a && leb b d ≡ true → leb a k && leb k b ≡ true → leb c k && leb k d ≡ true
implies_numbers a b c d k p q = grind (arith, nat_tests)

is_in_when : (t : Test) (us : List Test) (k : Kind) → is_in t us ≡ true → passes t k ≡ true → has us k ≡ true
is_in_when t [] k h p = absurd (cc)
is_in_when t (u ∷ us) k h p =
    elim (or_cases (implies t u) (is_in t us) h) [
      | inl q ↦ or_left (passes u k) (has us k) (implies_numbers (low_of t) (high_of t) (low_of u) (high_of u) (code k) q p)
      | inr q ↦ or_right (passes u k) (has us k) (is_in_when t us k q p)
    ]

pub all_in_when : (ts us : List Test) → all_in ts us ≡ true → (k : Kind) → has ts k ≡ true → has us k ≡ true
all_in_when [] us h k p = absurd (cc)
all_in_when (t ∷ ts) us h k p =
    elim (or_cases (passes t k) (has ts k) p) [
      | inl r ↦ is_in_when t us k (and_left (is_in t us) (all_in ts us) h) r
      | inr r ↦ all_in_when ts us (and_right (is_in t us) (all_in ts us) h) k r
    ]

pub apart_left : (xs ys zs : List Test) → Apart (xs ++ ys) zs → Apart xs zs
apart_left xs ys zs h k p q = h k (has_left xs ys k p) q

pub apart_right : (xs ys zs : List Test) → Apart (xs ++ ys) zs → Apart ys zs
apart_right xs ys zs h k p q = h k (has_right xs ys k p) q

-- apart from both where it is apart from each
pub apart_both : (xs ys zs : List Test) → Apart xs ys → Apart xs zs → Apart xs (ys ++ zs)
apart_both xs ys zs f g k p q = elim (has_cases ys zs k q) [ inl r ↦ f k p r | inr r ↦ g k p r ]

-- the ends of a are apart from what b begins with and, where b may be empty, from what comes behind
pub fine_then : (e : Bool) (xs ys zs ws : List Test) → Apart xs zs → Apart (ys ++ cond e xs []) ws → Apart xs (zs ++ cond e ws [])
fine_then true xs ys zs ws f g = apart_both xs zs ws f (apart_right ys xs ws g)
fine_then false xs ys zs ws f g = apart_both xs zs [] f (λ k p q. absurd (cc))

pub then_begins : (ea eb : Bool) (sa sb bs : List Test) → sa ++ cond ea (sb ++ cond eb bs []) [] ≡ (sa ++ cond ea sb []) ++ cond (ea && eb) bs []
then_begins true eb sa sb bs = sym (append_assoc sa sb (cond eb bs []))
then_begins false eb sa sb bs = simp append-nil
