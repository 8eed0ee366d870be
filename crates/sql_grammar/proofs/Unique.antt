-- Just one verdict is right.
use Rattle.std.proofs.Common.{◌≡◌, ℕ, ◌<◌, ◌≤◌, List, ◌++◌, length, take, drop, slice_get, refl, sym, ap, ◌∙◌, subst, arith, inl, inr, ◌⊎◌, get_or, append_assoc}
use Rattle.std.proofs.lemmas.Bool.{cases_lt}
use Rattle.std.proofs.lemmas.List.{take-append-drop, take-take, get_or-take, length-take-le}
use Rattle.std.proofs.Math.Seq.{drop-cons}
use Rattle.std.proofs.Math.ListN.{drop_of_length-le}
use Rattle.std.proofs.lemmas.Option.{slice_get_cases}
use Rattle.sql_tokens.specs.declared.kind.Kind.{Kind}
use Rattle.sql_grammar.specs.declared.engine.Verdict.{Verdict}
use Rattle.sql_grammar.specs.declared.engine.Verdict.TheVariants as v
use Rattle.sql_grammar.specs.Grammar.{Grammar, ahead}
use Rattle.sql_grammar.specs.Verdict.{IsSpelt, Begins, GoesOn, Judged}

-- what comes next, where some come behind
pub ahead_drop : (ks : List Kind) (i : ℕ) → ahead (drop i ks) ≡ slice_get ks i
ahead_drop ks i =
    elim (slice_get_cases ks i).1 [
      | inl (x, l, e, g) ↦ rw (drop-cons ks i x l, g, e)
      | inr (l, e) ↦ rw (drop_of_length-le ks l, e)
    ]

-- what stands between a front and a longer front comes next
ahead_between : (ks r : List Kind) (i j : ℕ) → i < j → j ≤ length ks → ahead (drop i (take j ks) ++ r) ≡ slice_get ks i
ahead_between ks r i j l m =
    let w : i < length (take j ks) = omega (arith, length-take-le j ks m) in
    let x : i < length ks = omega arith in
    elim (slice_get_cases ks i).1 [
      | inl (x, l2, e, g) ↦ let h : get_or (take j ks) i x ≡ x = get_or-take j ks i x l ∙ g in rw (drop-cons (take j ks) i x w, h, e)
      | inr (l2, e) ↦ absurd (omega arith)
    ]

front_between : (ks r : List Kind) (i j : ℕ) → i < j → take j ks ++ r ≡ take i ks ++ (drop i (take j ks) ++ r)
front_between ks r i j l = let e : take i (take j ks) ≡ take i ks = take-take i j ks (omega arith) in
    let f : take i ks ++ drop i (take j ks) ≡ take j ks = rw (← e) (take-append-drop i (take j ks)) in
    rw (← append_assoc, f)

goes_before : (s : Grammar) (n i j : ℕ) (ks : List Kind) → i < j → j ≤ length ks → Begins s n (take j ks) → GoesOn s n i ks
goes_before s n i j ks l m (r, d) = (drop i (take j ks) ++ r, ahead_between ks r i j l m, subst (λ x. IsSpelt s n x) (front_between ks r i j l) d)

whole_goes : (s : Grammar) (n i : ℕ) (ks : List Kind) → IsSpelt s n ks → GoesOn s n i ks
whole_goes s n i ks d = (drop i ks, ahead_drop ks i, subst (λ x. IsSpelt s n x) (sym (take-append-drop i ks)) d)

order : (i j : ℕ) → (i < j) ⊎ ((j < i) ⊎ (i ≡ j))
order i j =
    elim (cases_lt i j) [ inl l ↦ inl l | inr m ↦ elim (cases_lt j i) [ inl l ↦ inr (inl l) | inr n ↦ inr (inr (omega arith)) ] ]

at_deep : (s : Grammar) (ks : List Kind) (i j n : ℕ) → i ≤ length ks → Begins s 32 (take i ks) → ((n : ℕ) → GoesOn s n i ks → ⊥) → j ≤ length ks → Begins s 32 (take j ks) → (GoesOn s 32 j ks → ⊥) → GoesOn s n j ks → ⊥
at_deep s ks i j n w b f x c g h =
    elim (order i j) [
      | inl l ↦ f 32 (goes_before s 32 i j ks l x c)
      | inr q ↦ elim q [ inl l ↦ g (goes_before s 32 j i ks l w b) | inr e ↦ f n (subst (λ m. GoesOn s n m ks) (sym e) h) ]
    ]

pub unique : (s : Grammar) (ks : List Kind) (x y : Verdict) → Judged s ks x → Judged s ks y → x ≡ y
unique s ks v.Fits v.Fits d e = refl
unique s ks v.Fits (v.At i) d (w, b, f) = absurd (f 32 (whole_goes s 32 i ks d))
unique s ks v.Fits v.Deep d (i, w, b, f, g) = absurd (f (whole_goes s 32 i ks d))
unique s ks (v.At i) v.Fits (w, b, f) d = absurd (f 32 (whole_goes s 32 i ks d))
unique s ks v.Deep v.Fits (i, w, b, f, g) d = absurd (f (whole_goes s 32 i ks d))
unique s ks (v.At i) (v.At j) (w, b, f) (x, c, g) =
    elim (order i j) [
      | inl l ↦ absurd (f 32 (goes_before s 32 i j ks l x c))
      | inr q ↦ elim q [ inl l ↦ absurd (g 32 (goes_before s 32 j i ks l w b)) | inr e ↦ ap v.At e ]
    ]
unique s ks (v.At i) v.Deep (w, b, f) (j, x, c, g, (n, h)) = absurd (at_deep s ks i j n w b f x c g h)
unique s ks v.Deep (v.At i) (j, x, c, g, (n, h)) (w, b, f) = absurd (at_deep s ks i j n w b f x c g h)
unique s ks v.Deep v.Deep d e = refl
