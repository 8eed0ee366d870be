-- Laws of lists that are written element by element.
use Rattle.std.proofs.Common.{◌≡◌, ℕ, zero, suc, ◌+◌, ◌<◌, List, [], ◌∷◌, ◌++◌, length, take, drop, get_or, refl, sym, ◌∙◌, ap, append_assoc, append-nil, arith, subst, Option, Result}
use Rattle.std.specs.List.{flat_map}
use Rattle.std.specs.Result.{IsErr}
use Rattle.reply_lines.specs.Output.{Splits, Breaks, Passes}
use Rattle.reply_lines.proofs.OutputLaws.{splits_both, breaks_behind, passes_failed}

pub flat_take : {A : Type 0} (f : A → List ℕ) (xs : List A) (i : ℕ) (x : A) → i < length xs → x ≡ get_or xs i x → flat_map f (take i xs) ++ f x ≡ flat_map f (take (i + 1) xs)
flat_take f [] i x lt is = absurd (omega arith)
flat_take f (y ∷ ys) zero x lt is = ap f is ∙ sym (append-nil (f y))
flat_take f (y ∷ ys) (suc i) x lt is =
    let e : suc i + 1 ≡ suc (i + 1) = omega arith in
    rw e (append_assoc (f y) (flat_map f (take i ys)) (f x) ∙ ap (λ l. f y ++ l) (flat_take f ys i x (omega arith) is))

pub flat_rest : {A : Type 0} (f : A → List ℕ) (xs : List A) (n : ℕ) → flat_map f (take n xs) ++ flat_map f (drop n xs) ≡ flat_map f xs
flat_rest f [] zero = refl
flat_rest f [] (suc n) = refl
flat_rest f (x ∷ xs) zero = refl
flat_rest f (x ∷ xs) (suc n) = append_assoc (f x) (flat_map f (take n xs)) (flat_map f (drop n xs)) ∙ ap (λ l. f x ++ l) (flat_rest f xs n)

-- an element that is there is so whatever stands in for one that isn't
pub same_there : {A : Type 0} (xs : List A) (i : ℕ) (a b : A) → i < length xs → get_or xs i a ≡ get_or xs i b
same_there [] i a b lt = absurd (omega arith)
same_there (x ∷ xs) zero a b lt = refl
same_there (x ∷ xs) (suc i) a b lt = same_there xs i a b (omega arith)

-- one element more has passed
pub goes_on : {A : Type 0} (f : A → List ℕ) (xs : List A) (i : ℕ) (x : A) (start now next : Option (List ℕ)) (w w' w'' : List ℕ) → i < length xs → x ≡ get_or xs i x
    → Splits start now (w ++ flat_map f (take i xs)) w' → Splits now next (w' ++ f x) w'' → Splits start next (w ++ flat_map f (take (i + 1) xs)) w''
goes_on f xs i x start now next w w' w'' lt is p q =
    subst (λ (l : List ℕ). Splits start next (w ++ l) w'') (flat_take f xs i x lt is) (splits_both start now next w w' w'' (flat_map f (take i xs)) (f x) p q)

-- one element didn't pass whole
pub goes_wrong : {A E : Type 0} (r : Result (Unit {0}) E) (f : A → List ℕ) (xs : List A) (i : ℕ) (x : A) (start now next : Option (List ℕ)) (w w' w'' : List ℕ) → i < length xs → x ≡ get_or xs i x
    → IsErr r → Splits start now (w ++ flat_map f (take i xs)) w' → Breaks now next (w' ++ f x) → Passes r start next w w'' (flat_map f xs)
goes_wrong r f xs i x start now next w w' w'' lt is bad p q =
    subst (λ (l : List ℕ). Passes r start next w w'' l) (ap (λ l. l ++ flat_map f (drop (i + 1) xs)) (flat_take f xs i x lt is) ∙ flat_rest f xs (i + 1))
    (passes_failed r start next w w'' (flat_map f (take i xs) ++ f x) (flat_map f (drop (i + 1) xs)) bad (breaks_behind start now next w w' (flat_map f (take i xs)) (f x) p q))
