-- Words put one behind the other.
use Rattle.std.proofs.Common.{◌≡◌, ℕ, List, [], ◌∷◌, ◌++◌, Result, Ok, Err, OnOk, sym, ap, ◌∙◌, append_assoc, append-nil}
use Rattle.std.proofs.lemmas.Grind.{flat_map-append}
use Rattle.sql_words.specs.Words.{Word}
use Rattle.sql_words.specs.Words.{spaced}

pub spaced_append : (xs ys : List Word) → spaced (xs ++ ys) ≡ spaced xs ++ spaced ys
spaced_append xs ys = flat_map-append (λ (w : Word). 32 ∷ w) xs ys

-- one word
pub one : (old new : List ℕ) (v w : Word) → new ≡ old ++ 32 ∷ v → v ≡ w → new ≡ old ++ spaced (w ∷ [])
one old new v w h e = h ∙ ap (λ (x : List ℕ). old ++ 32 ∷ x) (e ∙ sym (append-nil w))

pub one_ok : {A E : Type 0} (r : Result A E) (old new : List ℕ) (v w : Word) → OnOk r (new ≡ old ++ 32 ∷ v) → v ≡ w → OnOk r (new ≡ old ++ spaced (w ∷ []))
one_ok (Ok a) old new v w h e = one old new v w h e
one_ok (Err x) old new v w h e = h

-- words and words behind them
pub two : (old mid new : List ℕ) (xs ys : List Word) → mid ≡ old ++ spaced xs → new ≡ mid ++ spaced ys → new ≡ old ++ spaced (xs ++ ys)
two old mid new xs ys h l = l ∙ (ap (λ (m : List ℕ). m ++ spaced ys) h ∙ (append_assoc old (spaced xs) (spaced ys) ∙ ap (λ (m : List ℕ). old ++ m) (sym (spaced_append xs ys))))

pub two_ok : {A E : Type 0} (r : Result A E) (old mid new : List ℕ) (xs ys : List Word) → mid ≡ old ++ spaced xs → OnOk r (new ≡ mid ++ spaced ys) → OnOk r (new ≡ old ++ spaced (xs ++ ys))
two_ok (Ok a) old mid new xs ys h l = two old mid new xs ys h l
two_ok (Err x) old mid new xs ys h l = l

-- the same words, written otherwise
pub as_ok : {A E : Type 0} (r : Result A E) (old new : List ℕ) (xs ys : List Word) → OnOk r (new ≡ old ++ spaced xs) → xs ≡ ys → OnOk r (new ≡ old ++ spaced ys)
as_ok r old new xs ys h e = rw (← e) h
