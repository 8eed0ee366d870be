-- Laws of bytes that are taken and written in pieces.
use Rattle.std.proofs.Common.{◌≡◌, ℕ, zero, suc, min, ◌+◌, ◌-◌, ◌<◌, List, [], ◌∷◌, ◌++◌, length, take, drop, refl, sym, ◌∙◌, ap, arith, zero-add, append_assoc, Option, Some, None}
use Rattle.std.specs.Io.KnownBytes.{Appends}
use Rattle.std.proofs.lemmas.List.{take_at, take-append-drop, length-drop, drop_all, length-append}

take_nothing : (n : ℕ) → ◌≡◌ {A = List ℕ} (take n []) []
take_nothing zero = refl
take_nothing (suc n) = refl

drop_nothing : (n : ℕ) → ◌≡◌ {A = List ℕ} (drop n []) []
drop_nothing zero = refl
drop_nothing (suc n) = refl

-- a front and the piece behind it
pub take_more : (i n : ℕ) (xs : List ℕ) → take i xs ++ take n (drop i xs) ≡ take (i + n) xs
take_more zero n xs = rw zero-add refl
take_more (suc i) n [] = take_nothing n ∙ sym (take_nothing (suc i + n))
take_more (suc i) n (x ∷ xs) = let e : suc i + n ≡ suc (i + n) = omega arith in rw e (ap (λ l. x ∷ l) (take_more i n xs))

-- what is behind a front and the piece behind it
pub drop_more : (i n : ℕ) (xs : List ℕ) → drop n (drop i xs) ≡ drop (i + n) xs
drop_more zero n xs = rw zero-add refl
drop_more (suc i) n [] = drop_nothing n ∙ sym (drop_nothing (suc i + n))
drop_more (suc i) n (x ∷ xs) = let e : suc i + n ≡ suc (i + n) = omega arith in rw e (drop_more i n xs)

-- n of the bytes left are given, at the front of the buffer
pub gave : (bytes copied rest : List ℕ) (at n : ℕ) → copied ≡ take n (drop at bytes) → length copied ≡ n → drop at bytes ≡ take n (copied ++ rest) ++ drop (at + n) bytes
gave bytes copied rest at n is len = rw (take_at copied rest n len, is, ← drop_more at n bytes) (sym (take-append-drop n (drop at bytes)))

-- nothing is given into a buffer with room only at the end
pub ended : (bytes copied buf : List ℕ) (at n piece : ℕ) → n ≡ min (min (length (drop at bytes)) piece) (length buf) → 0 < piece → length copied ≡ n
    → n ≡ 0 → 0 < length (copied ++ drop n buf) → drop (at + n) bytes ≡ []
ended bytes copied buf at n piece is some len none room =
    let whole : length (copied ++ drop n buf) ≡ length copied + length (drop n buf) = length-append copied (drop n buf) in
    let rest : length (drop n buf) ≡ length buf - n = length-drop n buf in
    let left : length (drop at bytes) ≡ length bytes - at = length-drop at bytes in
    drop_all (at + n) bytes (omega arith)

pub appends_none : (a : Option (List ℕ)) → Appends a a []
appends_none None = tt
appends_none (Some xs) = append_nil xs
  where
    append_nil : (xs : List ℕ) → xs ≡ xs ++ []
    append_nil [] = refl
    append_nil (x ∷ xs) = ap (λ l. x ∷ l) (append_nil xs)

-- one piece behind another
pub appends_twice : (a b c : Option (List ℕ)) (xs ys : List ℕ) → Appends a b xs → Appends b c ys → Appends a c (xs ++ ys)
appends_twice None b c xs ys p q = tt
appends_twice (Some a) None c xs ys p q = absurd p
appends_twice (Some a) (Some b) None xs ys p q = absurd q
appends_twice (Some a) (Some b) (Some c) xs ys p q = q ∙ ap (λ l. l ++ ys) p ∙ append_assoc a xs ys
