-- The bytes of a token, one by one.
use Rattle.std.proofs.Common.{◌≡◌, ℕ, ◌+◌, ◌-◌, ◌<◌, ◌≤◌, List, [], ◌∷◌, ◌++◌, length, drop, take, get_or, slice_range, ap, ◌∙◌, arith, length-drop, get_or-drop}
use Rattle.std.proofs.lemmas.List.{take_more, drop-drop}
use Rattle.std.proofs.Math.Seq.{take-add}

pub range_more : (xs : List ℕ) (s i : ℕ) → s ≤ i → i < length xs → slice_range xs s (i + 1) ≡ slice_range xs s i ++ get_or xs i 0 ∷ []
range_more xs s i l h =
    let e : (i + 1) - s ≡ (i - s) + 1 = omega arith in
    let w : i - s < length (drop s xs) = omega (arith, length-drop s xs) in
    let g : get_or (drop s xs) (i - s) 0 ≡ get_or xs i 0 = get_or-drop s xs (i - s) 0 ∙ (let f : s + (i - s) ≡ i = omega arith in ap (λ j. get_or xs j 0) f) in
    ap (λ n. take n (drop s xs)) e ∙ (take_more (drop s xs) (i - s) 0 w ∙ ap (λ b. take (i - s) (drop s xs) ++ b ∷ []) g)

pub range_none : (xs : List ℕ) (i : ℕ) → slice_range xs i i ≡ []
range_none xs i = let e : i - i ≡ 0 = omega arith in ap (λ n. take n (drop i xs)) e

pub range_one : (xs : List ℕ) (i : ℕ) → i < length xs → slice_range xs i (i + 1) ≡ get_or xs i 0 ∷ []
range_one xs i h = let l : i ≤ i = omega arith in range_more xs i i l h ∙ ap (λ ys. ys ++ get_or xs i 0 ∷ []) (range_none xs i)

pub range_first : (xs : List ℕ) (s i : ℕ) → s + 1 ≡ i → i < length xs → slice_range xs s i ≡ get_or xs s 0 ∷ []
range_first xs s i e h = let l : s < length xs = omega arith in rw (← e) (range_one xs s l)

pub range_pair : (xs : List ℕ) (s i : ℕ) → s + 1 ≡ i → i < length xs → slice_range xs s (i + 1) ≡ get_or xs s 0 ∷ get_or xs i 0 ∷ []
range_pair xs s i e h = let l : s ≤ i = omega arith in range_more xs s i l h ∙ ap (λ ys. ys ++ get_or xs i 0 ∷ []) (range_first xs s i e h)

-- a range is its two parts
pub range_split : (xs : List ℕ) (s m i : ℕ) → s ≤ m → m ≤ i → slice_range xs s i ≡ slice_range xs s m ++ slice_range xs m i
range_split xs s m i h l =
    let e : i - s ≡ (m - s) + (i - m) = omega arith in
    let f : s + (m - s) ≡ m = omega arith in
    ap (λ n. take n (drop s xs)) e ∙ (take-add (m - s) (i - m) (drop s xs) ∙ ap (λ ys. take (m - s) (drop s xs) ++ take (i - m) ys) (drop-drop (m - s) s xs ∙ ap (λ n. drop n xs) f))

-- digits and the point behind them
pub range_point : (xs : List ℕ) (s p i : ℕ) → s ≤ p → p + 1 ≡ i → get_or xs p 0 ≡ 46 → i < length xs → slice_range xs s i ≡ slice_range xs s p ++ 46 ∷ []
range_point xs s p i h e g l =
    let w : p < length xs = omega arith in
    rw (← e, range_more xs s p h w, g)
