-- Laws of the numbers that digits write.
use Rattle.std.proofs.Common.{◌≡◌, ℕ, ◌+◌, ◌-◌, ◌*◌, ◌<◌, min, List, [], ◌∷◌, length, take, drop, get_or, sym, ap, ◌∙◌, arith}
use Rattle.std.specs.List.{fold}
use Rattle.std.proofs.lemmas.List.{take-append-drop, drop_more}
use Rattle.std.proofs.lemmas.List.Sums.{fold-append}
use Rattle.table_defs.specs.Declarations.{number_of}

-- one digit more
abbrev pub with_digit : ℕ → ℕ → ℕ
with_digit n digit = 10 * n + (digit - 48)

-- a number grows with its digits
pub grown : (n : ℕ) (digits : List ℕ) → 4000 < n → 4000 < fold with_digit n digits
grown n [] h = h
grown n (d ∷ digits) h = grown (with_digit n d) digits (omega arith)

-- a front that is too great makes the whole too great
pub too_great : (digits : List ℕ) (i n : ℕ) → n ≡ number_of (take i digits) → i < length digits → 4000 < with_digit n (get_or digits i 0) → 4001 ≡ min 4001 (number_of digits)
too_great digits i n e lt h =
    let whole : number_of digits ≡ fold with_digit (with_digit n (get_or digits i 0)) (drop (i + 1) digits) =
    ap number_of (sym (take-append-drop i digits)) ∙ fold-append with_digit 0 (take i digits) (drop i digits) ∙ ap (λ m. fold with_digit m (drop i digits)) (sym e) ∙ ap (fold with_digit n) (drop_more digits i 0 lt) in
    let great : 4000 < fold with_digit (with_digit n (get_or digits i 0)) (drop (i + 1) digits) = grown (with_digit n (get_or digits i 0)) (drop (i + 1) digits) h in
    omega arith
