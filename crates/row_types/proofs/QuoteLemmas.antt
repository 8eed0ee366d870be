-- Texts between quotes.
use Rattle.std.proofs.Common.{◌≡◌, ◌≢◌, ℕ, true, false, nat_eq, List, [], ◌∷◌, ◌++◌, append_assoc, append-nil, refl, sym, ap, ◌∙◌, Option, Some, None, arith, get_or, drop, length, ◌<◌}
use Rattle.std.specs.Option.{option_map}
use Rattle.std.specs.List.{list_any, starts_with}
use Rattle.std.proofs.lemmas.Bool.Decides.{nat_tests}
use Rattle.row_types.specs.Literals.{undoubled}

pub undoubled-plain : (b : ℕ) (bytes : List ℕ) → nat_eq b 39 ≡ false → undoubled (b ∷ bytes) ≡ option_map (λ text. b ∷ text) (undoubled bytes)
unfolding undoubled
undoubled-plain b [] plain = rw plain
undoubled-plain b (c ∷ bytes) plain = rw plain

-- the first byte is no quote
pub first_plain : (bytes : List ℕ) → 0 < length bytes → get_or bytes 0 0 ≢ 39 → undoubled bytes ≡ option_map (λ text. get_or bytes 0 0 ∷ text) (undoubled (drop 1 bytes))
first_plain [] some plain = absurd (omega arith)
first_plain (b ∷ bytes) some plain = undoubled-plain b bytes (grind (arith, nat_tests))

-- two quotes stand first
pub first_pair : (bytes : List ℕ) → starts_with nat_eq bytes (39 ∷ 39 ∷ []) ≡ true → undoubled bytes ≡ option_map (λ text. 39 ∷ text) (undoubled (drop 2 bytes))
unfolding undoubled
first_pair [] pair = cc
first_pair (b ∷ []) pair = absurd (grind arith)
first_pair (b ∷ c ∷ bytes) pair =
    let one : nat_eq b 39 ≡ true = grind arith in
    let two : nat_eq c 39 ≡ true = grind arith in
    rw (one, two)

-- a quote stands first, and none behind it
pub first_alone : (bytes : List ℕ) → get_or bytes 0 0 ≡ 39 → starts_with nat_eq bytes (39 ∷ 39 ∷ []) ≡ false → undoubled bytes ≡ None
unfolding undoubled
first_alone [] quote alone = absurd (omega arith)
first_alone (b ∷ []) quote alone = let one : nat_eq b 39 ≡ true = grind (arith, nat_tests) in rw one
first_alone (b ∷ c ∷ bytes) quote alone =
    let one : nat_eq b 39 ≡ true = grind (arith, nat_tests) in
    let two : nat_eq c 39 ≡ false = grind (arith, nat_tests) in
    rw (one, two)

pub undoubled-nil : undoubled [] ≡ Some []
unfolding undoubled
undoubled-nil = refl

-- text behind text
pub map_behind : (text : List ℕ) (b : ℕ) (rest : Option (List ℕ)) → option_map (λ more. text ++ more) (option_map (λ more. b ∷ more) rest) ≡ option_map (λ more. (text ++ b ∷ []) ++ more) rest
map_behind text b None = refl
map_behind text b (Some more) = ap Some (sym (append_assoc text (b ∷ []) more))

pub map_nothing : (rest : Option (List ℕ)) → option_map (λ more. [] ++ more) rest ≡ rest
map_nothing None = refl
map_nothing (Some more) = refl

-- bytes without a quote stand for themselves
pub undoubled-none : (bytes : List ℕ) → list_any (λ b. nat_eq b 39) bytes ≡ false → undoubled bytes ≡ Some bytes
undoubled-none [] none = undoubled-nil
undoubled-none (b ∷ bytes) none =
    let plain : nat_eq b 39 ≡ false = grind arith in
    let more : list_any (λ c. nat_eq c 39) bytes ≡ false = grind arith in
    undoubled-plain b bytes plain ∙ ap (option_map (λ text. b ∷ text)) (undoubled-none bytes more)

-- where no byte is left the text is whole
pub nothing_left : (text bytes : List ℕ) → length bytes ≡ 0 → option_map (λ more. text ++ more) (undoubled bytes) ≡ Some text
nothing_left text [] none = rw undoubled-nil (ap Some (append-nil text))
nothing_left text (b ∷ bytes) none = absurd (omega arith)
