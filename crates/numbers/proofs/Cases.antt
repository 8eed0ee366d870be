-- Cases of numbers.
use Rattle.std.proofs.Common.{ℕ, ◌<◌, ◌≤◌, arith}
use Rattle.std.proofs.Math.Logic.{⊎_elim}
use Rattle.std.proofs.lemmas.Bool.{cases_order}

-- a number is below another or isn't
pub by_order {ℓ} : {P : Type ℓ} (a b : ℕ) → (a < b → P) → (b ≤ a → P) → P
by_order a b below above =
    ⊎_elim (λ same. above (omega arith)) (λ apart. ⊎_elim below (λ more. above (omega arith)) apart) (cases_order a b)
