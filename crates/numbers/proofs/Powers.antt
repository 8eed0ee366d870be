-- Powers of ten, and whole numbers times one.
use Rattle.std.proofs.Common.{◌≡◌, ℕ, zero, suc, ◌^◌, ◌<◌, ◌≤◌, arith, refl, ap, sym, ℤ, pos, negsuc, ◌*ℤ◌, ◌<ℤ◌}
use Rattle.std.specs.Ordering.{int_cmp, MatchOrdering}
use Rattle.std.specs.Cmp.{int_cmp_is}
use Rattle.std.specs.declared.cmp.Ordering.{Ordering}
use Rattle.std.specs.declared.cmp.Ordering.TheVariants.{Less, Equal, Greater}
use Rattle.std.proofs.lemmas.Cmp.{int_ranked}
use Rattle.std.proofs.lemmas.Int.{ints}
use Rattle.std.proofs.Math.IntN.{pos-*ℤ-pos, negsuc-*ℤ-pos}
use Rattle.std.proofs.Math.Nat.{one-le-pow, pow-le-pow_right, mul-lt-mul_of_pos_right}

pub power_least : (k : ℕ) → 1 ≤ 10 ^ k
power_least k = one-le-pow k 10 (omega arith)

pub power_greatest : (k : ℕ) → k ≤ 18 → 10 ^ k ≤ 10 ^ 18
power_greatest k few = pow-le-pow_right (omega arith) few

pub scaled_less : (a b : ℤ) (k : ℕ) → 0 < k → a <ℤ b → (a *ℤ pos k) <ℤ (b *ℤ pos k)
scaled_less (pos m) (pos n) k some less =
    let below : m < n = omega (arith, ints) in
    rw (pos-*ℤ-pos m k, pos-*ℤ-pos n k) (omega (arith, ints, mul-lt-mul_of_pos_right below some))
scaled_less (pos m) (negsuc n) k some less = absurd (omega (arith, ints))
scaled_less (negsuc m) (pos n) k some less =
    let above : zero < suc m = omega arith in
    rw (negsuc-*ℤ-pos m k, pos-*ℤ-pos n k) (omega (arith, ints, mul-lt-mul_of_pos_right above some))
scaled_less (negsuc m) (negsuc n) k some less =
    let below : suc n < suc m = omega (arith, ints) in
    rw (negsuc-*ℤ-pos m k, negsuc-*ℤ-pos n k) (omega (arith, ints, mul-lt-mul_of_pos_right below some))

ranked : (r : Ordering) (a b : ℤ) (k : ℕ) → 0 < k → MatchOrdering r (a <ℤ b) (a ≡ b) (b <ℤ a) → MatchOrdering r ((a *ℤ pos k) <ℤ (b *ℤ pos k)) (a *ℤ pos k ≡ b *ℤ pos k) ((b *ℤ pos k) <ℤ (a *ℤ pos k))
ranked Less a b k some less = scaled_less a b k some less
ranked Equal a b k some same = ap (λ z. z *ℤ pos k) same
ranked Greater a b k some more = scaled_less b a k some more

-- the order stays where both are multiplied
pub scaled_cmp : (a b : ℤ) (k : ℕ) → 0 < k → int_cmp (a *ℤ pos k) (b *ℤ pos k) ≡ int_cmp a b
scaled_cmp a b k some = sym (int_cmp_is (a *ℤ pos k) (b *ℤ pos k) (int_cmp a b) (ranked (int_cmp a b) a b k some (int_ranked a b (int_cmp a b) refl)))
