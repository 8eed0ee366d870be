-- The whole number below a number rises with it.
use Rattle.std.proofs.Common.{◌≡◌, ℕ, ◌+◌, ◌-◌, ◌*◌, ◌/◌, ◌^◌, ◌<◌, ◌≤◌, arith, ap, sym, ◌∙◌, ℤ, pos, negsuc, neg_ℤ, ◌+ℤ◌, ◌*ℤ◌, ◌<ℤ◌, ◌≤ℤ◌, suc, int_cmp}
use Rattle.std.specs.Int.{int_div_euclid}
use Rattle.std.specs.Int.Signed.{<ℤ-≤ℤ_trans, ≤ℤ_refl}
use Rattle.std.specs.Cmp.{int_cmp_is}
use Rattle.std.specs.declared.cmp.Ordering.TheVariants.{Less}
use Rattle.std.proofs.lemmas.Cmp.{int_ranked}
use Rattle.std.proofs.lemmas.Int.{ints, by_lt_z}
use Rattle.std.proofs.lemmas.Nat.{div-mul-add, pow-add}
use Rattle.std.proofs.Math.IntN.{negsuc-*ℤ-pos}
use Rattle.std.proofs.Math.Nat.{div-div-eq-div-mul, div-mul-le_self, lt-div-mul-add, mul-div-mul_right}
use Rattle.numbers.specs.Decimals.{Decimal, floor_of, order_of_numbers, units_at}
use Rattle.numbers.proofs.Powers.{power_least, scaled_less}
use Rattle.numbers.proofs.Rescaling.{negative_times, times_twice}

scaled_le : (a b : ℤ) (k : ℕ) → 0 < k → a ≤ℤ b → (a *ℤ pos k) ≤ℤ (b *ℤ pos k)
scaled_le a b k some le = by_lt_z a b less same
  where
    less : a <ℤ b → (a *ℤ pos k) ≤ℤ (b *ℤ pos k)
    less h = let more = scaled_less a b k some h in omega (arith, ints, more)

    same : b ≤ℤ a → (a *ℤ pos k) ≤ℤ (b *ℤ pos k)
    same h = let e : a ≡ b = omega (arith, ints, le, h) in rw e (≤ℤ_refl (b *ℤ pos k))

floor_low : (z : ℤ) (d : ℕ) → 0 < d → (int_div_euclid z (pos d) *ℤ pos d) ≤ℤ z
floor_low (pos a) d some = let low = div-mul-le_self a d in omega (arith, ints, low)
floor_low (negsuc a) d some =
    let high : a < a / d * d + d = lt-div-mul-add some in
    rw (negsuc-*ℤ-pos (a / d) d) (omega (arith, ints, high))

floor_high : (z : ℤ) (d : ℕ) → 0 < d → z <ℤ ((int_div_euclid z (pos d) +ℤ pos 1) *ℤ pos d)
floor_high (pos a) d some =
    let high : a < a / d * d + d = lt-div-mul-add some in
    let more : (a / d + 1) * d ≡ a / d * d + d = omega arith in
    omega (arith, ints, high, more)
floor_high (negsuc a) d some =
    let low = div-mul-le_self a d in
    let next : negsuc (a / d) +ℤ pos 1 ≡ neg_ℤ (pos (a / d)) = omega (arith, ints) in
    rw (next, negative_times (a / d) d) (omega (arith, ints, low))

pub floor_rises : (a b : Decimal) → floor_of a <ℤ floor_of b → order_of_numbers a b ≡ Less
floor_rises a b less = sym (int_cmp_is (units_at 18 a) (units_at 18 b) Less (<ℤ-≤ℤ_trans below (omega (arith, ints, next, above))))
  where
    below : units_at 18 a <ℤ ((floor_of a +ℤ pos 1) *ℤ pos (10 ^ 18))
    below = floor_high (units_at 18 a) (10 ^ 18) (power_least 18)

    above : (floor_of b *ℤ pos (10 ^ 18)) ≤ℤ units_at 18 b
    above = floor_low (units_at 18 b) (10 ^ 18) (power_least 18)

    next : ((floor_of a +ℤ pos 1) *ℤ pos (10 ^ 18)) ≤ℤ (floor_of b *ℤ pos (10 ^ 18))
    next = scaled_le (floor_of a +ℤ pos 1) (floor_of b) (10 ^ 18) (power_least 18) (omega (arith, ints, less))

pub floor_less : (a b : Decimal) → int_cmp (floor_of a) (floor_of b) ≡ Less → order_of_numbers a b ≡ Less
floor_less a b e = floor_rises a b (int_ranked (floor_of a) (floor_of b) Less (sym e))

-- dividing what was multiplied
negative_is : (n m : ℕ) → n ≡ suc m → neg_ℤ (pos n) ≡ negsuc m
negative_is n m e = ap (λ k. neg_ℤ (pos k)) e

divided_again : (u : ℤ) (q p : ℕ) → 0 < p → int_div_euclid (u *ℤ pos p) (pos (q * p)) ≡ int_div_euclid u (pos q)
divided_again (pos a) q p some = ap pos (mul-div-mul_right a q some)
divided_again (negsuc x) q p some =
    let before : suc x * p ≡ suc (x * p + (p - 1)) = omega arith in
    let product : negsuc x *ℤ pos p ≡ negsuc (x * p + (p - 1)) = negsuc-*ℤ-pos x p ∙ negative_is (suc x * p) (x * p + (p - 1)) before in
    let turned : q * p ≡ p * q = omega arith in
    let first : (x * p + (p - 1)) / p ≡ x = div-mul-add x p (p - 1) (omega arith) in
    let quotient : (x * p + (p - 1)) / (q * p) ≡ x / q = ap (λ d. (x * p + (p - 1)) / d) turned ∙ sym (div-div-eq-div-mul (x * p + (p - 1)) p q) ∙ ap (λ n. n / q) first in
    ap (λ z. int_div_euclid z (pos (q * p))) product ∙ ap negsuc quotient

pub floor_by_scale : (n : Decimal) → n.scale ≤ 18 → int_div_euclid n.units (pos (10 ^ n.scale)) ≡ floor_of n
floor_by_scale n fits =
    let all : n.scale + (18 - n.scale) ≡ 18 = omega arith in
    let parts : 10 ^ n.scale * 10 ^ (18 - n.scale) ≡ 10 ^ 18 = sym (pow-add 10 n.scale (18 - n.scale)) ∙ ap (λ k. 10 ^ k) all in
    sym (divided_again n.units (10 ^ n.scale) (10 ^ (18 - n.scale)) (power_least (18 - n.scale))) ∙ ap (λ d. int_div_euclid (units_at 18 n) (pos d)) parts
