-- The number itself at another scale.
use Rattle.std.proofs.Common.{◌≡◌, ℕ, zero, suc, ◌+◌, ◌-◌, ◌*◌, ◌/◌, ◌^◌, ◌<◌, ◌≤◌, Bool, true, false, nat_le, arith, refl, ap, sym, ◌∙◌, ℤ, pos, negsuc, neg_ℤ, ◌*ℤ◌, Option, Some, None, ◌&&◌}
use Rattle.std.specs.Ordering.{int_cmp, is_eq}
use Rattle.std.specs.Option.{option_and_then}
use Rattle.std.specs.Prelude.{if◌then◌else◌}
use Rattle.std.specs.FinMap.{int_cmp-IsAntisymmetric}
use Rattle.std.specs.declared.cmp.Ordering.{Ordering}
use Rattle.std.specs.declared.cmp.Ordering.TheVariants.{Less, Equal, Greater}
use Rattle.std.proofs.lemmas.Bool.Decides.{nat_tests}
use Rattle.std.proofs.lemmas.Int.{ints}
use Rattle.std.proofs.lemmas.Nat.{div-mul-add}
use Rattle.std.proofs.Math.IntN.{negsuc-*ℤ-pos}
use Rattle.std.proofs.Math.Nat.{mul_assoc}
use Rattle.std.proofs.lemmas.Nat.{pow-add}
use Rattle.numbers.specs.Decimals.{Decimal, IsNumber, are_held, number_of, order_of_numbers, units_at}
use Rattle.numbers.specs.Rounding.{nearest, rescaled_to, rounded_to}
use Rattle.numbers.proofs.OrderLaws.{order_same}
use Rattle.numbers.proofs.Powers.{power_least, scaled_cmp}

pub number_is : (a : Decimal) → IsNumber a → number_of a.units a.scale ≡ Some a
number_is a is =
    let held : are_held a.units ≡ true = grind (arith, nat_tests, ints, is.first, is.last) in
    let fits : nat_le a.scale 18 ≡ true = grind (arith, nat_tests, is.scale) in
    rw (held, fits) refl

cmp_itself : (z : ℤ) → int_cmp z z ≡ Equal
cmp_itself z = grind (arith, ints)

equal_if : (o : Ordering) → is_eq o ≡ true → o ≡ Equal
equal_if Less e = Prim.cc
equal_if Equal e = refl
equal_if Greater e = Prim.cc

-- what is equal after a multiplication is equal
pub cancelled : (a b : ℤ) (k : ℕ) → 0 < k → a *ℤ pos k ≡ b *ℤ pos k → a ≡ b
cancelled a b k some e =
    int_cmp-IsAntisymmetric a b (sym (scaled_cmp a b k some) ∙ ap (λ z. int_cmp z (b *ℤ pos k)) e ∙ cmp_itself (b *ℤ pos k))

pub negative_times : (x n : ℕ) → neg_ℤ (pos x) *ℤ pos n ≡ neg_ℤ (pos (x * n))
negative_times zero n = let none : 0 * n ≡ 0 = omega arith in rw none
negative_times (suc x) n = negsuc-*ℤ-pos x n

pub times_twice : (a : ℤ) (m n : ℕ) → (a *ℤ pos m) *ℤ pos n ≡ a *ℤ pos (m * n)
times_twice (pos x) m n = ap pos (mul_assoc x m n)
times_twice (negsuc x) m n = rw (negsuc-*ℤ-pos x m, negative_times (suc x * m) n, negsuc-*ℤ-pos x (m * n), mul_assoc (suc x) m n)

-- a product that is divided again
nearest_of_positive : (m k : ℕ) → 0 < k → (m * k + k / 2) / k ≡ m
nearest_of_positive m k some = div-mul-add m k (k / 2) (omega arith)

nearest_negative : (x k : ℕ) → 0 < k → nearest (neg_ℤ (pos x)) k ≡ neg_ℤ (pos ((x + k / 2) / k))
nearest_negative zero k some =
    let half : k / 2 < k = omega arith in
    let zero_times : 0 * k ≡ 0 = omega arith in
    let none : (0 + k / 2) / k ≡ 0 = rw zero_times at (div-mul-add 0 k (k / 2) half) in
    rw none
nearest_negative (suc x) k some = refl

nearest_of_product : (a : ℤ) (k : ℕ) → 0 < k → nearest (a *ℤ pos k) k ≡ a
nearest_of_product (pos m) k some = ap pos (nearest_of_positive m k some)
nearest_of_product (negsuc m) k some = rw (negsuc-*ℤ-pos m k, nearest_negative (suc m * k) k some, nearest_of_positive (suc m) k some)

equal_scale : (a b : Decimal) → a.scale ≤ 18 → b.scale ≤ a.scale → order_of_numbers a b ≡ Equal → units_at a.scale b ≡ a.units
equal_scale a b fits below e =
    let finest : units_at 18 a ≡ units_at 18 b = int_cmp-IsAntisymmetric (units_at 18 a) (units_at 18 b) e in
    let parts : 10 ^ (18 - b.scale) ≡ 10 ^ (a.scale - b.scale) * 10 ^ (18 - a.scale) =
    ap (λ n. 10 ^ n) (omega arith) ∙ pow-add 10 (a.scale - b.scale) (18 - a.scale) in
    cancelled (units_at a.scale b) a.units (10 ^ (18 - a.scale)) (power_least (18 - a.scale))
    (times_twice b.units (10 ^ (a.scale - b.scale)) (10 ^ (18 - a.scale)) ∙ ap (λ n. b.units *ℤ pos n) (sym parts) ∙ sym finest)

lesser_scale : (a b : Decimal) → b.scale ≤ 18 → a.scale ≤ b.scale → order_of_numbers a b ≡ Equal → nearest b.units (10 ^ (b.scale - a.scale)) ≡ a.units
lesser_scale a b fits below e =
    let finest : units_at 18 a ≡ units_at 18 b = int_cmp-IsAntisymmetric (units_at 18 a) (units_at 18 b) e in
    let parts : 10 ^ (18 - a.scale) ≡ 10 ^ (b.scale - a.scale) * 10 ^ (18 - b.scale) =
    ap (λ n. 10 ^ n) (omega arith) ∙ pow-add 10 (b.scale - a.scale) (18 - b.scale) in
    let units : a.units *ℤ pos (10 ^ (b.scale - a.scale)) ≡ b.units =
    cancelled (a.units *ℤ pos (10 ^ (b.scale - a.scale))) b.units (10 ^ (18 - b.scale)) (power_least (18 - b.scale))
    (times_twice a.units (10 ^ (b.scale - a.scale)) (10 ^ (18 - b.scale)) ∙ ap (λ n. a.units *ℤ pos n) (sym parts) ∙ finest) in
    ap (λ z. nearest z (10 ^ (b.scale - a.scale))) (sym units) ∙ nearest_of_product a.units (10 ^ (b.scale - a.scale)) (power_least (b.scale - a.scale))

rounded_is : (a b : Decimal) → IsNumber a → IsNumber b → order_of_numbers a b ≡ Equal → rounded_to a.scale b ≡ Some a
rounded_is a b is_a is_b e = by (nat_le b.scale a.scale) refl
  where
    by : (below : Bool) → nat_le b.scale a.scale ≡ below → rounded_to a.scale b ≡ Some a
    by true test =
        let below : b.scale ≤ a.scale = grind (arith, nat_tests, test) in
        rw (test, equal_scale a b is_a.scale below e, number_is a is_a)
    by false test =
        let below : a.scale ≤ b.scale = grind (arith, nat_tests, test) in
        rw (test, lesser_scale a b is_b.scale below e, number_is a is_a)

pub rescaled_is : (a b : Decimal) → IsNumber a → IsNumber b → order_of_numbers a b ≡ Equal → rescaled_to a.scale b ≡ Some a
rescaled_is a b is_a is_b e = rw (rounded_is a b is_a is_b e, e)

number_scale : (units : ℤ) (scale : ℕ) (d : Decimal) → number_of units scale ≡ Some d → d.scale ≡ scale
number_scale units scale d e = by (are_held units && nat_le scale 18) e
  where
    by : (held : Bool) → (if held then Some (record { units = units; scale = scale }) else None) ≡ Some d → d.scale ≡ scale
    by true h = let same : record { units = units; scale = scale } ≡ d = Prim.cc in ap (λ (n : Decimal). n.scale) (sym same)
    by false h = Prim.cc

rounded_scale : (scale : ℕ) (n d : Decimal) → rounded_to scale n ≡ Some d → d.scale ≡ scale
rounded_scale scale n d e = by (nat_le n.scale scale) e
  where
    by : (below : Bool) → (if below then number_of (units_at scale n) scale else number_of (nearest n.units (10 ^ (n.scale - scale))) scale) ≡ Some d → d.scale ≡ scale
    by true h = number_scale (units_at scale n) scale d h
    by false h = number_scale (nearest n.units (10 ^ (n.scale - scale))) scale d h

-- what is rescaled has the scale, and stands for the same
pub rescaled_gives : (scale : ℕ) (n d : Decimal) → rescaled_to scale n ≡ Some d → (d.scale ≡ scale) × (order_of_numbers d n ≡ Equal)
rescaled_gives scale n d e = by (rounded_to scale n) refl e
  where
    kept : (r : Decimal) (b : Bool) → is_eq (order_of_numbers r n) ≡ b → (if b then Some r else None) ≡ Some d → rounded_to scale n ≡ Some r → (d.scale ≡ scale) × (order_of_numbers d n ≡ Equal)
    kept r true test h is =
        let same : r ≡ d = Prim.cc in
        (rounded_scale scale n d (is ∙ h), ap (λ x. order_of_numbers x n) (sym same) ∙ equal_if (order_of_numbers r n) test)
    kept r false test h is = Prim.cc

    by : (o : Option Decimal) → rounded_to scale n ≡ o → option_and_then (λ r. if is_eq (order_of_numbers r n) then Some r else None) o ≡ Some d → (d.scale ≡ scale) × (order_of_numbers d n ≡ Equal)
    by None is h = Prim.cc
    by (Some r) is h = kept r (is_eq (order_of_numbers r n)) refl h is

-- numbers of one scale that stand for the same as a third one are the same
pub same_by_third : (a b c : Decimal) → a.scale ≡ b.scale → order_of_numbers a c ≡ Equal → order_of_numbers b c ≡ Equal → a ≡ b
same_by_third a b c scale one other =
    let left : units_at 18 a ≡ units_at 18 c = int_cmp-IsAntisymmetric (units_at 18 a) (units_at 18 c) one in
    let right : units_at 18 b ≡ units_at 18 c = int_cmp-IsAntisymmetric (units_at 18 b) (units_at 18 c) other in
    order_same a b scale (ap (λ z. int_cmp z (units_at 18 b)) (left ∙ sym right) ∙ cmp_itself (units_at 18 b))
