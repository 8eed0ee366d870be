-- Laws of the order of numbers.
use Rattle.std.proofs.Common.{◌≡◌, ℕ, ◌-◌, ◌^◌, ap, sym, ◌∙◌, ℤ, pos, ◌*ℤ◌}
use Rattle.std.specs.Ordering.{int_cmp}
use Rattle.std.specs.Cmp.{IsTotalOrder}
use Rattle.std.specs.FinMap.{int_cmp-IsAntisymmetric}
use Rattle.std.specs.declared.cmp.Ordering.TheVariants.{Equal}
use Rattle.std.proofs.lemmas.Cmp.{on_total, int_cmp_total}
use Rattle.numbers.specs.Decimals.{Decimal, order_of_numbers, units_at}
use Rattle.numbers.proofs.Powers.{power_least, scaled_cmp}

pub order_total : IsTotalOrder order_of_numbers
order_total = on_total (units_at 18) int_cmp_total

-- at one scale the units decide
pub order_at_scale : (a b : Decimal) → a.scale ≡ b.scale → order_of_numbers a b ≡ int_cmp a.units b.units
order_at_scale a b same =
    ap (λ s. int_cmp (a.units *ℤ pos (10 ^ (18 - a.scale))) (b.units *ℤ pos (10 ^ (18 - s)))) (sym same) ∙ scaled_cmp a.units b.units (10 ^ (18 - a.scale)) (power_least (18 - a.scale))

abbrev decimal_at : ℤ → ℕ → Decimal
decimal_at units scale = record { units = units; scale = scale }

pub same_decimal : (a b : Decimal) → a.units ≡ b.units → a.scale ≡ b.scale → a ≡ b
same_decimal a b units scale = ap (λ u. decimal_at u a.scale) units ∙ ap (λ s. decimal_at b.units s) scale

pub order_same : (a b : Decimal) → a.scale ≡ b.scale → order_of_numbers a b ≡ Equal → a ≡ b
order_same a b scale e = same_decimal a b (int_cmp-IsAntisymmetric a.units b.units (sym (order_at_scale a b scale) ∙ e)) scale
