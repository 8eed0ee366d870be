-- Leads rise with keys.
use Rattle.std.proofs.Common.{◌≡◌, ◌<◌, ◌^◌, ℤ, pos, negsuc, List, [], ◌∷◌, Less, Equal, Greater, Ordering, refl, sym, ap, ◌∙◌, arith}
use Rattle.std.specs.Ordering.{int_cmp, nat_cmp, ordering_then, ordering_reverse, MatchOrdering}
use Rattle.std.proofs.lemmas.Cmp.{ranked}
use Rattle.std.proofs.lemmas.Int.{ints}
use Rattle.indexed_rows.specs.numbers.specs.Decimals.{floor_of}
use Rattle.indexed_rows.specs.numbers.proofs.FloorLaws.{floor_less}
use Rattle.indexed_rows.specs.row_types.proofs.OrderLaws.{key_total}
use Rattle.indexed_rows.specs.row_types.specs.declared.value.Value.{Value}
use Rattle.indexed_rows.specs.row_types.specs.declared.value.Value.TheVariants.{Null, Number, Text, Time}
use Rattle.indexed_rows.specs.row_types.specs.Order.{key_order, order_of}
use Rattle.slot_rows.specs.Leads.{lead, lead_first, lead_of, near}

near_below : (x : ℤ) → near x < 2 ^ 62
near_below (pos n) = grind arith
near_below (negsuc n) = grind arith

near_rises : (x y : ℤ) → near x < near y → int_cmp x y ≡ Less
near_rises (pos m) (pos n) h = grind (arith, ints)
near_rises (pos m) (negsuc n) h = grind (arith, ints)
near_rises (negsuc m) (pos n) h = grind (arith, ints)
near_rises (negsuc m) (negsuc n) h = grind (arith, ints)

pub lead_rises : (v w : Value) → lead v < lead w → order_of v w ≡ Less
lead_rises (Number x) (Number y) h = ap (λ r. ordering_then (ordering_then r Equal) (nat_cmp x.scale y.scale)) (floor_less x y (near_rises (floor_of x) (floor_of y) h))
lead_rises (Number x) (Time y) h = refl
lead_rises (Number x) (Text y) h = refl
lead_rises (Number x) Null h = refl
lead_rises (Time x) (Number y) h = absurd (omega (arith, near_below (floor_of y), h))
lead_rises (Time x) (Time y) h = ap (λ r. ordering_then (ordering_then r Equal) Equal) (near_rises x y (omega (arith, h)))
lead_rises (Time x) (Text y) h = refl
lead_rises (Time x) Null h = refl
lead_rises (Text x) (Number y) h = absurd (omega (arith, near_below (floor_of y), h))
lead_rises (Text x) (Time y) h = absurd (omega (arith, near_below y, h))
lead_rises (Text x) (Text y) h = absurd (omega (arith, h))
lead_rises (Text x) Null h = refl
lead_rises Null (Number y) h = absurd (omega (arith, near_below (floor_of y), h))
lead_rises Null (Time y) h = absurd (omega (arith, near_below y, h))
lead_rises Null (Text y) h = absurd (omega (arith, h))
lead_rises Null Null h = absurd (omega (arith, h))

key_rises : (k l : List Value) → lead_of k < lead_of l → key_order k l ≡ Less
key_rises [] [] h = absurd (omega (arith, h))
key_rises [] (w ∷ l) h = refl
key_rises (v ∷ k) [] h = absurd (omega (arith, h))
key_rises (v ∷ k) (w ∷ l) h = ap (λ r. ordering_then r (key_order k l)) (lead_rises v w h)

-- to compare leads first changes nothing
pub lead_agrees : (k l : List Value) → lead_first (lead_of k) (lead_of l) (key_order k l) ≡ key_order k l
lead_agrees k l = by (nat_cmp (lead_of k) (lead_of l)) (ranked (lead_of k) (lead_of l) (nat_cmp (lead_of k) (lead_of l)) refl)
  where
    by : (r : Ordering) → MatchOrdering r (lead_of k < lead_of l) (lead_of k ≡ lead_of l) (lead_of l < lead_of k) → ordering_then r (key_order k l) ≡ key_order k l
    by Less h = sym (key_rises k l h)
    by Equal h = refl
    by Greater h = sym (key_total.antisymm k l ∙ ap ordering_reverse (key_rises l k h))
