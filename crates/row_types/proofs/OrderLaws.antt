-- Laws of the order of values and keys.
use Rattle.std.proofs.Common.{◌≡◌, refl, ap, sym, ◌∙◌, true, ℕ, arith, eqb, ◌&&◌, Bool, false, Option, Some, None}
use Rattle.std.specs.Option.{option_map}
use Rattle.std.specs.Ordering.{int_cmp, nat_cmp, on, then_cmp, ordering_then}
use Rattle.std.specs.FinMap.{IsAntisymmetric, int_cmp-IsAntisymmetric, nat_cmp-IsAntisymmetric, slice_cmp-IsAntisymmetric}
use Rattle.std.specs.Cmp.{IsTotalOrder, nat_cmp_is}
use Rattle.std.specs.declared.cmp.Ordering.{Ordering}
use Rattle.std.specs.declared.cmp.Ordering.TheVariants.{Less, Equal, Greater}
use Rattle.std.proofs.lemmas.Bool.{false≢true}
use Rattle.std.proofs.lemmas.Bool.Decides.{nat_tests}
use Rattle.std.proofs.lemmas.Cmp.{then_total, on_total, nat_cmp_total, int_cmp_total, nat_list_cmp_total, lists_total}
use Rattle.numbers.specs.Decimals.{Decimal, order_of_numbers}
use Rattle.numbers.specs.Rounding.{rescaled_to}
use Rattle.numbers.proofs.OrderLaws.{order_same}
use Rattle.numbers.proofs.Rescaling.{rescaled_gives, same_by_third}
use Rattle.row_types.specs.declared.column.Ty.{Ty}
use Rattle.row_types.specs.declared.column.Ty.TheVariants as ty
use Rattle.row_types.specs.declared.value.Value.{Value}
use Rattle.row_types.specs.declared.value.Value.TheVariants.{Null, Number, Text, Time}
use Rattle.row_types.specs.Columns.{holds, rescaled_for, scale_of}
use Rattle.row_types.specs.Order.{order_of, value_order, key_order, rank, number_in, scale_in, text_in}

pub value_total : IsTotalOrder value_order
value_total = then_total (on_total rank nat_cmp_total) (then_total (on_total number_in int_cmp_total) (on_total text_in nat_list_cmp_total))

pub order_total : IsTotalOrder order_of
order_total = then_total value_total (on_total scale_in nat_cmp_total)

pub key_total : IsTotalOrder key_order
key_total = lists_total order_total

-- an order with nothing behind it
pub then_equal : (r : Ordering) → ordering_then r Equal ≡ r
then_equal Less = refl
then_equal Equal = refl
then_equal Greater = refl

-- both orders are equal
first_equal : (r s : Ordering) → ordering_then r s ≡ Equal → r ≡ Equal
first_equal Less s e = e
first_equal Equal s e = refl
first_equal Greater s e = e

then_is : (r s : Ordering) → r ≡ Equal → ordering_then r s ≡ s
then_is Less s e = Prim.cc
then_is Equal s e = refl
then_is Greater s e = Prim.cc

numbers_same : (x y : Decimal) → order_of (Number x) (Number y) ≡ Equal → x ≡ y
numbers_same x y e =
    let first : ordering_then (order_of_numbers x y) Equal ≡ Equal = first_equal _ _ e in
    let equal : order_of_numbers x y ≡ Equal = first_equal _ _ first in
    let scales : nat_cmp x.scale y.scale ≡ Equal = sym (then_is (ordering_then (order_of_numbers x y) Equal) (nat_cmp x.scale y.scale) first) ∙ e in
    order_same x y (nat_cmp-IsAntisymmetric x.scale y.scale scales) equal

pub order_exact : IsAntisymmetric order_of
order_exact Null Null e = refl
order_exact Null (Number y) e = Prim.cc
order_exact Null (Text y) e = Prim.cc
order_exact Null (Time y) e = Prim.cc
order_exact (Number x) Null e = Prim.cc
order_exact (Number x) (Number y) e = ap Number (numbers_same x y e)
order_exact (Number x) (Text y) e = Prim.cc
order_exact (Number x) (Time y) e = Prim.cc
order_exact (Text x) Null e = Prim.cc
order_exact (Text x) (Number y) e = Prim.cc
order_exact (Text x) (Text y) e = ap Text (slice_cmp-IsAntisymmetric nat_cmp-IsAntisymmetric x y (first_equal _ _ e))
order_exact (Text x) (Time y) e = Prim.cc
order_exact (Time x) Null e = Prim.cc
order_exact (Time x) (Number y) e = Prim.cc
order_exact (Time x) (Text y) e = Prim.cc
order_exact (Time x) (Time y) e = ap Time (int_cmp-IsAntisymmetric x y (first_equal _ _ (first_equal _ _ e)))

pub key_exact : IsAntisymmetric key_order
key_exact = slice_cmp-IsAntisymmetric order_exact

-- where the scales are the same the values are ordered by what they stand for
then_same : (v w : Value) → scale_in v ≡ scale_in w → value_order v w ≡ order_of v w
then_same v w e =
    let scales : nat_cmp (scale_in v) (scale_in w) ≡ Equal = ap (λ s. nat_cmp s (scale_in w)) e ∙ sym (nat_cmp_is (scale_in w) (scale_in w) Equal refl) in
    sym (then_equal (value_order v w)) ∙ ap (ordering_then (value_order v w)) (sym scales)

-- the scale of the values that a type holds
scale_is : (t : Ty) (n : Decimal) → holds t (Number n) ≡ true → n.scale ≡ scale_of t
scale_is ty.TtInteger n h = grind (arith, nat_tests)
scale_is ty.TtBigint n h = grind (arith, nat_tests)
scale_is (ty.Number precision scale) n h = grind (arith, nat_tests)
scale_is (ty.Varchar2 greatest) n h = absurd (false≢true h)
scale_is ty.Timestamp n h = absurd (false≢true h)

pub column_order : (t : Ty) (a b : Value) → holds t a ≡ true → holds t b ≡ true → value_order a b ≡ order_of a b
column_order t (Number x) (Number y) hx hy = then_same (Number x) (Number y) (scale_is t x hx ∙ sym (scale_is t y hy))
column_order t (Number x) (Text y) hx hy = refl
column_order t (Number x) (Time y) hx hy = refl
column_order t (Number x) Null hx hy = refl
column_order t (Text x) (Number y) hx hy = refl
column_order t (Text x) (Text y) hx hy = then_same (Text x) (Text y) refl
column_order t (Text x) (Time y) hx hy = then_same (Text x) (Time y) refl
column_order t (Text x) Null hx hy = then_same (Text x) Null refl
column_order t (Time x) (Number y) hx hy = refl
column_order t (Time x) (Text y) hx hy = then_same (Time x) (Text y) refl
column_order t (Time x) (Time y) hx hy = then_same (Time x) (Time y) refl
column_order t (Time x) Null hx hy = then_same (Time x) Null refl
column_order t Null (Number y) hx hy = refl
column_order t Null (Text y) hx hy = then_same Null (Text y) refl
column_order t Null (Time y) hx hy = then_same Null (Time y) refl
column_order t Null Null hx hy = then_same Null Null refl

some_is : {A : Type 0} {x y : A} → Some x ≡ Some y → x ≡ y
some_is e = Prim.cc

numbers_alone : (x y : Decimal) → value_order (Number x) (Number y) ≡ Equal → order_of_numbers x y ≡ Equal
numbers_alone x y e = first_equal (order_of_numbers x y) Equal e

pub rescaled_is : (t : Ty) (v w r : Value) → holds t v ≡ true → value_order v w ≡ Equal → rescaled_for t w ≡ Some r → v ≡ r
rescaled_is t (Number x) (Number y) r held e is = by (rescaled_to (scale_of t) y) refl is
  where
    by : (o : Option Decimal) → rescaled_to (scale_of t) y ≡ o → option_map Number o ≡ Some r → Number x ≡ r
    by None gives h = Prim.cc
    by (Some d) gives h =
        let (scale, equal) = rescaled_gives (scale_of t) y d gives in
        let same : x ≡ d = same_by_third x d y (scale_is t x held ∙ sym scale) (numbers_alone x y e) equal in
        let found : Number d ≡ r = Prim.cc in
        ap Number same ∙ found
rescaled_is t (Number x) (Text y) r held e is = Prim.cc
rescaled_is t (Number x) (Time y) r held e is = Prim.cc
rescaled_is t (Number x) Null r held e is = Prim.cc
rescaled_is t (Text x) (Number y) r held e is = Prim.cc
rescaled_is t (Text x) (Text y) r held e is = order_exact (Text x) (Text y) (sym (then_same (Text x) (Text y) refl) ∙ e) ∙ some_is is
rescaled_is t (Text x) (Time y) r held e is = Prim.cc
rescaled_is t (Text x) Null r held e is = Prim.cc
rescaled_is t (Time x) (Number y) r held e is = Prim.cc
rescaled_is t (Time x) (Text y) r held e is = Prim.cc
rescaled_is t (Time x) (Time y) r held e is = order_exact (Time x) (Time y) (sym (then_same (Time x) (Time y) refl) ∙ e) ∙ some_is is
rescaled_is t (Time x) Null r held e is = Prim.cc
rescaled_is t Null (Number y) r held e is = Prim.cc
rescaled_is t Null (Text y) r held e is = Prim.cc
rescaled_is t Null (Time y) r held e is = Prim.cc
rescaled_is t Null Null r held e is = some_is is
