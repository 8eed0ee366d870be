-- ORDER BY is a total order.
use Rattle.std.proofs.Common.{Bool, true, false, List, [], ◌∷◌, Result, Ok, Err, OnOk, drop}
use Rattle.std.specs.Cmp.{IsTotalOrder}
use Rattle.std.proofs.lemmas.Cmp.{back_total, on_total, then_total, nat_cmp_total}
use Rattle.expressions.specs.row_types.specs.Order.{order_of}
use Rattle.expressions.specs.row_types.proofs.OrderLaws.{order_total}
use Rattle.evaluator.specs.Queries.{by_values, first_value, way}

way_total : (descending : Bool) → IsTotalOrder (way descending order_of)
way_total true = back_total order_total
way_total false = order_total

pub by_values_total : (descending : List Bool) → IsTotalOrder (by_values descending)
by_values_total [] = on_total (λ vs. 0) nat_cmp_total
by_values_total (d ∷ ds) = then_total (on_total first_value (way_total d)) (on_total (drop 1) (by_values_total ds))

-- three facts, of which one is of the good case
pub three : {T E : Type 0} (r : Result T E) (P Q R S : Type 0) → P → OnOk r Q → R → (P → Q → R → S) → OnOk r S
three (Ok x) P Q R S p q r f = f p q r
three (Err e) P Q R S p q r f = q
