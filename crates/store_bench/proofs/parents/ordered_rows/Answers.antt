use Rattle.std.proofs.Common.{[], ◌∷◌, List, sym, ap, ◌∙◌}
use Rattle.std.specs.FinMap as fm
use Rattle.row_types.specs.declared.value.Value.{Value}
use Rattle.row_types.specs.Order.{key_order}
use Rattle.store_bench.proofs.parents.ordered_rows.Goals as goal

pub add_order-requires-clause-empty : goal.add_order-requires-clause-empty
add_order-requires-clause-empty c = ap fm.len c.new-slots.ensures.table ∙ fm.len-empty key_order (List Value)

pub add_order-requires-clause-wider : goal.add_order-requires-clause-wider
add_order-requires-clause-wider c = (
  1 ∷ [],
  c.from_vec-by_parent.ensures ∙ c.in_ok-from_array-2.ensures.items
      ∙ ap (λ places. 1 ∷ places) (sym (c.new-slots.ensures.places ∙ c.from_vec-key.ensures ∙ c.in_ok-from_array.ensures.items)),
)
