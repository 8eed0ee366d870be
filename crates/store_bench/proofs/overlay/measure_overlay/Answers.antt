use Rattle.std.proofs.Common.{subst, ◌∙◌}
use Rattle.store_bench.specs.Measured.{HoldsTable}
use Rattle.store_bench.proofs.overlay.measure_overlay.Goals as goal

pub measure_store-requires : goal.measure_store-requires
measure_store-requires c = record {
  def = c.in_ok-def.def;
  one = c.from_vec-schema.ensures ∙ c.in_ok-from_array.ensures.items;
  plain = c.in_ok-def.ensures;
  holds = subst (λ columns. HoldsTable columns c.in_ok-store.store) c.as_slice.ensures c.in_ok-store.ensures;
}
