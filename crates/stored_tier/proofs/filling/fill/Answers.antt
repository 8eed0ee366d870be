use Rattle.std.proofs.Common.{◌∙◌}
use Rattle.std.specs.FinMap.{values}
use Rattle.stored_tier.proofs.FillSteps.{at_index, layers_kept, one_table}
use Rattle.stored_tier.proofs.filling.fill.Goals as goal

pub loop-place-preserved : goal.loop-place-preserved
loop-place-preserved c = record {
  same = one_table c.args.tables.now c.loop-place.place c.index-tables-place.result _ c.loop-place.store c.fill_table.new.store
      (at_index c.args.tables.now c.loop-place.place c.index-tables-place.result c.loop-place-test.true c.index-tables-place.is)
      c.loop-place.invariant.same c.in_ok-fill_table.ensures;
  long = layers_kept c.loop-place.place (values c.index-tables-place.result) c.loop-place.store c.fill_table.new.store c.in_ok-fill_table.ensures
      ∙ c.loop-place.invariant.long;
}
