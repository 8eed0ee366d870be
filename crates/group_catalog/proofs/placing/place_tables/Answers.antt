-- One table more.
use Rattle.std.proofs.Common.{◌∙◌, arith}
use Rattle.std.proofs.lemmas.Grind.{common_steps}
use Rattle.group_catalog.proofs.PlacedLaws.{known_more, placed_more}
use Rattle.group_catalog.proofs.placing.place_tables.Goals as goal

pub loop-i-preserved : goal.loop-i-preserved
loop-i-preserved c = record {
  known =
      c.loop-i.invariant.known
      ∙ known_more c.args.schema.now c.args.tables.now c.loop-i.i c.index-tables-i.result c.loop-i-test.true c.index-tables-i.is c.in_ok-place_one.ensures.told;
  placed = grind (arith, common_steps, placed_more c.args.schema.now c.args.tables.now c.loop-i.i c.index-tables-i.result c.loop-i-test.true c.index-tables-i.is);
}
