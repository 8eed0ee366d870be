use Rattle.std.proofs.Common.{Some, subst}
use Rattle.stored_tier.specs.Refreshing.{choice_of, is_filled}
use Rattle.group_engine.specs.Gaining.{AreMadeGaining}
use Rattle.group_engine.proofs.gaining.gain_at.Goals as goal

pub returns-clause-gained : goal.returns-clause-gained
returns-clause-gained c = record {
  rows = c.in_ok-rows.rows;
  taken = c.in_ok-rows.ensures;
  count = c.len-count.ensures.value;
  made = subst
      (λ m. AreMadeGaining (is_filled (choice_of c.args.chosen) (Some c.args.aim.now.place)) c.args.tier.now c.args.aim.now.place m c.args.tables.now c.in_ok-made.made.items)
      c.gained_of-gained.ensures c.in_ok-made.ensures.made;
}
