use Rattle.std.proofs.Common.{ap, subst, sym, ◌∙◌}
use Rattle.statement_uses.specs.Touching.{HaveRowsIn, newest_stores, touched_stores}
use Rattle.session_engine.proofs.CommittedStores.{rows_roomless}
use Rattle.session_engine.proofs.commit.commit_ops.Goals as goal

pub returns : goal.returns
returns c = record {
  touched = c.touch_stores.ensures.touched ∙ ap (touched_stores c.args.entered.now) c.store_ops.ensures;
  newest = λ have.
      c.touch_stores.ensures.newest
      (rows_roomless c.args.entered.now c.store_ops.new.stores.items (subst (HaveRowsIn c.args.entered.now) (sym c.store_ops.ensures) have))
      ∙ ap (newest_stores c.args.entered.now) c.store_ops.ensures;
}
