use Rattle.std.proofs.Common.{refl, subst}
use Rattle.session_engine.specs.Using.{AreWriteUses, Touches}
use Rattle.session_engine.proofs.holding.hold_used.Goals as goal

pub returns-in-Err-clause-err : goal.returns-in-Err-clause-err
returns-in-Err-clause-err c = record { rest = refl; seen = refl }

pub returns-clause-ok : goal.returns-clause-ok
returns-clause-ok c = record {
  held = c.hold.new.tier;
  uses = c.in-Ok.uses;
  are = subst (λ ops. AreWriteUses c.args.tier.now c.args.id ops c.in-Ok.uses) c.as_slice.ensures c.in-Ok.ensures;
  holds = c.in-Ok-hold.ensures.ok;
  touches = subst (Touches c.hold.new.tier c.touch.new.tier) c.as_slice-in-Ok-hold.ensures c.touch.ensures.touched;
}
