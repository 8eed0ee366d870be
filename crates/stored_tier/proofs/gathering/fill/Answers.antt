use Rattle.stored_tier.proofs.PutLaws.{filled}
use Rattle.stored_tier.proofs.gathering.fill.Goals as goal

pub returns-clause-ok : goal.returns-clause-ok
returns-clause-ok c = filled c.args.tables c.args.store.now c.reserve.new.self c.put_instance.new.self c.reserve.ensures.same c.put_instance.ensures.put
