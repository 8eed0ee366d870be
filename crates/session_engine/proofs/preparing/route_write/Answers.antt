use Rattle.session_engine.proofs.WriteLaws.{routed_by}
use Rattle.session_engine.proofs.preparing.route_write.Goals as goal

pub returns : goal.returns
returns c = λ a s is has.
    routed_by c.label_law.ensures.number c.args.tier.now a c.args.id s c.level-level.result c.ops.result.now c.args.write.now
    c.route_write.result c.requires is has (c.level-level.ensures s has) c.ops.ensures c.route_write.ensures
