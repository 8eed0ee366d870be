use Rattle.cache_engine.proofs.RequestLaws.{none_behind, none_kept}
use Rattle.cache_engine.proofs.request.heed_kept.Goals as goal

pub returns-then-not-kept-clause-performs : goal.returns-then-not-kept-clause-performs
returns-then-not-kept-clause-performs g c =
    none_behind g.P.Disk.state g.P.Disk.possible c.heed_law.ensures c.args.engine.now.tier c.heed-reply.new.engine.tier c.args.engine.now.doubt
    c.heed-reply.new.engine.doubt c.args.engine.now.journal c.heed-reply.new.engine.journal c.args.site.now c.heed-reply.new.site c.args.base.0 c.args.line c.heed-reply.result
    (none_kept c.args.engine.now.journal c.is_some-kept.result c.if-not-kept.true c.is_some-kept.ensures) c.heed-reply.ensures.performs
