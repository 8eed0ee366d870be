use Rattle.cache_engine.proofs.FinishingLaws.{finished}
use Rattle.tier_journal.specs.KeptOver.{stop_of}
use Rattle.cache_engine.proofs.finishing.finish.Goals as goal

pub returns-clause-finishes : goal.returns-clause-finishes
returns-clause-finishes g c =
    finished g.P.Disk.state g.P.Disk.possible c.args.engine.now.journal c.flush_tail.new.journal c.args.site.now c.flush_tail.new.disk (stop_of c.flush_tail.result) c.flush_tail.ensures.flushes c.flush_tail.ensures.cause
