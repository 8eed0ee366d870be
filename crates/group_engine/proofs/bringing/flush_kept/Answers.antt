use Rattle.group_engine.proofs.BringTried.{none_is, none_written, some_is}
use Rattle.group_engine.proofs.bringing.flush_kept.Goals as goal

pub returns-then-is_none-clause-flushes : goal.returns-then-is_none-clause-flushes
returns-then-is_none-clause-flushes g c =
    none_written g.D.Disk.state g.D.Disk.possible c.args.journal.now c.args.disk.now c.args.ready.now (none_is c.args.journal.now c.is_none.result c.is_none.ensures c.if-is_none.true)

pub returns-clause-none : goal.returns-clause-none
returns-clause-none g c = some_is c.args.journal.now c.is_none.result c.is_none.ensures c.if-is_none.false
