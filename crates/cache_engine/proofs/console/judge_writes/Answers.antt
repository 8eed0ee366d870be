use Rattle.std.proofs.Common.{sym}
use Rattle.cache_engine.proofs.WritingLaws.{writes_grouped, writes_judged}
use Rattle.cache_engine.proofs.console.judge_writes.Goals as goal

pub returns-in-None : goal.returns-in-None
returns-in-None c =
    writes_judged c.args.tier.now c.args.writes.now c.in_ok-changes.changes c.in_ok-changes.ensures
    (sym c.in-None.ensures)

pub returns-in_ok-refuse_table-in-Some : goal.returns-in_ok-refuse_table-in-Some
returns-in_ok-refuse_table-in-Some c =
    rw c.in_ok-refuse_table-in-Some.ensures
    (writes_grouped c.args.tier.now c.args.writes.now c.in_ok-changes.changes c.in-Some.write.now c.in_ok-changes.ensures
    (sym c.in-Some.ensures))
