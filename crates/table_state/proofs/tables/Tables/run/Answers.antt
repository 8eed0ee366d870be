use Rattle.std.proofs.lemmas.Result.{err_from_is_err_and}
use Rattle.table_state.proofs.HistoryLaws.{entry_fault_here, no_state_here, one_entry_more, stops_at}
use Rattle.table_state.proofs.tables.Tables.run.Goals as goal

pub returns-in_err-step-clause-none : goal.returns-in_err-step-clause-none
returns-in_err-step-clause-none c =
    let p = err_from_is_err_and c.from_residual.result c.from_residual.ensures.1 in
    rw (p.1, p.2) (no_state_here c.args.entries.now c.loop-entry.entry-index c.entry-item.result c.args.self.now c.loop-entry.self c.loop-entry-test.true c.entry-item.is c.loop-entry.invariant _ c.in_err-step.ensures.none)

pub returns-in_err-step-clause-refused : goal.returns-in_err-step-clause-refused
returns-in_err-step-clause-refused c =
    let p = err_from_is_err_and c.from_residual.result c.from_residual.ensures.1 in
    rw (p.1, p.2) (entry_fault_here c.args.entries.now c.loop-entry.entry-index c.entry-item.result c.args.self.now c.loop-entry.self c.loop-entry-test.true c.entry-item.is c.loop-entry.invariant _ c.in_err-step.ensures.refused)

pub returns-in_err-step-clause-stopped : goal.returns-in_err-step-clause-stopped
returns-in_err-step-clause-stopped c =
    let p = err_from_is_err_and c.from_residual.result c.from_residual.ensures.1 in
    rw (p.1, p.2) (stops_at c.args.entries.now c.loop-entry.entry-index c.entry-item.result c.args.self.now c.loop-entry.self c.step.new.self c.loop-entry-test.true c.entry-item.is c.loop-entry.invariant c.in_err-step.ensures.unchanged _ c.in_err-step.ensures.refused)

pub loop-entry-preserved : goal.loop-entry-preserved
loop-entry-preserved c = one_entry_more c.args.entries.now c.loop-entry.entry-index c.entry-item.result c.args.self.now c.loop-entry.self c.step.new.self c.loop-entry-test.true c.entry-item.is c.loop-entry.invariant c.in_ok-step.ensures.ok
