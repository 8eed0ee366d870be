use Rattle.std.proofs.Common.{◌≡◌, Some, sym, ap, ◌∙◌}
use Rattle.table_state.specs.Histories.{state_of}
use Rattle.backing_gate.proofs.BankLaws.{differs}
use Rattle.backing_gate.proofs.bank.MemoryBank.foreign.Goals as goal

pub returns-in-Err-Differs-clause-failed : goal.returns-in-Err-Differs-clause-failed
returns-in-Err-Differs-clause-failed c = λ failed none.
    let state : state_of c.args.self.now ≡ Some c.self.inside.tables = ap state_of (sym c.self.view_is) ∙ c.self.invariant in
    differs c.args.changes.now c.args.self.now c.self.inside.tables c.in-Err-Differs.field-0-0 c.in-Err-Differs.field-0-1 c.in-Err-Differs.field-0-2 c.in-Err-Differs.field-0 c.in-Err-Differs.field-0-is state
    (c.in-Err-Differs.ensures.refused c.self.inside.tables state) none
