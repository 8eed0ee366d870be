use Rattle.std.proofs.Common.{◌≡◌, ap, ◌∙◌}
use Rattle.table_state.specs.Histories.{state_of}
use Rattle.table_state.specs.Tables.{TableState}
use Rattle.outside.specs.Reaching.{instance_with}
use Rattle.backing_gate.proofs.BankLaws.{one_state}
use Rattle.backing_gate.proofs.bank.MemoryBank.reach.Goals as goal

pub returns-clause-instance : goal.returns-clause-instance
returns-clause-instance c s is =
    let same : c.self.inside.tables ≡ s = one_state c.self.inside.ledger c.self.inside.tables s c.self.invariant (ap state_of c.self.view_is ∙ is) in
    c.in_ok-instance.ensures ∙ ap (λ (t : TableState). instance_with t c.args.tree.now c.args.table c.args.key.now) same
