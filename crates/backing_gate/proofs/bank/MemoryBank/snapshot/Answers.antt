use Rattle.std.proofs.Common.{◌≡◌, length, sym, ap, subst, ◌∙◌}
use Rattle.table_state.specs.Histories.{state_of}
use Rattle.table_state.specs.Tables.{TableState}
use Rattle.outside.specs.Console.{IsCopyOf}
use Rattle.backing_gate.proofs.BankLaws.{history_whole, one_state}
use Rattle.backing_gate.proofs.bank.MemoryBank.snapshot.Goals as goal

pub returns-clause-copy : goal.returns-clause-copy
returns-clause-copy c s is =
    let same : c.self.inside.tables ≡ s = one_state c.self.inside.ledger c.self.inside.tables s c.self.invariant (ap state_of c.self.view_is ∙ is) in
    subst (λ (t : TableState). IsCopyOf c.args.tables.now t c.in_ok-tables.tables) same (record {
      schema = c.in_ok-tables.ensures.schema;
      whole = c.in_ok-tables.ensures.whole ∙ history_whole c.self.inside.ledger c.self.inside.tables c.self.invariant ∙ sym (ap length c.in_ok-tables.ensures.schema);
      rows = c.in_ok-tables.ensures.rows;
    })
