use Rattle.std.proofs.Common.{[], ◌∷◌, ◌++◌, Some, sym, ap, ◌∙◌}
use Rattle.table_state.specs.declared.history.Entry.TheVariants.{Definition}
use Rattle.table_state.specs.Histories.{state_of}
use Rattle.backing_gate.proofs.BankLaws.{came}
use Rattle.backing_gate.proofs.bank.MemoryBank.define.Goals as goal

pub invariant_of-self-in-Ok : goal.invariant_of-self-in-Ok
invariant_of-self-in-Ok c =
    ap state_of (c.in_ok-push_definition.ensures.ok ∙ ap (λ def. c.self.inside.ledger ++ Definition def ∷ []) (c.in_ok-entry.ensures ∙ sym c.in_ok-kept.ensures))
    ∙ came c.self.inside.ledger (Definition c.in_ok-kept.kept) c.self.inside.tables c.define.new.self c.self.invariant (ap Some (sym c.in-Ok.ensures.ok))
