use Rattle.std.proofs.Common.{List, [], ◌∷◌, ◌++◌, subst, ap, ◌∙◌}
use Rattle.table_state.specs.declared.history.Entry.{Entry}
use Rattle.table_state.specs.declared.history.Entry.TheVariants.{Foreign}
use Rattle.table_state.specs.declared.operation.Op.{Op}
use Rattle.table_state.specs.Histories.{state_of}
use Rattle.table_state.specs.Refusals.{SaysNone}
use Rattle.backing_gate.proofs.BankLaws.{came, says_none_of}
use Rattle.backing_gate.proofs.bank.MemoryBank.add_foreign.Goals as goal

pub invariant_of-self-in-Ok : goal.invariant_of-self-in-Ok
invariant_of-self-in-Ok c =
    ap state_of (c.in_ok-push_foreign.ensures.ok ∙ ap (λ (ops : List Op). c.self.inside.ledger ++ Foreign ops ∷ []) c.in_ok-kept.ensures)
    ∙ came c.self.inside.ledger (Foreign c.args.ops.now) c.self.inside.tables c.apply_all.new.self c.self.invariant c.in-Ok.ensures.ok

pub returns-in-Err-clause-none : goal.returns-in-Err-clause-none
returns-in-Err-clause-none c =
    subst (λ (h : List Entry). SaysNone (state_of (h ++ Foreign c.args.ops.now ∷ [])) c.in-Err.error) c.self.view_is
    (says_none_of c.self.inside.ledger (Foreign c.args.ops.now) c.self.inside.tables c.in-Err.error c.self.invariant c.in-Err.ensures.none)
