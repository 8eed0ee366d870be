use Rattle.std.proofs.Common.{List, [], ◌∷◌, ◌++◌, Option, subst, refl, sym, ap, ◌∙◌}
use Rattle.std.specs.Option.{IsSome}
use Rattle.table_state.specs.declared.history.Entry.{Entry}
use Rattle.table_state.specs.declared.history.Entry.TheVariants.{Own}
use Rattle.table_state.specs.declared.operation.Op.{Op}
use Rattle.table_state.specs.Tables.{TableState}
use Rattle.table_state.specs.Operations.{applied_all}
use Rattle.table_state.specs.Histories.{entry_of, state_of}
use Rattle.table_state.specs.Refusals.{SaysNone}
use Rattle.backing_gate.proofs.BankLaws.{came, says_none_of}
use Rattle.backing_gate.proofs.bank.MemoryBank.record.Goals as goal

pub invariant_of-self-in-Ok : goal.invariant_of-self-in-Ok
invariant_of-self-in-Ok c =
    ap state_of (c.in_ok-push_own.ensures.ok ∙ ap (λ (ops : List Op). c.self.inside.ledger ++ Own c.args.sealed.now.ticket ops ∷ []) (c.in_ok-ops.ensures ∙ c.as_slice.ensures))
    ∙ came c.self.inside.ledger (entry_of c.args.sealed.now) c.self.inside.tables c.apply_all.new.self c.self.invariant (ap (λ (ops : List Op). applied_all ops c.self.inside.tables) (sym c.as_slice-2.ensures) ∙ c.in-Ok.ensures.ok)

pub returns-in-Ok-clause-applies : goal.returns-in-Ok-clause-applies
returns-in-Ok-clause-applies c =
    subst (λ (h : List Entry). IsSome (state_of (h ++ entry_of c.args.sealed.now ∷ []))) c.self.view_is
    (subst (λ (o : Option TableState). IsSome o) (sym (came c.self.inside.ledger (entry_of c.args.sealed.now) c.self.inside.tables c.apply_all.new.self c.self.invariant (ap (λ (ops : List Op). applied_all ops c.self.inside.tables) (sym c.as_slice-2.ensures) ∙ c.in-Ok.ensures.ok))) refl)

pub returns-in-Err-clause-none : goal.returns-in-Err-clause-none
returns-in-Err-clause-none c =
    subst (λ (h : List Entry). SaysNone (state_of (h ++ entry_of c.args.sealed.now ∷ [])) c.in-Err.error) c.self.view_is
    (says_none_of c.self.inside.ledger (entry_of c.args.sealed.now) c.self.inside.tables c.in-Err.error c.self.invariant
    (subst (λ (ops : List Op). SaysNone (applied_all ops c.self.inside.tables) c.in-Err.error) c.as_slice-2.ensures c.in-Err.ensures.none))
