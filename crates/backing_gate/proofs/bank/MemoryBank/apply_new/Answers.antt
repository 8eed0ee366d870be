use Rattle.std.proofs.Common.{◌≡◌, List, [], ◌∷◌, ◌++◌, Some, length, subst, refl, sym, ap, ◌∙◌}
use Rattle.std.proofs.lemmas.List.{length_push}
use Rattle.table_state.specs.declared.operation.Op.{Op}
use Rattle.table_state.specs.declared.refusal.ApplyError.{ApplyError}
use Rattle.table_state.specs.declared.refusal.ApplyError.TheVariants as error
use Rattle.table_state.specs.Histories.{entry_of, position_of, state_of}
use Rattle.table_state.specs.Operations.{applied_all}
use Rattle.table_state.specs.Refusals.{IsFault, SaysNone, broken_by_all}
use Rattle.table_state.proofs.HistoryLaws.{none_all}
use Rattle.backing_gate.proofs.DifferenceLaws.{differing_first}
use Rattle.backing_gate.proofs.TicketLaws.{came_at, same}
use Rattle.backing_gate.proofs.bank.MemoryBank.apply_new.Goals as goal

pub returns-in-Ok-clause-ok : goal.returns-in-Ok-clause-ok
returns-in-Ok-clause-ok c = (
  record {
    can = record { fresh = c.requires.fresh; waited = c.requires.waited; applies = c.in-Ok.ensures.applies };
    grows = c.in-Ok.ensures.ok;
  },
  record {
    ticket = refl;
    position =
        ap (position_of c.args.sealed.now.ticket.0) c.in-Ok.ensures.ok ∙ came_at c.args.self.now c.args.sealed.now c.requires.fresh
        ∙ ap Some (sym (c.len.ensures ∙ ap length (c.entries.ensures ∙ c.self.view_is ∙ c.in-Ok.ensures.ok) ∙ length_push _ _));
  },
)

pub returns-in-Err-Differs-clause-ok : goal.returns-in-Err-Differs-clause-ok
returns-in-Err-Differs-clause-ok c = (
  c.requires.fresh,
  c.requires.waited,
  subst (λ (e : ApplyError). SaysNone (state_of (c.args.self.now ++ entry_of c.args.sealed.now ∷ [])) e) c.in-Err-Differs.field-0-is c.in-Err-Differs.ensures.none,
  c.in-Err-Differs.ensures.unchanged ∙ same c.args.self.now,
  λ s is.
      differing_first c.args.sealed.now.ops s c.in-Err-Differs.table c.in-Err-Differs.key c.in-Err-Differs.row
      (subst (λ (e : ApplyError). IsFault (broken_by_all c.args.sealed.now.ops s) e) c.in-Err-Differs.field-0-is (c.in-Err-Differs.ensures.refused s is)),
)

pub first_difference-requires : goal.first_difference-requires
first_difference-requires c =
    let now : state_of c.args.self.now ≡ Some c.self.inside.tables = ap state_of (sym (c.self.view_is ∙ c.in-Err-Rule.ensures.unchanged)) ∙ c.self.invariant in
    ap (λ (ops : List Op). applied_all ops c.self.inside.tables) c.as_slice.ensures
    ∙ none_all c.args.sealed.now.ops c.self.inside.tables (error.Rule c.in-Err-Rule.field-0-0)
    (subst (λ (e : ApplyError). IsFault (broken_by_all c.args.sealed.now.ops c.self.inside.tables) e) c.in-Err-Rule.field-0-is (c.in-Err-Rule.ensures.refused c.self.inside.tables now))
