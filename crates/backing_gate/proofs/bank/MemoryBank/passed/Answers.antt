use Rattle.std.proofs.Common.{◌≡◌, [], ◌∷◌, true, Some, is_some, inl, subst, sym, ap, ◌∙◌}
use Rattle.table_state.specs.declared.refusal.ApplyError.{ApplyError}
use Rattle.table_state.specs.Histories.{has_ticket, position_of, state_of}
use Rattle.table_state.proofs.PositionLaws.{has_position}
use Rattle.transactions.specs.Transactions.{Tells, written_by_all}
use Rattle.backing_gate.proofs.BankLaws.{differs}
use Rattle.backing_gate.proofs.TicketLaws.{known_fresh, same}
use Rattle.backing_gate.proofs.bank.MemoryBank.passed.Goals as goal

pub write_own-requires : goal.write_own-requires
write_own-requires c =
    has_position c.args.ticket.0 c.args.self.now ∙ ap is_some (ap (position_of c.args.ticket.0) (sym c.self.view_is) ∙ sym c.position_of.ensures)
    ∙ sym c.is_some.ensures ∙ c.if-is_some.false

pub returns-then-is_some-clause-written : goal.returns-then-is_some-clause-written
returns-then-is_some-clause-written c = record { ops = []; passes = inl (same c.args.self.now) }

pub returns-then-is_some-clause-failed : goal.returns-then-is_some-clause-failed
returns-then-is_some-clause-failed c = λ failed fresh.
    let known : has_ticket c.args.ticket.0 c.args.self.now ≡ true =
    has_position c.args.ticket.0 c.args.self.now ∙ ap is_some (ap (position_of c.args.ticket.0) (sym c.self.view_is) ∙ sym c.position_of.ensures)
    ∙ sym c.is_some.ensures ∙ c.if-is_some.true in
    known_fresh c.args.ticket.0 c.args.self.now known fresh.new

pub returns-in-Ok-clause-known : goal.returns-in-Ok-clause-known
returns-in-Ok-clause-known c = λ known. absurd (known_fresh c.args.ticket.0 c.args.self.now known
    (has_position c.args.ticket.0 c.args.self.now ∙ ap is_some (ap (position_of c.args.ticket.0) (sym c.self.view_is) ∙ sym c.position_of.ensures)
    ∙ sym c.is_some.ensures ∙ c.if-is_some.false))

pub returns-in-Err-Rule-clause-known : goal.returns-in-Err-Rule-clause-known
returns-in-Err-Rule-clause-known c = λ known. absurd (known_fresh c.args.ticket.0 c.args.self.now known
    (has_position c.args.ticket.0 c.args.self.now ∙ ap is_some (ap (position_of c.args.ticket.0) (sym c.self.view_is) ∙ sym c.position_of.ensures)
    ∙ sym c.is_some.ensures ∙ c.if-is_some.false))

pub returns-in-Err-Rule-clause-written : goal.returns-in-Err-Rule-clause-written
returns-in-Err-Rule-clause-written c = record {
  ops = [];
  passes = (
    c.in-Err-Rule.ensures.unchanged ∙ same c.args.self.now,
    λ s is.
        subst (λ (e : ApplyError). Tells (written_by_all (c.args.change.now ∷ []) s) e) c.in-Err-Rule.field-0-is (c.in-Err-Rule.ensures.refused s is),
  );
}

pub returns-in-Err-Differs-clause-written : goal.returns-in-Err-Differs-clause-written
returns-in-Err-Differs-clause-written c = record { ops = []; passes = inl (c.in-Err-Differs.ensures.unchanged ∙ same c.args.self.now) }

pub returns-in-Err-Differs-clause-failed : goal.returns-in-Err-Differs-clause-failed
returns-in-Err-Differs-clause-failed c = λ failed fresh.
    let state : state_of c.args.self.now ≡ Some c.self.inside.tables = ap state_of (sym c.self.view_is) ∙ c.self.invariant in
    differs (c.args.change.now ∷ []) c.args.self.now c.self.inside.tables c.in-Err-Differs.field-0-0 c.in-Err-Differs.field-0-1 c.in-Err-Differs.field-0-2 c.in-Err-Differs.field-0 c.in-Err-Differs.field-0-is state
    (c.in-Err-Differs.ensures.refused c.self.inside.tables state) fresh.rows

pub returns-in-Err-Memory-clause-written : goal.returns-in-Err-Memory-clause-written
returns-in-Err-Memory-clause-written c = record { ops = []; passes = c.in-Err-Memory.ensures.unchanged ∙ same c.args.self.now }
