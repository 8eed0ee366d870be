use Rattle.std.proofs.Common.{List, not, is_some, take, get_or, subst, sym, ap, ◌∙◌, arith}
use Rattle.std.proofs.lemmas.List.{take_all, take_more}
use Rattle.tier_base.specs.declared.number.Ticket.{Ticket}
use Rattle.outside.specs.Bank.{HasAll}
use Rattle.table_state.proofs.PositionLaws.{has_position}
use Rattle.backing_gate.proofs.TicketLaws.{has_all_push, same_place}
use Rattle.table_state.specs.Histories.{position_of}
use Rattle.backing_gate.proofs.bank.MemoryBank.first_missing.Goals as goal

pub loop-ticket-init : goal.loop-ticket-init
loop-ticket-init c = tt

pub returns-then-is_none : goal.returns-then-is_none
returns-then-is_none c =
    let ticket : Ticket = get_or c.args.tickets.now c.loop-ticket.ticket-index (record { 0 = 0 }) in (
      (c.loop-ticket.ticket-index, c.loop-ticket-test.true, same_place c.args.tickets.now c.loop-ticket.ticket-index (record { 0 = 0 })),
      has_position ticket.0 c.args.self.now ∙ ap is_some (ap (position_of ticket.0) (sym c.self.view_is) ∙ sym c.position_of.ensures) ∙ c.is_none.ensures ∙ ap not c.if-is_none.true,
    )

pub loop-ticket-preserved : goal.loop-ticket-preserved
loop-ticket-preserved c =
    let Has : List Ticket → Type 0 = λ tickets. HasAll tickets c.args.self.now in
    let ticket : Ticket = get_or c.args.tickets.now c.loop-ticket.ticket-index (record { 0 = 0 }) in
    subst Has (sym (take_more c.args.tickets.now c.loop-ticket.ticket-index (record { 0 = 0 }) c.loop-ticket-test.true))
    (has_all_push (take c.loop-ticket.ticket-index c.args.tickets.now) ticket c.args.self.now c.loop-ticket.invariant
    (has_position ticket.0 c.args.self.now ∙ ap is_some (ap (position_of ticket.0) (sym c.self.view_is) ∙ sym c.position_of.ensures) ∙ c.is_none.ensures ∙ ap not c.if-is_none.false))

pub returns : goal.returns
returns c =
    let Has : List Ticket → Type 0 = λ tickets. HasAll tickets c.args.self.now in
    subst Has (take_all c.loop-ticket.ticket-index c.args.tickets.now (omega arith)) c.loop-ticket.invariant
