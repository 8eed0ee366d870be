use Rattle.std.proofs.Common.{◌≡◌, is_some, Some, sym, ap, ◌∙◌, refl}
use Rattle.table_state.specs.Histories.{position_of}
use Rattle.table_state.proofs.PositionLaws.{has_position}
use Rattle.backing_gate.proofs.TicketLaws.{same}
use Rattle.backing_gate.proofs.bank.MemoryBank.apply_once.Goals as goal

pub returns-in-Some-clause-ok : goal.returns-in-Some-clause-ok
returns-in-Some-clause-ok c =
    let at : position_of c.args.sealed.now.ticket.0 c.args.self.now ≡ Some c.in-Some.position = ap (position_of c.args.sealed.now.ticket.0) (sym c.self.view_is) ∙ sym c.in-Some.ensures in (
      has_position c.args.sealed.now.ticket.0 c.args.self.now ∙ ap is_some at,
      same c.args.self.now,
      record { ticket = refl; position = at },
    )

pub returns-in-Some-first_missing-clause-ok : goal.returns-in-Some-first_missing-clause-ok
returns-in-Some-first_missing-clause-ok c = (
  has_position c.args.sealed.now.ticket.0 c.args.self.now ∙ ap is_some (ap (position_of c.args.sealed.now.ticket.0) (sym c.self.view_is) ∙ sym c.in_default.ensures),
  c.in-Some-first_missing.ensures.0,
  c.in-Some-first_missing.ensures.1,
  same c.args.self.now,
)

pub apply_new-requires-clause-fresh : goal.apply_new-requires-clause-fresh
apply_new-requires-clause-fresh c =
    has_position c.args.sealed.now.ticket.0 c.args.self.now ∙ ap is_some (ap (position_of c.args.sealed.now.ticket.0) (sym c.self.view_is) ∙ sym c.in_default.ensures)
