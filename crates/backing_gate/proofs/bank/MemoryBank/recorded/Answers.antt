use Rattle.std.proofs.Common.{◌∙◌, sym, ap, is_some}
use Rattle.table_state.specs.Histories.{has_ticket}
use Rattle.table_state.proofs.PositionLaws.{has_position}
use Rattle.backing_gate.proofs.bank.MemoryBank.recorded.Goals as goal

pub returns : goal.returns
returns c =
    c.is_some.ensures ∙ ap is_some c.position_of.ensures ∙ sym (has_position c.args.ticket.0 c.self.inside.ledger)
    ∙ ap (has_ticket c.args.ticket.0) c.self.view_is
