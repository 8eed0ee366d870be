use Rattle.std.proofs.Common.{is_some, sym, ap, ◌∙◌}
use Rattle.table_state.specs.Histories.{position_of}
use Rattle.table_state.proofs.PositionLaws.{has_position}
use Rattle.backing_gate.proofs.bank.MemoryBank.follow_own.Goals as goal

pub record-requires : goal.record-requires
record-requires c =
    has_position c.args.ticket.0 c.args.self.now ∙ ap is_some (ap (position_of c.args.ticket.0) (sym c.self.view_is) ∙ sym c.position_of.ensures)
    ∙ sym c.is_some.ensures ∙ c.if-is_some.false
