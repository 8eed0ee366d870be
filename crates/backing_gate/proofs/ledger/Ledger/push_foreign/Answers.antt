use Rattle.std.proofs.Common.{refl, sym, ap, ◌∙◌}
use Rattle.table_state.specs.declared.history.Entry.TheVariants.{Foreign}
use Rattle.table_state.specs.Histories.{position_of}
use Rattle.backing_gate.proofs.TicketLaws.{position_same}
use Rattle.backing_gate.proofs.ledger.Ledger.push_foreign.Goals as goal

pub invariant_of-self-2 : goal.invariant_of-self-2
invariant_of-self-2 c = λ q. c.self.invariant q ∙ sym (ap (position_of q) c.in_ok-push.ensures.ok ∙ position_same q c.self.inside.entries (Foreign c.args.ops) refl)
