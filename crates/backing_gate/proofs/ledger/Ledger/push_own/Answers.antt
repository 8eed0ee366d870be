use Rattle.std.proofs.Common.{sym, ap, ◌∙◌, length}
use Rattle.std.proofs.lemmas.List.{length_push}
use Rattle.table_state.specs.Histories.{has_ticket}
use Rattle.table_state.specs.Histories.{position_of}
use Rattle.backing_gate.proofs.TicketLaws.{own_came}
use Rattle.backing_gate.proofs.ledger.Ledger.push_own.Goals as goal

pub invariant_of-self-in-Ok : goal.invariant_of-self-in-Ok
invariant_of-self-in-Ok c = λ q.
    own_came c.self.inside.entries c.args.ticket c.args.ops c.len.result _ _ c.self.invariant (ap (has_ticket c.args.ticket.0) c.self.view_is ∙ c.requires) c.in-Ok.ensures.updates.0
    (c.len.ensures ∙ ap length c.in_ok-push.ensures.ok ∙ length_push _ _) q ∙ sym (ap (position_of q) c.in_ok-push.ensures.ok)
