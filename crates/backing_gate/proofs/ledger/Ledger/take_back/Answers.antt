use Rattle.std.proofs.Common.{◌≡◌, [], ◌∷◌, ◌++◌, sym, ap, ◌∙◌}
use Rattle.table_state.specs.declared.history.Entry.TheVariants.{Own}
use Rattle.table_state.specs.Histories.{is_of}
use Rattle.table_state.specs.Histories.{position_of}
use Rattle.backing_gate.proofs.TicketLaws.{position_same, own_left}
use Rattle.backing_gate.proofs.ledger.Ledger.take_back.Goals as goal

pub invariant_of-self-in-Definition : goal.invariant_of-self-in-Definition
invariant_of-self-in-Definition c = λ q. c.self.invariant q ∙ ap (position_of q) c.in-Some.ensures.some ∙ position_same q c.pop.new.self c.in-Some.entry (ap (is_of q) c.in-Definition.is)

pub invariant_of-self-in-Foreign : goal.invariant_of-self-in-Foreign
invariant_of-self-in-Foreign c = λ q. c.self.invariant q ∙ ap (position_of q) c.in-Some.ensures.some ∙ position_same q c.pop.new.self c.in-Some.entry (ap (is_of q) c.in-Foreign.is)

pub invariant_of-self-in-Own : goal.invariant_of-self-in-Own
invariant_of-self-in-Own c =
    let some : c.self.inside.entries ≡ c.pop.new.self ++ Own c.in-Own.ticket c.in-Own.field-1 ∷ [] = c.in-Some.ensures.some ∙ ap (λ e. c.pop.new.self ++ e ∷ []) c.in-Own.is in
    own_left c.pop.new.self c.in-Own.ticket c.in-Own.field-1 _ _ (λ q. c.self.invariant q ∙ ap (position_of q) some) (c.requires _ _ (sym c.self.view_is ∙ some)) c.remove.ensures.updates.0
