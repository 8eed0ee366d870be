-- What leaves in a round.
use Rattle.std.proofs.Common.{◌≡◌, List, [], ◌∷◌, ◌++◌, sym, ◌∙◌, ap}
use Rattle.tier_base.specs.declared.number.TableId.{TableId}
use Rattle.table_state.specs.declared.history.Entry.{Entry}
use Rattle.table_state.specs.declared.history.Entry.TheVariants.{Foreign}
use Rattle.table_state.specs.declared.history.Sealed.{Sealed}
use Rattle.table_state.specs.Histories.{entry_of}
use Rattle.order_laws.specs.Events.{Event, Came, Left, Others}
use Rattle.propagators.specs.Rounds.{Leads, left_in}

pub left_and_rest : (shared : List TableId) (events : List Event) (h later : List Entry) (us left : List Sealed) → Leads shared events h us later left → us ≡ left_in events ++ left
left_and_rest shared [] h later us left l = sym l.1
left_and_rest shared (Others ops ∷ events) h later us left l = left_and_rest shared events (h ++ Foreign ops ∷ []) later us left l.1
left_and_rest shared (Came s ∷ events) h later us left l = left_and_rest shared events (h ++ entry_of s ∷ []) later us left l.2
left_and_rest shared (Left s ∷ events) h later us left l = l.1 ∙ ap (λ xs. s ∷ xs) (left_and_rest shared events h later l.0 left l.3)
