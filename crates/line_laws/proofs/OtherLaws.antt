-- What transactions of others leave as it was.
use Rattle.std.proofs.Common.{◌≡◌, ℕ, Some, List, [], ◌∷◌, ◌++◌, sym, ap, ◌∙◌, append_assoc, append-nil}
use Rattle.tier_base.specs.declared.number.TableId.{TableId}
use Rattle.table_state.specs.declared.history.Entry.{Entry}
use Rattle.table_state.specs.declared.history.Entry.TheVariants.{Definition, Foreign, Own}
use Rattle.table_state.specs.declared.history.Sealed.{Sealed}
use Rattle.table_state.specs.Histories.{has_ticket, state_of}
use Rattle.table_state.specs.Tables.{TableState}
use Rattle.outside.specs.Others.{AreOthers}
use Rattle.order_laws.specs.Commits.{pending}
use Rattle.order_laws.proofs.NextLaws.{all_defined}
use Rattle.order_laws.proofs.PendingLaws.{pending_foreign}
use Rattle.order_laws.proofs.TruthLaws.{same_some}
use Rattle.recovery_laws.proofs.PushLaws.{quiet_same}
use Rattle.recovery.proofs.OthersLaws.{some_state}
use Rattle.recovery.proofs.RoundedLaws.{leads_foreign}

pub others_schema : (shared : List TableId) (entries h : List Entry) (b n : TableState) → state_of h ≡ Some b → AreOthers shared h entries → state_of (h ++ entries) ≡ Some n → n.schema ≡ b.schema
others_schema shared [] h b n leaves are last = ap (λ (x : TableState). x.schema) (same_some (sym last ∙ ap state_of (append-nil h) ∙ leaves))
others_schema shared (Definition def ∷ entries) h b n leaves are last = absurd are
others_schema shared (Own ticket ops ∷ entries) h b n leaves are last = absurd are
others_schema shared (Foreign ops ∷ entries) h b n leaves are last =
    let (m, m_is) = some_state (state_of (h ++ Foreign ops ∷ [])) (are.1 b leaves) in
    others_schema shared entries (h ++ Foreign ops ∷ []) m n m_is are.2 (ap state_of (append_assoc h (Foreign ops ∷ []) entries) ∙ last)
    ∙ all_defined ops b m (leads_foreign h ops b m leaves m_is)

pub others_pending : (shared : List TableId) (entries h : List Entry) (log : List Sealed) → AreOthers shared h entries → pending (h ++ entries) log ≡ pending h log
others_pending shared [] h log are = ap (λ l. pending l log) (append-nil h)
others_pending shared (Definition def ∷ entries) h log are = absurd are
others_pending shared (Own ticket ops ∷ entries) h log are = absurd are
others_pending shared (Foreign ops ∷ entries) h log are =
    ap (λ l. pending l log) (sym (append_assoc h (Foreign ops ∷ []) entries)) ∙ others_pending shared entries (h ++ Foreign ops ∷ []) log are.2 ∙ pending_foreign h ops log

pub others_tickets : (shared : List TableId) (entries h : List Entry) (t : ℕ) → AreOthers shared h entries → has_ticket t (h ++ entries) ≡ has_ticket t h
others_tickets shared [] h t are = ap (has_ticket t) (append-nil h)
others_tickets shared (Definition def ∷ entries) h t are = absurd are
others_tickets shared (Own ticket ops ∷ entries) h t are = absurd are
others_tickets shared (Foreign ops ∷ entries) h t are =
    ap (has_ticket t) (sym (append_assoc h (Foreign ops ∷ []) entries)) ∙ others_tickets shared entries (h ++ Foreign ops ∷ []) t are.2 ∙ quiet_same t h (Foreign ops) tt
