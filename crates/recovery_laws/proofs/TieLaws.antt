-- The tier's own list of committed transactions and that of the entries: the same is pending of both.
use Rattle.std.proofs.Common.{◌≡◌, List, [], ◌∷◌, ◌++◌, false, ℕ, refl, sym, ap, ◌∙◌, append-nil}
use Rattle.order_laws.specs.table_state.specs.declared.history.Entry.{Entry}
use Rattle.order_laws.specs.table_state.specs.declared.history.Sealed.{Sealed}
use Rattle.order_laws.specs.table_state.specs.Histories.{has_ticket}
use Rattle.order_laws.specs.Commits.{pending}
use Rattle.order_laws.proofs.CommittingLaws.{pending_last}
use Rattle.recovery_laws.specs.Notes.{Commit, Named, Note, log_in, told}
use Rattle.recovery_laws.specs.Rotations.{rotated}
use Rattle.recovery_laws.proofs.EventLaws.{log_one}
use Rattle.recovery_laws.proofs.RotateLaws.{rotated_log}

abbrev pub Tied : List Entry → List Sealed → List Note → Type 0
Tied h log notes = pending h log ≡ pending h (log_in h notes)

-- a commit is noted
pub tied_commit : (h : List Entry) (log : List Sealed) (notes : List Note) (s : Sealed) → has_ticket s.ticket.0 h ≡ false → Tied h log notes → Tied h (log ++ s ∷ []) (notes ++ Commit s ∷ [])
tied_commit h log notes s fresh tied = pending_last h log s fresh ∙ ap (λ l. l ++ s ∷ []) tied ∙ sym (ap (pending h) (log_one h notes (Commit s) (s ∷ []) refl) ∙ pending_last h (log_in h notes) s fresh)

-- an entry that tells of nothing yet
pub tied_quiet : (h : List Entry) (log : List Sealed) (notes : List Note) (x : Note) → told h x ≡ [] → Tied h log notes → Tied h log (notes ++ x ∷ [])
tied_quiet h log notes x none tied = tied ∙ sym (ap (pending h) (log_one h notes x [] none ∙ append-nil (log_in h notes)))

-- a rotation keeps all that is unsettled
pub tied_rotation : (h : List Entry) (log u : List Sealed) (next : ℕ) (gs : List Named) (fs : List (List ℕ × ℕ)) → pending h log ≡ pending h u → Tied h log (rotated next gs fs u)
tied_rotation h log u next gs fs rest = rest ∙ sym (ap (pending h) (rotated_log h next gs fs u))

-- a recovery's tier: its list is that of the entries
pub tied_recovered : (h : List Entry) (notes : List Note) → Tied h (log_in h notes) notes
tied_recovered h notes = refl
