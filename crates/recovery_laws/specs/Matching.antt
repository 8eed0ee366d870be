-- When a journal's entries and a history belong together. (This project's rule.)

use Rattle.std.specs.Prelude.{◌≡◌, ◌⊎◌, ℕ, ◌<◌, List, [], ◌∷◌, ◌++◌, true, Some}
use Rattle.order_laws.specs.table_state.specs.declared.history.Entry.{Entry}
use Rattle.order_laws.specs.table_state.specs.declared.history.Sealed.{Sealed}
use Rattle.order_laws.specs.table_state.specs.Histories.{entry_of, has_ticket, state_of}
use Rattle.order_laws.specs.table_state.specs.Tables.{TableState}
use Rattle.order_laws.specs.table_state.specs.declared.history.Entry.TheVariants.{Foreign}
use Rattle.order_laws.specs.table_state.specs.declared.operation.Op.{Op}
use Rattle.order_laws.specs.table_state.specs.Operations.{applied_all}
use Rattle.order_laws.specs.Commits.{IsLegal, LiveGroup, MayCome, conflicting, in_order, pending, virtual_state}
use Rattle.order_laws.specs.Sides.{are_off}
use Rattle.order_laws.specs.Standing.{AreClosed, AreOnDefined, Stand, live_tables, progress_of}
use Rattle.recovery_laws.specs.Notes.{FitAll, Note, commits_in, empty_catalog, groups_of, is_noted, log_in, mark_of, next_of}

-- each group's order is defined
abbrev pub HaveOrder : List LiveGroup → List Entry → List Sealed → Type 0
HaveOrder [] history log = Unit {0}
HaveOrder (g ∷ groups) history log = ((o : TableState) × (in_order g history log ≡ Some o))
    × HaveOrder groups history log

-- A journal's entries and a history match.
pub record IsMatched (notes : List Note) (history : List Entry) : Type 0 where
  pub fits : FitAll history empty_catalog [] notes
  pub known : (t : ℕ) → has_ticket t history ≡ true → (t < mark_of notes) ⊎ (is_noted t notes ≡ true)
  pub backing : TableState
  pub leaves : state_of history ≡ Some backing
  pub virtual : TableState
  pub virtual_is : virtual_state history (log_in history notes) ≡ Some virtual
  pub legal : IsLegal (conflicting backing.schema) history (log_in history notes)
  pub ordered : HaveOrder (groups_of notes) history (log_in history notes)
  pub closed : AreClosed (groups_of notes) backing.schema
  pub tables : AreOnDefined backing.schema (log_in history notes)

-- The history after a recovery: it matches, what the entries tell is as before, and nothing is pending.
pub record IsRecovered (notes : List Note) (h later : List Entry) : Type 0 where
  pub matched : IsMatched notes later
  pub log : log_in later notes ≡ log_in h notes
  pub none : pending later (log_in later notes) ≡ []

-- a recovery may go on with the entries' commits as its unsettled transactions, without a look into the history: what
-- is pending of all that the entries tell is what is pending of these
pub record Resumes (notes : List Note) (h : List Entry) : Type 0 where
  pub stand : Stand (progress_of (groups_of notes) h (log_in h notes) (next_of notes))
  pub rest : pending h (log_in h notes) ≡ pending h (commits_in notes)

-- a round of a recovery: pending transactions come in an order that is legal, and others' between them
pub data Recovers (notes : List Note) : List Entry → List Entry → Type 0 where
  ends : {h : List Entry} → Recovers notes h h
  own : {h n : List Entry} (s : Sealed) (b : TableState) → state_of h ≡ Some b
      → MayCome (conflicting b.schema) h (log_in h notes) s → Recovers notes (h ++ entry_of s ∷ []) n
      → Recovers notes h n
  others : {h n : List Entry} (ops : List Op) (b x : TableState) → state_of h ≡ Some b → applied_all ops b ≡ Some x
      → are_off (live_tables (groups_of notes)) ops ≡ true → Recovers notes (h ++ Foreign ops ∷ []) n
      → Recovers notes h n
