-- Tickets in the backing history. (This project's model of the backing database.)

use Rattle.std.specs.Prelude.{◌≡◌, ℕ, List, [], ◌∷◌, ◌++◌, Option, Some, None, false}
use Rattle.std.specs.List.{Contains}
use Rattle.tier_base.specs.declared.number.Ticket.{Ticket}
use Rattle.table_state.specs.declared.history.Entry.{Entry}
use Rattle.table_state.specs.declared.history.Entry.TheVariants.{Definition, Foreign, Own}
use Rattle.table_state.specs.Histories.{has_ticket, is_of}
use Rattle.outside.specs.Bank.{HasAll}

-- no entry has the ticket of this one
abbrev pub IsNewIn : List Entry → Entry → Type 0
IsNewIn entries (Definition def) = Unit {0}
IsNewIn entries (Foreign ops) = Unit {0}
IsNewIn entries (Own ticket ops) = has_ticket ticket.0 entries ≡ false

-- the last of the entries has the ticket of this one, or neither has one
pub record EndsLike (entry : Entry) (entries : List Entry) : Type 0 where
  pub front : List Entry
  pub last : Entry
  pub same : (ticket : ℕ) → is_of ticket last ≡ is_of ticket entry
  pub is : entries ≡ front ++ last ∷ []

-- one of the tickets isn't in the history, or all are
abbrev pub FirstMissing : Option Ticket → List Ticket → List Entry → Type 0
FirstMissing None tickets history = HasAll tickets history
FirstMissing (Some ticket) tickets history = Contains tickets ticket × (has_ticket ticket.0 history ≡ false)
