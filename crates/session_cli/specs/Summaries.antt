-- What a script's run comes to. (This project's rule.)

use Rattle.std.specs.Prelude.{◌≡◌, ◌≤◌, ◌^◌, ℕ, ◌+◌, List, [], ◌∷◌, ◌++◌, Bool, true, false, Option, Some, None, codes, is_some, max}
use Rattle.std.specs.Fmt.{decimal}
use Rattle.std.specs.List.{count_by}
use Rattle.table_state.specs.declared.history.Entry.{Entry}
use Rattle.table_state.specs.declared.history.Entry.TheVariants.{Definition, Foreign, Own}
use Rattle.cache_tier.specs.declared.reply.Last.{Last}
use Rattle.cache_tier.specs.declared.reply.Last.TheVariants.{Done, No, Fault}
use Rattle.cache_tier.specs.declared.reply.Reply.{Reply}
use Rattle.session_cli.specs.declared.counts.Counts.{Counts}
use Rattle.session_cli.specs.declared.summary.Summary.{Summary}

-- the kinds of a last line
abbrev pub is_done : Last → Bool
is_done (Done n) = true
is_done (No rule) = false
is_done (Fault rule) = false

abbrev pub is_no : Last → Bool
is_no (Done n) = false
is_no (No rule) = true
is_no (Fault rule) = false

abbrev pub is_fault : Last → Bool
is_fault (Done n) = false
is_fault (No rule) = false
is_fault (Fault rule) = true

-- a line has a reply that ends so
abbrev pub ends_in : (Last → Bool) → Option Reply → Bool
ends_in kind None = false
ends_in kind (Some reply) = kind reply.last

-- How many lines have a reply, and how many of the replies end in each kind of line.
pub record AreCounts (replies : List (Option Reply)) (counts : Counts) : Type 0 where
  pub requests : counts.requests ≡ count_by is_some replies
  pub done : counts.done ≡ count_by (ends_in is_done) replies
  pub refused : counts.refused ≡ count_by (ends_in is_no) replies
  pub faults : counts.faults ≡ count_by (ends_in is_fault) replies

-- one reply more is counted
abbrev pub counted_last : Last → Counts → Counts
counted_last (Done n) c = record c { requests = c.requests + 1; done = c.done + 1 }
counted_last (No rule) c = record c { requests = c.requests + 1; refused = c.refused + 1 }
counted_last (Fault rule) c = record c { requests = c.requests + 1; faults = c.faults + 1 }

abbrev pub counted : Option Reply → Counts → Counts
counted None c = c
counted (Some reply) c = counted_last reply.last c

-- so many lines more can be counted
pub record HasRoom (c : Counts) (lines : ℕ) : Type 0 where
  pub room : c.requests + lines ≤ 2 ^ 34
  pub done : c.done ≤ c.requests
  pub refused : c.refused ≤ c.requests
  pub faults : c.faults ≤ c.requests

-- the ticket of an entry, 0 where it has none
abbrev pub ticket_in : Entry → ℕ
ticket_in (Definition def) = 0
ticket_in (Foreign ops) = 0
ticket_in (Own ticket ops) = ticket.0

-- the greatest ticket of a history, 0 where it has none
abbrev pub greatest_ticket : List Entry → ℕ
greatest_ticket [] = 0
greatest_ticket (entry ∷ history) = max (ticket_in entry) (greatest_ticket history)

-- the lines of a summary
abbrev pub summary_bytes : Summary → List ℕ
summary_bytes s =
    codes "requests " ++ decimal s.counts.requests
    ++ codes "\nok " ++ decimal s.counts.done ++ codes " no " ++ decimal s.counts.refused
    ++ codes " fault " ++ decimal s.counts.faults
    ++ codes "\ntickets " ++ decimal s.ticket ++ codes " entries " ++ decimal s.entries ++ codes "\n"
