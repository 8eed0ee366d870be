-- Tickets over all lines: each stands in the history at most once, below the next one.

use Rattle.std.specs.Prelude.{◌≡◌, ℕ, ◌<◌, List, true, Option}
use Rattle.std.specs.List.{Contains}
use Rattle.table_state.specs.declared.history.Sealed.{Sealed}
use Rattle.table_state.specs.Histories.{has_ticket}
use Rattle.cache_tier.specs.declared.reply.Reply.{Reply}
use Rattle.order_laws.specs.Commits.{Once}
use Rattle.cache_tier.specs.Steps.{Asked, Run, Saying, Step}
use Rattle.cache_tier.specs.Worlds.{World}

-- each ticket stands in the history at most once; those there and those unsettled are below the next one
pub record AreOnce (w : World) : Type 0 where
  pub once : Once w.history
  pub stand : (ticket : ℕ) → has_ticket ticket w.history ≡ true → ticket < w.tier.next
  pub wait : (s : Sealed) → Contains w.tier.unsettled s → s.ticket.0 < w.tier.next

abbrev pub StepKeepsOnce : Type 0
StepKeepsOnce = (base : ℕ) (w w' : World) (said : Saying) (reply : Option Reply) → Step base w said w' reply
    → AreOnce w → AreOnce w'

abbrev pub RunKeepsOnce : Type 0
RunKeepsOnce = (w w' : World) (lines : List Asked) (replies : List (Option Reply)) → Run w lines replies w'
    → AreOnce w → AreOnce w'
