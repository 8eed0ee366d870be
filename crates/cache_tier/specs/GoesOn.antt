-- What each line of the tier keeps: the history only grows, the journal goes on or is begun anew, or is none still, and
-- counts, moments and the next ticket never fall.

use Rattle.std.specs.Prelude.{◌≡◌, ℕ, ◌≤◌, List, Option}
use Rattle.outside.specs.Calls.{Lengthens}
use Rattle.cache_tier.specs.declared.reply.Reply.{Reply}
use Rattle.cache_tier.specs.JournalWays.{beginning_of}
use Rattle.cache_tier.specs.WayFacts.{IsLed}
use Rattle.cache_tier.specs.Steps.{Asked, Run, Saying, Step}
use Rattle.cache_tier.specs.Worlds.{World}

pub record LeadsTo (w w' : World) : Type 0 where
  pub history : Lengthens w.history w'.history
  pub journal : IsLed w.journal w'.journal
  pub bank : w.bank_faults ≤ w'.bank_faults
  pub disk : w.disk_faults ≤ w'.disk_faults
  pub moment : w.moment ≤ w'.moment
  pub shared : w'.shared ≡ w.shared
  pub next : w.tier.next ≤ w'.tier.next

abbrev pub StepLeads : Type 0
StepLeads = (base : ℕ) (w w' : World) (said : Saying) (reply : Option Reply) → Step base w said w' reply → LeadsTo w w'

abbrev pub RunLeads : Type 0
RunLeads = (w w' : World) (lines : List Asked) (replies : List (Option Reply)) → Run w lines replies w' → LeadsTo w w'

-- whether a journal is kept stays
abbrev pub StepKeepsJournal : Type 0
StepKeepsJournal =
    (base : ℕ) (w w' : World) (said : Saying) (reply : Option Reply) → Step base w said w' reply
    → w'.journal.kept ≡ w.journal.kept

-- and so does where a way of the journal began
abbrev pub StepKeepsWay : Type 0
StepKeepsWay =
    (base : ℕ) (w w' : World) (said : Saying) (reply : Option Reply) → Step base w said w' reply
    → beginning_of w'.journal ≡ beginning_of w.journal

abbrev pub RunKeepsJournal : Type 0
RunKeepsJournal =
    (w w' : World) (lines : List Asked) (replies : List (Option Reply)) → Run w lines replies w'
    → w'.journal.kept ≡ w.journal.kept
