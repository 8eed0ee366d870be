-- A line, and a list of lines, with a journal that is the tier's; and what a crash leaves behind each of them. (This
-- project's rule, over recovery as the TimesTen Cache User's Guide tells of it.)

use Rattle.std.specs.Prelude.{◌≡◌, ℕ, true, false, List, [], ◌∷◌, ◌++◌, Option}
use Rattle.tier_base.specs.declared.code.Code.TheVariants as code
use Rattle.table_state.specs.declared.history.Sealed.{Sealed}
use Rattle.cache_tier.specs.declared.reply.Reply.{Reply}
use Rattle.cache_tier.specs.Events.{with_tier}
use Rattle.cache_tier.specs.Journals.{JournalEntry}
use Rattle.cache_tier.specs.StandingBetween.{Stands}
use Rattle.cache_tier.specs.Steps.{Asked, Heeds, Saying, Step, tells}
use Rattle.cache_tier.specs.TierStates.{Settings}
use Rattle.cache_tier.specs.Worlds.{IsUnshared, World}
use Rattle.line_laws.specs.Keeping.{IsBrokenOff, is_broken}
use Rattle.recovery.specs.Journalled.{CrashLeaves, IsJournalled, IsJournalledOn}
use Rattle.recovery.specs.Recalling.{recalled}
use Rattle.recovery.specs.SafeWays.{HasSafeWay}
use Rattle.run_laws.specs.Lines.{AreOfKinds, IsLeft, MayBegin, MayGoOn}

-- Where a line may begin and the journal is the tier's, and behind it the tier stands or a ticket is in doubt: the
-- journal is the tier's then, and what was held is held, unless a call of its disk failed.
abbrev pub StepKeepsJournal : Type 0
StepKeepsJournal =
    (base : ℕ) (w w' : World) (said : Saying) (reply : Option Reply) (early : List Sealed) → MayBegin w
    → IsJournalled w early → IsLeft w' → is_broken reply ≡ false → Step base w said w' reply
    → IsJournalledOn w' early

-- Behind it what is unsettled is on tables of asynchronous groups still, and each session has written tables of one
-- kind.
abbrev pub StepKeepsKinds : Type 0
StepKeepsKinds =
    (base : ℕ) (w w' : World) (said : Saying) (reply : Option Reply) (early : List Sealed) → MayBegin w
    → IsJournalled w early → IsLeft w' → is_broken reply ≡ false → Step base w said w' reply
    → AreOfKinds w'.tier

-- Where a line may begin and the journal is the tier's, and the line's reply tells that a call of its disk failed: the
-- journal, with all that may be there, is that of a tier then, and what was held is held.
abbrev pub StepBreaksJournal : Type 0
StepBreaksJournal =
    (base : ℕ) (w w' : World) (said : Saying) (reply : Reply) (early : List Sealed) → MayBegin w
    → IsJournalled w early → tells code.JournalFault reply.last ≡ true → Heeds base said w w' reply
    → IsBrokenOff w' early

-- What a crash leaves in this world: the entries that are flushed belong to the history, they leave the tier's catalog,
-- and all commits that were held are held; and the tier of these entries stands over the history.
pub record Survives (w : World) (early : List Sealed) (settings : Settings) (moment : ℕ) : Type 0 where
  pub crash : CrashLeaves w early settings moment
  pub stands :
      Stands (with_tier (recalled crash.matched.backing.schema w.journal.flushed w.history crash.catalog) w)

-- One line of a run: behind it another one may come, and no call of the journal's disk failed.
pub record Passes (line : Asked) (w w' : World) (reply : Option Reply) : Type 0 where
  pub does : Step line.base w line.said w' reply
  pub goes_on : MayGoOn w'
  pub whole : is_broken reply ≡ false

-- one such line after another
abbrev pub RunsOn : World → List Asked → List (Option Reply) → World → Type 0
RunsOn w [] [] w' = w' ≡ w
RunsOn w (line ∷ lines) (reply ∷ replies) w' = (mid : World) × Passes line w mid reply × RunsOn mid lines replies w'
RunsOn w [] (reply ∷ replies) w' = ⊥
RunsOn w (line ∷ lines) [] w' = ⊥

-- Behind a line these commits are held, those that were held before among them; and whatever the settings are, and the
-- moment, with which the tier is opened again, a crash leaves what it needs.
pub record Keeps (w : World) (early now : List Sealed) : Type 0 where
  pub more : List Sealed
  pub grows : now ≡ early ++ more
  pub journalled : IsJournalled w now
  pub survives : (settings : Settings) (moment : ℕ) → Survives w now settings moment

-- so it is, for some of them
pub record KeepsOn (w : World) (early : List Sealed) : Type 0 where
  pub now : List Sealed
  pub keeps : Keeps w early now

-- so it is behind each line of a run
abbrev pub KeepsThrough : World → List Sealed → List Asked → List (Option Reply) → World → Type 0
KeepsThrough w early [] [] w' = w' ≡ w
KeepsThrough w early (line ∷ lines) (reply ∷ replies) w' =
    (mid : World) × (now : List Sealed) × Step line.base w line.said mid reply × Keeps mid early now
    × KeepsThrough mid now lines replies w'
KeepsThrough w early [] (reply ∷ replies) w' = ⊥
KeepsThrough w early (line ∷ lines) [] w' = ⊥

-- A world's journal has these entries, all of them flushed, and each point of its way is safe.
pub record IsKeptOf (entries : List JournalEntry) (w : World) : Type 0 where
  pub kept : w.journal.kept ≡ true
  pub flushed : w.journal.flushed ≡ entries
  pub tail : w.journal.tail ≡ []
  pub way : HasSafeWay w w.journal.way

-- A tier that was opened again: its journal is its own, and what was held is held; others change no table of a live
-- writethrough group still; and what is written is of one kind.
pub record Reopened (w : World) (early : List Sealed) : Type 0 where
  pub on : IsJournalledOn w early
  pub unshared : IsUnshared w
  pub kinds : AreOfKinds w.tier

-- An opening came to an end, whatever end it was: the journal is the tier's there, and what was held is held; and
-- others change no table of a live writethrough group still.
pub record StoodOpening (w : World) (early : List Sealed) : Type 0 where
  pub on : IsJournalledOn w early
  pub unshared : IsUnshared w
