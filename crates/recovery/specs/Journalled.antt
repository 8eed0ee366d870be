-- The journal's part of what holds of a tier between two events. (This project's rule.)

use Rattle.std.specs.Prelude.{◌≡◌, ◌⊎◌, ◌≤◌, ℕ, false, List, [], ◌∷◌, ◌++◌, true, Some, map}
use Rattle.table_defs.specs.declared.definition.TableDef.{TableDef}
use Rattle.table_state.specs.declared.history.Sealed.{Sealed}
use Rattle.table_state.specs.Histories.{has_ticket, state_of}
use Rattle.table_state.specs.Operations.{applied_all}
use Rattle.table_state.specs.Tables.{TableState}
use Rattle.order_laws.specs.Commits.{NoneConflicts, pending, virtual_state}
use Rattle.recovery_laws.specs.Crashes.{IsLeft, Stands, World as Seen}
use Rattle.recovery_laws.specs.Notes.{log_in}
use Rattle.cache_tier.specs.CommitSteps.{committed_unsettled, sealed_own}
use Rattle.cache_tier.specs.Groups.{Group, is_read_only}
use Rattle.cache_tier.specs.Journals.{Commits, Journal, JournalEntry, Numbers, Prepares, next_behind, passed_by, with_noted}
use Rattle.cache_tier.specs.JournalWays.{given}
use Rattle.cache_tier.specs.Rotations.{slot_entries}
use Rattle.cache_tier.specs.TierStates.{Session, Settings, Tier, opened}
use Rattle.cache_tier.specs.Worlds.{World}
use Rattle.recovery.specs.Recalling.{AreMatched, RecallsAll, notes_of}
use Rattle.recovery.specs.SafeWays.{HasSafeWay}

-- the second is the first but for what no entry tells: its first ticket, its keys, its position, its horizon, its
-- moment, and the STATE of a group that isn't READONLY, which nothing reads
pub record IsAlike (g h : Group) : Type 0 where
  pub def : h.def ≡ g.def
  pub state : is_read_only g ≡ true → h.state ≡ g.state
  pub loaded : h.loaded ≡ g.loaded

abbrev pub AreAlike : List Group → List Group → Type 0
AreAlike [] [] = Unit {0}
AreAlike (g ∷ gs) (h ∷ hs) = IsAlike g h × AreAlike gs hs
AreAlike [] (h ∷ hs) = ⊥
AreAlike (g ∷ gs) [] = ⊥

-- journal and history as the laws of crashes see them: the commits that are held, and those that wait in the tail
abbrev pub seen_as : List TableDef → World → List Sealed → List Sealed → Seen
seen_as schema w early late =
    record { flushed = notes_of schema w.journal.flushed; late = late; history = w.history; commits = early ++ late }

-- The journal is the tier's: in its tail are commits alone; its entries match the history, with these asynchronous
-- commits held (early); they leave the tier's catalog; what is pending of all that they tell is what is pending of the
-- log; no ticket of theirs is at or above the next one; and each point of its way is safe.
pub record IsJournalled (w : World) (early : List Sealed) : Type 0 where
  pub kept : w.journal.kept ≡ true
  pub backing : TableState
  pub leaves : state_of w.history ≡ Some backing
  pub late : List Sealed
  pub tail : w.journal.tail ≡ map Commits late
  pub stands : Stands (seen_as backing.schema w early late) early
  pub settings : Settings
  pub catalog : Tier
  pub recalls : RecallsAll (given w.journal) (opened settings 0 backing.schema) catalog
  pub alike : AreAlike catalog.groups w.tier.groups
  pub tie : pending w.history w.tier.log
      ≡ pending w.history (log_in w.history (notes_of backing.schema (given w.journal)))
  pub next : next_behind (given w.journal) ≤ w.tier.next
  pub safe : HasSafeWay w w.journal.way

-- so it is, and what was held is held
pub record IsJournalledOn (w : World) (early : List Sealed) : Type 0 where
  pub now : List Sealed
  pub is : IsJournalled w now
  pub more : List Sealed
  pub grows : now ≡ early ++ more

-- the session's transaction has committed, and its record waits in the tail
abbrev pub with_commit_noted : Session → World → World
with_commit_noted s w =
    record w {
      tier = committed_unsettled (sealed_own w.tier s) s.label w.tier;
      journal = with_noted (Commits (sealed_own w.tier s)) w.journal;
    }

-- the tail is flushed with this entry behind it, while the history is so long
pub record IsFlushedWith (e : JournalEntry) (until : ℕ) (old new : Journal) : Type 0 where
  pub kept : new.kept ≡ true
  pub flushed : new.flushed ≡ given old ++ e ∷ []
  pub tail : new.tail ≡ []
  pub way : new.way ≡ passed_by old.flushed until old.way

-- the tail is flushed
pub record IsFlushed (until : ℕ) (old new : Journal) : Type 0 where
  pub kept : new.kept ≡ true
  pub flushed : new.flushed ≡ given old
  pub tail : new.tail ≡ []
  pub way : new.way ≡ passed_by old.flushed until old.way

-- the other slot is begun anew with what the tier has
pub record IsRenewed (t : Tier) (until : ℕ) (old new : Journal) : Type 0 where
  pub kept : new.kept ≡ true
  pub flushed : new.flushed ≡ slot_entries t
  pub tail : new.tail ≡ []
  pub way : new.way ≡ passed_by old.flushed until old.way

-- the tier changes in what no entry tells
pub record IsQuiet (old new : Tier) : Type 0 where
  pub log : new.log ≡ old.log
  pub next : old.next ≤ new.next
  pub groups : AreAlike old.groups new.groups

-- the tier has changed so, and the entry is flushed
abbrev pub with_flushed_entry : Tier → Journal → World → World
with_flushed_entry t j w = record w { tier = t; journal = j }

-- A transaction may come now at once: its record is the last that is flushed, its ticket is new and above all before,
-- it applies to the virtual state, and nothing pending conflicts with it.
pub record IsAwaited (record_is : JournalEntry) (w : World) (s : Sealed) (front : List JournalEntry) : Type 0 where
  pub flushed : w.journal.flushed ≡ front ++ record_is ∷ []
  pub tail : w.journal.tail ≡ []
  pub below : next_behind front ≤ s.ticket.0
  pub fresh : has_ticket s.ticket.0 w.history ≡ false
  pub meets : (b : TableState) → state_of w.history ≡ Some b → NoneConflicts b.schema (pending w.history w.tier.log) s
  pub virtual : TableState
  pub virtual_is : virtual_state w.history w.tier.log ≡ Some virtual
  pub left : TableState
  pub leads : applied_all s.ops virtual ≡ Some left

-- a synchronous one, and a write that is passed on
abbrev pub IsPrepared : World → Sealed → List JournalEntry → Type 0
IsPrepared w s front = IsAwaited (Prepares s) w s front

abbrev pub IsNumbered : World → Sealed → List JournalEntry → Type 0
IsNumbered w s front = IsAwaited (Numbers s.ticket.0) w s front

-- the tier has been told that it came, or hasn't yet, as where its ticket is in doubt; else no entry tells what changed
pub record IsToldAtOnce (s : Sealed) (old new : Tier) : Type 0 where
  pub log : (new.log ≡ old.log) ⊎ (new.log ≡ old.log ++ s ∷ [])
  pub next : old.next ≤ new.next
  pub groups : AreAlike old.groups new.groups

-- What a crash leaves now: the entries that are flushed match the history; they leave a catalog with the tier's
-- definitions, STATEs and flags; and of the asynchronous commits they and the history hold those that were held, and
-- none of the tail.
pub record CrashLeaves (w : World) (early : List Sealed) (settings : Settings) (moment : ℕ) : Type 0 where
  pub matched : AreMatched w.journal.flushed w.history
  pub catalog : Tier
  pub recalls : RecallsAll w.journal.flushed (opened settings moment matched.backing.schema) catalog
  pub alike : AreAlike catalog.groups w.tier.groups
  pub late : List Sealed
  pub left : IsLeft early (early ++ late) (notes_of matched.backing.schema w.journal.flushed) w.history
