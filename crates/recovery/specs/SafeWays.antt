-- That each point on the way of a journal is safe: from what its slots give there, and the history as it was, all is
-- recovered that was held when the way began. (This project's rule.)

use Rattle.std.specs.Prelude.{◌≡◌, ◌⊎◌, ℕ, ◌≤◌, ◌^◌, List, [], ◌∷◌, true, false, Option, Some, None, length, take}
use Rattle.tier_base.specs.declared.number.TableId.{TableId}
use Rattle.table_state.specs.declared.history.Entry.{Entry}
use Rattle.table_state.specs.declared.history.Sealed.{Sealed}
use Rattle.table_state.specs.Copies.{is_one_of}
use Rattle.table_state.specs.Histories.{state_of}
use Rattle.table_state.specs.Tables.{TableState}
use Rattle.order_laws.specs.Standing.{live_tables}
use Rattle.outside.specs.Others.{is_shared}
use Rattle.recovery_laws.specs.Crashes.{Among}
use Rattle.recovery_laws.specs.Notes.{found, groups_of}
use Rattle.cache_tier.specs.Groups.{Group, is_table_of, is_writethrough}
use Rattle.cache_tier.specs.Journals.{Commits, Defines, Drops, JournalEntry, Marks, Numbers, Prepares, SetsLoaded, SetsState, Stretch, Way, next_behind}
use Rattle.cache_tier.specs.JournalWays.{first_of}
use Rattle.cache_tier.specs.WayPoints.{IsPoint, turned_at}
use Rattle.cache_tier.specs.Worlds.{World}
use Rattle.recovery.specs.Recalling.{AreMatched, notes_of}

-- the asynchronous transactions that are committed in these entries, over any schema
abbrev pub commits_of : List JournalEntry → List Sealed
commits_of [] = []
commits_of (Commits s ∷ entries) = s ∷ commits_of entries
commits_of (Prepares s ∷ entries) = commits_of entries
commits_of (Numbers t ∷ entries) = commits_of entries
commits_of (Marks t ∷ entries) = commits_of entries
commits_of (Defines d text ∷ entries) = commits_of entries
commits_of (Drops name ∷ entries) = commits_of entries
commits_of (SetsState name state ∷ entries) = commits_of entries
commits_of (SetsLoaded name flag ∷ entries) = commits_of entries

-- the commit is one of the entries', or stands in the history
abbrev pub IsHeldIn : List JournalEntry → List Entry → Sealed → Type 0
IsHeldIn entries history s = Among s (commits_of entries) ⊎ (found s.ticket.0 history ≡ Some s)

-- each stretch ended while the history had no more entries than this
abbrev pub EndBy : ℕ → List Stretch → Type 0
EndBy end [] = Unit {0}
EndBy end (s ∷ past) = (s.until ≤ end) × EndBy end past

-- Entries and history belong together, and hold all commits that the first ones held over the history as it was then.
pub record IsSafe (first : List JournalEntry) (begun : List Entry) (entries : List JournalEntry) (history : List Entry)
    : Type 0 where
  pub matched : AreMatched entries history
  pub held : (s : Sealed) → IsHeldIn first begun s → IsHeldIn entries history s

-- The same of entries of which it isn't known yet that their tickets are below 2^63, as those of each slot are.
pub record IsSafeOnceRead (first : List JournalEntry) (begun : List Entry) (entries : List JournalEntry)
    (history : List Entry) : Type 0 where
  pub matched : next_behind entries ≤ 2 ^ 63 → AreMatched entries history
  pub held : (s : Sealed) → IsHeldIn first begun s → IsHeldIn entries history s

-- others change no table that these groups write through
abbrev pub AreUnshared : List TableId → List Group → Type 0
AreUnshared shared groups =
    (t : TableId) → is_shared shared t ≡ true → is_table_of is_writethrough groups t ≡ false

-- nor one of the writethrough groups that the entries leave over this history
abbrev pub LeaveUnshared : List TableId → List JournalEntry → List Entry → Type 0
LeaveUnshared shared entries history =
    (s : TableState) → state_of history ≡ Some s → (t : TableId) → is_shared shared t ≡ true
    → is_one_of (live_tables (groups_of (notes_of s.schema entries))) t ≡ false

-- so it is of each point of the way: of the entries there, and of the history as it was
abbrev pub EachPoint : (List JournalEntry → List Entry → Type 0) → Way → List JournalEntry → List Entry → Type 0
EachPoint holds way flushed history =
    (entries : List JournalEntry) (count : ℕ) → IsPoint way.from way.past flushed (length history) entries count
    → count ≤ length history → holds entries (take count history)

-- The way began, and its stretches ended, no later than now. Each of its points is safe; and where others change no
-- table that the tier writes through now, they change none that it wrote through at a point.
pub record IsSafeWay (groups : List Group) (shared : List TableId) (flushed : List JournalEntry)
    (history : List Entry) (way : Way) : Type 0 where
  pub begun : way.from ≤ length history
  pub ended : EndBy (length history) way.past
  pub turned : turned_at way.from way.past ≤ length history
  pub each : EachPoint (IsSafeOnceRead (first_of way.past flushed) (take way.from history)) way flushed history
  pub apart : AreUnshared shared groups → EachPoint (LeaveUnshared shared) way flushed history

-- nothing is said where no way is asked for
abbrev pub IsSafeOn : List Group → List TableId → List JournalEntry → List Entry → Option Way → Type 0
IsSafeOn groups shared flushed history None = Unit {0}
IsSafeOn groups shared flushed history (Some way) = IsSafeWay groups shared flushed history way

-- so it is of the world's journal and tier
abbrev pub HasSafeWay : World → Option Way → Type 0
HasSafeWay w way = IsSafeOn w.tier.groups w.shared w.journal.flushed w.history way
