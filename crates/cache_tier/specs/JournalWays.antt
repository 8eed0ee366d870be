-- How a journal goes on: its entries, over rotations. (This project's rule.)

use Rattle.std.specs.Prelude.{◌≡◌, ◌⊎◌, ℕ, ◌+◌, ◌≤◌, List, [], ◌∷◌, ◌++◌, Option, Some, None, length, take}
use Rattle.cache_tier.specs.Journals.{Journal, JournalEntry, Stretch, Way}

-- the entries that a journal has been given, flushed or not
abbrev pub given : Journal → List JournalEntry
given j = j.flushed ++ j.tail

-- a front of all that a journal was given, with all that another one had flushed
pub record IsFront (least : List JournalEntry) (all entries : List JournalEntry) : Type 0 where
  pub count : ℕ
  pub is : entries ≡ take count all
  pub flushed : length least ≤ length entries

-- what the slots gave when the way began
abbrev pub first_of : List Stretch → List JournalEntry → List JournalEntry
first_of [] flushed = flushed
first_of (s ∷ past) flushed = s.entries

-- the moment at which a way began, how long the history was then, and what the slots gave
pub record Beginning : Type 0 where
  pub since : ℕ
  pub from : ℕ
  pub entries : List JournalEntry

abbrev pub beginning_in : List JournalEntry → Option Way → Option Beginning
beginning_in flushed None = None
beginning_in flushed (Some way) =
    Some (record { since = way.since; from = way.from; entries = first_of way.past flushed })

abbrev pub beginning_of : Journal → Option Beginning
beginning_of j = beginning_in j.flushed j.way

-- In one slot a journal is only given more, and flushes more. Its way began where it began.
pub record GoesOn (old new : Journal) : Type 0 where
  pub kept : new.kept ≡ old.kept
  pub slot : new.generation ≡ old.generation
  pub more : List JournalEntry
  pub grows : given new ≡ given old ++ more
  pub flushed : length old.flushed ≤ length new.flushed
  pub way : beginning_of new ≡ beginning_of old

-- a journal before and behind a rotation
pub record Renewal : Type 0 where
  pub before : Journal
  pub begun : Journal

-- from one journal to another, over these rotations
abbrev pub Leads : Journal → List Renewal → Journal → Type 0
Leads old [] new = GoesOn old new
Leads old (r ∷ renewals) new = GoesOn old r.before × (r.begun.kept ≡ r.before.kept)
    × (r.begun.generation ≡ r.before.generation + 1) × (r.begun.tail ≡ [])
    × (beginning_of r.begun ≡ beginning_of r.before) × Leads r.begun renewals new

-- the entries that the slots give at a moment on the way: of one slot those that were flushed when it began, or the
-- line did, and a front of what came behind them
abbrev pub IsOnTheWay : Journal → List Renewal → Journal → List JournalEntry → Type 0
IsOnTheWay old [] new entries = IsFront old.flushed (given new) entries
IsOnTheWay old (r ∷ renewals) new entries =
    IsFront old.flushed (given r.before) entries ⊎ IsOnTheWay r.begun renewals new entries

pub record IsBetween (old new : Journal) (entries : List JournalEntry) : Type 0 where
  pub renewals : List Renewal
  pub leads : Leads old renewals new
  pub is : IsOnTheWay old renewals new entries
