-- What an opening finds.

use Rattle.std.specs.Prelude.{◌≡◌, ◌≤◌, ℕ, List, length, Option, None, []}
use Rattle.outside.specs.declared.disk.Slot.{Slot}
use Rattle.outside.specs.Holding.{Slots, Held}
use Rattle.outside.specs.Calls.{Certain}
use Rattle.outside.specs.Sites.{SiteState}
use Rattle.commit_journal.specs.declared.head.Head.{Head}
use Rattle.commit_journal.specs.declared.head.Survey.{Survey}
use Rattle.commit_journal.specs.declared.head.Head.TheVariants.{Dead, Faulty, Live}
use Rattle.commit_journal.specs.declared.journal.Journal.{Journal}
use Rattle.commit_journal.specs.declared.opening.Opened.{Opened}
use Rattle.commit_journal.specs.Layout.{HaveBytes, Placed, Reads, entries_of, head_of}
use Rattle.commit_journal.specs.Resting.{AtRest}

-- the entries and the first damaged place of the slots; where there is none, a journal at rest
pub record Finds (slots : Slots) (found : Opened) : Type 0 where
  pub reads : Reads slots found.entries.items found.damaged
  pub rests : found.damaged ≡ None → AtRest found.journal slots (entries_of found.entries.items) []

-- what the slots said they say still, and nothing else; none of them is without bytes; the rest stays
pub record Keeps (o p : Held) : Type 0 where
  pub beside : p.history ≡ o.history
  pub bytes : HaveBytes p.slots
  pub reads : (entries : List Placed) (damaged : Option (Slot × ℕ)) → Reads o.slots entries damaged
      → Reads p.slots entries damaged
  pub says : (entries : List Placed) (damaged : Option (Slot × ℕ)) → Reads p.slots entries damaged
      → Reads o.slots entries damaged

-- An opened journal has what the slots said. Where no place is damaged it is at rest over a certain disk.
pub record Opens {D : Type 0} (state : D → SiteState) (possible : D → ℕ → Held → Type 0) (d : D) (o : Held)
    (r : Opened) : Type 0 where
  pub now : Held
  pub certain : Certain state possible d now
  pub beside : now.history ≡ o.history
  pub reads : Reads o.slots r.entries.items r.damaged
  pub rests : r.damaged ≡ None → AtRest r.journal now.slots (entries_of r.entries.items) []

-- a new journal: slot 0 is of version 2 and generation 1, and its head stands before a closed gate
pub record IsNew (j : Journal) : Type 0 where
  pub version : j.version ≡ 2
  pub generation : j.generation ≡ 1
  pub gate : j.gate ≡ 10

-- a live head has its bytes
abbrev pub HeadFits : ℕ → Head → Type 0
HeadFits len Dead = Unit {0}
HeadFits len (Faulty place) = Unit {0}
HeadFits len (Live version generation) = 11 ≤ len

-- no slot is live, and none is without bytes
pub record IsBlank (slots : Slots) : Type 0 where
  pub first : head_of slots.first ≡ Dead
  pub second : head_of slots.second ≡ Dead
  pub have : HaveBytes slots

-- these are the heads and the lengths of the slots, of a certain disk
pub record Surveyed {D : Type 0} (state : D → SiteState) (possible : D → ℕ → Held → Type 0) (d : D) (o : Held)
    (s : Survey) : Type 0 where
  pub certain : Certain state possible d o
  pub first_len : length o.slots.first ≡ s.first_len
  pub first : head_of o.slots.first ≡ s.first
  pub second_len : length o.slots.second ≡ s.second_len
  pub second : head_of o.slots.second ≡ s.second
