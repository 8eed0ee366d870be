-- What the slots of a journal give on its way, and how long the backing history is then. (This project's rule.)

use Rattle.std.specs.Prelude.{◌≡◌, ◌⊎◌, ℕ, ◌≤◌, List, [], ◌∷◌, Some}
use Rattle.cache_tier.specs.Journals.{Journal, JournalEntry, Stretch}

-- The slots give these entries while the history has so many: over each stretch, from where the one before it ended,
-- its own; and from there to the end those that are flushed now.
abbrev pub IsPoint : ℕ → List Stretch → List JournalEntry → ℕ → List JournalEntry → ℕ → Type 0
IsPoint from [] flushed end entries count = (from ≤ count) × (count ≤ end) × (entries ≡ flushed)
IsPoint from (s ∷ past) flushed end entries count =
    ((from ≤ count) × (count ≤ s.until) × (entries ≡ s.entries)) ⊎ IsPoint s.until past flushed end entries count

-- where the stretch begins in which the slots give what is flushed now
abbrev pub turned_at : ℕ → List Stretch → ℕ
turned_at from [] = from
turned_at from (s ∷ past) = turned_at s.until past

-- the journal with a way that begins at this moment, at which the history is so long
abbrev pub with_way : ℕ → ℕ → Journal → Journal
with_way moment length j = record j { way = Some (record { since = moment; from = length; past = [] }) }
