-- What a look at the slots finds: the bodies of the live slot's batches.

use Rattle.std.specs.Prelude.{◌≡◌, ◌≢◌, ℕ, ◌^◌, ◌≤◌, ◌⊎◌, Some, None, List, [], ◌∷◌, ◌++◌, length, drop}
use Rattle.std.specs.List.{AllByRecursion, flat_map}
use Rattle.outside.specs.Calls.{Certain}
use Rattle.outside.specs.Sites.{SiteState}
use Rattle.outside.specs.Holding.{Held, slot_of}
use Rattle.commit_journal.specs.declared.looked.Looked.{Looked}
use Rattle.commit_journal.specs.declared.looked.Looked.TheVariants.{Live, Blank, Damaged}
use Rattle.commit_journal.specs.declared.scan.Next.TheVariants as next
use Rattle.commit_journal.specs.Layout.{Placed, Reads, entries_of}
use Rattle.commit_journal.specs.Opening.{IsBlank}
use Rattle.commit_journal.specs.Resting.{AtRest}
use Rattle.commit_journal.specs.Scanning.{IsNext}
use Rattle.commit_journal.specs.Turning.{batch_of}

-- behind its header the slot is open batches with these bodies, each of at most 2^24 bytes, and a closed gate
pub record HasBodies (bytes : List ℕ) (bodies : List (List ℕ)) : Type 0 where
  pub gate : ℕ
  pub junk : List ℕ
  pub are : drop 10 bytes ≡ flat_map batch_of bodies ++ gate ∷ junk
  pub shut : gate ≢ 1
  pub small : AllByRecursion (λ body. length body ≤ 2 ^ 24) bodies

-- behind its header the slot is these open batches, and no whole batch stands behind them
pub record BeginsWith (bytes : List ℕ) (bodies : List (List ℕ)) : Type 0 where
  pub rest : List ℕ
  pub are : drop 10 bytes ≡ flat_map batch_of bodies ++ rest
  pub small : AllByRecursion (λ body. length body ≤ 2 ^ 24) bodies
  pub ends : IsNext rest next.Closed ⊎ IsNext rest next.Cut

-- Of the slots as they were, and as they are now: a live slot's entries and bodies, at rest; no live slot, with nothing
-- written; or the first place that doesn't read.
abbrev pub SlotsShow : Held → Held → Looked → Type 0
SlotsShow o now (Live journal bodies) =
    (placed : List Placed) × Reads o.slots placed None × AtRest journal now.slots (entries_of placed) []
    × HasBodies (slot_of journal.slot now.slots) bodies.items
SlotsShow o now Blank = (now ≡ o) × IsBlank now.slots
SlotsShow o now (Damaged slot place) = (placed : List Placed) × Reads o.slots placed (Some (slot, place))

-- what was found, over a certain disk
pub record LooksAt {D : Type 0} (state : D → SiteState) (possible : D → ℕ → Held → Type 0) (d : D) (o : Held)
    (r : Looked) : Type 0 where
  pub now : Held
  pub certain : Certain state possible d now
  pub beside : now.history ≡ o.history
  pub shows : SlotsShow o now r
