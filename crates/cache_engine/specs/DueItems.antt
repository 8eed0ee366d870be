-- What items of due work do to the stored tier, and which sets are due. (TimesTen Cache User's Guide, "Automatically
-- refreshing a cache group"; this project's model.)

use Rattle.std.specs.Prelude.{◌≡◌, ℕ, nat_lt, List, ◌++◌, Bool, true, ◌&&◌, Option, Some, None, drop, length}
use Rattle.std.specs.List.{filter}
use Rattle.tier_base.specs.declared.code.Code.{Code}
use Rattle.tier_base.specs.declared.code.Code.TheVariants as code
use Rattle.cache_tier.specs.Aging.{is_over}
use Rattle.cache_tier.specs.DueWork.{DueAging, DueRound, DueSets, Item, ThenItem, intervals}
use Rattle.cache_tier.specs.Groups.{Group, definitions_of}
use Rattle.cache_tier.specs.declared.reply.Note.{Note}
use Rattle.cache_tier.specs.declared.reply.Note.TheVariants.{Propagate, Refresh}
use Rattle.cache_tier.specs.declared.reply.Reply.{Reply}
use Rattle.group_catalog.specs.Catalogs.{groups_in}
use Rattle.stored_tier.specs.declared.moments.SetMoment.{SetMoment}
use Rattle.cache_engine.specs.declared.due.Due.{Due}
use Rattle.stored_tier.specs.declared.tier.Tier.{Tier as Stored}
use Rattle.cache_engine.specs.Due.{IsDueCaused}
use Rattle.dynamic_loads.specs.OfAgingCycles.Ages.{Ages}
use Rattle.stored_tier.specs.Performing.{PerformsOver}
use Rattle.stored_tier.specs.Refreshing.{has_moment, moment_in}
use Rattle.outside.specs.Holding.{Held}
use Rattle.outside.specs.Sites.{SiteState}
use Rattle.tier_journal.specs.declared.journal.TierJournal.{TierJournal}

-- what is due behind the doubt
abbrev pub DueRest : Item
DueRest = ThenItem DueRound (ThenItem DueSets DueAging)

-- a set is due at a moment: its interval after its last refresh
abbrev pub is_due_at : ℕ → List SetMoment → ℕ → Bool
is_due_at now sets interval = is_over now (moment_in sets interval) interval

-- the intervals of the sets that are due, rising
abbrev pub due_at : ℕ → List SetMoment → List Group → List ℕ
due_at now sets groups = filter (is_due_at now sets) (intervals groups)

-- a round is due so long after the last one; never, where that is 0
abbrev pub round_is_due : ℕ → ℕ → ℕ → Bool
round_is_due now round propagate_ms = nat_lt 0 propagate_ms && is_over now round propagate_ms

-- nothing has come that makes other sets due
pub record KeepsSets (old new : Stored) : Type 0 where
  pub catalog : new.catalog ≡ old.catalog
  pub now : new.clock.now ≡ old.clock.now
  pub sets : new.clock.sets ≡ old.clock.sets

-- what a failed round tells, and a failed refresh of the set of an interval
abbrev pub note_of : Option ℕ → Code → Note
note_of None c = Propagate c
note_of (Some interval) c = Refresh c interval

-- the notes behind earlier ones
abbrev pub notes_since : List Note → List Note → List Note
notes_since earlier notes = drop (length earlier) notes

abbrev pub due_of : List Note → Option Reply → Due
due_of notes stop = record { notes = notes; stop = stop }

-- A site with the journal beside it, or with none.
pub record Footing (D : Type 0) : Type 0 where
  pub journal : Option TierJournal
  pub disk : D

abbrev pub over : {D : Type 0} → Option TierJournal → D → Footing D
over k d = record { journal = k; disk = d }

-- The stored tier does an item of due work in each world, and its notes come behind the earlier ones. Each fault that
-- they tell has its cause, the groups keep their definitions, and no set loses the entry of its last refresh.
pub record DoesItem {D : Type 0} (state : D → SiteState) (possible : D → ℕ → Held → Type 0) (item : Item)
    (old new : Stored) (before behind : Footing D) (earlier notes : List Note) (stop : Option Reply) : Type 0 where
  pub performs :
      PerformsOver state possible old new before.journal behind.journal before.disk behind.disk stop
      (λ w w'. item w w' (notes_since earlier notes) stop)
  pub order : notes ≡ earlier ++ notes_since earlier notes
  pub cause :
      IsDueCaused before.journal (state before.disk) (state behind.disk) (due_of (notes_since earlier notes) stop)
  pub none : before.journal ≡ None → behind.journal ≡ None
  pub groups : definitions_of (groups_in new.catalog) ≡ definitions_of (groups_in old.catalog)
  pub entries : (interval : ℕ) → has_moment old.clock.sets.items interval ≡ true
      → has_moment new.clock.sets.items interval ≡ true

-- the cycles of aging that are due have run; definitions and the clock stay
pub record RunsCycles (old new : Stored) : Type 0 where
  pub ages : Ages old new
  pub groups : definitions_of (groups_in new.catalog) ≡ definitions_of (groups_in old.catalog)
  pub clock : new.clock ≡ old.clock
