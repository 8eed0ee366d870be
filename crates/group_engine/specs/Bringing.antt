-- The instance that a statement wants of a READONLY group. (TimesTen Cache User's Guide, "Dynamically loading a cache
-- instance"; that its whole set is refreshed with it is this project's rule.)

use Rattle.std.specs.Prelude.{◌≡◌, ◌⊎◌, ℕ, List, Option, Some, true, slice_get}
use Rattle.tier_base.specs.declared.code.Code.TheVariants as code
use Rattle.indexed_rows.specs.Rows.{Table}
use Rattle.table_state.specs.Tables.{TableState}
use Rattle.slot_rows.specs.SlotKeys.{RowsHeld}
use Rattle.group_store.specs.Stores.{HasRootKeys, Kept}
use Rattle.cache_tier.specs.DynamicLoads.{BringsReadOnly, joined_tier, state_entries}
use Rattle.cache_tier.specs.Groups.{Group, is_read_only}
use Rattle.cache_tier.specs.JournalSteps.{FlushesSome}
use Rattle.cache_tier.specs.Reading.{ReadsFirst, as_it_was}
use Rattle.cache_tier.specs.Sets.{Choice}
use Rattle.cache_tier.specs.Wants.{Want}
use Rattle.cache_tier.specs.Worlds.{Becomes, Stage, ThenStage, faulty}
use Rattle.outside.specs.Holding.{Held}
use Rattle.outside.specs.Sites.{SiteState}
use Rattle.cache_tier.specs.declared.reply.Reply.{Reply}
use Rattle.tier_journal.specs.declared.journal.TierJournal.{TierJournal}
use Rattle.stored_tier.specs.declared.refreshing.Made.{Made}
use Rattle.stored_tier.specs.declared.tier.Tier.{Tier as Stored}
use Rattle.group_engine.specs.Gaining.{AreMadeGaining, IsStoredAt}
use Rattle.group_engine.specs.Taking.{IsGroupAt, PerformsWhere}
pub use Rattle.changed_sets.specs.Gains.{found_in, found_row, found_under}

-- what is wanted is brought into the group at a place, where that is READONLY
abbrev pub BringsWhole : ℕ → Want → Stage
BringsWhole place want w w' stop =
    (g : Group) → slice_get w.tier.groups place ≡ Some g → is_read_only g ≡ true → BringsReadOnly place g want w w' stop

-- a stage, or want of memory, which comes before it and leaves all as it was
abbrev pub TriesFirst : Stage → Stage
TriesFirst stage w w' stop = stage w w' stop ⊎ ((w' ≡ w) × (stop ≡ Some (faulty code.Memory)))

-- the same where it is noted that the refresh of the set is tried
abbrev pub BringsNoted : ℕ → Group → Want → Stage
BringsNoted place g want =
    ReadsFirst as_it_was (λ n. ThenStage (FlushesSome (state_entries g)) (Becomes (joined_tier place g want n)))

-- so it is of each READONLY group of this interval at the place
abbrev pub BringsJoined : {D : Type 0} → (D → SiteState) → (D → ℕ → Held → Type 0) → Stored → Stored
    → Option TierJournal → Option TierJournal → D → D → ℕ → ℕ → Want → Option Reply → Type 0
BringsJoined state possible old new k k' d d' place interval want stop =
    (g : Group) → is_read_only g ≡ true → g.def.interval ≡ interval
    → PerformsWhere (IsGroupAt place g) state possible old new k k' d d' stop
    (λ w w'. BringsNoted place g want w w' stop)

-- what is asked of the group at a place
abbrev pub FindsRoot : Stored → ℕ → Want → TableState → Table → Type 0
FindsRoot t place want state rows =
    (g : Group) (s : Kept) (h : RowsHeld) → IsStoredAt t place g s h
    → HasRootKeys s × (rows ≡ found_in g s h.table want state)

-- what is made where the group at a place gains the instance that is wanted
pub record IsBrought (t : Stored) (place : ℕ) (want : Want) (filled : Choice) (state : TableState)
    (stores : List (Option Made)) : Type 0 where
  pub rows : Table
  pub found : FindsRoot t place want state rows
  pub made : AreMadeGaining filled t place rows state stores
