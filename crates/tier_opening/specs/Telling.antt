-- Why a tier isn't opened. (This project's rule.)

use Rattle.std.specs.Global.{Vec}
use Rattle.std.specs.Prelude.{◌≡◌, ◌⊎◌, ℕ, ◌≤◌, List, Some, None, Result, Ok, Err, slice_get}
use Rattle.row_types.specs.declared.value.Value.{Value}
use Rattle.recovery.specs.Recalling.{AreMatched}
use Rattle.recovery.specs.Reopening.{Reopens}
use Rattle.reopening.specs.Starting.{HasDiffered, IsLeft}
use Rattle.reopening.specs.declared.start.ReopenError.{ReopenError}
use Rattle.reopening.specs.declared.start.ReopenError.TheVariants as reopen
use Rattle.table_defs.specs.declared.definition.TableDef.{TableDef}
use Rattle.tier_base.specs.declared.number.TableId.{TableId}
use Rattle.outside.specs.declared.disk.Slot.{Slot}
use Rattle.outside.specs.Faults.{Rose}
use Rattle.outside.specs.Holding.{Held, Slots}
use Rattle.outside.specs.Sites.{SiteState}
use Rattle.commit_journal.specs.Layout.{HaveBytes, Placed, Reads}
use Rattle.cache_tier.specs.Rounds.{Differing, round_stop}
use Rattle.cache_tier.specs.TierStates.{Settings}
use Rattle.cache_tier.specs.Worlds.{IsUnshared, World}
use Rattle.tier_journal.specs.declared.record.Record.{Record}
use Rattle.tier_journal.specs.declared.journal.TierJournal.{TierJournal}
use Rattle.tier_journal.specs.declared.opening.Found.TheVariants.{Whole}
use Rattle.tier_journal.specs.Keeping.{slot_in, version_in}
use Rattle.tier_journal.specs.Opening.{Counts, IsDamagedAt, ShowsFound, StandForAll, meanings, places_of}
use Rattle.recalling.specs.Recalled.{IsFirstUnfit}
use Rattle.tier_opening.specs.Opening.{BeginsIn}
use Rattle.stored_tier.specs.declared.clock.Pace.{Pace}
use Rattle.stored_tier.specs.Stored.{pace_of}
use Rattle.tier_opening.specs.declared.opening.OpenError.{OpenError}
use Rattle.tier_opening.specs.declared.opening.OpenError.TheVariants as error

-- All entries read, and this is the place of the first that doesn't fit over what those before it leave.
pub record IsUnfitAt (moment : ℕ) (schema : List TableDef) (slots now : Slots) (slot : Slot) (place : ℕ) : Type 0 where
  pub placed : List Placed
  pub reads : Reads slots placed None
  pub records : List (ℕ × Record)
  pub stand : StandForAll schema (meanings records) placed
  pub places : places_of records ≡ places_of placed
  pub counts : Counts now placed None slot
  pub first : (settings : Settings) → IsFirstUnfit settings moment schema records place

-- The journal reads, but its slot isn't of version 2, in which each number has bytes. It isn't opened yet: its
-- version is told as damaged.
pub record IsOld (schema : List TableDef) (slots now : Slots) (slot : Slot) (place : ℕ) : Type 0 where
  pub journal : TierJournal
  pub records : Vec (ℕ × Record)
  pub shows : ShowsFound schema slots now (Whole journal records)
  pub version : version_in journal ≡ 2 → ⊥
  pub slot_is : slot ≡ slot_in journal
  pub place_is : place ≡ 1

-- The journal can't be taken: this is the first place that doesn't read, or whose entry is none of the schema's; or
-- it is the byte of another version.
abbrev pub IsUnfound : List TableDef → Slots → Slots → Slot → ℕ → Type 0
IsUnfound schema slots now slot place = IsDamagedAt schema slots now slot place ⊎ IsOld schema slots now slot place

-- the same, or the first place whose entry doesn't fit
pub record IsDamage (moment : ℕ) (o : Held) (slot : Slot) (place : ℕ) : Type 0 where
  pub schema : List TableDef
  pub now : Slots
  pub is : IsUnfound schema o.slots now slot place ⊎ IsUnfitAt moment schema o.slots now slot place

-- the table at this place of the schema has this name
pub record IsNamed (schema : List TableDef) (table : TableId) (name : List ℕ) : Type 0 where
  pub def : TableDef
  pub there : slice_get schema table.0 ≡ Some def
  pub name_is : name ≡ def.name

-- The world in which the tier begins, over what the site held, has a committed transaction that didn't apply at the
-- bank as it was tried: this row is the first that isn't as it says. Where entries and history belong together, and
-- others leave writethrough groups alone, the opening ends there with a world behind.
pub record IsDiffering (settings : Settings) (moment : ℕ) (shared : List TableId) (o : Held) (behind : SiteState)
    (name : List ℕ) (key : List Value) : Type 0 where
  pub journal : TierJournal
  pub begun : World
  pub shares : begun.shared ≡ shared
  pub begins : BeginsIn settings moment o journal begun
  pub table : TableId
  pub named : IsNamed begins.schema table name
  pub differed : HasDiffered begun.shared table key begun.tier.unsettled behind
  pub ends : AreMatched begins.entries begun.history → IsUnshared begun
      → IsLeft behind (λ w. Reopens begun w (round_stop begun.tier (Differing table key)))

-- A failed call has its cause, and so has damage; want of memory needs none. A row that is told to differ does so, for
-- each settings with this pace.
abbrev pub FailsAs : ℕ → Pace → SiteState → SiteState → OpenError → Type 0
FailsAs moment pace before behind error.Disk = Rose before.disk_faults behind.disk_faults
FailsAs moment pace before behind error.Bank = Rose before.bank_faults behind.bank_faults
FailsAs moment pace before behind (error.Damaged slot place) =
    (o : Held) → before.held ≡ Some o → HaveBytes o.slots → IsDamage moment o slot place
FailsAs moment pace before behind (error.Differs name key) =
    (o : Held) (settings : Settings) → before.held ≡ Some o → HaveBytes o.slots
    → pace_of settings ≡ pace → IsDiffering settings moment before.shared o behind name key
FailsAs moment pace before behind error.Memory = Unit {0}

abbrev pub Fails : {T : Type 0} → ℕ → Pace → SiteState → SiteState → Result T OpenError → Type 0
Fails moment pace before behind (Ok done) = Unit {0}
Fails moment pace before behind (Err e) = FailsAs moment pace before behind e

-- counts don't fall, and what others change stays
pub record OpenIsCaused {T : Type 0} (moment : ℕ) (pace : Pace) (before behind : SiteState)
    (result : Result T OpenError) : Type 0 where
  pub bank_later : before.bank_faults ≤ behind.bank_faults
  pub disk_later : before.disk_faults ≤ behind.disk_faults
  pub shares : behind.shared ≡ before.shared
  pub failed : Fails moment pace before behind result

-- The journal isn't found: the disk failed, its first place doesn't read or is of another version, or memory was
-- wanting. The bank isn't called.
abbrev pub FindFails : List TableDef → SiteState → SiteState → OpenError → Type 0
FindFails schema before behind error.Disk = Rose before.disk_faults behind.disk_faults
FindFails schema before behind error.Bank = ⊥
FindFails schema before behind (error.Damaged slot place) =
    (o : Held) → before.held ≡ Some o → HaveBytes o.slots → (now : Slots) × IsUnfound schema o.slots now slot place
FindFails schema before behind (error.Differs table key) = ⊥
FindFails schema before behind error.Memory = Unit {0}

abbrev pub FindFailsAs : {T : Type 0} → List TableDef → SiteState → SiteState → Result T OpenError → Type 0
FindFailsAs schema before behind (Ok done) = Unit {0}
FindFailsAs schema before behind (Err e) = FindFails schema before behind e

-- counts don't fall, that of the bank stays, and so does what others change
pub record FindHasCause {T : Type 0} (schema : List TableDef) (before behind : SiteState) (result : Result T OpenError)
    : Type 0 where
  pub later : before.disk_faults ≤ behind.disk_faults
  pub bank : behind.bank_faults ≡ before.bank_faults
  pub shared : behind.shared ≡ before.shared
  pub failed : FindFailsAs schema before behind result

-- a row that differs is told with its table's name and its key, or memory was wanting for that
abbrev pub IsOfRow : List TableDef → TableId → List Value → OpenError → Type 0
IsOfRow schema table key error.Disk = ⊥
IsOfRow schema table key error.Bank = ⊥
IsOfRow schema table key (error.Damaged slot place) = ⊥
IsOfRow schema table key (error.Differs name other) = IsNamed schema table name × (other ≡ key)
IsOfRow schema table key error.Memory = Unit {0}

-- what is told of why a tier isn't opened again: a failed call of the bank is told as such alone
abbrev pub IsTold : List TableDef → ReopenError → OpenError → Type 0
IsTold schema reopen.Failed e = e ≡ error.Bank
IsTold schema reopen.Memory e = e ≡ error.Memory
IsTold schema (reopen.Differs table key) e = IsOfRow schema table key e
