-- What a tier is opened again with, the abstract tier that begins so, and what opening it leaves. (TimesTen Cache
-- User's Guide, "Recovery"; that sets count from the opening, and that no session is open, is this project's rule.)

use Rattle.std.specs.Prelude.{◌≡◌, ◌⊎◌, ◌≤◌, List, [], Some, None, true, false, Result, Ok, Err}
use Rattle.std.specs.List.{list_all}
use Rattle.std.specs.Option.{IsSome}
use Rattle.std.specs.Result.{IsErrOf}
use Rattle.row_types.specs.declared.value.Value.{Value}
use Rattle.tier_base.specs.declared.number.TableId.{TableId}
use Rattle.table_state.specs.declared.history.Sealed.{Sealed}
use Rattle.outside.specs.Faults.{Rose}
use Rattle.outside.specs.Holding.{Held}
use Rattle.outside.specs.Sites.{SiteState}
use Rattle.outside.specs.declared.fault.BankError.{BankError}
use Rattle.outside.specs.declared.fault.BankError.TheVariants as bank
use Rattle.order_laws.specs.Commits.{RiseBetween}
use Rattle.propagators.specs.Rounds.{DifferedAt, IsRestOf}
use Rattle.propagators.specs.declared.rounds.RoundFault.{RoundFault}
use Rattle.propagators.specs.declared.rounds.RoundFault.TheVariants as stop
use Rattle.group_catalog.specs.Catalogs.{groups_in}
use Rattle.cache_tier.specs.Groups.{Group}
use Rattle.cache_tier.specs.Rounds.{Differing, Failing, RoundEnd, Wanting, round_stop}
use Rattle.cache_tier.specs.StandingBetween.{Each, Stands}
use Rattle.cache_tier.specs.TierStates.{Tier, cut}
use Rattle.cache_tier.specs.Worlds.{IsUnshared, World}
use Rattle.recovery.specs.Reopening.{Reloads, Reopens, sets_begun}
use Rattle.stored_tier.specs.declared.tier.Tier.{Tier as Stored}
use Rattle.stored_tier.specs.Performing.{IsPerformed, KeepsSlots, StandsFor}
use Rattle.stored_tier.specs.Sites.{IsAt}
use Rattle.group_catalog.specs.Catalogs.{HaveOwnNames, is_plain}
use Rattle.reopening.specs.declared.start.ReopenError.{ReopenError}
use Rattle.reopening.specs.declared.start.ReopenError.TheVariants as error
use Rattle.reopening.specs.declared.start.Start.{Start}
use Rattle.stored_tier.specs.Stored.{pace_of}

-- The groups are such as the tier does, no two of them have one name, and tickets begin at 1.
pub record IsInOrder (start : Start) : Type 0 where
  pub plain : list_all is_plain (groups_in start.catalog) ≡ true
  pub named : HaveOwnNames (groups_in start.catalog)
  pub first : 1 ≤ start.next

-- the group was read at no position
abbrev pub IsUnread : Group → Type 0
IsUnread g = g.position ≡ None

-- The tier begins so, whatever it has committed: what the entries tell of is unsettled, in ticket order, and nothing is
-- shown.
pub record BeginsAs (start : Start) (a : Tier) : Type 0 where
  pub schema : a.schema ≡ start.schema
  pub told : a.stale ≡ false
  pub groups : a.groups ≡ groups_in start.catalog
  pub unread : Each IsUnread a.groups
  pub sets : a.sets ≡ sets_begun a
  pub unsettled : a.unsettled ≡ start.commits.items
  pub rise : RiseBetween 1 a.unsettled a.next
  pub sessions : a.sessions ≡ []
  pub doubt : a.doubt ≡ None
  pub next : a.next ≡ start.next
  pub now : a.now ≡ cut start.now.0
  pub added : a.added ≡ 0
  pub round : a.round ≡ cut start.now.0
  pub due : pace_of a.settings ≡ start.pace

-- why it can't be opened, as the end of a round
abbrev pub end_told : ReopenError → RoundEnd
end_told error.Failed = Failing
end_told (error.Differs table key) = Differing table key
end_told error.Memory = Wanting

-- why a round ended early; where a row differs, memory may be wanting for its key
abbrev pub TellsFault : RoundFault → ReopenError → Type 0
TellsFault stop.Failed e = e ≡ error.Failed
TellsFault stop.Memory e = e ≡ error.Memory
TellsFault (stop.Differs table key) e = (e ≡ error.Differs table key) ⊎ (e ≡ error.Memory)

-- The site tells what it holds. Of these commits a rear is left, whose first wasn't in the history and didn't apply
-- as it was tried: this row of this table is the first that differs.
pub record HasDiffered (shared : List TableId) (table : TableId) (key : List Value) (commits : List Sealed)
    (site : SiteState) : Type 0 where
  pub held : Held
  pub told : site.held ≡ Some held
  pub left : List Sealed
  pub rest : IsRestOf commits left
  pub differed : DifferedAt shared table key left held.history

-- so it is where a row is told to differ, and the site told what it held
abbrev pub DiffersAs : List Sealed → SiteState → SiteState → ReopenError → Type 0
DiffersAs commits before behind error.Failed = Unit {0}
DiffersAs commits before behind (error.Differs table key) =
    IsSome before.held → HasDiffered before.shared table key commits behind
DiffersAs commits before behind error.Memory = Unit {0}

-- no row is told to differ
abbrev pub IsOfCall : ReopenError → Type 0
IsOfCall error.Failed = Unit {0}
IsOfCall (error.Differs table key) = ⊥
IsOfCall error.Memory = Unit {0}

-- the fault of a call of the bank
abbrev pub fault_of : BankError → ReopenError
fault_of bank.Failed = error.Failed
fault_of bank.Memory = error.Memory

-- a world behind at the site, which comes so
pub record IsLeft (site : SiteState) (does : World → Type 0) : Type 0 where
  pub world : World
  pub at : IsAt site world
  pub is : does world

-- The tier stands for the world behind the opening; or that came to its end early.
abbrev pub OpensAgain : SiteState → World → Result Stored ReopenError → Type 0
OpensAgain behind w (Ok t) = IsPerformed t behind (λ w'. Reopens w w' None)
OpensAgain behind w (Err e) = IsLeft behind (λ w'. Reopens w w' (round_stop w.tier (end_told e)))

-- so it is of each world at the site that stands, whose tier begins so, and in which others leave writethrough groups
-- alone
abbrev pub ReopensFrom : Start → SiteState → SiteState → Result Stored ReopenError → Type 0
ReopensFrom start before behind result =
    (w : World) → IsAt before w → Stands w → IsUnshared w → BeginsAs start w.tier → OpensAgain behind w result

-- The same of the rows that come back behind the round: the tier stands for a world behind, or that came to its end
-- early.
abbrev pub Refilled : SiteState → World → Result Stored ReopenError → Type 0
Refilled behind w (Ok t) = IsPerformed t behind (λ w'. Reloads w w' None)
Refilled behind w (Err e) = IsLeft behind (λ w'. Reloads w w' (round_stop w.tier (end_told e)))

abbrev pub Refills : Stored → SiteState → SiteState → Result Stored ReopenError → Type 0
Refills t before behind result =
    (w : World) → IsAt before w → StandsFor t w → IsUnshared w → Refilled behind w result

-- Counts and moments don't fall; what others change stays, and so do the slots and the count of the disk's faults. A
-- failed call has its cause.
pub record IsReopenCaused {T : Type 0} (before behind : SiteState) (result : Result T ReopenError) : Type 0 where
  pub later : before.bank_faults ≤ behind.bank_faults
  pub moment : before.moment ≤ behind.moment
  pub shares : behind.shared ≡ before.shared
  pub slots : KeepsSlots before.held behind.held
  pub disk : behind.disk_faults ≡ before.disk_faults
  pub failed : IsErrOf result error.Failed → Rose before.bank_faults behind.bank_faults
