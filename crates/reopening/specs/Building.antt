-- A tier as it is built from what entries leave, and what its commits do at the bank before. (This project's model.)

use Rattle.std.specs.Prelude.{◌≡◌, ℕ, List, [], ◌∷◌, false, map, Some, Result, Ok, Err, slice_get}
use Rattle.std.specs.FinMap.{empty}
use Rattle.std.specs.List.{filter}
use Rattle.table_defs.specs.declared.definition.TableDef.{TableDef}
use Rattle.table_state.specs.declared.history.Sealed.{Sealed}
use Rattle.outside.specs.Sites.{SiteState}
use Rattle.order_laws.specs.Commits.{RiseBetween}
use Rattle.open_sessions.specs.Opening.{seen_all}
use Rattle.group_catalog.specs.Catalogs.{groups_in}
use Rattle.slot_rows.specs.SlotKeys.{RowsHeld}
use Rattle.group_store.specs.Stores.{Kept}
use Rattle.cache_tier.specs.Groups.{Group, is_read_only}
use Rattle.cache_tier.specs.Rounds.{Applies, Drained, RoundEnd, round_stop}
use Rattle.cache_tier.specs.StandingBetween.{Stands}
use Rattle.cache_tier.specs.TierStates.{SetState, Tier, cut}
use Rattle.cache_tier.specs.Worlds.{IsUnshared, World}
use Rattle.stored_tier.specs.declared.clock.Pace.{Pace}
use Rattle.stored_tier.specs.declared.clock.TierClock.{TierClock}
use Rattle.stored_tier.specs.declared.tier.Tier.{Tier as Stored}
use Rattle.stored_tier.specs.Filling.{HidesNone}
use Rattle.stored_tier.specs.Grouping.{IsBareStore}
use Rattle.stored_tier.specs.Moments.{set_seen}
use Rattle.stored_tier.specs.Sites.{IsAt}
use Rattle.reopening.specs.declared.start.ReopenError.{ReopenError}
use Rattle.reopening.specs.Starting.{end_told}

-- each group has a store of its tree, without rows
abbrev pub AreBare : List TableDef → List Group → List Kept → Type 0
AreBare schema [] [] = Unit {0}
AreBare schema [] (s ∷ stores) = ⊥
AreBare schema (g ∷ groups) [] = ⊥
AreBare schema (g ∷ groups) (s ∷ stores) = IsBareStore schema g.def.tree s × AreBare schema groups stores

-- no group has hidden root rows
abbrev pub HideNone : List TableDef → List Group → List RowsHeld → Type 0
HideNone schema [] [] = Unit {0}
HideNone schema [] (h ∷ hidden) = ⊥
HideNone schema (g ∷ groups) [] = ⊥
HideNone schema (g ∷ groups) (h ∷ hidden) = HidesNone schema g 0 h × HideNone schema groups hidden

-- no store has a root key, and no root row is hidden
pub record HoldsNothing (t : Stored) : Type 0 where
  pub stores : (k : ℕ) (s : Kept) → slice_get t.stores.items k ≡ Some s → s.keys ≡ []
  pub hidden : (k : ℕ) (h : RowsHeld) → slice_get t.hidden.items k ≡ Some h → h.table ≡ empty

-- the set of each READONLY group counts from a moment on
abbrev pub set_from : ℕ → Group → SetState
set_from now g = record { interval = g.def.interval; refreshed = now }

abbrev pub sets_from : ℕ → List Group → List SetState
sets_from now groups = map (set_from now) (filter is_read_only groups)

-- the clock of a tier with these groups that is opened at a moment
pub record IsBegunClock (c : TierClock) (groups : List Group) (moment : ℕ) (pace : Pace) : Type 0 where
  pub now : c.now ≡ cut moment
  pub added : c.added ≡ 0
  pub round : c.round ≡ cut moment
  pub sets : map set_seen c.sets.items ≡ sets_from (cut moment) groups
  pub due : c.pace ≡ pace

-- nothing is unsettled, no session is open, and no row is kept
pub record IsBuilt (t : Stored) (schema : List TableDef) (groups : List Group) (next moment : ℕ)
    (pace : Pace) : Type 0 where
  pub schema_is : t.schema ≡ schema
  pub told : t.stale ≡ false
  pub groups_are : groups_in t.catalog ≡ groups
  pub stores : AreBare schema groups t.stores.items
  pub hidden : HideNone schema groups t.hidden.items
  pub sessions : seen_all t.sessions ≡ []
  pub unsettled : t.unsettled.items ≡ []
  pub next_is : t.next ≡ next
  pub clock : IsBegunClock t.clock groups moment pace

-- the tier whose round left these unsettled
abbrev pub settled_tier : List Sealed → Tier → Tier
settled_tier left a = record a { unsettled = left; round = a.now }

-- a world behind the round, which stands
pub record IsSettled (left : List Sealed) (site : SiteState) (w : World) (end : RoundEnd) : Type 0 where
  pub world : World
  pub at : IsAt site world
  pub stands : Stands world
  pub apart : IsUnshared world
  pub tier : world.tier ≡ settled_tier left w.tier
  pub does : Applies w world (round_stop w.tier end)

-- how the round ended
abbrev pub end_of_round : {T : Type 0} → Result T ReopenError → RoundEnd
end_of_round (Ok done) = Drained
end_of_round (Err e) = end_told e

-- so it is of each world at the site that stands, in which these are unsettled
abbrev pub SettlesCommits : {T : Type 0} → List Sealed → List Sealed → SiteState → SiteState → Result T ReopenError
    → Type 0
SettlesCommits old left before behind result =
    (w : World) → IsAt before w → Stands w → IsUnshared w → w.tier.unsettled ≡ old
    → RiseBetween 1 w.tier.unsettled w.tier.next → IsSettled left behind w (end_of_round result)
