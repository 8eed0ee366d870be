-- Small facts, by which the definitions are tested.

use Rattle.std.specs.Prelude.{◌≡◌, ℕ, ℤ, ◌≤ℤ◌, List, [], ◌++◌, Bool, true, false, Option, Some, None, Ok, slice_get}
use Rattle.row_types.specs.declared.value.Value.{Value}
use Rattle.tier_base.specs.declared.code.Code.TheVariants as code
use Rattle.row_types.specs.declared.value.Value.TheVariants.{Time}
use Rattle.indexed_rows.specs.Rows.{value_at}
use Rattle.resolution.specs.Queries.{PlacedQuery}
use Rattle.table_state.specs.declared.history.Entry.{Entry}
use Rattle.table_state.specs.declared.operation.Op.{Op}
use Rattle.table_state.specs.Operations.{applied_all}
use Rattle.table_state.specs.Tables.{TableState}
use Rattle.row_types.specs.declared.rule.Rule.{Rule}
use Rattle.cache_tier.specs.declared.reply.Reply.{Reply}
use Rattle.cache_tier.specs.declared.reply.Note.{Note}
use Rattle.cache_tier.specs.declared.reply.Last.TheVariants.{No}
use Rattle.sql_subset.specs.declared.request.Request.TheVariants.{Statement}
use Rattle.sql_subset.specs.declared.stmt.Stmt.{Stmt}
use Rattle.cache_tier.specs.DueWork.{DueWork, due_sets, is_round_due}
use Rattle.cache_tier.specs.Order.{refusal}
use Rattle.cache_tier.specs.Aging.{aged_by_use, leaving, later}
use Rattle.cache_tier.specs.CommitSteps.{CommitsAll}
use Rattle.cache_tier.specs.DoubtSteps.{settled}
use Rattle.cache_tier.specs.DynamicLoads.{state_loaded}
use Rattle.cache_tier.specs.declared.group.AgingRule.TheVariants.{ByTime}
use Rattle.cache_tier.specs.declared.group.TimeRule.{TimeRule}
use Rattle.cache_tier.specs.Groups.{Group, is_key, is_read_only}
use Rattle.cache_tier.specs.Routes.{Cached}
use Rattle.cache_tier.specs.SelectSteps.{SelectsBy}
use Rattle.cache_tier.specs.Sets.{OnePosition, alone, changed, of_set, refreshed}
use Rattle.cache_tier.specs.Shown.{all_over, shows_root}
use Rattle.cache_tier.specs.Steps.{Asked, DoesRequest, Run}
use Rattle.cache_tier.specs.TierStates.{Doubt, Session, Settings, Tier}
use Rattle.cache_tier.specs.Wants.{loaded_want, wanted_by_query}
use Rattle.cache_tier.specs.Worlds.{World, only}

-- the outside is untouched: nothing but the tier may differ
pub record IsUntouched (w w' : World) : Type 0 where
  pub history : w'.history ≡ w.history
  pub journal : w'.journal ≡ w.journal
  pub bank : w'.bank_faults ≡ w.bank_faults
  pub disk : w'.disk_faults ≡ w.disk_faults
  pub moment : w'.moment ≡ w.moment

-- a SELECT in the cache that wants no instance leaves the outside untouched
abbrev pub SelectsQuietly : Type 0
SelectsQuietly =
    (s : Session) (placed : PlacedQuery) (w w' : World) (reply : Reply)
    → loaded_want w.history w.tier (wanted_by_query w.tier placed) ≡ None → SelectsBy Cached s placed w w' reply
    → IsUntouched w w'

-- a COMMIT without writes, too
abbrev pub CommitsNothing : Type 0
CommitsNothing = (s : Session) (w w' : World) (reply : Reply) → s.own ≡ [] → CommitsAll s w w' reply → IsUntouched w w'

-- behind a refresh of a set that a group of its interval joins, each set has one position
abbrev pub RefreshHasOnePosition : Type 0
RefreshHasOnePosition =
    (interval : ℕ) (joining : Option ℕ) (n : ℕ) (s : TableState) (t : Tier)
    →
    ((place : ℕ) (g : Group) → joining ≡ Some place → slice_get t.groups place ≡ Some g
    → g.def.interval ≡ interval)
    → OnePosition t.groups
    → OnePosition (refreshed (of_set interval joining) n s t).groups

-- behind a refresh with which a PAUSED group joins its set and becomes ON, too
abbrev pub JoinHasOnePosition : Type 0
JoinHasOnePosition =
    (interval place n : ℕ) (s : TableState) (t : Tier)
    → ((g : Group) → slice_get t.groups place ≡ Some g → g.def.interval ≡ interval) → OnePosition t.groups
    → OnePosition (changed (alone place) state_loaded (refreshed (of_set interval (Some place)) n s t)).groups

-- an instance whose time isn't past the horizon isn't shown by a read-only group
abbrev pub AgedIsHidden : Type 0
AgedIsHidden =
    (s : TableState) (g : Group) (rule : TimeRule) (horizon seconds : ℤ) (row : List Value) → is_read_only g ≡ true
    → g.def.aging ≡ Some (ByTime rule) → g.horizon ≡ Some horizon → value_at row rule.column ≡ Time seconds
    → seconds ≤ℤ horizon → shows_root s g row ≡ false

-- the horizon only grows
abbrev pub HorizonGrows : Type 0
HorizonGrows = (old n : ℤ) → (old ≤ℤ later (Some old) n)

-- a key that an LRU cycle takes isn't shown by a writethrough group
abbrev pub TakenIsGone : Type 0
TakenIsGone =
    (settings : Settings) (busy : List Value → Bool) (g : Group) (key : List Value)
    → is_key (leaving settings.lru_high settings.lru_low busy g.keys) key ≡ true
    → is_key (aged_by_use settings busy g).keys key ≡ false

-- a doubt that is settled is gone
abbrev pub DoubtIsGone : Type 0
DoubtIsGone = (d : Doubt) (history : List Entry) (stands : Bool) (t : Tier)
    → (settled d history (Ok stands) t).doubt ≡ None

-- operations that apply make of the state what they are over it
abbrev pub OverIsApplied : Type 0
OverIsApplied = (ops : List Op) (s s' : TableState) → applied_all ops s ≡ Some s' → all_over ops s ≡ s'

-- two runs, one behind the other, are a run
abbrev pub RunsGoOn : Type 0
RunsGoOn =
    (w mid last : World) (lines more : List Asked) (replies others : List (Option Reply)) → Run w lines replies mid
    → Run mid more others last → Run w (lines ++ more) (replies ++ others) last

-- where nothing is due but aging, the due work leaves the outside untouched, tells nothing, and doesn't end the line
abbrev pub IdleIsUntouched : Type 0
IdleIsUntouched =
    (w w' : World) (notes : List Note) (stop : Option Reply) → w.tier.doubt ≡ None → is_round_due w.tier ≡ false
    → due_sets w.tier ≡ [] → DueWork w w' notes stop
    → IsUntouched w w' × (notes ≡ []) × (stop ≡ None)

-- a statement that the order of refusals refuses leaves all as it was
abbrev pub RefusedIsAsBefore : Type 0
RefusedIsAsBefore =
    (s : Session) (st : Stmt) (label : List ℕ) (rule : Rule) (w w' : World) (reply : Reply)
    → refusal w.tier s st ≡ Some rule → DoesRequest label s (Statement st) w w' reply → (w' ≡ w)
    × (reply ≡ only (No rule))
