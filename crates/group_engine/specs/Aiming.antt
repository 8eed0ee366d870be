-- What LOAD and REFRESH name, and what refuses them. (TimesTen SQL Reference, "LOAD CACHE GROUP", "REFRESH CACHE
-- GROUP"; the order of refusals is this project's rule.)

use Rattle.std.specs.Prelude.{◌≡◌, ℕ, List, Bool, true, false, ◌&&◌, not, Option, Some, None, slice_get, Result, Ok, Err}
use Rattle.std.specs.Option.{option_or}
use Rattle.tier_base.specs.declared.code.Code.TheVariants as code
use Rattle.tier_base.specs.declared.number.SessionId.{SessionId}
use Rattle.row_types.specs.declared.rule.Refused.{Refused}
use Rattle.row_types.specs.declared.rule.Refused.TheVariants as refused
use Rattle.row_types.specs.declared.rule.Rule.{Rule}
use Rattle.row_types.specs.declared.value.Value.{Value}
use Rattle.table_defs.specs.declared.definition.TableDef.{TableDef}
use Rattle.table_state.specs.declared.operation.Op.{Op}
use Rattle.sql_subset.specs.declared.stmt.Load.{Load}
use Rattle.sql_subset.specs.declared.stmt.Stmt.{Stmt}
use Rattle.sql_subset.specs.declared.stmt.Stmt.TheVariants as statement
use Rattle.sql_subset.specs.declared.stmt.Which.{Which}
use Rattle.group_catalog.specs.Identified.{is_given}
use Rattle.cache_tier.specs.Conditions.{StandsForFilter, is_id, root_def, which_names, which_types}
use Rattle.cache_tier.specs.Groups.{Group, is_explicit, is_paused, is_read_only, place_called}
use Rattle.cache_tier.specs.Order.{is_past_range, is_whole_only, refusal, wrong_state}
use Rattle.cache_tier.specs.Rules.{broken_if, named, open_writes}
use Rattle.cache_tier.specs.TierStates.{Session, Tier}
use Rattle.group_engine.specs.declared.aiming.Aim.{Aim}
use Rattle.stored_tier.specs.declared.tier.Tier.{Tier as Stored}
use Rattle.stored_tier.specs.Stored.{HasSession, IsStoredAs}

-- the statement
abbrev pub aimed : Bool → Load → Stmt
aimed false load = statement.Load load
aimed true load = statement.Refresh load

-- what refuses LOAD by the group's kind and state
abbrev pub load_state : Load → List Op → Group → Option Rule
load_state load own g =
    option_or (wrong_state (is_past_range load) g)
    (option_or (wrong_state (is_whole_only g load.which) g)
    (option_or
    (broken_if (is_read_only g && is_explicit g && g.loaded) (named code.NotEmpty g.def.name))
    (open_writes own)))

-- and REFRESH
abbrev pub refresh_state : Load → List Op → Group → Option Rule
refresh_state load own g =
    option_or (wrong_state (is_past_range load) g)
    (option_or (wrong_state (is_read_only g && not (is_paused g.state)) g)
    (option_or (wrong_state (is_whole_only g load.which) g) (open_writes own)))

abbrev pub aim_state : Bool → Load → List Op → Group → Option Rule
aim_state false load own g = load_state load own g
aim_state true load own g = refresh_state load own g

-- the names, then what the group's state refuses, then the types
abbrev pub which_fault : Option TableDef → Which → Option Rule → Option Rule
which_fault root which state = option_or (which_names root which) (option_or state (which_types root which))

-- the conditions that are aimed with stand for those that are written
pub record IsAimed (root : Option TableDef) (which : Which) (aim : Aim) : Type 0 where
  pub filter : StandsForFilter root which aim.which.filter
  pub id : (key : List Value) → is_given key aim.which.id ≡ is_id key which.id

abbrev pub AimsBy : Option TableDef → Which → Option Rule → ℕ → Bool → Result Aim Refused → Type 0
AimsBy root which state place read_only (Ok aim) =
    (which_fault root which state ≡ None) × IsAimed root which aim × (aim.place ≡ place)
    × (aim.read_only ≡ read_only)
AimsBy root which state place read_only (Err (refused.Rule rule)) = which_fault root which state ≡ Some rule
AimsBy root which state place read_only (Err refused.Memory) = Unit {0}

-- nothing refuses the statement, and its group is found
pub record FindsTarget (a : Tier) (s : Session) (refreshes : Bool) (load : Load) (aim : Aim) : Type 0 where
  pub group : Group
  pub free : refusal a s (aimed refreshes load) ≡ None
  pub place : place_called a.groups load.group ≡ Some aim.place
  pub there : slice_get a.groups aim.place ≡ Some group
  pub kind : is_read_only group ≡ aim.read_only
  pub is : IsAimed (root_def a group) load.which aim

abbrev pub Aims : Tier → Session → Bool → Load → Result Aim Refused → Type 0
Aims a s refreshes load (Ok aim) = FindsTarget a s refreshes load aim
Aims a s refreshes load (Err (refused.Rule rule)) = refusal a s (aimed refreshes load) ≡ Some rule
Aims a s refreshes load (Err refused.Memory) = Unit {0}

-- so it is of each abstract tier as which this one is stored
abbrev pub AimsIn : Stored → SessionId → Bool → Load → Result Aim Refused → Type 0
AimsIn t id refreshes load result =
    (a : Tier) (s : Session) → IsStoredAs t a → HasSession t id s → Aims a s refreshes load result
