-- UNLOAD over what is stored. (TimesTen SQL Reference, "UNLOAD CACHE GROUP".)

use Rattle.std.specs.Prelude.{◌≡◌, ℕ, List, [], Bool, true, false, ◌&&◌, not, Option, None, Some, Result, Ok, Err, filter, length, map, set, slice_get, if◌then◌else◌}
use Rattle.std.specs.FinMap.{len, values}
use Rattle.row_types.specs.declared.rule.Refused.{Refused}
use Rattle.row_types.specs.declared.rule.Refused.TheVariants as refused
use Rattle.row_types.specs.declared.value.Value.{Value}
use Rattle.tier_base.specs.declared.code.Code.TheVariants as code
use Rattle.tier_base.specs.declared.number.SessionId.{SessionId}
use Rattle.indexed_rows.specs.Rows.{Table, key_of}
use Rattle.instances.specs.Views.{kept_at}
use Rattle.sql_subset.specs.declared.stmt.OfGroup.{OfGroup}
use Rattle.sql_subset.specs.declared.stmt.Stmt.TheVariants as statement
use Rattle.sql_subset.specs.declared.stmt.Which.{Which}
use Rattle.table_state.specs.declared.operation.Op.{Op}
use Rattle.group_catalog.specs.Catalogs.{groups_in}
use Rattle.group_catalog.specs.declared.which.ResolvedWhich.{ResolvedWhich}
use Rattle.group_store.specs.Keeping.{primary_of}
use Rattle.group_store.specs.Stores.{Kept, SameButSpare, cleared_store}
use Rattle.std.specs.Option.{option_or}
use Rattle.row_types.specs.declared.rule.Rule.{Rule}
use Rattle.cache_tier.specs.Conditions.{overflows, root_def}
use Rattle.cache_tier.specs.Groups.{Group, is_explicit, is_read_only, place_called}
use Rattle.cache_tier.specs.Order.{is_whole_only, refusal, wrong_state}
use Rattle.cache_tier.specs.Rules.{open_writes, plain}
use Rattle.cache_tier.specs.TierStates.{Session, Tier}
use Rattle.changed_sets.specs.OfAgingCycles.Running.{cut_all}
use Rattle.group_engine.specs.declared.aiming.Aim.{Aim}
use Rattle.stored_tier.specs.declared.tier.Tier.{Tier as Stored}
use Rattle.group_engine.specs.Aiming.{IsAimed}
use Rattle.stored_tier.specs.Choosing.{matches_at}
use Rattle.stored_tier.specs.Grouping.{KeepsBesideGroups}
use Rattle.stored_tier.specs.Lists.{hides_keys}
use Rattle.stored_tier.specs.Performing.{IsPerformedOver, StandsFor}
use Rattle.stored_tier.specs.Sites.{IsAt}
use Rattle.table_defs.specs.declared.definition.TableDef.{TableDef}
use Rattle.outside.specs.Holding.{Held}
use Rattle.outside.specs.Sites.{SiteState}
use Rattle.tier_journal.specs.declared.journal.TierJournal.{TierJournal}
use Rattle.tier_journal.specs.KeptOver.{KeepsOver}
use Rattle.group_engine.specs.declared.ready.Ready.{Ready}
use Rattle.group_engine.specs.Ready.{IsReadyFor}
use Rattle.stored_tier.specs.Stored.{HasSession, IsStoredAs, IsVerified}
use Rattle.group_engine.specs.Taking.{IsOfTarget}
use Rattle.group_engine.specs.UnloadNamed.{FitsFor}
use Rattle.cache_tier.specs.JournalSteps.{FlushesSome}
use Rattle.cache_tier.specs.Reading.{Answers}
use Rattle.cache_tier.specs.Sets.{alone, changed_from}
use Rattle.cache_tier.specs.Targets.{Target}
use Rattle.cache_tier.specs.UnloadSteps.{unload_answer, unload_entries, unload_fault}
use Rattle.cache_tier.specs.Worlds.{Part, Then, Tries, Unless, World}
use Rattle.cache_tier.specs.declared.reply.Reply.{Reply}

-- what refuses UNLOAD by the group's kind, and by the session's writes
abbrev pub unload_state : Which → List Op → Group → Option Rule
unload_state which own g = option_or (wrong_state (is_whole_only g which) g) (open_writes own)

-- nothing refuses the statement, and its group is found
pub record FindsUnload (a : Tier) (s : Session) (u : OfGroup) (aim : Aim) : Type 0 where
  pub group : Group
  pub free : refusal a s (statement.Unload u) ≡ None
  pub place : place_called a.groups u.group ≡ Some aim.place
  pub there : slice_get a.groups aim.place ≡ Some group
  pub kind : is_read_only group ≡ aim.read_only
  pub is : IsAimed (root_def a group) u.which aim

abbrev pub AimsUnload : Tier → Session → OfGroup → Result Aim Refused → Type 0
AimsUnload a s u (Ok aim) = FindsUnload a s u aim
AimsUnload a s u (Err (refused.Rule rule)) = refusal a s (statement.Unload u) ≡ Some rule
AimsUnload a s u (Err refused.Memory) = Unit {0}

-- so it is of each abstract tier as which this one is stored
abbrev pub AimsUnloadIn : Stored → SessionId → OfGroup → Result Aim Refused → Type 0
AimsUnloadIn t id u result =
    (a : Tier) (s : Session) → IsStoredAs t a → HasSession t id s → AimsUnload a s u result

-- the keys of the rows that match, where rows stand under their values at these columns
abbrev pub leaving : ResolvedWhich → List ℕ → Table → List (List Value)
leaving which columns rows =
    map (key_of columns) (filter (λ row. matches_at which (key_of columns row) row) (values rows))

-- instances left, so many; where the root rows fit, those that match
pub record IsCutBy (fits : Table → Type 0) (which : ResolvedWhich) (columns : List ℕ) (old new : Kept) (n : ℕ)
    : Type 0 where
  pub keys : List (List Value)
  pub are : fits (kept_at old.tables 0) → keys ≡ leaving which columns (kept_at old.tables 0)
  pub count : n ≡ length keys
  pub gone : SameButSpare (cut_all keys old) new

-- the same of the store at a place
pub record IsCutAt (fits : Table → Type 0) (place : ℕ) (columns : List ℕ) (which : ResolvedWhich)
    (old new : List Kept) (n : ℕ) : Type 0 where
  pub store : Kept
  pub left : Kept
  pub kept : slice_get old place ≡ Some store
  pub cut : IsCutBy fits which columns store left n
  pub is : new ≡ set old place left

-- all instances left, so many
pub record IsClearedBy (old new : Kept) (n : ℕ) : Type 0 where
  pub count : n ≡ len (kept_at old.tables 0)
  pub gone : SameButSpare (cleared_store old) new

pub record IsClearedAt (place : ℕ) (old new : List Kept) (n : ℕ) : Type 0 where
  pub store : Kept
  pub left : Kept
  pub kept : slice_get old place ≡ Some store
  pub cleared : IsClearedBy store left n
  pub is : new ≡ set old place left

-- 120 of the condition on a row of the store at a place
pub record OverflowsIn (place : ℕ) (which : ResolvedWhich) (stores : List Kept) (rule : Rule) : Type 0 where
  pub store : Kept
  pub kept : slice_get stores place ≡ Some store
  pub is : overflows which.filter (kept_at store.tables 0) ≡ true
  pub told : rule ≡ plain code.Overflow

-- the group at a place has the flag cleared, where all of it left
abbrev pub flagged : Bool → ℕ → List Group → List Group
flagged all place groups = if all then changed_from (alone place) (λ g. record g { loaded = false }) 0 groups
    else groups

-- Instances left the store of the group at a place so, and nothing else changed but its flag. Where it is noted that
-- sessions may read over the stored rows, they may.
pub record LeavesGroup (t new : Stored) (place : ℕ) (all : Bool) (does : Group → Kept → Kept → Type 0) : Type 0 where
  pub group : Group
  pub store : Kept
  pub left : Kept
  pub there : slice_get (groups_in t.catalog) place ≡ Some group
  pub kept : slice_get t.stores.items place ≡ Some store
  pub hides : hides_keys group ≡ false
  pub did : does group store left
  pub stores : new.stores.items ≡ set t.stores.items place left
  pub groups : groups_in new.catalog ≡ flagged all place (groups_in t.catalog)
  pub beside : KeepsBesideGroups t new
  pub visible : new.visible ≡ t.visible
  pub directory : new.directory ≡ t.directory
  pub hidden : new.hidden ≡ t.hidden
  pub known : new.verified ≡ true → IsVerified new

-- the group at a place is explicit
abbrev pub IsWholeAt : Stored → ℕ → Type 0
IsWholeAt t place =
    (g : Group) → slice_get (groups_in t.catalog) place ≡ Some g → g.def.dynamic ≡ false

-- the group's list is that of what it shows: it is dynamic, and hides none
abbrev pub lists_shown : Option Group → Bool
lists_shown None = false
lists_shown (Some g) = g.def.dynamic && not (hides_keys g)

-- the instances that match, so many
abbrev pub IsCutGroup : Stored → Stored → Aim → Bool → ℕ → Type 0
IsCutGroup t new aim all n =
    LeavesGroup t new aim.place all
    (λ g store left. IsCutBy (FitsFor t.schema g.def.tree.root.table) aim.which
    (primary_of t.schema g.def.tree.root.table) store left n)

-- all of them
abbrev pub IsClearedGroup : Stored → Stored → ℕ → ℕ → Type 0
IsClearedGroup t new place n =
    LeavesGroup t new place true
    (λ g store left. IsClearedBy store left n × (g.def.dynamic ≡ false))

-- an explicit READONLY group is asked for whole
abbrev pub AsksWhole : Target → Bool → Type 0
AsksWhole x all =
    is_read_only x.group ≡ true → is_explicit x.group ≡ true → (all ≡ true) × (x.filter ≡ None) × (x.id ≡ None)

-- UNLOAD of a group that is found
abbrev pub UnloadsTarget : Session → Target → Bool → Part
UnloadsTarget s x all w w' reply =
    Unless (unload_fault s x w) (Then (FlushesSome (unload_entries all x.group)) (Answers (unload_answer x all))) w w'
    reply

-- So it is of the group at a place, in each world at the site for which the tier stands, and whose journal is kept over
-- the disk, where the session has no open writes.
abbrev pub UnloadsHere : {D : Type 0} → (D → SiteState) → (D → ℕ → Held → Type 0) → Stored → Stored
    → Option TierJournal → Option TierJournal → D → D → SessionId → Aim → Bool → Reply → Type 0
UnloadsHere state possible t new k k' d d' id aim all reply =
    (s : Session) (w : World) (x : Target) → HasSession t id s → s.own ≡ [] → AsksWhole x all → IsAt (state d) w
    → StandsFor t w → KeepsOver state possible d k w → slice_get w.tier.groups aim.place ≡ Some x.group
    → is_read_only x.group ≡ aim.read_only → IsOfTarget x aim.place aim.which
    → IsPerformedOver state possible new k' d' (Some reply) (λ w'. Tries (UnloadsTarget s x all) w w' reply)

-- the same where the record of its flag was made ready
abbrev pub UnloadsReady : {D : Type 0} → (D → SiteState) → (D → ℕ → Held → Type 0) → Stored → Stored
    → Option TierJournal → Option TierJournal → D → D → Ready → SessionId → Aim → Bool → Reply → Type 0
UnloadsReady state possible t new k k' d d' ready id aim all reply =
    (s : Session) (w : World) (x : Target) → HasSession t id s → s.own ≡ [] → AsksWhole x all → IsAt (state d) w
    → StandsFor t w → KeepsOver state possible d k w
    → IsReadyFor w.tier.schema k ready (unload_entries all x.group)
    → slice_get w.tier.groups aim.place ≡ Some x.group → is_read_only x.group ≡ aim.read_only
    → IsOfTarget x aim.place aim.which
    → IsPerformedOver state possible new k' d' (Some reply) (λ w'. Tries (UnloadsTarget s x all) w w' reply)

-- what was made ready for the group at a place, whose instances leave
abbrev pub IsReadyToLeave : List Group → Option TierJournal → ℕ → Bool → Ready → Type 0
IsReadyToLeave groups k place all ready =
    (schema : List TableDef) (seen : Group) → slice_get groups place ≡ Some seen
    → IsReadyFor schema k ready (unload_entries all seen)
