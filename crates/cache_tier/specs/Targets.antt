-- What a statement on a group names: the group at its place, with a condition and a key; and what LOAD and REFRESH
-- share. (TimesTen SQL Reference, "LOAD CACHE GROUP": WHERE and WITH ID; loaded flags are this project's rule.)

use Rattle.std.specs.FinMap as map
use Rattle.std.specs.Prelude.{if◌then◌else◌, ◌≡◌, ℕ, List, [], ◌∷◌, ◌++◌, Bool, true, false, ◌&&◌, ◌||◌, not, Option, Some, None, slice_get}
use Rattle.std.specs.List.{filter}
use Rattle.std.specs.FinMap.{keys}
use Rattle.row_types.specs.declared.value.Value.{Value}
use Rattle.expressions.specs.Trees.{Cond}
use Rattle.indexed_rows.specs.Rows.{Table}
use Rattle.instances.specs.Views.{kept_at}
use Rattle.sql_query.specs.declared.literal.Literal.{Literal}
use Rattle.table_state.specs.declared.history.Entry.{Entry}
use Rattle.table_state.specs.Tables.{TableState, table_at}
use Rattle.cache_tier.specs.JournalSteps.{FlushesSome}
use Rattle.cache_tier.specs.declared.reply.Reply.{Reply}
use Rattle.cache_tier.specs.declared.reply.Last.TheVariants.{Done}
use Rattle.sql_subset.specs.declared.stmt.Which.{Which}
use Rattle.cache_tier.specs.Conditions.{StandsForFilter, matches, root_def}
use Rattle.cache_tier.specs.DynamicLoads.{state_entries, state_loaded}
use Rattle.cache_tier.specs.Groups.{Group, is_explicit, is_key, is_writethrough, place_called}
use Rattle.cache_tier.specs.Journals.{JournalEntry, SetsLoaded}
use Rattle.cache_tier.specs.Reading.{Answers, backing_at}
use Rattle.cache_tier.specs.Sets.{alone, changed, loaded_with, refreshed}
use Rattle.cache_tier.specs.Shown.{exceeds, instances_of, instances_where}
use Rattle.cache_tier.specs.TierStates.{Tier}
use Rattle.cache_tier.specs.Worlds.{Answer, Part, Then, World, only}

-- what is loaded or refreshed: the group at a place, with the condition and the key that were given
pub record Target : Type 0 where
  pub place : ℕ
  pub group : Group
  pub filter : Option Cond
  pub id : Option (List Literal)

-- the instances of the view that match, and those of them past the horizon
abbrev pub matching : TableState → Target → Table
matching s x = kept_at (instances_where s x.group.def.tree (matches x.filter x.id s x.group)) 0

abbrev pub matching_past : TableState → Target → Table
matching_past s x =
    kept_at (instances_where s x.group.def.tree (λ row. matches x.filter x.id s x.group row && exceeds x.group row)) 0

-- the root rows on which the condition is judged: of a writethrough group all backing roots, of a dynamic read-only
-- one those of its view past the horizon
abbrev pub backing_roots : TableState → Target → Table
backing_roots s x = table_at s x.group.def.tree.root.table

abbrev pub view_roots : TableState → Target → Table
view_roots s x = kept_at (instances_where s x.group.def.tree (exceeds x.group)) 0

-- of these roots those whose keys are in the group's list
abbrev pub held_roots : Target → Table → Table
held_roots x rows = map.retain_keys rows (is_key x.group.keys)

-- the flag of an explicit read-only or a writethrough group is recorded where it changes
abbrev pub has_flag : Group → Bool
has_flag g = is_writethrough g || is_explicit g

abbrev pub flag_entries : Bool → Group → List JournalEntry
flag_entries flag g = if has_flag g && differ flag g.loaded then SetsLoaded g.def.name flag ∷ [] else []
  where
    differ : Bool → Bool → Bool
    differ true b = not b
    differ false b = b

abbrev pub with_flag : Bool → Group → Group
with_flag flag g = if has_flag g then record g { loaded = flag } else g

-- the group at the place is changed behind the refresh of its set
abbrev pub loaded_tier : Target → ℕ → (TableState → Group → Group) → World → Tier
loaded_tier x n change w =
    changed (alone x.place) (λ g. with_flag true (state_loaded (change (backing_at w n) g)))
    (refreshed (loaded_with x.group x.place) n (backing_at w n) w.tier)

-- the keys that a load adds to the list
abbrev pub new_keys : Target → Table → List (List Value)
new_keys x rows = filter (λ key. not (is_key x.group.keys key)) (keys rows)

-- how many instances the group at the place shows
abbrev pub shown_count : Target → List Entry → Tier → ℕ
shown_count x history t = of_group (slice_get t.groups x.place)
  where
    of_group : Option Group → ℕ
    of_group None = 0
    of_group (Some g) = instances_of history t.log g

-- an explicit READONLY group shows its whole view
abbrev pub whole_answer : Target → ℕ → World → Answer
whole_answer x n w =
    (loaded_tier x n (λ s g. g) w, only (Done (shown_count x w.history (loaded_tier x n (λ s g. g) w))))

abbrev pub load_entries : Group → List JournalEntry
load_entries g = state_entries g ++ flag_entries true g

-- behind the snapshot: the records are flushed, and then the change is made
abbrev pub Settles : Target → (World → Answer) → Part
Settles x answer = Then (FlushesSome (load_entries x.group)) (Answers answer)

-- the group of a name with the evaluator's condition that stands for the one that is written
pub record OnTarget (name : List ℕ) (which : Which) (part : Target → Part) (w w' : World) (reply : Reply) : Type 0 where
  pub target : Target
  pub place : place_called w.tier.groups name ≡ Some target.place
  pub group : slice_get w.tier.groups target.place ≡ Some target.group
  pub filter : StandsForFilter (root_def w.tier target.group) which target.filter
  pub id : target.id ≡ which.id
  pub does : part target w w' reply

-- the group of a name, at its place
pub record OnGroup (name : List ℕ) (part : ℕ → Group → Part) (w w' : World) (reply : Reply) : Type 0 where
  pub place : ℕ
  pub group : Group
  pub there : place_called w.tier.groups name ≡ Some place
  pub is : slice_get w.tier.groups place ≡ Some group
  pub does : part place group w w' reply
