-- The instance that a statement wants. (TimesTen Cache User's Guide, "Dynamically loading a cache instance".)

use Rattle.std.specs.Prelude.{ℕ, List, [], ◌∷◌, ◌++◌, Bool, true, false, ◌&&◌, not, nat_eq, Option, Some, None, slice_get, if◌then◌else◌, map}
use Rattle.std.specs.List.{list_any}
use Rattle.std.specs.Option.{option_and_then, option_map, option_or}
use Rattle.std.specs.FinMap.{contains_key}
use Rattle.row_types.specs.declared.value.Value.{Value}
use Rattle.tier_base.specs.declared.number.TableId.{TableId}
use Rattle.expressions.specs.declared.condition.Comparator.TheVariants as is
use Rattle.expressions.specs.declared.condition.Comparator.{Comparator}
use Rattle.row_types.specs.Values.{is_null}
use Rattle.table_defs.specs.declared.definition.TableDef.{TableDef}
use Rattle.table_defs.specs.declared.definition.ForeignKey.{ForeignKey}
use Rattle.table_state.specs.declared.history.Entry.{Entry}
use Rattle.instances.specs.Trees.{same_table}
use Rattle.resolution.specs.Placing.{PlacedCondition, PlacedExpression}
use Rattle.resolution.specs.Placing as placed
use Rattle.resolution.specs.Queries.{PlacedQuery}
use Rattle.resolution.specs.Writes.{PlacedAction, PlacedChange}
use Rattle.resolution.specs.Writes as write
use Rattle.cache_tier.specs.Groups.{Group, is_read_only, group_over}
use Rattle.cache_tier.specs.Shown.{shown_table}
use Rattle.cache_tier.specs.TierStates.{Tier}
use Rattle.sql_subset.specs.declared.stmt.RefreshState.{RefreshState}
use Rattle.sql_subset.specs.declared.stmt.RefreshState.TheVariants.{On, Off, Paused}

-- the row of this key of a table, and all that goes with it
pub record Want : Type 0 where
  pub table : TableId
  pub key : List Value

-- the parts of a conjunction
abbrev pub conjuncts : PlacedCondition → List PlacedCondition
conjuncts (placed.And x y) = conjuncts x ++ conjuncts y
conjuncts (placed.Compared k a b) = placed.Compared k a b ∷ []
conjuncts (placed.IsNull a) = placed.IsNull a ∷ []
conjuncts (placed.Between a low high) = placed.Between a low high ∷ []
conjuncts (placed.In a es) = placed.In a es ∷ []
conjuncts (placed.Not x) = placed.Not x ∷ []
conjuncts (placed.Or x y) = placed.Or x y ∷ []

-- the literal, where the expression is one
abbrev pub literal_in : PlacedExpression → Option Value
literal_in (placed.Literal value) = Some value
literal_in (placed.Column place) = None
literal_in (placed.Binary o a b) = None

abbrev pub is_column : ℕ → PlacedExpression → Bool
is_column place (placed.Column other) = nat_eq other place
is_column place (placed.Literal value) = false
is_column place (placed.Binary o a b) = false

abbrev pub is_equality : Comparator → Bool
is_equality is.Equal = true
is_equality is.NotEqual = false
is_equality is.Less = false
is_equality is.AtMost = false
is_equality is.Greater = false
is_equality is.AtLeast = false

-- the literal of `column = literal`
abbrev pub given_by : ℕ → PlacedCondition → Option Value
given_by place (placed.Compared k a b) = if is_equality k && is_column place a then literal_in b else None
given_by place (placed.And x y) = None
given_by place (placed.IsNull a) = None
given_by place (placed.Between a low high) = None
given_by place (placed.In a es) = None
given_by place (placed.Not x) = None
given_by place (placed.Or x y) = None

-- the first literal that a column is given
abbrev pub given_in : ℕ → List PlacedCondition → Option Value
given_in place [] = None
given_in place (c ∷ cs) = option_or (given_by place c) (given_in place cs)

-- all of them are there
abbrev pub all_there : {A : Type 0} → List (Option A) → Option (List A)
all_there [] = Some []
all_there (x ∷ xs) = option_and_then (λ y. option_map (λ ys. y ∷ ys) (all_there xs)) x

abbrev pub key_given : List ℕ → PlacedCondition → Option (List Value)
key_given places c = all_there (map (λ place. given_in place (conjuncts c)) places)

-- NULL names no key
abbrev pub want_of : TableId → List Value → Option Want
want_of table key = if list_any is_null key then None else Some (record { table = table; key = key })

abbrev pub by_parent : Option ForeignKey → (List ℕ → Option (List Value)) → Option Want
by_parent None given = None
by_parent (Some foreign) given = option_and_then (want_of foreign.parent) (given foreign.columns)

-- the foreign key within the group: a root leaves its own out
abbrev pub foreign_within : Option Group → TableId → TableDef → Option ForeignKey
foreign_within None table def = None
foreign_within (Some g) table def = if same_table g.def.tree.root.table table then None else def.foreign_key

abbrev pub foreign_of : Tier → TableId → TableDef → Option ForeignKey
foreign_of t table def = foreign_within (group_over t.groups table) table def

-- the primary key goes before the foreign key, whose parent is then the row
abbrev pub want_by : Tier → TableId → TableDef → Option (List Value) → PlacedCondition → Option Want
want_by t table def (Some key) c = want_of table key
want_by t table def None c = by_parent (foreign_of t table def) (λ places. key_given places c)

abbrev pub wanted_where : Tier → TableId → Option PlacedCondition → Option Want
wanted_where t table None = None
wanted_where t table (Some c) =
    option_and_then (λ def. want_by t table def (key_given def.primary_key c) c) (slice_get t.schema table.0)

-- the values of an INSERT at these places, where they are literals
abbrev pub values_given : List PlacedExpression → List ℕ → Option (List Value)
values_given values places = all_there (map (λ place. option_and_then literal_in (slice_get values place)) places)

abbrev pub wanted_insert : Tier → TableId → List PlacedExpression → Option Want
wanted_insert t table values =
    option_and_then (λ def. by_parent (foreign_of t table def) (values_given values)) (slice_get t.schema table.0)

-- of a query over one table
abbrev pub wanted_by_query : Tier → PlacedQuery → Option Want
wanted_by_query t q = of_tables q.tables
  where
    of_tables : List TableId → Option Want
    of_tables [] = None
    of_tables (table ∷ []) = wanted_where t table q.filter
    of_tables (table ∷ other ∷ more) = None

-- of a write
abbrev pub wanted_by_write : Tier → PlacedChange → Option Want
wanted_by_write t w = of_action w.action
  where
    of_action : PlacedAction → Option Want
    of_action (write.Insert values) = wanted_insert t w.table values
    of_action (write.Update values filter) = wanted_where t w.table filter
    of_action (write.Delete filter) = wanted_where t w.table filter

abbrev pub is_off : RefreshState → Bool
is_off On = false
is_off Off = true
is_off Paused = false

-- the group loads on demand: it is DYNAMIC, and not a read-only one that is OFF
abbrev pub loads_on_demand : Group → Bool
loads_on_demand g = g.def.dynamic && not (is_read_only g && is_off g.state)

-- the row isn't among the shown ones
abbrev pub is_missing : List Entry → Tier → Want → Bool
is_missing history t want = not (contains_key (shown_table history t want.table) want.key)

-- the want that is loaded, where there is one: its group loads on demand, and its row isn't shown
abbrev pub loaded_want : List Entry → Tier → Option Want → Option Want
loaded_want history t want =
    option_and_then
    (λ w.
    option_and_then (λ g. if loads_on_demand g && is_missing history t w then Some w else None)
    (group_over t.groups w.table)) want
