-- The conditions of LOAD, REFRESH, UNLOAD and FLUSH: over the columns of the root table, and by the root's key.
-- (TimesTen SQL Reference, "LOAD CACHE GROUP": WHERE and WITH ID.)

use Rattle.std.specs.Prelude.{◌≡◌, ℕ, List, [], ◌∷◌, Option, Some, None, Bool, true, false, ◌&&◌, ◌||◌, not, slice_get, ◌==◌, length, is_none, Ok}
use Rattle.std.specs.List.{list_any, filter}
use Rattle.std.specs.Option.{option_map, option_or}
use Rattle.std.specs.FinMap.{values}
use Rattle.tier_base.specs.declared.code.Code.TheVariants as code
use Rattle.row_types.specs.declared.rule.Rule.{Rule}
use Rattle.row_types.specs.declared.value.Value.{Value}
use Rattle.row_types.specs.Values.{comparison_of}
use Rattle.row_types.specs.declared.column.Column.{Column}
use Rattle.indexed_rows.specs.Rows.{Table}
use Rattle.table_defs.specs.declared.definition.TableDef.{TableDef}
use Rattle.table_state.specs.Tables.{TableState}
use Rattle.expressions.specs.Trees.{Cond}
use Rattle.expressions.specs.Types.{family_of_type, agrees}
use Rattle.evaluator.specs.Writes.{selects}
use Rattle.instances.specs.Views.{is_true}
use Rattle.sql_query.specs.declared.literal.Literal.{Literal}
use Rattle.sql_query.specs.Literals.{value_of}
use Rattle.resolution.specs.Literals.{family_of_literal, unheld_in_filter}
use Rattle.resolution.specs.Placing.{placed_filter, filter_seen}
use Rattle.resolution.specs.Scopes.{columns_seen, SeenColumn}
use Rattle.resolution.specs.WrittenTypes.{is_sound_filter}
use Rattle.cache_tier.specs.Groups.{Group}
use Rattle.cache_tier.specs.Rules.{broken_if, no_type, plain, rule_in}
use Rattle.cache_tier.specs.Shown.{root_key}
use Rattle.cache_tier.specs.TierStates.{Tier}
use Rattle.sql_subset.specs.declared.stmt.Which.{Which}

-- the definition of a group's root table
abbrev pub root_def : Tier → Group → Option TableDef
root_def t g = slice_get t.schema g.def.tree.root.table.0

abbrev pub root_scope : Option TableDef → List SeenColumn
root_scope None = []
root_scope (Some def) = columns_seen def.name def.columns

-- 103: a name that is no column of the root table, of which this is the definition
abbrev pub which_names : Option TableDef → Which → Option Rule
which_names root which = rule_in (placed_filter (root_scope root) which.filter)

-- a literal that a column of this type takes
abbrev pub takes : List Column → ℕ → Literal → Bool
takes columns place literal =
    agrees (Ok (option_map (λ column. family_of_type column.ty) (slice_get columns place)))
    (Ok (family_of_literal literal))

abbrev pub take_all : List Column → List ℕ → List Literal → Bool
take_all columns [] [] = true
take_all columns (place ∷ places) (literal ∷ literals) = takes columns place literal && take_all columns places literals
take_all columns [] (literal ∷ literals) = false
take_all columns (place ∷ places) [] = false

abbrev pub suits_id : Option TableDef → Option (List Literal) → Bool
suits_id def None = true
suits_id None (Some literals) = false
suits_id (Some def) (Some literals) = take_all def.columns def.primary_key literals

abbrev pub unheld_in_id : Option (List Literal) → Bool
unheld_in_id None = false
unheld_in_id (Some literals) = list_any (λ literal. is_none (value_of literal)) literals

-- 104, then 105 of a literal that no type holds
abbrev pub which_types : Option TableDef → Which → Option Rule
which_types root which =
    option_or
    (broken_if (not (is_sound_filter (root_scope root) which.filter && suits_id root which.id))
    (plain code.TypeMismatch))
    (broken_if (unheld_in_filter which.filter || unheld_in_id which.id) no_type)

-- nothing is asked of the instances
abbrev pub asks_all : Which → Bool
asks_all which = is_none which.filter && is_none which.id

-- some condition of the evaluator stands for the one that is written
abbrev pub StandsForFilter : Option TableDef → Which → Option Cond → Type 0
StandsForFilter root which filter = placed_filter (root_scope root) which.filter ≡ Ok (filter_seen filter)

-- the value is equal to the literal's: NULL is equal to none, and a number to those that stand for the same
abbrev pub same_value : Value → Option Value → Bool
same_value value None = false
same_value value (Some other) = is_true (Some (comparison_of value other))

-- the key is the one of WITH ID; NULL, and a number that the column can't hold, are no key's
abbrev pub is_id : List Value → Option (List Literal) → Bool
is_id key None = true
is_id key (Some []) = length key == 0
is_id [] (Some (literal ∷ literals)) = false
is_id (value ∷ key) (Some (literal ∷ literals)) = same_value value (value_of literal) && is_id key (Some literals)

-- a root row and its key match
abbrev pub matches_row : Option Cond → Option (List Literal) → List Value → List Value → Bool
matches_row filter id row key = is_true (selects filter row) && is_id key id

-- the instance of a root row matches
abbrev pub matches : Option Cond → Option (List Literal) → TableState → Group → List Value → Bool
matches filter id s g row = matches_row filter id row (root_key s g row)

-- 120 of the condition on one of these rows
abbrev pub overflows : Option Cond → Table → Bool
overflows filter rows = list_any (λ row. is_none (selects filter row)) (values rows)

abbrev pub overflow_fault : Option Cond → Table → Option Rule
overflow_fault filter rows = broken_if (overflows filter rows) (plain code.Overflow)
