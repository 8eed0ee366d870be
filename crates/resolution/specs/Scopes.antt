-- The columns that a statement sees, and what their names are. (TimesTen SQL Reference, "SELECT": an alias hides the
-- table's name; the whole name of a table stands before the dot, which is this project's rule.)

use Rattle.std.specs.Prelude.{ℕ, ◌==◌, List, [], ◌∷◌, ◌++◌, Option, Some, None, Bool, ◌||◌, map, position, count_by, slice_get, unwrap_or, Result, Ok, Err, if◌then◌else◌}
use Rattle.std.specs.List.{flat_map}
use Rattle.std.specs.Option.{option_and_then}
use Rattle.evaluator.specs.tier_base.specs.declared.code.Code.TheVariants as code
use Rattle.evaluator.specs.tier_base.specs.declared.number.TableId.{TableId}
use Rattle.evaluator.specs.row_types.specs.declared.column.Column.{Column}
use Rattle.evaluator.specs.row_types.specs.declared.rule.Rule.{Rule}
use Rattle.sql_query.specs.declared.query.FromTable.{FromTable}
use Rattle.evaluator.specs.table_defs.specs.declared.definition.TableDef.{TableDef}
use Rattle.evaluator.specs.table_defs.specs.Names.{place_of_table, same_name}
use Rattle.evaluator.specs.Rules.{about}
use Rattle.evaluator.specs.expressions.specs.declared.typing.Family.{Family}
use Rattle.evaluator.specs.expressions.specs.Types.{family_of_type}
use Rattle.resolution.specs.declared.scope.Seen.{Seen}
use Rattle.resolution.specs.Results.{both}

-- a column that a statement sees, and what stands before the dot where its name has one
pub record SeenColumn : Type 0 where
  pub table : List ℕ
  pub column : Column

-- what is lent, as a value
abbrev pub shown_column : Seen → SeenColumn
shown_column seen = record { table = seen.table.now; column = seen.column.now }

-- the same of several
abbrev pub shown : List Seen → List SeenColumn
shown scope = map shown_column scope

-- the columns of one table
abbrev pub columns_seen : List ℕ → List Column → List SeenColumn
columns_seen table columns = map (λ column. record { table = table; column = column }) columns

-- what stands before the dot for a table in FROM
abbrev pub name_seen : FromTable → List ℕ
name_seen f = unwrap_or f.alias f.table

-- the definition of the table of this name
abbrev pub table_named : List TableDef → List ℕ → Option TableDef
table_named schema name = option_and_then (λ t. slice_get schema t.0) (place_of_table schema name)

-- the columns of a table in FROM; none where there is no such table
abbrev pub columns_from : FromTable → Option TableDef → List SeenColumn
columns_from f None = []
columns_from f (Some def) = columns_seen (name_seen f) def.columns

-- the columns of the tables in FROM, side by side
abbrev pub scope_of : List TableDef → List FromTable → List SeenColumn
scope_of schema tables = flat_map (λ f. columns_from f (table_named schema f.table)) tables

-- the name fits the column: it is the column's, with or without the table's and a dot before it
abbrev pub fits : List ℕ → SeenColumn → Bool
fits name seen = same_name name seen.column.name || same_name name (seen.table ++ 46 ∷ seen.column.name)

-- the place of the only column that fits; none where there is none, or two
abbrev pub place_in : List SeenColumn → List ℕ → Option ℕ
place_in scope name = if count_by (fits name) scope == 1 then position (fits name) scope else None

-- the place of the column, or 103
abbrev pub known : List ℕ → Option ℕ → Result ℕ Rule
known name None = Err (about code.UnknownColumn name)
known name (Some place) = Ok place

-- its place, or 103
abbrev pub placed_column : List SeenColumn → List ℕ → Result ℕ Rule
placed_column scope name = known name (place_in scope name)

-- the table, or 102
abbrev pub known_table : List ℕ → Option TableId → Result TableId Rule
known_table name None = Err (about code.UnknownTable name)
known_table name (Some table) = Ok table

-- the tables in FROM, or 102 of the first that there isn't
abbrev pub tables_of : List TableDef → List FromTable → Result (List TableId) Rule
tables_of schema [] = Ok []
tables_of schema (f ∷ fs) =
    both (λ t ts. t ∷ ts) (known_table f.table (place_of_table schema f.table)) (tables_of schema fs)

-- the families of the columns
abbrev pub families : List SeenColumn → List Family
families scope = map (λ seen. family_of_type seen.column.ty) scope
