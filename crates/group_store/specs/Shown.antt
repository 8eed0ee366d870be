-- What the stores of all groups show, as one state of tables. (TimesTen Cache User's Guide, "Cache groups": each table
-- is in one group at most.)
use Rattle.std.specs.Prelude.{◌≡◌, ℕ, zero, suc, ◌≤◌, List, [], ◌∷◌, Option, Some, None, length, slice_get, unwrap_or}
use Rattle.std.specs.Option.{option_map, option_or}
use Rattle.std.specs.FinMap.{empty}
use Rattle.slot_rows.specs.tier_base.specs.declared.number.TableId.{TableId}
use Rattle.cache_store.specs.table_defs.specs.declared.definition.TableDef.{TableDef}
use Rattle.cache_store.specs.table_defs.specs.Declarations.{foreign_places}
use Rattle.slot_rows.specs.indexed_rows.specs.Rows.{Table}
use Rattle.cache_store.specs.table_state.specs.Tables.{TableState, table_at}
use Rattle.cache_store.specs.instances.specs.Views.{kept_at}
use Rattle.group_store.specs.Stores.{Kept, foreign_columns, place_in}
use Rattle.group_store.specs.declared.directory.Home.{Home}

-- the rows of a table that a store keeps, where it has the table
abbrev pub rows_there : Kept → TableId → Option Table
rows_there s t = option_map (kept_at s.tables) (place_in s t)

-- the rows of a table in the first store that has it; none where no store does
abbrev pub kept_rows : List Kept → TableId → Option Table
kept_rows [] t = None
kept_rows (s ∷ stores) t = option_or (rows_there s t) (kept_rows stores t)

abbrev pub stored_rows : List Kept → TableId → Table
stored_rows stores t = unwrap_or (kept_rows stores t) empty

-- by id, from a number on, the tables of a schema
abbrev pub tables_by : (TableId → Table) → ℕ → List TableDef → List Table
tables_by rows number [] = []
tables_by rows number (def ∷ defs) = rows (record { 0 = number }) ∷ tables_by rows (suc number) defs

-- all tables of a schema with the rows that the stores keep of each
abbrev pub shown_by : List TableDef → List Kept → TableState
shown_by schema stores = record { schema = schema; tables = tables_by (stored_rows stores) 0 schema }

-- where a table is kept: the first store that has it, counted from a number on, and its place there
abbrev pub home_from : ℕ → List Kept → TableId → Option Home
home_from number [] t = None
home_from number (s ∷ stores) t =
    option_or (option_map (λ place. record { store = number; place = place }) (place_in s t))
    (home_from (suc number) stores t)

abbrev pub home_of : List Kept → TableId → Option Home
home_of stores t = home_from 0 stores t

-- the homes of so many tables, from a number on
abbrev pub homes_from : List Kept → ℕ → ℕ → List (Option Home)
homes_from stores number zero = []
homes_from stores number (suc n) = home_of stores (record { 0 = number }) ∷ homes_from stores (suc number) n

abbrev pub homes_of : List Kept → ℕ → List (Option Home)
homes_of stores n = homes_from stores 0 n

-- the columns of a table's foreign key, where it has one
abbrev pub foreign_key_of : List TableDef → TableId → List ℕ
foreign_key_of schema t = unwrap_or (option_map (λ def. foreign_places def.foreign_key) (slice_get schema t.0)) []

-- the foreign keys of a store's tables are those of the schema
abbrev pub IsOver : List TableDef → Kept → Type 0
IsOver schema s =
    (t : TableId) (place : ℕ) → place_in s t ≡ Some place → foreign_columns s place ≡ foreign_key_of schema t

-- so are those of all stores, and the homes are those of all tables
pub record AreHoused (schema : List TableDef) (stores : List Kept) (directory : List (Option Home)) : Type 0 where
  pub homes : directory ≡ homes_of stores (length schema)
  pub over : (i : ℕ) (s : Kept) → slice_get stores i ≡ Some s → IsOver schema s

-- what is shown of a table is what this store keeps at this place of its tree, and so is its foreign key
pub record ShowsTable (schema : List TableDef) (stores : List Kept) (t : TableId) (s : Kept) (place : ℕ) : Type 0 where
  pub rows : table_at (shown_by schema stores) t ≡ kept_at s.tables place
  pub within : place ≤ length s.layers
  pub foreign : foreign_columns s place ≡ foreign_key_of schema t
  pub def : TableDef
  pub is : slice_get schema t.0 ≡ Some def
