-- The root keys that leave where WITH ID gives one. (TimesTen SQL Reference, "UNLOAD CACHE GROUP"; that numbers name a
-- key by what they stand for is this project's rule.)

use Rattle.std.specs.Prelude.{◌≡◌, ℕ, List, Option, Some, true, slice_get}
use Rattle.tier_base.specs.declared.number.TableId.{TableId}
use Rattle.row_types.specs.declared.column.Column.{Column}
use Rattle.row_types.specs.declared.value.Value.{Value}
use Rattle.indexed_rows.specs.Rows.{Table, key_of, value_at}
use Rattle.table_defs.specs.declared.definition.TableDef.{TableDef}
use Rattle.table_state.specs.Keyed.{HasFit, IsUnderKeys}
use Rattle.evaluator.specs.KeyPaths.{IsOfTypes}
use Rattle.cache_tier.specs.Conditions.{same_value}
use Rattle.group_catalog.specs.Identified.{is_given}

-- rows stand under the primary key of this table, and fit its columns
abbrev pub FitsUnder : TableDef → Table → Type 0
FitsUnder def rows = IsUnderKeys def.primary_key rows × HasFit def.columns rows

-- so they do for the table of this id
abbrev pub FitsFor : List TableDef → TableId → Table → Type 0
FitsFor schema table rows = (def : TableDef) → slice_get schema table.0 ≡ Some def → FitsUnder def rows

-- a row whose values are of the columns' types has this very value at the place, where its value there is equal to the
-- one that is given
abbrev pub NamesValue : List Column → ℕ → Option Value → Value → Type 0
NamesValue columns place given value = (row : List Value) → IsOfTypes columns row
    → same_value (value_at row place) given ≡ true → value_at row place ≡ value

-- and this very key, where its key is the one that is given
abbrev pub NamesKey : List Column → List ℕ → Option (List Value) → List Value → Type 0
NamesKey columns places given key = (row : List Value) → IsOfTypes columns row
    → is_given (key_of places row) given ≡ true → key_of places row ≡ key
