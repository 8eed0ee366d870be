-- A schema that grew. (This project's rule: definitions are added behind the others, and none leaves.)

use Rattle.std.specs.Prelude.{◌≡◌, ℕ, List, Some, slice_get}
use Rattle.table_state.specs.table_defs.specs.declared.definition.TableDef.{TableDef}

-- what one schema knows another one knows
abbrev pub Knows : List TableDef → List TableDef → Type 0
Knows some all = (i : ℕ) (def : TableDef) → slice_get some i ≡ Some def → slice_get all i ≡ Some def
