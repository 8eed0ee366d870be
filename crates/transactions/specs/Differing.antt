-- When an operation can find another row than it names.

use Rattle.std.specs.Prelude.{◌≡◌, ◌<◌, ℕ, List, Option, Some, None, Bool, true, false, slice_get}
use Rattle.evaluator.specs.table_defs.specs.declared.definition.ForeignKey.{ForeignKey}
use Rattle.evaluator.specs.table_defs.specs.declared.definition.TableDef.{TableDef}
use Rattle.evaluator.specs.table_state.specs.declared.refusal.ApplyError.{ApplyError}
use Rattle.evaluator.specs.table_state.specs.declared.refusal.ApplyError.TheVariants as error

-- each foreign key refers to a table before its own
abbrev pub RefersBack : List TableDef → Type 0
RefersBack schema = (t : ℕ) (def : TableDef) (foreign : ForeignKey) → slice_get schema t ≡ Some def
    → def.foreign_key ≡ Some foreign → foreign.parent.0 < t

-- the row at a key isn't the one that the operation names
abbrev pub is_difference : Option ApplyError → Bool
is_difference None = false
is_difference (Some (error.Rule rule)) = false
is_difference (Some (error.Differs t key row)) = true
is_difference (Some error.Memory) = false
