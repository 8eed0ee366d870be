-- The rows of operations.
use Rattle.std.specs.Prelude.{List}
use Rattle.table_defs.specs.row_types.specs.declared.value.Value.{Value}
use Rattle.table_state.specs.declared.operation.Op.{Op}
use Rattle.table_state.specs.declared.operation.Op.TheVariants.{Insert, Update, Delete}

-- the row that an operation leaves in the table, or takes out of it
abbrev pub row_of : Op → List Value
row_of (Insert t row) = row
row_of (Update t old new) = new
row_of (Delete t old) = old
