-- The value that isn't copied.

use Rattle.row_types.specs.declared.value.Value.{Value}
use Rattle.row_types.specs.declared.value.Value.TheVariants as one
use Rattle.expressions.specs.declared.operand.Operand.{Operand}
use Rattle.expressions.specs.declared.operand.Operand.TheVariants.{Null, Number, Stored}

abbrev pub shown : Operand → Value
shown Null = one.Null
shown (Number n) = one.Number n
shown (Stored value) = value.now
