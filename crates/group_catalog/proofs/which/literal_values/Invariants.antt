-- The values so far, and those of the literals that are left, are the values of all.
use Rattle.std.proofs.Common.{◌≡◌, ◌++◌, drop, List}
use Rattle.std.specs.Option.{option_map}
use Rattle.row_types.specs.declared.value.Value.{Value}
use Rattle.group_catalog.specs.Identified.{values_of}
use Rattle.group_catalog.proofs.which.literal_values.Given as goal

abbrev pub invariant-loop-literal : goal.invariant-loop-literal
invariant-loop-literal l = option_map (λ (rest : List Value). l.values.items ++ rest) (values_of (drop l.literal-index l.literals)) ≡ values_of l.literals
