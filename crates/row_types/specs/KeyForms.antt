-- The values of a key, in whichever form it is kept.

use Rattle.std.specs.Prelude.{List, [], ◌∷◌, vec_items}
use Rattle.row_types.specs.declared.value.Value.{Value}
use Rattle.row_types.specs.declared.key.KeyForm.{KeyForm}
use Rattle.row_types.specs.declared.key.KeyForm.TheVariants.{One, Many}

abbrev pub values_of : KeyForm → List Value
values_of (One value) = value ∷ []
values_of (Many values) = vec_items values
