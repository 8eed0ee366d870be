-- The bytes of a text, in whichever form it is kept.

use Rattle.std.specs.Prelude.{ℕ, ◌≤◌, List, take, vec_items}
use Rattle.row_types.specs.declared.text.TextForm.{TextForm}
use Rattle.row_types.specs.declared.text.TextForm.TheVariants.{Short, Long}

abbrev pub bytes_of : TextForm → List ℕ
bytes_of (Short n bytes) = take n bytes
bytes_of (Long bytes) = vec_items bytes

-- a short text lies within its array
abbrev pub IsForm : TextForm → Type 0
IsForm (Short n bytes) = n ≤ 22
IsForm (Long bytes) = 0 ≤ 22
