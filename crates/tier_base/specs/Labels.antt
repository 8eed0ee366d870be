-- Labels of sessions (this project's rule).

use Rattle.std.specs.Prelude.{ℕ, List, [], ◌∷◌, Bool, false, ◌&&◌, ◌||◌, nat_eq, nat_le, length}
use Rattle.std.specs.List.{list_all}
use Rattle.std.specs.Char.{is_ascii_lowercase, is_ascii_digit}

abbrev pub begins_with_lower : List ℕ → Bool
begins_with_lower [] = false
begins_with_lower (b ∷ bytes) = is_ascii_lowercase b

-- a lower-case letter, a digit or _
abbrev pub is_label_byte : ℕ → Bool
is_label_byte b = is_ascii_lowercase b || is_ascii_digit b || nat_eq b 95

-- a lower-case letter, and up to 15 bytes more
abbrev pub is_label : List ℕ → Bool
is_label bytes = begins_with_lower bytes && list_all is_label_byte bytes && nat_le (length bytes) 16
