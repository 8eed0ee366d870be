-- The head of a line, and the bytes that no line may have.
use Rattle.std.specs.Prelude.{ℕ, ◌+◌, Bool, ◌&&◌, ◌||◌, not, nat_eq, nat_lt, List, drop, length, min, slice_range, Option, Some, None}
use Rattle.std.specs.List.{position}
use Rattle.std.specs.Str.Lossy.{utf8_valid_len}
use Rattle.tier_base.specs.Names.{is_word_byte}
use Rattle.sql_tokens.specs.Lexing.{is_blank}

-- this place, or the end of the bytes
abbrev pub or_end : Option ℕ → List ℕ → ℕ
or_end None bytes = length bytes
or_end (Some place) bytes = place

-- the place of the first byte that passes, or the end
abbrev pub place_or_end : (ℕ → Bool) → List ℕ → ℕ
place_or_end passes bytes = or_end (position passes bytes) bytes

-- where the head begins: behind the blanks in front
abbrev pub head_start : List ℕ → ℕ
head_start line = place_or_end (λ b. not (is_blank b)) line

-- where the head ends: it is a run of letters, digits, `_`, `$` and `#`
abbrev pub head_end : List ℕ → ℕ
head_end line = head_start line + place_or_end (λ b. not (is_word_byte b)) (drop (head_start line) line)

-- the head of the line
abbrev pub head_of : List ℕ → List ℕ
head_of line = slice_range line (head_start line) (head_end line)

-- a byte below a space other than a tab, or DEL
abbrev pub is_control : ℕ → Bool
is_control b = (nat_lt b 32 && not (nat_eq b 9)) || nat_eq b 127

-- The length of the front without a bad byte: a control byte, or one with which no UTF-8 goes on (this project's rule).
abbrev pub good_length : List ℕ → ℕ
good_length line = min (place_or_end is_control line) (utf8_valid_len line)
