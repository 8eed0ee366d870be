-- How the input is cut into request lines. (This project's rule.)

use Rattle.std.specs.Prelude.{ℕ, ◌+◌, ◌==◌, List, [], ◌∷◌, ◌++◌, if◌then◌else◌, map, take}
use Rattle.tier_base.specs.declared.limit.Limit.TheVariants as limit
use Rattle.tier_base.specs.Limits.{greatest}
use Rattle.cache_engine.specs.Requests.{is_long}

-- a byte in front of the first line, or of the rest
abbrev pub in_front : ℕ → List (List ℕ) × List ℕ → List (List ℕ) × List ℕ
in_front b ([], rest) = ([], b ∷ rest)
in_front b (line ∷ lines, rest) = ((b ∷ line) ∷ lines, rest)

-- the lines that a line feed ends, and the rest behind the last of them
abbrev pub cut : List ℕ → List (List ℕ) × List ℕ
cut [] = ([], [])
cut (b ∷ bytes) = if b == 10 then ([] ∷ (cut bytes).0, (cut bytes).1) else in_front b (cut bytes)

-- without a carriage return at the end
abbrev pub without_return : List ℕ → List ℕ
without_return [] = []
without_return (b ∷ []) = if b == 13 then [] else b ∷ []
without_return (b ∷ c ∷ bytes) = b ∷ without_return (c ∷ bytes)

-- as much of a line as shows whether it is longer than a line may be: one byte past the limit
unfoldable pub front_of : List ℕ → List ℕ
front_of line = take (greatest limit.Line + 1) line

-- What the tier is given of a line that a line feed ends: the line without a carriage return at its end. Of one that is
-- too long, its carriage return counted, it is given the front that shows so.
abbrev pub text_of : List ℕ → List ℕ
text_of line = if is_long line then front_of line else without_return line

-- what the tier is given of the lines that a line feed ends
abbrev pub ended_lines : List ℕ → List (List ℕ)
ended_lines bytes = map text_of (cut bytes).0

-- The end of the input ends a line too, unless nothing stands behind the last line feed. Only before a line feed is a
-- carriage return dropped.
abbrev pub last_line : List ℕ → List (List ℕ)
last_line [] = []
last_line (b ∷ rest) = front_of (b ∷ rest) ∷ []

-- what the tier is given of all lines of an input
abbrev pub all_lines : List ℕ → List (List ℕ)
all_lines bytes = ended_lines bytes ++ last_line (cut bytes).1
