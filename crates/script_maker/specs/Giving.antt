-- A script that is given line by line.

use Rattle.std.specs.Prelude.{◌≡◌, ℕ, ◌+◌, ◌^◌, ◌≤◌, List, [], ◌∷◌, ◌++◌, Bool, true, false, drop}
use Rattle.script_maker.specs.Script.{closing, drawn_lines, opening}

-- the lines that are to come, by how many of the opening and of the closing were given, how many are to be drawn, the
-- number of the first of these, and the generator's state
unfoldable pub lines_left : ℕ → ℕ → ℕ → ℕ → ℕ → List (List ℕ)
lines_left opened coming number state closed =
    drop opened opening ++ drawn_lines coming number state ++ drop closed closing

-- the counts are within their bounds
pub record IsWithin (opened coming number closed : ℕ) : Type 0 where
  pub opened_in : opened ≤ 6
  pub closed_in : closed ≤ 2
  pub number_in : coming + number ≤ 2 ^ 33

-- the next line is put behind what is there, unless none is left
abbrev pub Gives : List (List ℕ) → List (List ℕ) → List ℕ → List ℕ → Bool → Type 0
Gives [] left old new more = (more ≡ false) × (left ≡ []) × (new ≡ old)
Gives (line ∷ lines) left old new more = (more ≡ true) × (left ≡ lines) × (new ≡ old ++ line)
