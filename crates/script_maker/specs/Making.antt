-- A script on its way to a sink.

use Rattle.std.specs.Prelude.{◌≡◌, ℕ, ◌<◌, List, [], ◌++◌, Bool, true, false, Option, Result, Ok, Err, length, take}
use Rattle.std.specs.Io.KnownBytes.{Appends}
use Rattle.script_maker.specs.Script.{bytes_of_lines}

-- The next line went, with its line end, behind what waits: what waits and what is to come are the same bytes as
-- before.
pub record Moves (lines left : List (List ℕ)) (old new : List ℕ) (more : Bool) : Type 0 where
  pub same : old ++ bytes_of_lines lines ≡ new ++ bytes_of_lines left
  pub fewer : more ≡ true → length left < length lines
  pub over : more ≡ false → left ≡ []

-- A front of what waited is written, and the rest waits; nothing waits where no more comes.
pub record Splits (sink sink' : Option (List ℕ)) (old new : List ℕ) (more : Bool) : Type 0 where
  pub front : List ℕ
  pub written : Appends sink sink' front
  pub parts : old ≡ front ++ new
  pub over : more ≡ false → new ≡ []

-- so it is, or after a fault a front of what waited is written
abbrev pub Passes : {E : Type 0} → Result (Unit {0}) E → Option (List ℕ) → Option (List ℕ) → List ℕ → List ℕ → Bool
    → Type 0
Passes (Ok done) sink sink' old new more = Splits sink sink' old new more
Passes (Err e) sink sink' old new more = (n : ℕ) × Appends sink sink' (take n old)
