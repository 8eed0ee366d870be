-- Writing all of some bytes. (This project's rule.)

use Rattle.std.specs.Prelude.{ℕ, List, Option, Result, Ok, Err, take}
use Rattle.std.specs.Io.KnownBytes.{Appends}

-- all of the bytes, or after a fault a front of them, behind what was written where that is told
abbrev pub Writes : {E : Type 0} → Result (Unit {0}) E → Option (List ℕ) → Option (List ℕ) → List ℕ → Type 0
Writes (Ok done) old new bytes = Appends old new bytes
Writes (Err e) old new bytes = (n : ℕ) × Appends old new (take n bytes)
