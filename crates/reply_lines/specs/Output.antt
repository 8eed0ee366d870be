-- What becomes of bytes that pass through a buffer to a sink. (This project's rule.)

use Rattle.std.specs.Prelude.{◌≡◌, ℕ, List, ◌++◌, Option, Result, Ok, Err, take, drop}
use Rattle.std.specs.Io.KnownBytes.{Appends}

-- A front of the bytes is written behind what was, and the others wait in the buffer.
pub record Splits (sink sink' : Option (List ℕ)) (bytes waiting : List ℕ) : Type 0 where
  pub count : ℕ
  pub written : Appends sink sink' (take count bytes)
  pub waits : waiting ≡ drop count bytes

-- A front of the bytes is written, and no more.
pub record Breaks (sink sink' : Option (List ℕ)) (bytes : List ℕ) : Type 0 where
  pub count : ℕ
  pub written : Appends sink sink' (take count bytes)

-- Bytes go behind those that wait: a front of all is written, and after no fault the others wait.
abbrev pub Passes : {E : Type 0} → Result (Unit {0}) E → Option (List ℕ) → Option (List ℕ) → List ℕ → List ℕ
    → List ℕ → Type 0
Passes (Ok done) sink sink' waiting waiting' bytes = Splits sink sink' (waiting ++ bytes) waiting'
Passes (Err e) sink sink' waiting waiting' bytes = Breaks sink sink' (waiting ++ bytes)
