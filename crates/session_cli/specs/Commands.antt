-- What the commands `make` and `bench` write. (This project's rule.)

use Rattle.std.specs.Prelude.{◌≡◌, ℕ, List, Option, take}
use Rattle.std.specs.Io.KnownBytes.{Appends}
use Rattle.script_maker.specs.Script.{script_bytes}
use Rattle.session_cli.specs.declared.commands.End.{End}
use Rattle.session_cli.specs.declared.commands.End.TheVariants.{Written, SinkFailed, NoMemory}
use Rattle.session_cli.specs.declared.summary.Summary.{Summary}
use Rattle.session_cli.specs.Running.{IsSummaryOf}
use Rattle.session_cli.specs.Summaries.{summary_bytes}

-- the statuses
abbrev pub number_of : End → ℕ
number_of Written = 0
number_of SinkFailed = 4
number_of NoMemory = 7

-- a front of the bytes came to the sink
abbrev pub IsFront : List ℕ → Option (List ℕ) → Option (List ℕ) → Type 0
IsFront bytes sink sink' = (n : ℕ) × Appends sink sink' (take n bytes)

-- `make`: the script of the number came to the sink, or a front of it
abbrev pub Makes : End → ℕ → Option (List ℕ) → Option (List ℕ) → Type 0
Makes Written number sink sink' = Appends sink sink' (script_bytes number)
Makes SinkFailed number sink sink' = IsFront (script_bytes number) sink sink'
Makes NoMemory number sink sink' = IsFront (script_bytes number) sink sink'

-- the script was run, and its summary came to the sink, or a front of it
pub record Tells (number : ℕ) (came : List ℕ → Option (List ℕ) → Option (List ℕ) → Type 0)
    (sink sink' : Option (List ℕ))
    : Type 0 where
  pub summary : Summary
  pub is : IsSummaryOf number summary
  pub tells : came (summary_bytes summary) sink sink'

-- `bench`: so it is; where memory was wanting nothing came
abbrev pub Benches : End → ℕ → Option (List ℕ) → Option (List ℕ) → Type 0
Benches Written number sink sink' = Tells number (λ bytes a b. Appends a b bytes) sink sink'
Benches SinkFailed number sink sink' = Tells number IsFront sink sink'
Benches NoMemory number sink sink' = sink' ≡ sink
