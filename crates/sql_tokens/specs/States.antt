-- What the lexer keeps while it scans.
use Rattle.std.specs.Prelude.{ℕ, ◌+◌, ◌≤◌, ◌≡◌, List, ◌++◌, slice_range, slice_index}
use Rattle.sql_tokens.specs.declared.lexer.State.{State}
use Rattle.sql_tokens.specs.declared.token.Token.{Token}
use Rattle.sql_tokens.specs.declared.lexer.State.TheVariants as v
use Rattle.sql_tokens.specs.Lexing.{lexemes_of, Scan, Scanned, Blank, InWord, AtPoint, InFraction, InText, Quoted, InSign}

-- what is scanned, from the place where it began
abbrev pub scan_of : List ℕ → ℕ → State → Scan
scan_of line i v.Blank = Blank
scan_of line i (v.InWord s) = InWord s (slice_range line s i)
scan_of line i (v.AtPoint s p) = AtPoint s (slice_range line s p) p
scan_of line i (v.InFraction s f) = InFraction s (slice_range line s f) (slice_range line f i)
scan_of line i (v.InText s) = InText s (slice_range line s i)
scan_of line i (v.Quoted s) = Quoted s (slice_range line s i)
scan_of line i (v.InSign s) = InSign s (slice_index line s)

-- the tokens after the byte at i are those before and what the byte gave, and what is scanned now is what it left
abbrev pub Takes : List ℕ → ℕ → List Token → List Token → State → Scanned → Type 0
Takes line i old new state s = (lexemes_of line new ≡ lexemes_of line old ++ s.0) × (scan_of line (i + 1) state ≡ s.1)

-- what is scanned began at this byte or before, a sign and a point at the byte before
abbrev pub Began : List ℕ → ℕ → State → Type 0
Began line i v.Blank = Unit {0}
Began line i (v.InWord s) = s ≤ i
Began line i (v.AtPoint s p) = (s ≤ p) × (p + 1 ≡ i) × (slice_index line p ≡ 46)
Began line i (v.InFraction s f) = (s ≤ f) × (f ≤ i)
Began line i (v.InText s) = s ≤ i
Began line i (v.Quoted s) = s ≤ i
Began line i (v.InSign s) = s + 1 ≡ i
