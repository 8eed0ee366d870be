-- What the moments of a run are counted from. (This project's rule.)

use Rattle.std.specs.Prelude.{◌≡◌, ℕ, ◌+◌, List, [], ◌∷◌, Bool, ◌||◌, not, Option, Some}
use Rattle.std.specs.Bool.{MatchBool}
use Rattle.std.specs.Option.{IfSome}
use Rattle.sql_subset.specs.Lines.{is_silent}
use Rattle.command_line.specs.declared.settings.ClockSource.{ClockSource}
use Rattle.command_line.specs.declared.settings.ClockSource.TheVariants.{Script, System}
use Rattle.command_line.specs.declared.settings.Settings.{Settings}
use Rattle.cache_engine.specs.Requests.{Given, is_long}

-- the answers that a clock gives, by the number of answers before, where they are told
abbrev pub Coming : Type 0
Coming = ℕ → Option ℕ

-- what moments are counted from by the settings: the first moment of a script, again and again, or what the clock
-- answers
abbrev pub bases_of : ClockSource → ℕ → Coming → Coming
bases_of Script start clock n = Some start
bases_of System start clock n = clock n

abbrev pub bases_by : Settings → Coming → Coming
bases_by s clock = bases_of s.clock s.start_ms clock

-- this is the answer, where it is told
abbrev pub IsNext : Option ℕ → ℕ → Type 0
IsNext told moment = IfSome told (λ answer. moment ≡ answer)

-- of the answers that were to come so many are given, and these are still to come
abbrev pub AreLeft : Coming → ℕ → Coming → Type 0
AreLeft coming given left = (n : ℕ) → left n ≡ coming (given + n)

-- a line is counted from a base, unless it is empty or a comment
abbrev pub has_base : List ℕ → Bool
has_base bytes = is_long bytes || not (is_silent bytes)

-- The bases of lines are the answers from this one on, each line's own in their order, and so many answers are given
-- then.
abbrev pub AreTimed : Coming → ℕ → List Given → ℕ → Type 0
AreTimed coming given [] after = after ≡ given
AreTimed coming given (g ∷ lines) after =
    MatchBool (has_base g.bytes) (IsNext (coming given) g.base × AreTimed coming (given + 1) lines after)
    (AreTimed coming given lines after)

-- one line's base was taken from the answers that were to come, and these are still to come
abbrev pub TakesBase : List ℕ → Coming → Coming → ℕ → Type 0
TakesBase bytes coming left base =
    MatchBool (has_base bytes) (IsNext (coming 0) base × AreLeft coming 1 left) (left ≡ coming)
