-- Clocks of given answers. (This project's rule.)

use Rattle.std.specs.Prelude.{ℕ, ◌-◌, List, Option, Some, None, length, min, slice_get}
use Rattle.tier_base.specs.declared.number.Moment.{Moment}

abbrev pub moment_in : Option Moment → ℕ
moment_in None = 0
moment_in (Some moment) = moment.0

-- the n-th answer: that of the list, behind its end the last one, and 0 where there is none
abbrev pub answer_at : List Moment → ℕ → ℕ
answer_at moments n = moment_in (slice_get moments (min n (length moments - 1)))
