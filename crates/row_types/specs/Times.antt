-- Times. (TimesTen SQL Reference, "TIMESTAMP"; whole seconds without a time zone are this project's rule.)

use Rattle.std.specs.Prelude.{ℤ, pos, negsuc, ◌≤ℤ◌}

-- of the years 0001 to 9999, in seconds since 1970-01-01 00:00:00
pub record IsTime (seconds : ℤ) : Type 0 where
  pub first : negsuc 62135596799 ≤ℤ seconds
  pub last : seconds ≤ℤ pos 253402300799
