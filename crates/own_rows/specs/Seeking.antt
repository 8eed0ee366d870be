-- Where a place of the rows left is sought.

use Rattle.std.specs.Prelude.{◌≡◌, ℕ, ◌<◌, ◌≤◌, Some, true, slice_get}
use Rattle.std.specs.declared.cmp.Ordering.{Ordering}
use Rattle.std.specs.FinMap.{FinMap, contains_key, entries}
use Rattle.own_rows.specs.Ranks.{rank}
use Rattle.own_rows.specs.Over.{over}

-- the key that stands at the place has its place in the table between these
pub record Between
    {K X : Type 0} {R : K → K → Ordering} (live gone base : FinMap R X) (place low high : ℕ)
    : Type 0 where
  pub above : (k : K) (x : X) → slice_get (entries (over live gone base)) place ≡ Some (k, x) → low ≤ rank base k
  pub below : (k : K) (x : X) → slice_get (entries (over live gone base)) place ≡ Some (k, x) → rank base k ≤ high
  pub within :
      (k : K) (x : X) → slice_get (entries (over live gone base)) place ≡ Some (k, x) → contains_key base k ≡ true
      → rank base k < high

-- the key stands at the place
pub record StandsAt
    {K X : Type 0} {R : K → K → Ordering} (live gone base : FinMap R X) (place : ℕ) (k : K)
    : Type 0 where
  pub there : contains_key (over live gone base) k ≡ true
  pub at : rank (over live gone base) k ≡ place
