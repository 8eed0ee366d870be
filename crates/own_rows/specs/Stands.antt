-- Where the row at a place of the rows left stands, and on which side of the place a row of the table is.

use Rattle.std.specs.Prelude.{◌≡◌, ℕ, ◌<◌, List, Some, false, slice_get, ◌⊎◌}
use Rattle.std.specs.FinMap.{contains_key, entries}
use Rattle.std.specs.declared.cmp.Ordering.{Ordering}
use Rattle.std.specs.declared.cmp.Ordering.TheVariants.{Less, Equal, Greater}
use Rattle.table_state.specs.row_types.specs.declared.value.Value.{Value}
use Rattle.table_state.specs.indexed_rows.specs.Rows.{Table}
use Rattle.own_rows.specs.declared.own.OwnRows.{OwnRows}
use Rattle.own_rows.specs.declared.seeking.Stand.{Stand}
use Rattle.own_rows.specs.declared.seeking.Stand.TheVariants.{Under, Fresh}
use Rattle.own_rows.specs.Ranks.{rank}
use Rattle.own_rows.specs.Seeking.{StandsAt}
use Rattle.own_rows.specs.Overlays.{left_over}

-- the key of the row at the place stands at place i of these rows
pub record StandsIn (rows : Table) (own : OwnRows) (base : Table) (place i : ℕ) : Type 0 where
  pub key : List Value
  pub row : List Value
  pub at : slice_get (entries rows) i ≡ Some (key, row)
  pub stands : StandsAt own.live own.gone base place key

abbrev pub IsStand : OwnRows → Table → ℕ → Stand → Type 0
IsStand own base place (Under i) = StandsIn base own base place i
IsStand own base place (Fresh i) = StandsIn own.fresh own base place i

-- the row of this key stands before the place, behind it or there; before it also where it was taken out
abbrev pub IsSide : OwnRows → Table → ℕ → List Value → Ordering → Type 0
IsSide own base place k Less =
    (rank (left_over own base) k < place)
    ⊎ ((rank (left_over own base) k ≡ place) × (contains_key (left_over own base) k ≡ false))
IsSide own base place k Greater = place < rank (left_over own base) k
IsSide own base place k Equal = StandsAt own.live own.gone base place k
