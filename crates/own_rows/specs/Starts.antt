-- From where on the next row is sought.

use Rattle.std.specs.Prelude.{◌≡◌, ℕ, List, true}
use Rattle.std.specs.FinMap.{contains_key}
use Rattle.table_state.specs.row_types.specs.declared.value.Value.{Value}
use Rattle.table_state.specs.indexed_rows.specs.Rows.{Table}
use Rattle.own_rows.specs.declared.own.OwnRows.{OwnRows}
use Rattle.own_rows.specs.Ranks.{rank}
use Rattle.own_rows.specs.Overlays.{left_over}

-- the key at a place of what is left, with its places among the table's keys and among those of own rows
pub record StartsAt (own : OwnRows) (base : Table) (from under live : ℕ) : Type 0 where
  pub key : List Value
  pub there : contains_key (left_over own base) key ≡ true
  pub from_is : from ≡ rank (left_over own base) key
  pub under_is : under ≡ rank base key
  pub live_is : live ≡ rank own.live key
