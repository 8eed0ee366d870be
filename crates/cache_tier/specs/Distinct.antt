-- Key lists: whatever changes one keeps its keys apart.

use Rattle.std.specs.Prelude.{ℕ, List}
use Rattle.std.specs.FinMap.{keys}
use Rattle.indexed_rows.specs.Rows.{Table}
use Rattle.row_types.specs.declared.value.Value.{Value}
use Rattle.table_state.specs.declared.history.Entry.{Entry}
use Rattle.table_state.specs.declared.operation.Op.{Op}
use Rattle.table_state.specs.Tables.{TableState}
use Rattle.cache_tier.specs.Aging.{aged}
use Rattle.cache_tier.specs.Groups.{Group, used, with_keys, without_keys}
use Rattle.cache_tier.specs.Recency.{with_commit}
use Rattle.cache_tier.specs.Sets.{at_position}
use Rattle.cache_tier.specs.Standing.{AreDistinct}
use Rattle.cache_tier.specs.TierStates.{Tier}

abbrev pub LoadKeepsApart : Type 0
LoadKeepsApart = (rows : Table) (old : List (List Value)) → AreDistinct old → AreDistinct (with_keys (keys rows) old)

abbrev pub UseKeepsApart : Type 0
UseKeepsApart = (key : List Value) (old : List (List Value)) → AreDistinct old → AreDistinct (used key old)

abbrev pub UnloadKeepsApart : Type 0
UnloadKeepsApart = (gone old : List (List Value)) → AreDistinct old → AreDistinct (without_keys gone old)

abbrev pub RefreshKeepsApart : Type 0
RefreshKeepsApart = (n : ℕ) (s : TableState) (g : Group) → AreDistinct g.keys → AreDistinct (at_position n s g).keys

abbrev pub CommitKeepsApart : Type 0
CommitKeepsApart = (s : TableState) (ops : List Op) (g : Group) → AreDistinct g.keys
    → AreDistinct (with_commit s ops g).keys

abbrev pub AgingKeepsApart : Type 0
AgingKeepsApart = (history : List Entry) (t : Tier) (g : Group) → AreDistinct g.keys
    → AreDistinct (aged history t g).keys
