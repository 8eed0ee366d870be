-- What pending transactions write last at a key. (This project's rule: an INSERT's key is checked against what is
-- pending, too.)

use Rattle.std.specs.Prelude.{List, [], ◌∷◌, Option, if◌then◌else◌}
use Rattle.std.specs.List.{flat_map}
use Rattle.row_types.specs.declared.value.Value.{Value}
use Rattle.tier_base.specs.declared.number.TableId.{TableId}
use Rattle.table_defs.specs.declared.definition.TableDef.{TableDef}
use Rattle.table_state.specs.declared.operation.Op.{Op}
use Rattle.table_state.specs.Footprints.{is_among, written_by}
use Rattle.order_laws.specs.Commits.{pending}
use Rattle.order_laws.specs.Effects.{row_left_by}
use Rattle.cache_tier.specs.Worlds.{World}

-- the operations of the unsettled transactions that don't stand in the history, in ticket order
abbrev pub pending_ops : World → List Op
pending_ops w = flat_map (λ s. s.ops) (pending w.history w.tier.unsettled)

-- the row that the last of these operations at the key leaves there, or none; where there is no such operation, the one
-- that was found
abbrev pub last_written : List TableDef → TableId → List Value → List Op → Option (List Value) → Option (List Value)
last_written schema t key [] found = found
last_written schema t key (op ∷ ops) found =
    last_written schema t key ops
    (if is_among (written_by schema op) (record { table = t; key = key }) then row_left_by op else found)
