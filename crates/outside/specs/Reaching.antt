-- The instance that a row is in, at the backing database. (TimesTen Cache User's Guide, "Dynamically loading a cache
-- instance": a row of a child table leads over foreign keys to the root row whose instance is loaded.)

use Rattle.std.specs.Prelude.{◌≡◌, List, [], Option, Some, Result, Ok, Err, length}
use Rattle.std.specs.Option.{option_map}
use Rattle.row_types.specs.declared.value.Value.{Value}
use Rattle.tier_base.specs.declared.number.TableId.{TableId}
use Rattle.table_state.specs.declared.history.Entry.{Entry}
use Rattle.table_state.specs.Histories.{state_of}
use Rattle.table_state.specs.Tables.{TableState}
use Rattle.instances.specs.declared.tree.Tree.{Tree}
use Rattle.instances.specs.Roots.{root_of}
use Rattle.instances.specs.Views.{instance_of}
use Rattle.outside.specs.Bank.{Grows}
use Rattle.outside.specs.declared.fault.BankError.{BankError}
use Rattle.outside.specs.declared.site.Instance.{Instance}
use Rattle.outside.specs.declared.site.Reached.{Reached}

-- the instance of a root key
abbrev pub instance_under : TableState → Tree → List Value → Instance
instance_under s tree root = record { root = root; rows = instance_of s tree root }

-- that of the root key that the row of a table and a key is reached from, where there is one
abbrev pub instance_with : TableState → Tree → TableId → List Value → Option Instance
instance_with s tree t key = option_map (instance_under s tree) (root_of s tree t key)

-- the instance that the row is in as the history leaves it, and its length
abbrev pub Reaches : Tree → TableId → List Value → Result Reached BankError → List Entry → List Entry → Type 0
Reaches tree t key (Ok reached) old new =
    Grows [] old new × (reached.position.0 ≡ length new)
    × ((s : TableState) → state_of new ≡ Some s → reached.instance ≡ instance_with s tree t key)
Reaches tree t key (Err e) old new = Grows [] old new
