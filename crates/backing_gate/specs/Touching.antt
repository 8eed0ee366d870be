-- How the instances that changes touch and wants name are put together.

use Rattle.std.specs.Prelude.{◌≡◌, List}
use Rattle.std.specs.FinMap.{contains_key}
use Rattle.row_types.specs.declared.value.Value.{Value}
use Rattle.indexed_rows.specs.Rows.{Table}
use Rattle.table_state.specs.declared.footprint.RowKey.{RowKey}
use Rattle.table_state.specs.Tables.{TableState}
use Rattle.change_log.specs.declared.log.RowChange.{RowChange}
use Rattle.instances.specs.declared.tree.Tree.{Tree}
use Rattle.outside.specs.Changes.{is_touched, is_wanted}
use Rattle.outside.specs.Reaching.{instance_under}
use Rattle.outside.specs.declared.changes.Touched.{Touched}

-- the instance of a root key, and whether the key is among the wanted ones
abbrev pub touched_at : TableState → Tree → Table → List Value → Touched
touched_at s tree wanted root = record { instance = instance_under s tree root; wanted = contains_key wanted root }

-- these are the root keys of the instances that a want names
abbrev pub AreWanted : TableState → Tree → List RowKey → Table → Type 0
AreWanted s tree wants roots = (root : List Value) → contains_key roots root ≡ is_wanted s tree wants root

-- these are the root keys of the instances that are given
abbrev pub AreRoots : TableState → Tree → List RowChange → List RowKey → Table → Type 0
AreRoots s tree log wants roots = (root : List Value) → contains_key roots root ≡ is_touched s tree log wants root
