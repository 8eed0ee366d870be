-- Instances known by the place of their root row in key order. (TimesTen Cache User's Guide, "Implementing aging in a
-- cache group".)
use Rattle.std.specs.Prelude.{◌≡◌, List, Option}
use Rattle.std.specs.FinMap.{get}
use Rattle.slot_rows.specs.row_types.specs.declared.value.Value.{Value}
use Rattle.slot_rows.specs.indexed_rows.specs.Rows.{Table}
use Rattle.cache_store.specs.instances.specs.Views.{kept_at}
use Rattle.group_store.specs.Hiding.{hidden_with}
use Rattle.group_store.specs.Stores.{Kept, SameButSpare, cut_store}

-- the instance of a root was taken out, whose row this was
pub record TakesInstance (old new : Kept) (root : List Value) (row : Option (List Value)) : Type 0 where
  pub was : row ≡ get (kept_at old.tables 0) root
  pub gone : SameButSpare (cut_store 0 root old) new

-- the instance of a root was taken out, and its row is among the hidden ones
pub record HidesInstance (old new : Kept) (root : List Value) (before behind : Table) : Type 0 where
  pub gone : SameButSpare (cut_store 0 root old) new
  pub hidden : behind ≡ hidden_with (get (kept_at old.tables 0) root) root before
