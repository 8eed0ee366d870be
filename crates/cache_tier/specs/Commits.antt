-- A writethrough group's transactions in commit order. (TimesTen Cache User's Guide: asynchronous and synchronous
-- writethrough cache groups; the order is this project's rule.)

use Rattle.std.specs.Prelude.{List, ◌∷◌, Option, map}
use Rattle.table_state.specs.declared.history.Entry.{Entry}
use Rattle.table_state.specs.declared.history.Sealed.{Sealed}
use Rattle.table_state.specs.Tables.{TableState}
use Rattle.instances.specs.declared.tree.Tree.{Tree}
use Rattle.tier_base.specs.declared.number.TableId.{TableId}
use Rattle.order_laws.specs.Commits.{LiveGroup, in_order}
use Rattle.cache_tier.specs.Groups.{Group}

-- the tables of a tree, its root first
abbrev pub tables_of : Tree → List TableId
tables_of tree = tree.root.table ∷ map (λ child. child.table) tree.children

-- a writethrough group as the laws of order see it
abbrev pub live_group : Group → LiveGroup
live_group g = record { tables = tables_of g.def.tree; first = g.first }

-- the state of a live group's tables in commit order: what the other entries leave, and then all of the group's
-- transactions in ticket order
abbrev pub in_commit_order : Group → List Entry → List Sealed → Option TableState
in_commit_order g history log = in_order (live_group g) history log
