-- What has committed and isn't settled, over what has committed and what has come to the backing database. (TimesTen
-- Cache User's Guide: asynchronous and synchronous writethrough cache groups; the order is this project's rule.)

use Rattle.std.specs.Prelude.{◌≡◌, ◌≤◌, ◌^◌, List}
use Rattle.table_state.specs.declared.history.Sealed.{Sealed}
use Rattle.table_state.specs.Tables.{TableState}
use Rattle.order_laws.specs.Commits.{pending}
use Rattle.order_laws.specs.Sides.{AgreeOn}
use Rattle.order_laws.specs.Standing.{Progress, Stand, live_tables, progress_of}
use Rattle.table_state.specs.declared.history.Entry.{Entry}

-- The transactions stand over the history, and what is pending of them is what is pending of these unsettled ones, in
-- its order. Those that are settled already do no harm among the unsettled ones.
pub record Pipeline (p : Progress) (unsettled : List Sealed) : Type 0 where
  pub stand : Stand p
  pub rest : pending p.history p.log ≡ pending p.history unsettled
  pub last : p.next ≤ 2 ^ 63

-- so it is, and the virtual state is this one
pub record FlowsAs (p : Progress) (unsettled : List Sealed) (virtual : TableState) : Type 0 where
  pub flow : Pipeline p unsettled
  pub same : flow.stand.over.virtual ≡ virtual

-- so it is, and the virtual state has the rows of this one in the live tables
pub record FlowsWithLive (p : Progress) (unsettled : List Sealed) (virtual : TableState) : Type 0 where
  pub flow : Pipeline p unsettled
  pub same : AgreeOn (live_tables p.groups) virtual flow.stand.over.virtual

-- the same, over another history
abbrev pub with_history : Progress → List Entry → Progress
with_history p history = progress_of p.groups history p.log p.next
