-- Transactions of others at the calls of the backing database. (This project's model of the backing database.)

use Rattle.std.specs.Prelude.{◌≡◌, List, [], ◌∷◌, ◌++◌, Bool, true, Some}
use Rattle.std.specs.List.{list_all}
use Rattle.std.specs.Option.{IsSome}
use Rattle.tier_base.specs.declared.number.TableId.{TableId}
use Rattle.table_state.specs.declared.history.Entry.{Entry}
use Rattle.table_state.specs.declared.history.Entry.TheVariants.{Definition, Foreign, Own}
use Rattle.table_state.specs.declared.operation.Op.{Op}
use Rattle.table_state.specs.Copies.{is_one_of}
use Rattle.table_state.specs.Histories.{state_of}
use Rattle.table_state.specs.Operations.{table_of}
use Rattle.table_state.specs.Tables.{TableState}

-- the table is one that others change, too
abbrev pub is_shared : List TableId → TableId → Bool
is_shared shared t = is_one_of shared t

-- each operation is on a shared table
abbrev pub are_on_shared : List TableId → List Op → Bool
are_on_shared shared ops = list_all (λ op. is_shared shared (table_of op)) ops

-- The entries are transactions of others: each applies behind those before it, and changes shared tables alone.
abbrev pub AreOthers : List TableId → List Entry → List Entry → Type 0
AreOthers shared front [] = Unit {0}
AreOthers shared front (Foreign ops ∷ entries) =
    (are_on_shared shared ops ≡ true)
    × ((s : TableState) → state_of front ≡ Some s → IsSome (state_of (front ++ Foreign ops ∷ [])))
    × AreOthers shared (front ++ Foreign ops ∷ []) entries
AreOthers shared front (Definition def ∷ entries) = ⊥
AreOthers shared front (Own ticket ops ∷ entries) = ⊥

-- A call's own step, with transactions of others before and behind it.
pub record Around (shared : List TableId) (step : List Entry → List Entry → Type 0) (old new : List Entry)
    : Type 0 where
  pub before : List Entry
  pub middle : List Entry
  pub behind : List Entry
  pub came_before : AreOthers shared old before
  pub own : step (old ++ before) middle
  pub came_behind : AreOthers shared middle behind
  pub is : new ≡ middle ++ behind
