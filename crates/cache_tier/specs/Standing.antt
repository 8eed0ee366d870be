-- What holds of the tier and its history between two lines. (This project's model.)

use Rattle.std.specs.Prelude.{◌≡◌, ℕ, ◌≤◌, ◌<◌, List, [], ◌∷◌, ◌++◌, true, false, Some, length}
use Rattle.std.specs.List.{Contains}
use Rattle.std.specs.Option.{IsSome}
use Rattle.row_types.specs.declared.value.Value.{Value}
use Rattle.table_defs.specs.declared.definition.TableDef.{TableDef}
use Rattle.table_state.specs.declared.history.Sealed.{Sealed}
use Rattle.table_state.specs.declared.operation.Op.{Op}
use Rattle.table_state.specs.Histories.{has_ticket, state_of}
use Rattle.table_state.specs.Operations.{table_of}
use Rattle.table_state.specs.Tables.{TableState}
use Rattle.order_laws.specs.Commits.{IsLegal, RiseBetween, conflicting, pending, virtual_state}
use Rattle.cache_tier.specs.Commits.{in_commit_order}
use Rattle.cache_tier.specs.Groups.{Group, covers, is_key, is_writethrough}
use Rattle.cache_tier.specs.Sets.{OnePosition}
use Rattle.cache_tier.specs.Worlds.{IsUnshared, World}

-- no two keys are one
abbrev pub AreDistinct : List (List Value) → Type 0
AreDistinct [] = Unit {0}
AreDistinct (key ∷ keys) = (is_key keys key ≡ false) × AreDistinct keys

-- the committed transactions: their tickets rise below the next one; those that aren't in the history are unsettled;
-- a lower unsettled one doesn't conflict with one that isn't; and the history is legal
pub record IsCommitted (w : World) : Type 0 where
  pub rise : RiseBetween 1 w.tier.log w.tier.next
  pub below : (ticket : ℕ) → has_ticket ticket w.history ≡ true → ticket < w.tier.next
  pub unsettled : (s : Sealed) → Contains w.tier.unsettled s → Contains w.tier.log s
  pub are_pending : (s : Sealed) → Contains (pending w.history w.tier.log) s → Contains w.tier.unsettled s
  pub apart : (s lower : Sealed) → Contains w.tier.log s → Contains w.tier.unsettled lower
      → lower.ticket.0 < s.ticket.0 → conflicting w.tier.schema lower s ≡ true → Contains w.tier.unsettled s
  pub legal : IsLegal (conflicting w.tier.schema) w.history w.tier.log
  pub virtual : IsSome (virtual_state w.history w.tier.log)
  pub ordered : (g : Group) → Contains w.tier.groups g → is_writethrough g ≡ true
      → IsSome (in_commit_order g w.history w.tier.log)
  pub first : (g : Group) (s : Sealed) (op : Op) → Contains w.tier.groups g
      → Contains (pending w.history w.tier.log) s → Contains s.ops op → covers (table_of op) g ≡ true
      → g.first ≤ s.ticket.0

-- the groups: positions are lengths of the history, one in each set; no key is listed twice
pub record AreShown (w : World) : Type 0 where
  pub within : (g : Group) (n : ℕ) → Contains w.tier.groups g → g.position ≡ Some n → n ≤ length w.history
  pub one : OnePosition w.tier.groups
  pub distinct : (g : Group) → Contains w.tier.groups g → AreDistinct g.keys

-- the schema that the tier was told is a front of the bank's, and all of it unless a definition failed since
pub record KnowsSchema (w : World) : Type 0 where
  pub front : (s : TableState) → state_of w.history ≡ Some s → (more : List TableDef)
      × (s.schema ≡ w.tier.schema ++ more)
  pub whole : (s : TableState) → w.tier.stale ≡ false → state_of w.history ≡ Some s → s.schema ≡ w.tier.schema

-- what holds of the tier and its history
pub record IsStanding (w : World) : Type 0 where
  pub committed : IsCommitted w
  pub shown : AreShown w
  pub schema : KnowsSchema w
  pub unshared : IsUnshared w
