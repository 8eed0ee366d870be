-- What the uses of a statement make of the stored tier. (TimesTen Cache User's Guide, "LRU aging".)

use Rattle.std.specs.Prelude.{◌≡◌, List, Some}
use Rattle.row_types.specs.declared.value.Value.{Value}
use Rattle.tier_base.specs.declared.number.SessionId.{SessionId}
use Rattle.table_state.specs.declared.operation.Op.{Op}
use Rattle.table_state.specs.Operations.{applied_all}
use Rattle.table_state.specs.Tables.{TableState}
use Rattle.open_sessions.specs.Lookups.{open_ops}
use Rattle.open_sessions.specs.Opening.{seen_all}
use Rattle.evaluator.specs.declared.plan.Plan.{Plan}
use Rattle.group_catalog.specs.Catalogs.{groups_in}
use Rattle.statement_uses.specs.Touching.{roomless_all, touched_stores}
use Rattle.statement_uses.specs.Uses.{HaveUses, roots_of_ops, roots_of_query}
use Rattle.stored_tier.specs.declared.tier.Tier.{Tier as Stored}
use Rattle.stored_tier.specs.Stored.{rows_of}

-- for each group the keys that are used, as lists of root keys
abbrev pub Uses : Type 0
Uses = List (List (List Value))

-- the keys become the newest of their stores
pub record Touches (old new : Stored) (uses : Uses) : Type 0 where
  pub rest : new ≡ record old { stores = new.stores }
  pub stores : roomless_all new.stores.items ≡ touched_stores uses (roomless_all old.stores.items)

-- what the session of this number sees, in whatever way
abbrev pub OverSeen : Stored → SessionId → (TableState → Type 0) → Type 0
OverSeen t id P = (seen : TableState) → applied_all (open_ops id (seen_all t.sessions)) (rows_of t) ≡ Some seen → P seen

-- the keys are those that a query uses over what the session sees
abbrev pub AreQueryUses : Stored → SessionId → Plan → Uses → Type 0
AreQueryUses t id plan uses = OverSeen t id (λ seen. HaveUses (groups_in t.catalog) (roots_of_query seen plan) uses)

-- the same of operations
abbrev pub AreWriteUses : Stored → SessionId → List Op → Uses → Type 0
AreWriteUses t id ops uses =
    OverSeen t id (λ seen. HaveUses (groups_in t.catalog) (λ g. roots_of_ops ops seen g.def.tree) uses)
