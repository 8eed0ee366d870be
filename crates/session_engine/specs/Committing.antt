-- COMMIT over the stored tier. (TimesTen Cache User's Guide: asynchronous writethrough cache groups; tickets are this
-- project's.)

use Rattle.std.specs.Prelude.{◌≡◌, ℕ, zero, suc, ◌≤◌, List, [], ◌∷◌, Option, Some, None, Bool, true, false, ◌&&◌, not, Result, Ok, Err, is_some, length, map, slice_get}
use Rattle.std.specs.List.{list_all, list_any}
use Rattle.std.specs.Option.{option_and_then, option_or}
use Rattle.tier_base.specs.declared.limit.Limit.TheVariants as limit
use Rattle.tier_base.specs.declared.number.SessionId.{SessionId}
use Rattle.tier_base.specs.declared.number.TableId.{TableId}
use Rattle.row_types.specs.declared.rule.Refused.{Refused}
use Rattle.row_types.specs.declared.rule.Rule.{Rule}
use Rattle.table_state.specs.declared.history.Sealed.{Sealed}
use Rattle.table_state.specs.declared.operation.Op.{Op}
use Rattle.table_state.specs.Operations.{table_of}
use Rattle.instances.specs.Trees.{same_table}
use Rattle.open_sessions.specs.Lookups.{open_ops}
use Rattle.open_sessions.specs.Opening.{seen_all}
use Rattle.group_store.specs.Stores.{Kept, op_done}
use Rattle.group_store.specs.declared.directory.Home.{Home}
use Rattle.cache_tier.specs.declared.reply.Last.TheVariants.{Done}
use Rattle.cache_tier.specs.declared.reply.Reply.{Reply}
use Rattle.cache_tier.specs.CommitSteps.{committed_unsettled, sealed_own}
use Rattle.cache_tier.specs.Groups.{Group, is_synchronous, is_table_of, is_writethrough}
use Rattle.cache_tier.specs.PassedSteps.{ticket_fault}
use Rattle.cache_tier.specs.Rules.{at_limit}
use Rattle.cache_tier.specs.TierStates.{Session, Tier}
use Rattle.cache_tier.specs.Worlds.{Answer, World, only}
use Rattle.group_catalog.specs.Catalogs.{groups_in}
use Rattle.statement_uses.specs.Touching.{HaveEntered, HaveRowsIn, newest_stores, touched_stores}
use Rattle.session_engine.specs.Using.{Uses}
use Rattle.stored_tier.specs.declared.tier.Tier.{Tier as Stored}
use Rattle.stored_tier.specs.Answering.{Replies}
use Rattle.stored_tier.specs.Lists.{hides_keys}
use Rattle.stored_tier.specs.Performing.{StandsFor}
use Rattle.stored_tier.specs.Stored.{HasSession}

-- the session's writes under the next ticket
abbrev pub sealed_next : Stored → SessionId → Sealed
sealed_next t id = record { ticket = record { 0 = t.next }; ops = open_ops id (seen_all t.sessions) }

-- 119 of the pending transactions, then of the tickets
abbrev pub commit_fault : Session → Tier → Option Rule
commit_fault s a = option_or (at_limit limit.Pending (length a.unsettled)) (ticket_fault a)

-- the writes are committed in the cache, and wait for the backing database
abbrev pub commit_answer : Session → Tier → Answer
commit_answer s a = (committed_unsettled (sealed_own a s) s.label a, only (Done a.next))

-- the table is one of a writethrough group, and of no synchronous one
abbrev pub is_deferred : List Group → TableId → Bool
is_deferred groups t = is_table_of is_writethrough groups t && not (is_table_of is_synchronous groups t)

-- so is the table of each operation
abbrev pub are_deferred : List Group → List Op → Bool
are_deferred groups ops = list_all (λ op. is_deferred groups (table_of op)) ops

-- a store without the room that it has for more rows
abbrev pub bare : Kept → Kept
bare s = record s { spare = 0 }

abbrev pub bare_all : List Kept → List Kept
bare_all stores = map bare stores

-- the store of this number becomes another
abbrev pub at_number : ℕ → (Kept → Kept) → List Kept → List Kept
at_number n change [] = []
at_number zero change (s ∷ stores) = change s ∷ stores
at_number (suc n) change (s ∷ stores) = s ∷ at_number n change stores

-- the table's home
abbrev pub home_in : List (Option Home) → Op → Option Home
home_in directory op = option_and_then (λ home. home) (slice_get directory (table_of op).0)

abbrev pub at_home : Option Home → (Kept → Kept) → List Kept → List Kept
at_home None change stores = stores
at_home (Some home) change stores = at_number home.store change stores

-- operations are done where their tables are kept, one after another; on other tables they do nothing
abbrev pub ops_at : List (Option Home) → List Op → List Kept → List Kept
ops_at directory [] stores = stores
ops_at directory (op ∷ ops) stores = ops_at directory ops (at_home (home_in directory op) (op_done op) stores)

-- a store has the table of each operation
abbrev pub are_housed : List (Option Home) → List Op → Bool
are_housed directory ops = list_all (λ op. is_some (home_in directory op)) ops

-- each store has room for so many rows
abbrev pub HaveRoomFor : ℕ → List Kept → Type 0
HaveRoomFor n stores = (k : ℕ) (s : Kept) → slice_get stores k ≡ Some s → n ≤ s.spare

-- operations write no root table of a group that keeps hidden keys
abbrev pub SparesHidden : List Group → List Op → Type 0
SparesHidden groups ops =
    (place : ℕ) (g : Group) → slice_get groups place ≡ Some g → hides_keys g ≡ true
    → list_any (λ op. same_table g.def.tree.root.table (table_of op)) ops ≡ false

-- Stores have done operations, and then these root keys became the newest of each. Where each has a row then, they
-- stand at the end.
pub record CommitsOps (directory : List (Option Home)) (ops : List Op) (entered : Uses) (old new : List Kept) : Type 0
  where
    pub touched : new ≡ touched_stores entered (ops_at directory ops old)
    pub newest : HaveRowsIn entered (ops_at directory ops old) → new ≡ newest_stores entered (ops_at directory ops old)

-- The stores of a tier have done operations, but for room; the root keys that these enter are the newest then.
pub record StoresCommit (t : Stored) (ops : List Op) (stores : List Kept) : Type 0 where
  pub entered : Uses
  pub have : HaveEntered (groups_in t.catalog) (bare_all t.stores.items) ops entered
  pub does : CommitsOps t.directory ops entered (bare_all t.stores.items) (bare_all stores)

-- for each world for which the old tier stands a statement of the session of this number answers so
abbrev pub AnswersInWorlds : Stored → Stored → SessionId → (Session → Tier → Option Rule) → (Session → Tier → Answer)
    → Result Reply Refused → Type 0
AnswersInWorlds old new id fault answer result =
    (w : World) (s : Session) → StandsFor old w → HasSession old id s
    → Replies new w.tier (fault s w.tier) (answer s w.tier) result

-- The stores have done the session's writes; where the commit is refused they are as they were, but for room.
abbrev pub StoresOps : Stored → Stored → SessionId → Result Reply Refused → Type 0
StoresOps old new id (Ok reply) = StoresCommit old (open_ops id (seen_all old.sessions)) new.stores.items
StoresOps old new id (Err refused) = bare_all new.stores.items ≡ bare_all old.stores.items
