-- Whether an entry of a commit journal fits over what the entries before it leave: over the groups, and one above the
-- greatest ticket so far. (This project's rule; TimesTen SQL Reference, "CREATE CACHE GROUP", and TimesTen Cache User's
-- Guide, "Asynchronous writethrough", "Synchronous writethrough", "Automatically refreshing a cache group".)

use Rattle.std.specs.Prelude.{ℕ, ◌^◌, ◌==◌, nat_le, List, Bool, false, ◌&&◌, not, Option, Some, None, is_none, is_some, find, length, slice_get}
use Rattle.std.specs.List.{list_all}
use Rattle.tier_base.specs.Limits.{greatest}
use Rattle.tier_base.specs.declared.limit.Limit.TheVariants as limit
use Rattle.row_types.specs.declared.value.Value.{Value}
use Rattle.indexed_rows.specs.Rows.{is_same, key_of}
use Rattle.table_defs.specs.declared.definition.TableDef.{TableDef}
use Rattle.table_state.specs.declared.history.Sealed.{Sealed}
use Rattle.table_state.specs.declared.operation.Op.{Op}
use Rattle.table_state.specs.declared.operation.Op.TheVariants.{Insert, Update, Delete}
use Rattle.table_state.specs.Operations.{table_of}
use Rattle.table_state.specs.Tables.{fits_columns}
use Rattle.sql_subset.specs.declared.stmt.CreateGroup.{CreateGroup}
use Rattle.cache_tier.specs.Groups.{Group, definitions_of, is_asynchronous, is_called, is_read_only, is_synchronous, is_table_of}
use Rattle.cache_tier.specs.Journals.{Commits, Defines, Drops, JournalEntry, Marks, Numbers, Prepares, SetsLoaded, SetsState}
use Rattle.cache_tier.specs.TierStates.{Tier}
use Rattle.cache_tier.specs.Undone.{is_user_managed}
use Rattle.group_catalog.specs.ReadBack.{read_back_fault}

-- ---- tickets

-- the ticket is above those before it, and not past the last one
abbrev pub is_next_ticket : ℕ → ℕ → Bool
is_next_ticket above ticket = nat_le above ticket && nat_le ticket (greatest limit.Tickets)

-- a mark is one above the last ticket at most
abbrev pub is_mark : ℕ → Bool
is_mark next = nat_le next (2 ^ 63)

-- ---- transactions

-- an update of a row leaves its primary key as it is
abbrev pub keeps_key : TableDef → List Value → List Value → Bool
keeps_key def old new = is_same (key_of def.primary_key old) (key_of def.primary_key new)

-- the rows of an operation on this table fit its columns, and the key stays
abbrev pub has_fitting_rows : TableDef → Op → Bool
has_fitting_rows def (Insert t row) = fits_columns def.columns row
has_fitting_rows def (Update t old new) =
    fits_columns def.columns old && fits_columns def.columns new && keeps_key def old new
has_fitting_rows def (Delete t row) = fits_columns def.columns row

-- there is the table, and its rows fit
abbrev pub fits_table : Option TableDef → Op → Bool
fits_table None op = false
fits_table (Some def) op = has_fitting_rows def op

-- a group with this property has the table, and the rows fit it
abbrev pub op_fits : List TableDef → List Group → (Group → Bool) → Op → Bool
op_fits schema groups test op =
    is_table_of test groups (table_of op) && fits_table (slice_get schema (table_of op).0) op

-- there are operations, each of them fits, and the ticket is the next one
abbrev pub sealed_fits : List TableDef → List Group → (Group → Bool) → ℕ → Sealed → Bool
sealed_fits schema groups test above s =
    not (length s.ops == 0) && list_all (op_fits schema groups test) s.ops && is_next_ticket above s.ticket.0

-- ---- definitions

-- it breaks no rule, and is of what is done yet: not a group that its users manage
abbrev pub definition_fits : List TableDef → List Group → CreateGroup → Bool
definition_fits schema groups d =
    is_none (read_back_fault schema (definitions_of groups) d) && not (is_user_managed d.kind)

-- ---- the groups that drops and flags name

abbrev pub group_called : List Group → List ℕ → Option Group
group_called groups name = find (is_called name) groups

abbrev pub is_one_read_only : Option Group → Bool
is_one_read_only None = false
is_one_read_only (Some g) = is_read_only g

-- ---- entries

-- A commit is of ASYNCHRONOUS WRITETHROUGH groups, a prepared transaction of SYNCHRONOUS ones. A STATE is of a READONLY
-- group.
abbrev pub fits : List TableDef → List Group → ℕ → JournalEntry → Bool
fits schema groups above (Commits s) = sealed_fits schema groups is_asynchronous above s
fits schema groups above (Prepares s) = sealed_fits schema groups is_synchronous above s
fits schema groups above (Numbers ticket) = is_next_ticket above ticket
fits schema groups above (Marks next) = is_mark next
fits schema groups above (Defines d text) = definition_fits schema groups d
fits schema groups above (Drops name) = is_some (group_called groups name)
fits schema groups above (SetsState name state) = is_one_read_only (group_called groups name)
fits schema groups above (SetsLoaded name flag) = is_some (group_called groups name)

-- over a tier that entries leave
abbrev pub fits_over : Tier → JournalEntry → Bool
fits_over t e = fits t.schema t.groups t.next e
