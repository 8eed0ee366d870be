-- The commit journal as a list of entries, and what they fold to. (This project's rule; the bytes of an entry are the
-- journal format's.)

use Rattle.std.specs.Prelude.{ℕ, ◌+◌, nat_eq, nat_lt, max, List, [], ◌∷◌, ◌++◌, Bool, true, false, ◌||◌, Option, Some, None, length, fold, sum_by, if◌then◌else◌}
use Rattle.row_types.specs.declared.value.Value.{Value}
use Rattle.row_types.specs.declared.value.Value.TheVariants.{Null, Number, Text, Time}
use Rattle.tier_base.specs.declared.limit.Limit.TheVariants as limit
use Rattle.tier_base.specs.Limits.{greatest}
use Rattle.table_state.specs.declared.history.Sealed.{Sealed}
use Rattle.table_state.specs.declared.operation.Op.{Op}
use Rattle.table_state.specs.declared.operation.Op.TheVariants.{Insert, Update, Delete}
use Rattle.sql_subset.specs.declared.stmt.CreateGroup.{CreateGroup}
use Rattle.sql_subset.specs.declared.stmt.RefreshState.{RefreshState}

-- an entry of the journal: a commit of asynchronous writes, a synchronous one before it is applied, the number of a
-- passed-on write, the next ticket where a slot begins, a definition (with its text), a drop, a STATE, a loaded flag
pub data JournalEntry : Type 0 where
  Commits : Sealed → JournalEntry
  Prepares : Sealed → JournalEntry
  Numbers : ℕ → JournalEntry
  Marks : ℕ → JournalEntry
  Defines : CreateGroup → List ℕ → JournalEntry
  Drops : List ℕ → JournalEntry
  SetsState : List ℕ → RefreshState → JournalEntry
  SetsLoaded : List ℕ → Bool → JournalEntry

-- what the slots gave before a flush or a rotation, and how long the backing history was then
pub record Stretch : Type 0 where
  pub entries : List JournalEntry
  pub until : ℕ

-- A way of the journal since a moment of the site: how long the history was at that moment, and what the slots have
-- given since, but for what they give now.
pub record Way : Type 0 where
  pub since : ℕ
  pub from : ℕ
  pub past : List Stretch

-- The journal: whether the tier keeps one (where it doesn't, nothing is done to it), the entries that are flushed,
-- those in memory behind them, the length of the live slot, its generation, and its way, where one is asked for. What a
-- line does and answers doesn't hang on the way.
pub record Journal : Type 0 where
  pub kept : Bool
  pub flushed : List JournalEntry
  pub tail : List JournalEntry
  pub written : ℕ
  pub generation : ℕ
  pub way : Option Way

-- the way with what the slots give now behind it, up to where the history is so long
abbrev pub passed_by : List JournalEntry → ℕ → Option Way → Option Way
passed_by flushed until None = None
passed_by flushed until (Some way) =
    Some (record {
      since = way.since;
      from = way.from;
      past = way.past ++ record { entries = flushed; until = until } ∷ [];
    })

-- the journal, which the other has become while the history was so long
abbrev pub on_the_way : ℕ → Journal → Journal → Journal
on_the_way until old new = record new { way = passed_by old.flushed until old.way }

-- the bytes that a value takes, and a row, an operation, an entry
abbrev pub value_size : Value → ℕ
value_size Null = 1
value_size (Number n) = if nat_eq n.scale 0 then 9 else 10
value_size (Text bytes) = 3 + length bytes
value_size (Time seconds) = 9

abbrev pub row_size : List Value → ℕ
row_size row = 1 + sum_by value_size row

-- of an operation on a table whose name has so many bytes
abbrev pub op_size : ℕ → Op → ℕ
op_size name (Insert t row) = 2 + name + row_size row
op_size name (Update t old new) = 2 + name + row_size old + row_size new
op_size name (Delete t old) = 2 + name + row_size old

abbrev pub sealed_size : (Op → ℕ) → Sealed → ℕ
sealed_size name s = 11 + sum_by (λ op. op_size (name op) op) s.ops

abbrev pub entry_size : (Op → ℕ) → JournalEntry → ℕ
entry_size name (Commits s) = sealed_size name s
entry_size name (Prepares s) = sealed_size name s
entry_size name (Numbers t) = 9
entry_size name (Marks t) = 9
entry_size name (Defines d text) = 5 + length text
entry_size name (Drops g) = 2 + length g
entry_size name (SetsState g state) = 3 + length g
entry_size name (SetsLoaded g flag) = 3 + length g

abbrev pub body_size : (Op → ℕ) → List JournalEntry → ℕ
body_size name entries = sum_by (entry_size name) entries

-- the length of the slot once the tail and these entries are flushed as one batch: its length, its body, a gate
abbrev pub slot_with : (Op → ℕ) → Journal → List JournalEntry → ℕ
slot_with name j entries = j.written + 5 + body_size name (j.tail ++ entries)

-- 119: the batch's body, or the slot, would pass its limit
abbrev pub is_full : (Op → ℕ) → Journal → List JournalEntry → Bool
is_full name j entries =
    nat_lt (greatest limit.JournalBatch) (body_size name (j.tail ++ entries))
    || nat_lt (greatest limit.JournalSlot) (slot_with name j entries)

-- the entry waits in memory
abbrev pub with_noted : JournalEntry → Journal → Journal
with_noted e j = record j { tail = j.tail ++ e ∷ [] }

-- the tail and these entries are flushed as one batch; nothing is written of nothing
abbrev pub flushed_batch : (Op → ℕ) → List JournalEntry → Journal → Journal
flushed_batch name [] j = j
flushed_batch name (e ∷ batch) j =
    record {
      kept = j.kept;
      flushed = j.flushed ++ e ∷ batch;
      tail = [];
      written = j.written + 5 + body_size name (e ∷ batch);
      generation = j.generation;
      way = j.way;
    }

abbrev pub flushed_with : (Op → ℕ) → List JournalEntry → Journal → Journal
flushed_with name entries j = flushed_batch name (j.tail ++ entries) j

-- the other slot is begun anew with these entries
abbrev pub rotated : (Op → ℕ) → List JournalEntry → Journal → Journal
rotated name entries j =
    record {
      kept = j.kept;
      flushed = entries;
      tail = [];
      written = 16 + body_size name entries;
      generation = j.generation + 1;
      way = j.way;
    }

-- a new journal: a slot of eleven bytes
abbrev pub new_journal : Journal
new_journal = record { kept = true; flushed = []; tail = []; written = 11; generation = 1; way = None }

-- that of a tier without a journal
abbrev pub no_journal : Journal
no_journal = record { kept = false; flushed = []; tail = []; written = 0; generation = 0; way = None }

-- the ticket of an entry, where it has one; a mark isn't one
abbrev pub ticket_in : JournalEntry → Option ℕ
ticket_in (Commits s) = Some s.ticket.0
ticket_in (Prepares s) = Some s.ticket.0
ticket_in (Numbers t) = Some t
ticket_in (Marks t) = None
ticket_in (Defines d text) = None
ticket_in (Drops g) = None
ticket_in (SetsState g state) = None
ticket_in (SetsLoaded g flag) = None

-- the next ticket behind an entry: one above its own, and at least its mark
abbrev pub next_with : ℕ → JournalEntry → ℕ
next_with next (Commits s) = max next (s.ticket.0 + 1)
next_with next (Prepares s) = max next (s.ticket.0 + 1)
next_with next (Numbers t) = max next (t + 1)
next_with next (Marks t) = max next t
next_with next (Defines d text) = next
next_with next (Drops g) = next
next_with next (SetsState g state) = next
next_with next (SetsLoaded g flag) = next

abbrev pub next_behind : List JournalEntry → ℕ
next_behind entries = fold next_with 1 entries
