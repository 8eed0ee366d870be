-- What happens to a journal and a history, and what a crash may leave. (This project's rule.)

use Rattle.std.specs.Prelude.{◌≡◌, ◌⊎◌, ℕ, ◌≤◌, List, [], ◌∷◌, ◌++◌, true, false, Some, map}
use Rattle.order_laws.specs.tier_base.specs.declared.number.TableId.{TableId}
use Rattle.order_laws.specs.table_defs.specs.declared.definition.TableDef.{TableDef}
use Rattle.order_laws.specs.table_state.specs.declared.history.Entry.{Entry}
use Rattle.order_laws.specs.table_state.specs.declared.history.Entry.TheVariants.{Definition, Foreign}
use Rattle.order_laws.specs.table_state.specs.declared.history.Sealed.{Sealed}
use Rattle.order_laws.specs.table_state.specs.declared.operation.Op.{Op}
use Rattle.order_laws.specs.table_state.specs.Tables.{TableState}
use Rattle.order_laws.specs.table_state.specs.Histories.{entry_of, has_ticket, state_of}
use Rattle.order_laws.specs.table_state.specs.Operations.{applied_all}
use Rattle.order_laws.specs.Commits.{LiveGroup, MayCome, conflicting, pending, virtual_state}
use Rattle.order_laws.specs.Sides.{IsClosed, are_off, are_on}
use Rattle.order_laws.specs.Standing.{AreClosed, all_off, live_tables}
use Rattle.order_laws.specs.Commits.{NoneConflicts}
use Rattle.recovery_laws.specs.Notes.{Commit, Define, Drop, Flag, IsNamed, Note, Number, Prepare, are_apart, catalog_of, commits_in, found, groups_of, is_noted, log_in, next_of}
use Rattle.recovery_laws.specs.Matching.{IsMatched}

-- the journal with the history: what is flushed, the commits in the tail, the history, and all asynchronous commits
-- so far
pub record World : Type 0 where
  pub flushed : List Note
  pub late : List Sealed
  pub history : List Entry
  pub commits : List Sealed

-- all entries, flushed or not
abbrev pub given : World → List Note
given w = w.flushed ++ map Commit w.late

-- the state of the backing database, and what is committed over it
pub record Over (w : World) (backing virtual : TableState) : Type 0 where
  pub leaves : state_of w.history ≡ Some backing
  pub is : virtual_state w.history (log_in w.history (given w)) ≡ Some virtual

abbrev pub with_flushed : List Note → World → World
with_flushed notes w = record { flushed = notes; late = []; history = w.history; commits = w.commits }

abbrev pub with_entry : Entry → World → World
with_entry e w = record { flushed = w.flushed; late = w.late; history = w.history ++ e ∷ []; commits = w.commits }

abbrev pub with_commit : Sealed → World → World
with_commit s w =
    record { flushed = w.flushed; late = w.late ++ s ∷ []; history = w.history; commits = w.commits ++ s ∷ [] }

abbrev pub live_of : World → List LiveGroup
live_of w = groups_of (given w)

-- what is pending
abbrev pub waiting : World → List Sealed
waiting w = pending w.history (log_in w.history (given w))

-- the transaction is one of these
abbrev pub Among : Sealed → List Sealed → Type 0
Among s [] = ⊥
Among s (x ∷ log) = (x ≡ s) ⊎ Among s log

-- each of these is a commit of the entries, or stands in the history
abbrev pub AreHeld : List Note → List Entry → List Sealed → Type 0
AreHeld notes history [] = Unit {0}
AreHeld notes history (s ∷ log) = (Among s (commits_in notes) ⊎ (found s.ticket.0 history ≡ Some s))
    × AreHeld notes history log

-- One step of what is kept outside memory, or of the tail: a commit is noted; the tail is flushed; a prepare or a
-- number is flushed with the tail (so is a definition, a drop, a flag); a pending transaction comes, once the tail is
-- flushed; one that is prepared or numbered comes; others' transactions and tables come; the other slot is begun
-- anew.
pub data Event : World → World → Type 0 where
  commits : {w : World} (s : Sealed) (b v n : TableState) → Over w b v → next_of (given w) ≤ s.ticket.0
      → applied_all s.ops v ≡ Some n → are_on (live_tables (live_of w)) s.ops ≡ true → Event w (with_commit s w)
  flushes : {w : World} → Event w (with_flushed (given w) w)
  prepares : {w : World} (s : Sealed) → next_of (given w) ≤ s.ticket.0 → are_on (live_tables (live_of w)) s.ops ≡ true
      → Event w (with_flushed (given w ++ Prepare s ∷ []) w)
  numbers : {w : World} (t : ℕ) → next_of (given w) ≤ t → Event w (with_flushed (given w ++ Number t ∷ []) w)
  defines : {w : World} (name : List ℕ) (tables : List TableId) (b v : TableState) → Over w b v
      → are_apart (live_tables (live_of w)) tables ≡ true → IsClosed tables b.schema
      → all_off tables (waiting w) ≡ true
      → Event w (with_flushed (given w ++ Define name tables ∷ []) w)
  drops : {w : World} (name : List ℕ) (g : IsNamed (catalog_of (given w)).groups name)
      → all_off g.one.group.tables (waiting w) ≡ true → Event w (with_flushed (given w ++ Drop name ∷ []) w)
  flags : {w : World} (name : List ℕ) (flag : ℕ) → Event w (with_flushed (given w ++ Flag name flag ∷ []) w)
  comes : {w : World} (s : Sealed) (b v : TableState) → Over w b v → w.late ≡ []
      → MayCome (conflicting b.schema) w.history (log_in w.history (given w)) s → Event w (with_entry (entry_of s) w)
  applies : {w : World} (front : List Note) (s : Sealed) (b v n : TableState) → w.late ≡ []
      → w.flushed ≡ front ++ Prepare s ∷ [] → Over w b v → next_of front ≤ s.ticket.0
      → has_ticket s.ticket.0 w.history ≡ false
      → NoneConflicts b.schema (waiting w) s → applied_all s.ops v ≡ Some n → Event w (with_entry (entry_of s) w)
  passes : {w : World} (front : List Note) (s : Sealed) (b v n : TableState) → w.late ≡ []
      → w.flushed ≡ front ++ Number s.ticket.0 ∷ [] → Over w b v → next_of front ≤ s.ticket.0
      → has_ticket s.ticket.0 w.history ≡ false
      → NoneConflicts b.schema (waiting w) s → applied_all s.ops v ≡ Some n → Event w (with_entry (entry_of s) w)
  others : {w : World} (ops : List Op) (b v n : TableState) → Over w b v → applied_all ops b ≡ Some n
      → are_off (live_tables (live_of w)) ops ≡ true → Event w (with_entry (Foreign ops) w)
  tables : {w : World} (def : TableDef) (b v : TableState) → Over w b v → AreClosed (live_of w) (b.schema ++ def ∷ [])
      → Event w (with_entry (Definition def) w)
  rotates : {w : World} (notes : List Note) → w.late ≡ [] → next_of (given w) ≤ next_of notes
      → IsMatched notes w.history → AreHeld notes w.history w.commits → Event w (with_flushed notes w)

-- events one after the other
pub data Path : World → World → Type 0 where
  done : {w : World} → Path w w
  then : {w x y : World} → Event w x → Path x y → Path w y

-- none of them stands there
abbrev pub NoneHeld : List Note → List Entry → List Sealed → Type 0
NoneHeld notes history [] = Unit {0}
NoneHeld notes history (s ∷ log) = (is_noted s.ticket.0 notes ≡ false) × (has_ticket s.ticket.0 history ≡ false)
    × NoneHeld notes history log

-- What a crash leaves: the pair matches, and of the asynchronous commits it holds a front, which has those that were
-- durable.
pub record IsLeft (durable commits : List Sealed) (notes : List Note) (history : List Entry) : Type 0 where
  pub matched : IsMatched notes history
  pub front : List Sealed
  pub lost : List Sealed
  pub are : commits ≡ front ++ lost
  pub held : AreHeld notes history front
  pub none : NoneHeld notes history lost
  pub more : List Sealed
  pub durable_are : front ≡ durable ++ more

-- a moment on a path
pub record AtMoment (w w' : World) (notes : List Note) (history : List Entry) : Type 0 where
  pub mid : World
  pub before : Path w mid
  pub behind : Path mid w'
  pub notes_are : notes ≡ mid.flushed
  pub history_is : history ≡ mid.history

-- A list of requests, each a path of events, with the moments of their replies: what the slots and the history may be
-- at a moment is that of a world on the path.
abbrev pub CrashRun : (ℕ → List Note → List Entry → Type 0) → ℕ → World → List ℕ → World → Type 0
CrashRun possible moment w [] last = last ≡ w
CrashRun possible moment w (m ∷ moments) last =
    (next : World) × Path w next × (moment ≤ m)
    × ((k : ℕ) (notes : List Note) (history : List Entry) → moment ≤ k → k ≤ m → possible k notes history
    → AtMoment w next notes history)
    × CrashRun possible m next moments last

-- none of these transactions stands in the history
abbrev pub NoneThere : List Entry → List Sealed → Type 0
NoneThere h [] = Unit {0}
NoneThere h (s ∷ late) = (has_ticket s.ticket.0 h ≡ false) × NoneThere h late

-- What holds between two events: the entries match the history, no commit of the tail has come, and the others are
-- held.
pub record Stands (w : World) (early : List Sealed) : Type 0 where
  pub matched : IsMatched (given w) w.history
  pub ahead : NoneThere w.history w.late
  pub are : w.commits ≡ early ++ w.late
  pub held : AreHeld w.flushed w.history early

-- it goes on, and those that were held are held
pub record StandsOn (w : World) (early : List Sealed) : Type 0 where
  pub now : List Sealed
  pub stands : Stands w now
  pub more : List Sealed
  pub grows : now ≡ early ++ more

-- over a list of requests: at each moment of a request, what a crash leaves matches, and has all that was held at the
-- last reply
abbrev pub CrashClause : (ℕ → List Note → List Entry → Type 0) → ℕ → World → List Sealed → List ℕ → World → Type 0
CrashClause possible moment w early [] last = last ≡ w
CrashClause possible moment w early (m ∷ moments) last =
    (next : World) × (now : List Sealed) × Stands next now
    × ((k : ℕ) (notes : List Note) (history : List Entry) → moment ≤ k → k ≤ m → possible k notes history
    → (at : AtMoment w next notes history) × IsLeft early next.commits notes history)
    × CrashClause possible m next now moments last
