-- The commit journal's entries as data, and what they fold to. (This project's rule; the bytes of an entry are the
-- journal format's.)

use Rattle.std.specs.Prelude.{◌≡◌, ℕ, ◌+◌, ◌≤◌, max, List, [], ◌∷◌, ◌++◌, Bool, true, false, not, ◌||◌, nat_eq, Option, Some, None, if◌then◌else◌}
use Rattle.std.specs.List.{list_all}
use Rattle.order_laws.specs.tier_base.specs.declared.number.TableId.{TableId}
use Rattle.order_laws.specs.table_defs.specs.Names.{same_name}
use Rattle.order_laws.specs.table_state.specs.declared.history.Entry.{Entry}
use Rattle.order_laws.specs.table_state.specs.declared.history.Entry.TheVariants.{Definition, Foreign, Own}
use Rattle.order_laws.specs.table_state.specs.declared.history.Sealed.{Sealed}
use Rattle.order_laws.specs.table_state.specs.Copies.{is_one_of}
use Rattle.order_laws.specs.table_state.specs.Histories.{has_ticket}
use Rattle.order_laws.specs.Commits.{LiveGroup, pending}
use Rattle.order_laws.specs.Sides.{are_on}
use Rattle.order_laws.specs.Standing.{all_off, live_tables}

-- an entry of the journal: a commit of asynchronous writes, a synchronous one before it is applied, the number of a
-- passed-on write, the next ticket where a slot begins, a definition with the tables of a writethrough group (a
-- READONLY group has none here), a drop, a STATE or a loaded flag (as a number).
pub data Note : Type 0 where
  Commit : Sealed → Note
  Prepare : Sealed → Note
  Number : ℕ → Note
  Mark : ℕ → Note
  Define : List ℕ → List TableId → Note
  Drop : List ℕ → Note
  Flag : List ℕ → ℕ → Note

-- a group that the entries leave
pub record Named : Type 0 where
  pub name : List ℕ
  pub group : LiveGroup
  pub flag : ℕ

-- the catalog that entries leave, and one above the greatest ticket of them; a mark isn't one
pub record Catalog : Type 0 where
  pub groups : List Named
  pub next : ℕ

abbrev pub empty_catalog : Catalog
empty_catalog = record { groups = []; next = 1 }

abbrev pub without : List ℕ → List Named → List Named
without name [] = []
without name (g ∷ groups) = if same_name g.name name then groups else g ∷ without name groups

abbrev pub with_flag : List ℕ → ℕ → List Named → List Named
with_flag name flag [] = []
with_flag name flag (g ∷ groups) =
    (if same_name g.name name then record g { flag = flag } else g) ∷ with_flag name flag groups

abbrev pub named_new : List ℕ → List TableId → ℕ → Named
named_new name tables next = record { name = name; group = record { tables = tables; first = next }; flag = 0 }

abbrev pub recall : Note → Catalog → Catalog
recall (Commit s) c = record { groups = c.groups; next = s.ticket.0 + 1 }
recall (Prepare s) c = record { groups = c.groups; next = s.ticket.0 + 1 }
recall (Number t) c = record { groups = c.groups; next = t + 1 }
recall (Mark n) c = c
recall (Define name tables) c = record { groups = named_new name tables c.next ∷ c.groups; next = c.next }
recall (Drop name) c = record { groups = without name c.groups; next = c.next }
recall (Flag name flag) c = record { groups = with_flag name flag c.groups; next = c.next }

abbrev pub recall_all : List Note → Catalog → Catalog
recall_all [] c = c
recall_all (n ∷ notes) c = recall_all notes (recall n c)

abbrev pub catalog_of : List Note → Catalog
catalog_of notes = recall_all notes empty_catalog

abbrev pub live_groups : List Named → List LiveGroup
live_groups [] = []
live_groups (g ∷ groups) = g.group ∷ live_groups groups

abbrev pub groups_of : List Note → List LiveGroup
groups_of notes = live_groups (catalog_of notes).groups

-- the transaction of a ticket in the history
abbrev pub found : ℕ → List Entry → Option Sealed
found ticket [] = None
found ticket (Definition def ∷ entries) = found ticket entries
found ticket (Foreign ops ∷ entries) = found ticket entries
found ticket (Own own ops ∷ entries) =
    if nat_eq own.0 ticket then Some (record { ticket = own; ops = ops }) else found ticket entries

abbrev pub only_found : Option Sealed → List Sealed
only_found None = []
only_found (Some s) = s ∷ []

abbrev pub if_stands : Bool → Sealed → List Sealed
if_stands true s = s ∷ []
if_stands false s = []

-- the committed transactions that an entry tells of: an asynchronous one always, a prepared one where its ticket
-- stands in the history, and what stands there of a number
abbrev pub told : List Entry → Note → List Sealed
told history (Commit s) = s ∷ []
told history (Prepare s) = if_stands (has_ticket s.ticket.0 history) s
told history (Number t) = only_found (found t history)
told history (Mark n) = []
told history (Define name tables) = []
told history (Drop name) = []
told history (Flag name flag) = []

abbrev pub log_in : List Entry → List Note → List Sealed
log_in history [] = []
log_in history (n ∷ notes) = told history n ++ log_in history notes

-- the greatest mark; 0 where there is none
abbrev pub mark_of : List Note → ℕ
mark_of [] = 0
mark_of (Mark n ∷ notes) = max n (mark_of notes)
mark_of (Commit s ∷ notes) = mark_of notes
mark_of (Prepare s ∷ notes) = mark_of notes
mark_of (Number t ∷ notes) = mark_of notes
mark_of (Define name tables ∷ notes) = mark_of notes
mark_of (Drop name ∷ notes) = mark_of notes
mark_of (Flag name flag ∷ notes) = mark_of notes

-- the next ticket behind these entries
abbrev pub next_of : List Note → ℕ
next_of notes = max (mark_of notes) (catalog_of notes).next

-- the entry is of this ticket
abbrev pub is_for : ℕ → Note → Bool
is_for ticket (Commit s) = nat_eq s.ticket.0 ticket
is_for ticket (Prepare s) = nat_eq s.ticket.0 ticket
is_for ticket (Number t) = nat_eq t ticket
is_for ticket (Mark n) = false
is_for ticket (Define name tables) = false
is_for ticket (Drop name) = false
is_for ticket (Flag name flag) = false

abbrev pub is_noted : ℕ → List Note → Bool
is_noted ticket [] = false
is_noted ticket (n ∷ notes) = is_for ticket n || is_noted ticket notes

-- the asynchronous transactions that are committed in these entries
abbrev pub commits_in : List Note → List Sealed
commits_in [] = []
commits_in (Commit s ∷ notes) = s ∷ commits_in notes
commits_in (Prepare s ∷ notes) = commits_in notes
commits_in (Number t ∷ notes) = commits_in notes
commits_in (Mark n ∷ notes) = commits_in notes
commits_in (Define name tables ∷ notes) = commits_in notes
commits_in (Drop name ∷ notes) = commits_in notes
commits_in (Flag name flag ∷ notes) = commits_in notes

-- no table of the one list is in the other
abbrev pub are_apart : List TableId → List TableId → Bool
are_apart tables others = list_all (λ t. not (is_one_of others t)) tables

-- a live group of this name
pub record IsNamed (groups : List Named) (name : List ℕ) : Type 0 where
  pub before : List Named
  pub one : Named
  pub behind : List Named
  pub is : groups ≡ before ++ one ∷ behind
  pub left : without name groups ≡ before ++ behind

-- The entry fits the catalog and the committed transactions before it: its ticket is greater than all before, its
-- operations are on tables of live groups, a new group has tables of its own, and nothing is pending on a group that
-- is dropped.
abbrev pub Fits : List Entry → Catalog → List Sealed → Note → Type 0
Fits history c log (Commit s) = (c.next ≤ s.ticket.0) × (are_on (live_tables (live_groups c.groups)) s.ops ≡ true)
Fits history c log (Prepare s) = (c.next ≤ s.ticket.0) × (are_on (live_tables (live_groups c.groups)) s.ops ≡ true)
Fits history c log (Number t) = c.next ≤ t
Fits history c log (Mark n) = Unit {0}
Fits history c log (Define name tables) = are_apart (live_tables (live_groups c.groups)) tables ≡ true
Fits history c log (Drop name) = (g : IsNamed c.groups name) × (all_off g.one.group.tables (pending history log) ≡ true)
Fits history c log (Flag name flag) = Unit {0}

abbrev pub FitAll : List Entry → Catalog → List Sealed → List Note → Type 0
FitAll history c log [] = Unit {0}
FitAll history c log (n ∷ notes) = Fits history c log n × FitAll history (recall n c) (log ++ told history n) notes
