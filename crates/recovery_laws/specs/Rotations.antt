-- What a new slot begins with. (This project's rule.)

use Rattle.std.specs.Prelude.{◌≡◌, ℕ, ◌≤◌, List, [], ◌∷◌, ◌++◌, true, map}
use Rattle.std.specs.List.{list_any}
use Rattle.order_laws.specs.table_defs.specs.declared.definition.TableDef.{TableDef}
use Rattle.order_laws.specs.table_state.specs.declared.history.Entry.{Entry}
use Rattle.order_laws.specs.table_state.specs.declared.history.Sealed.{Sealed}
use Rattle.order_laws.specs.Commits.{LiveGroup, is_op_on}
use Rattle.order_laws.specs.Steps.{MayLeave}
use Rattle.order_laws.specs.Commits.{pending}
use Rattle.order_laws.specs.Sides.{all_on}
use Rattle.order_laws.specs.Standing.{Stand, live_tables, progress_of}
use Rattle.recovery_laws.specs.Crashes.{Among}
use Rattle.recovery_laws.specs.Notes.{Commit, Define, Flag, Mark, Named, Note, groups_of, log_in, next_of}

-- the definitions, the oldest first
abbrev pub definitions : List Named → List Note
definitions [] = []
definitions (g ∷ groups) = definitions groups ++ Define g.name g.group.tables ∷ []

-- flags, each with the name of its group
abbrev pub flags_of : List (List ℕ × ℕ) → List Note
flags_of [] = []
flags_of (flag ∷ flags) = Flag flag.0 flag.1 ∷ flags_of flags

-- the next ticket, the definitions, the flags, and the commits that aren't applied
abbrev pub rotated : ℕ → List Named → List (List ℕ × ℕ) → List Sealed → List Note
rotated next groups flags unsettled =
    Mark next ∷ (definitions groups ++ (flags_of flags ++ map Commit unsettled))

-- its group from the first ticket on
abbrev pub from_first : List LiveGroup → List LiveGroup
from_first [] = []
from_first (g ∷ groups) = record { tables = g.tables; first = 1 } ∷ from_first groups

-- transactions leave the list, one after the other
pub data Sheds (groups : List LiveGroup) (schema : List TableDef) (history : List Entry) : List Sealed → List Sealed
    → Type 0 where
  kept : {log : List Sealed} → Sheds groups schema history log log
  shed : {rest : List Sealed} (lower : List Sealed) (s : Sealed) (higher : List Sealed)
      → MayLeave groups schema history lower s higher → Sheds groups schema history (lower ++ higher) rest
      → Sheds groups schema history (lower ++ s ∷ higher) rest

-- none that writes a group's table has a ticket below the group's first
abbrev pub NoneEarlier : LiveGroup → List Sealed → Type 0
NoneEarlier g [] = Unit {0}
NoneEarlier g (s ∷ log) = (list_any (is_op_on g.tables) s.ops ≡ true → g.first ≤ s.ticket.0) × NoneEarlier g log

abbrev pub AllLater : List LiveGroup → List Sealed → Type 0
AllLater [] log = Unit {0}
AllLater (g ∷ groups) log = NoneEarlier g log × AllLater groups log

-- a slot may begin anew with this next ticket and these transactions: they stand over the history in the place of all
-- that the entries tell, they are on live tables, and none is below its group's first ticket
pub record MayRotate (notes : List Note) (h : List Entry) (us : List Sealed) (next : ℕ) : Type 0 where
  pub ticket : next_of notes ≤ next
  pub later : AllLater (groups_of notes) us
  pub live : all_on (live_tables (groups_of notes)) us ≡ true
  pub stand : Stand (progress_of (groups_of notes) h us next)

-- what is pending of all that the entries tell is among these
abbrev pub HoldsPending : List Note → List Entry → List Sealed → Type 0
HoldsPending notes h us = (s : Sealed) → Among s (pending h (log_in h notes)) → Among s us
