-- The backing history, and the state at a position of it. (This project's model of the backing database.)

use Rattle.std.specs.Prelude.{ℕ, ◌+◌, List, [], ◌∷◌, ◌++◌, Option, Some, None, Bool, false, ◌||◌, nat_eq, take, if◌then◌else◌}
use Rattle.std.specs.Option.{option_and_then, option_map}
use Rattle.std.specs.FinMap.{empty}
use Rattle.table_state.specs.declared.history.Entry.{Entry}
use Rattle.table_state.specs.declared.history.Entry.TheVariants.{Definition, Foreign, Own}
use Rattle.table_state.specs.declared.history.Sealed.{Sealed}
use Rattle.table_state.specs.Tables.{TableState}
use Rattle.table_state.specs.Operations.{applied_all}

abbrev pub no_tables : TableState
no_tables = record { schema = []; tables = [] }

-- what one entry makes of a state; none where it doesn't apply
abbrev pub after_entry : Entry → TableState → Option TableState
after_entry (Definition def) s = Some (record { schema = s.schema ++ def ∷ []; tables = s.tables ++ empty ∷ [] })
after_entry (Foreign ops) s = applied_all ops s
after_entry (Own ticket ops) s = applied_all ops s

abbrev pub state_from : List Entry → TableState → Option TableState
state_from [] s = Some s
state_from (entry ∷ entries) s = option_and_then (state_from entries) (after_entry entry s)

-- the state that a history leaves
abbrev pub state_of : List Entry → Option TableState
state_of history = state_from history no_tables

-- the state at a position: after so many entries
abbrev pub state_at : List Entry → ℕ → Option TableState
state_at history position = state_of (take position history)

-- the ticket is that of the entry
abbrev pub is_of : ℕ → Entry → Bool
is_of ticket (Definition def) = false
is_of ticket (Foreign ops) = false
is_of ticket (Own own ops) = nat_eq own.0 ticket

-- the ticket stands in the history
abbrev pub has_ticket : ℕ → List Entry → Bool
has_ticket ticket [] = false
has_ticket ticket (entry ∷ entries) = is_of ticket entry || has_ticket ticket entries

-- the position behind the entry with the ticket, the first where there are several
abbrev pub position_of : ℕ → List Entry → Option ℕ
position_of ticket [] = None
position_of ticket (entry ∷ entries) =
    if is_of ticket entry then Some 1 else option_map (λ n. n + 1) (position_of ticket entries)

-- the entry of a committed transaction
abbrev pub entry_of : Sealed → Entry
entry_of s = Own s.ticket s.ops
