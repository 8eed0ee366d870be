-- The session of a number or of a label among the open ones, and what is asked of it. (This project's rule.)

use Rattle.std.specs.Prelude.{ℕ, ◌-◌, Bool, List, [], Option, find, length, unwrap_or}
use Rattle.std.specs.List.{list_any}
use Rattle.std.specs.Option.{option_map}
use Rattle.session_state.specs.tier_base.specs.declared.limit.Limit.TheVariants as limit
use Rattle.session_state.specs.tier_base.specs.Limits.{greatest}
use Rattle.session_state.specs.tier_base.specs.declared.number.SessionId.{SessionId}
use Rattle.session_state.specs.table_defs.specs.Names.{same_name}
use Rattle.session_state.specs.table_state.specs.declared.operation.Op.{Op}
use Rattle.session_state.specs.Sessions.{OpenSession, has_id}

-- the session has this label
abbrev pub has_label : List ℕ → OpenSession → Bool
has_label label s = same_name s.label label

-- a session has the label
abbrev pub is_label_used : List ℕ → List OpenSession → Bool
is_label_used label sessions = list_any (has_label label) sessions

-- a session has the number
abbrev pub is_number_used : SessionId → List OpenSession → Bool
is_number_used id sessions = list_any (has_id id) sessions

-- the session of a number, and that of a label: no two have one of either
abbrev pub of_number : SessionId → List OpenSession → Option OpenSession
of_number id sessions = find (has_id id) sessions

abbrev pub of_label : List ℕ → List OpenSession → Option OpenSession
of_label label sessions = find (has_label label) sessions

-- the open operations of the session of a number; none where no session has it
abbrev pub open_ops : SessionId → List OpenSession → List Op
open_ops id sessions = unwrap_or (option_map (λ s. s.ops) (of_number id sessions)) []

-- how many operations more the transaction of that session can have
abbrev pub room_of : SessionId → List OpenSession → ℕ
room_of id sessions = greatest limit.Operations - length (open_ops id sessions)
