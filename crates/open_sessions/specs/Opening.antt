-- The open sessions, and the row locks between them. (This project's rule: a lock is never waited for.)

use Rattle.std.specs.Prelude.{◌≡◌, ◌≢◌, ℕ, ◌<◌, ◌≤◌, Bool, true, false, not, List, [], ◌∷◌, ◌++◌, All, filter, length, map, if◌then◌else◌}
use Rattle.std.specs.List.{AllPairs}
use Rattle.session_state.specs.tier_base.specs.declared.number.SessionId.{SessionId}
use Rattle.session_state.specs.table_defs.specs.declared.definition.TableDef.{TableDef}
use Rattle.session_state.specs.Kept.{IsKept, seen_of}
use Rattle.session_state.specs.Locks.{IsApart}
use Rattle.session_state.specs.Sessions.{OpenSession, begun, has_id}
use Rattle.open_sessions.specs.declared.sessions.OpenError.{OpenError}
use Rattle.open_sessions.specs.declared.sessions.OpenError.TheVariants.{Label, Limit, Memory}
use Rattle.open_sessions.specs.declared.sessions.Sessions.{Sessions}
use Rattle.open_sessions.specs.Lookups.{is_label_used, is_number_used}

-- what a reader sees of the sessions, in the order of opening
abbrev pub seen_all : Sessions → List OpenSession
seen_all s = map seen_of s.open.items

-- no key is in the footprints of both, and written in one
abbrev pub AreApartPair : List TableDef → OpenSession → OpenSession → Type 0
AreApartPair schema a b = IsApart schema a.ops b.ops

-- the numbers differ
abbrev pub DifferInNumber : OpenSession → OpenSession → Type 0
DifferInNumber a b = a.id.0 ≢ b.id.0

-- the labels differ
abbrev pub DifferInLabel : OpenSession → OpenSession → Type 0
DifferInLabel a b = a.label ≢ b.label

-- Each session stores what its operations leave and hold, no two conflict, and no two have one number or one label.
pub record AreSessions (schema : List TableDef) (s : Sessions) : Type 0 where
  pub kept : All (IsKept schema) s.open.items
  pub apart : AllPairs (AreApartPair schema) (seen_all s)
  pub numbered : AllPairs DifferInNumber (seen_all s)
  pub labelled : AllPairs DifferInLabel (seen_all s)

-- a session was opened, with a label and a number that none had
pub record Opens
    (old new : List OpenSession) (id : SessionId) (label : List ℕ) (level : ℕ) (durable : Bool)
    : Type 0 where
  pub seen : new ≡ old ++ begun id label level durable ∷ []
  pub number : is_number_used id old ≡ false
  pub free : is_label_used label old ≡ false
  pub few : length old < 64

-- why a session isn't opened
abbrev pub IsOpenCause : List OpenSession → List ℕ → OpenError → Type 0
IsOpenCause s label Label = is_label_used label s ≡ true
IsOpenCause s label Limit = (64 ≤ length s) × (is_label_used label s ≡ false)
IsOpenCause s label Memory = Unit {0}

-- one session changes
abbrev pub on_session : SessionId → (OpenSession → OpenSession) → List OpenSession → List OpenSession
on_session id change sessions = map (λ s. if has_id id s then change s else s) sessions

-- one session is gone
abbrev pub closed : SessionId → List OpenSession → List OpenSession
closed id sessions = filter (λ s. not (has_id id s)) sessions
