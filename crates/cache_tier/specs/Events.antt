-- What events ask of a tier that stands, and what they leave of what is shown. (This project's rules.)

use Rattle.std.specs.Prelude.{◌≡◌, ℕ, List, [], ◌∷◌, Some, None, true, false}
use Rattle.table_state.specs.declared.history.Entry.{Entry}
use Rattle.table_state.specs.declared.history.Sealed.{Sealed}
use Rattle.table_state.specs.declared.operation.Op.{Op}
use Rattle.table_state.specs.declared.operation.Op.TheVariants.{Delete, Insert, Update}
use Rattle.table_state.specs.Operations.{applied_all}
use Rattle.table_state.specs.Refusals.{broken_by_all}
use Rattle.table_state.specs.Tables.{TableState}
use Rattle.cache_tier.specs.InsertSteps.{has_key_in}
use Rattle.cache_tier.specs.Locks.{lock_fault}
use Rattle.cache_tier.specs.Shown.{all_over, over, seen_by, shown_state, written_on}
use Rattle.cache_tier.specs.TierStates.{Session, Tier, session_of}
use Rattle.cache_tier.specs.Worlds.{World}
use Rattle.cache_tier.specs.StandingBetween.{Stands, are_written_through}

-- with another tier
abbrev pub with_tier : Tier → World → World
with_tier t w = record w { tier = t }

-- over another history
abbrev pub at_history : List Entry → World → World
at_history history w = record w { history = history }

-- these transactions are left unsettled, by a round that was tried at this moment
abbrev pub settled_to : List Sealed → ℕ → World → World
settled_to unsettled moment w = record w { tier = record (w.tier) { unsettled = unsettled; round = moment } }

-- it still stands, and shows the same
pub record StaysShown (w w' : World) : Type 0 where
  pub stands : Stands w'
  pub same : shown_state w'.history w'.tier ≡ shown_state w.history w.tier

-- It still stands, and what is shown then is what these operations, which apply over what was shown, leave of that.
pub record TakesOwn (ops : List Op) (w w' : World) : Type 0 where
  pub stands : Stands w'
  pub leads : applied_all ops (shown_state w.history w.tier) ≡ Some (shown_state w'.history w'.tier)
  pub over : all_over ops (shown_state w.history w.tier) ≡ shown_state w'.history w'.tier

-- the key of a row that is inserted has no row in the state
abbrev pub HasNewKey : Op → TableState → Type 0
HasNewKey (Insert t row) s = has_key_in s t row ≡ false
HasNewKey (Update t old new) s = Unit {0}
HasNewKey (Delete t old) s = Unit {0}

-- so it is of each operation behind those before it
abbrev pub HaveNewKeys : List Op → TableState → Type 0
HaveNewKeys [] s = Unit {0}
HaveNewKeys (op ∷ ops) s = HasNewKey op s × HaveNewKeys ops (over op s)

-- A session may write: its operations are on tables of writethrough groups, break no rule over what it sees, meet no
-- lock of another session, and insert at keys that are new in the virtual state with its own writes over it.
pub record MayWriteMore (w : World) (s : Session) (ops : List Op) : Type 0 where
  pub there : session_of w.tier s.label ≡ Some s
  pub through : are_written_through w.tier.groups ops ≡ true
  pub unbroken : broken_by_all ops (seen_by s w.history w.tier) ≡ None
  pub unlocked : lock_fault s.label w.tier ops ≡ None
  pub fresh : HaveNewKeys ops (written_on s w.history w.tier)
