-- DROP CACHE GROUP over what is stored. (TimesTen SQL Reference, "DROP CACHE GROUP".)

use Rattle.std.specs.Prelude.{◌≡◌, ℕ, List, [], ◌∷◌, Option, Some, None, Bool, false, ◌&&◌, not, find, remove, slice_get, unwrap_or}
use Rattle.std.specs.Option.{option_map}
use Rattle.tier_base.specs.declared.number.SessionId.{SessionId}
use Rattle.group_catalog.specs.Catalogs.{groups_in}
use Rattle.session_state.specs.Sessions.{OpenSession, has_id}
use Rattle.cache_tier.specs.DropSteps.{DropsRest}
use Rattle.cache_tier.specs.Groups.{Group, is_writethrough}
use Rattle.cache_tier.specs.Locks.{group_lock, writes_on}
use Rattle.cache_tier.specs.Rounds.{Round}
use Rattle.cache_tier.specs.TierStates.{Session, Tier}
use Rattle.cache_tier.specs.Worlds.{OnlyWhere, Stage, Tries, World}
use Rattle.cache_tier.specs.declared.reply.Reply.{Reply}
use Rattle.stored_tier.specs.declared.tier.Tier.{Tier as Stored}
use Rattle.stored_tier.specs.Grouping.{HasGroups}
use Rattle.stored_tier.specs.Performing.{IsPerformedOver, StandsFor}
use Rattle.stored_tier.specs.Sites.{IsAt}
use Rattle.outside.specs.Holding.{Held}
use Rattle.outside.specs.Sites.{SiteState}
use Rattle.table_defs.specs.declared.definition.TableDef.{TableDef}
use Rattle.cache_tier.specs.Journals.{Drops}
use Rattle.tier_journal.specs.declared.journal.TierJournal.{TierJournal}
use Rattle.tier_journal.specs.KeptOver.{KeepsOver}
use Rattle.group_engine.specs.declared.ready.Ready.{Ready}
use Rattle.group_engine.specs.Ready.{IsReadyFor}
use Rattle.stored_tier.specs.Stored.{HasSession, IsStoredAs}

-- the group at a place is a writethrough one
abbrev pub is_written_at : List Group → ℕ → Bool
is_written_at groups place = unwrap_or (option_map is_writethrough (slice_get groups place)) false

-- a round, where the group at a place is a writethrough one
abbrev pub RoundFor : ℕ → Stage
RoundFor place w w' stop = OnlyWhere (is_written_at w.tier.groups place) Round w w' stop

-- another session than that of the number has written on a table of the group; the one opened earliest that has
abbrev pub writer_beside : SessionId → Group → List OpenSession → Option OpenSession
writer_beside id g sessions = find (λ s. not (has_id id s) && writes_on g s.ops) sessions

-- the group at a place is gone with its store and its hidden rows
pub record IsWithoutGroup (t new : Stored) (place : ℕ) : Type 0 where
  pub has :
      HasGroups t new (remove (groups_in t.catalog) place) (remove t.stores.items place) (remove t.hidden.items place)
  pub unverified : new.verified ≡ false

-- the rest of DROP behind the round, of the group at a place
abbrev pub DropsHere : {D : Type 0} → (D → SiteState) → (D → ℕ → Held → Type 0) → Stored → Stored
    → Option TierJournal → Option TierJournal → D → D → SessionId → ℕ → Reply → Type 0
DropsHere state possible t new k k' d d' id place reply =
    (s : Session) (w : World) (g : Group) → HasSession t id s → IsAt (state d) w → StandsFor t w
    → KeepsOver state possible d k w → slice_get w.tier.groups place ≡ Some g
    → IsPerformedOver state possible new k' d' (Some reply) (λ w'. Tries (DropsRest s g) w w' reply)

-- what was made ready for the drop of the group at a place
abbrev pub IsReadyToGo : List Group → Option TierJournal → ℕ → Ready → Type 0
IsReadyToGo groups k place ready =
    (schema : List TableDef) (seen : Group) → slice_get groups place ≡ Some seen
    → IsReadyFor schema k ready (Drops seen.def.name ∷ [])

-- no other session has written on the tables of the group at a place
abbrev pub IsFreeAt : Stored → SessionId → ℕ → Type 0
IsFreeAt t id place =
    (a : Tier) (s : Session) (g : Group) → IsStoredAs t a → HasSession t id s → slice_get a.groups place ≡ Some g
    → group_lock s.label a g ≡ None
