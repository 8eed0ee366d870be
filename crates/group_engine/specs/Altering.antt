-- ALTER CACHE GROUP over what is stored. (TimesTen SQL Reference, "ALTER CACHE GROUP".)

use Rattle.std.specs.Prelude.{◌≡◌, ℕ, List, Bool, ◌&&◌, false, true, Option, Some, None, slice_get, Result, Ok, Err}
use Rattle.std.specs.Option.{option_or}
use Rattle.tier_base.specs.declared.number.SessionId.{SessionId}
use Rattle.row_types.specs.declared.rule.Refused.{Refused}
use Rattle.row_types.specs.declared.rule.Refused.TheVariants as refused
use Rattle.row_types.specs.declared.rule.Rule.{Rule}
use Rattle.table_state.specs.declared.operation.Op.{Op}
use Rattle.sql_subset.specs.declared.stmt.Alter.{Alter}
use Rattle.sql_subset.specs.declared.stmt.RefreshState.{RefreshState}
use Rattle.sql_subset.specs.declared.stmt.RefreshState.TheVariants.{On, Off, Paused}
use Rattle.sql_subset.specs.declared.stmt.Stmt.TheVariants as statement
use Rattle.cache_tier.specs.declared.reply.Reply.{Reply}
use Rattle.cache_tier.specs.AlterSteps.{AltersTo, SetsStateAlone, SetsStateRefreshed, altered_entries, joins_something, same_state}
use Rattle.cache_tier.specs.Groups.{Group, is_on, is_read_only, is_writethrough, place_called}
use Rattle.cache_tier.specs.Order.{refusal, wrong_state}
use Rattle.cache_tier.specs.Reading.{as_it_was}
use Rattle.cache_tier.specs.Rules.{open_writes}
use Rattle.cache_tier.specs.Sets.{Choice, alone, has_something, of_set}
use Rattle.cache_tier.specs.TierStates.{Session, Tier}
use Rattle.cache_tier.specs.Worlds.{IsUnshared, Tries, World}
use Rattle.stored_tier.specs.declared.tier.Tier.{Tier as Stored}
use Rattle.stored_tier.specs.Performing.{IsPerformedOver, StandsFor}
use Rattle.stored_tier.specs.Sites.{IsAt}
use Rattle.outside.specs.Holding.{Held}
use Rattle.outside.specs.Sites.{SiteState}
use Rattle.table_defs.specs.declared.definition.TableDef.{TableDef}
use Rattle.tier_journal.specs.declared.journal.TierJournal.{TierJournal}
use Rattle.tier_journal.specs.KeptOver.{KeepsOver}
use Rattle.group_engine.specs.declared.ready.Ready.{Ready}
use Rattle.group_engine.specs.Ready.{IsReadyFor}
use Rattle.stored_tier.specs.Stored.{HasSession, IsStoredAs}

-- what refuses ALTER by the group's kind, and by the session's writes
abbrev pub alter_state : List Op → Group → Option Rule
alter_state own g = option_or (wrong_state (is_writethrough g) g) (open_writes own)

-- nothing refuses the statement, and its group is a READONLY one at this place
pub record FindsAltered (a : Tier) (s : Session) (alter : Alter) (place : ℕ) : Type 0 where
  pub group : Group
  pub free : refusal a s (statement.Alter alter) ≡ None
  pub called : place_called a.groups alter.group ≡ Some place
  pub there : slice_get a.groups place ≡ Some group
  pub reads : is_read_only group ≡ true

abbrev pub AimsAlter : Tier → Session → Alter → Result ℕ Refused → Type 0
AimsAlter a s alter (Ok place) = FindsAltered a s alter place
AimsAlter a s alter (Err (refused.Rule rule)) = refusal a s (statement.Alter alter) ≡ Some rule
AimsAlter a s alter (Err refused.Memory) = Unit {0}

-- so it is of each abstract tier as which this one is stored
abbrev pub AimsAlterIn : Stored → SessionId → Alter → Result ℕ Refused → Type 0
AimsAlterIn t id alter result =
    (a : Tier) (s : Session) → IsStoredAs t a → HasSession t id s → AimsAlter a s alter result

-- In each world the READONLY group at a place gets this STATE: at the site, where the old tier stands for it, and its
-- journal is kept over the disk.
abbrev pub AltersHere : {D : Type 0} → (D → SiteState) → (D → ℕ → Held → Type 0) → Stored → Stored
    → Option TierJournal → Option TierJournal → D → D → RefreshState → ℕ → Reply → Type 0
AltersHere state possible old new k k' d d' to place reply =
    (w : World) (g : Group) → IsAt (state d) w → StandsFor old w → IsUnshared w → KeepsOver state possible d k w
    → slice_get w.tier.groups place ≡ Some g → is_read_only g ≡ true
    → IsPerformedOver state possible new k' d' (Some reply) (λ w'. Tries (AltersTo to place g) w w' reply)

-- the same where the record of its STATE was made ready
abbrev pub AltersReady : {D : Type 0} → (D → SiteState) → (D → ℕ → Held → Type 0) → Stored → Stored
    → Option TierJournal → Option TierJournal → D → D → Ready → RefreshState → ℕ → Reply → Type 0
AltersReady state possible old new k k' d d' ready to place reply =
    (w : World) (g : Group) → IsAt (state d) w → StandsFor old w → IsUnshared w → KeepsOver state possible d k w
    → IsReadyFor w.tier.schema k ready (altered_entries g to) → slice_get w.tier.groups place ≡ Some g
    → is_read_only g ≡ true
    → IsPerformedOver state possible new k' d' (Some reply) (λ w'. Tries (AltersTo to place g) w w' reply)

-- with its STATE the group at a place is refreshed: with its set, or alone
abbrev pub altered_with : RefreshState → ℕ → ℕ → Choice
altered_with On interval place = of_set interval (Some place)
altered_with Off interval place = alone place
altered_with Paused interval place = alone place

-- so it is behind a refresh of these groups, which was noted
abbrev pub AltersWith : {D : Type 0} → (D → SiteState) → (D → ℕ → Held → Type 0) → Stored → Stored
    → Option TierJournal → Option TierJournal → D → D → Ready → RefreshState → ℕ → Choice → Reply → Type 0
AltersWith state possible old new k k' d d' ready to place chosen reply =
    (w : World) (g : Group) → IsAt (state d) w → StandsFor old w → IsUnshared w → KeepsOver state possible d k w
    → IsReadyFor w.tier.schema k ready (altered_entries g to) → slice_get w.tier.groups place ≡ Some g
    → is_read_only g ≡ true → chosen ≡ altered_with to g.def.interval place
    → IsPerformedOver state possible new k' d' (Some reply)
    (λ w'. SetsStateRefreshed place g to chosen as_it_was w w' reply)

-- and without one, where the group then has nothing to show in a set
abbrev pub AltersAlone : {D : Type 0} → (D → SiteState) → (D → ℕ → Held → Type 0) → Stored → Stored
    → Option TierJournal → Option TierJournal → D → D → Ready → RefreshState → ℕ → Reply → Type 0
AltersAlone state possible old new k k' d d' ready to place reply =
    (w : World) (g : Group) → IsAt (state d) w → StandsFor old w → KeepsOver state possible d k w
    → IsReadyFor w.tier.schema k ready (altered_entries g to) → slice_get w.tier.groups place ≡ Some g
    → (is_on to && has_something g) ≡ false
    → IsPerformedOver state possible new k' d' (Some reply) (λ w'. SetsStateAlone place g to w w' reply)

-- whether the set of the group at a place has something to show with it, or it becomes PAUSED behind a refresh
abbrev pub TellsJoining : Stored → ℕ → Bool → Type 0
TellsJoining t place joins =
    (a : Tier) (g : Group) → IsStoredAs t a → slice_get a.groups place ≡ Some g → joins ≡ joins_something place g a

abbrev pub TellsLeaving : Stored → ℕ → Bool → Type 0
TellsLeaving t place leaves =
    (a : Tier) (g : Group) → IsStoredAs t a → slice_get a.groups place ≡ Some g
    → leaves ≡ (same_state g.state Off && has_something g)

-- what was made ready for the group at a place, which gets this STATE
abbrev pub IsReadyAt : List Group → Option TierJournal → ℕ → RefreshState → Ready → Type 0
IsReadyAt groups k place to ready =
    (schema : List TableDef) (seen : Group) → slice_get groups place ≡ Some seen
    → IsReadyFor schema k ready (altered_entries seen to)
