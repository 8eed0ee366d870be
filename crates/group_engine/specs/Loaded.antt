-- What a load of a READONLY group makes, behind the note that its refresh was tried. (TimesTen SQL Reference, "LOAD
-- CACHE GROUP"; what it does to STATE and flags is this project's rule.)

use Rattle.std.specs.Prelude.{◌≡◌, ℕ, List, None, Some, true, Option, Result, slice_get}
use Rattle.outside.specs.declared.fault.BankError.{BankError}
use Rattle.cache_tier.specs.declared.reply.Reply.{Reply}
use Rattle.cache_tier.specs.Groups.{Group, is_explicit, is_read_only}
use Rattle.cache_tier.specs.Reading.{FollowsAt, TellsPosition}
use Rattle.cache_tier.specs.Sets.{Choice, loaded_with}
use Rattle.cache_tier.specs.Targets.{Settles, Target, load_entries, whole_answer}
use Rattle.cache_tier.specs.Worlds.{BankCall, IsUnshared, World}
use Rattle.stored_tier.specs.declared.tier.Tier.{Tier as Stored}
use Rattle.stored_tier.specs.Performing.{IsPerformedOver, StandsFor}
use Rattle.stored_tier.specs.Sites.{IsAt}
use Rattle.outside.specs.Holding.{Held}
use Rattle.outside.specs.Sites.{SiteState}
use Rattle.table_defs.specs.declared.definition.TableDef.{TableDef}
use Rattle.tier_journal.specs.declared.journal.TierJournal.{TierJournal}
use Rattle.tier_journal.specs.KeptOver.{KeepsOver}
use Rattle.group_engine.specs.declared.ready.Ready.{Ready}
use Rattle.group_engine.specs.Ready.{IsReadyFor}

-- the group at a place, whole
abbrev pub whole_target : ℕ → Group → Target
whole_target place g = record { place = place; group = g; filter = None; id = None }

-- a call that reads, and then the group shows its view
pub record ReadsWhole (place : ℕ) (g : Group) (w w' : World) (reply : Reply) : Type 0 where
  pub told : Result ℕ BankError
  pub mid : World
  pub call : BankCall (TellsPosition told) w mid
  pub tier : mid.tier ≡ w.tier
  pub goes_on :
      FollowsAt told (λ n. Settles (whole_target place g) (whole_answer (whole_target place g) n)) mid w' reply

-- so it is in each world at the site, of a READONLY group that is refreshed with these
abbrev pub LoadsWhole : {D : Type 0} → (D → SiteState) → (D → ℕ → Held → Type 0) → Stored → Stored
    → Option TierJournal → Option TierJournal → D → D → ℕ → Choice → Reply → Type 0
LoadsWhole state possible old new k k' d d' place chosen reply =
    (w : World) (g : Group) → IsAt (state d) w → StandsFor old w → IsUnshared w → KeepsOver state possible d k w
    → slice_get w.tier.groups place ≡ Some g → is_read_only g ≡ true → chosen ≡ loaded_with g place
    → IsPerformedOver state possible new k' d' (Some reply) (λ w'. ReadsWhole place g w w' reply)

-- the group at a place is explicit
abbrev pub IsExplicitAt : List Group → ℕ → Type 0
IsExplicitAt groups place = (g : Group) → slice_get groups place ≡ Some g → is_explicit g ≡ true

-- or dynamic
abbrev pub IsDynamicAt : List Group → ℕ → Type 0
IsDynamicAt groups place = (g : Group) → slice_get groups place ≡ Some g → g.def.dynamic ≡ true

-- what was made ready for the group at a place, which is loaded
abbrev pub IsReadyToLoad : List Group → Option TierJournal → ℕ → Ready → Type 0
IsReadyToLoad groups k place ready =
    (schema : List TableDef) (seen : Group) → slice_get groups place ≡ Some seen
    → IsReadyFor schema k ready (load_entries seen)
