-- The rows that come back when a tier is opened again. (This project's model.)

use Rattle.std.specs.Prelude.{◌≡◌, ℕ, List, [], Bool, false, Some, None, Option, Result, Ok, drop, map, slice_get}
use Rattle.std.specs.Prelude.{length}
use Rattle.group_catalog.specs.Catalogs.{groups_in}
use Rattle.group_catalog.specs.declared.which.ResolvedWhich.{ResolvedWhich}
use Rattle.outside.specs.declared.fault.BankError.{BankError}
use Rattle.cache_tier.specs.declared.reply.Reply.{Reply}
use Rattle.cache_tier.specs.Groups.{Group}
use Rattle.cache_tier.specs.Worlds.{IsUnshared, OnlyWhere, World}
use Rattle.recovery.specs.Reopening.{HoldAgain, HoldsAgainAt, is_held_again}
use Rattle.stored_tier.specs.declared.tier.Tier.{Tier as Stored}

-- which of the groups hold all their instances again
abbrev pub held_again : List Group → List Bool
held_again groups = map is_held_again groups

-- which of the groups hold all their instances again stays, and others change no table of writethrough groups
pub record IsStillHeld (w w' : World) : Type 0 where
  pub held : held_again w'.tier.groups ≡ held_again w.tier.groups
  pub apart : IsUnshared w'

-- so is the group at a place, where there is one
abbrev pub is_held_at : Option Group → Bool
is_held_at None = false
is_held_at (Some g) = is_held_again g

-- the group at a place holds all its instances again, where it is to
abbrev pub HoldsIfWanted : ℕ → World → World → Option Reply → Type 0
HoldsIfWanted place w w' stop =
    (g : Group) → slice_get w.tier.groups place ≡ Some g
    → OnlyWhere (is_held_again g) (HoldsAgainAt place) w w' stop

-- Groups before a place hold their instances again: what comes behind is what comes behind them.
pub record IsHeldTo (place : ℕ) (w mid : World) : Type 0 where
  pub still : IsStillHeld w mid
  pub goes_on : (w' : World) (stop : Option Reply) → HoldAgain place (drop place w.tier.groups) mid w' stop
      → HoldAgain 0 w.tier.groups w w' stop

-- nothing is unsettled, and there are as many groups
pub record IsQuiet (old new : Stored) : Type 0 where
  pub unsettled : new.unsettled.items ≡ []
  pub groups : length (groups_in new.catalog) ≡ length (groups_in old.catalog)

-- calls that didn't fail
abbrev pub all_well : Result (Unit {0}) BankError
all_well = Ok tt

-- no condition and no key: all instances are meant
abbrev pub all_instances : ResolvedWhich
all_instances = record { filter = None; id = None }
