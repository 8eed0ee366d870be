-- More small facts.

use Rattle.std.specs.Prelude.{◌≡◌, ℕ, ◌+◌, List, [], ◌∷◌, true, false, Option, Some, None}
use Rattle.tier_base.specs.declared.code.Code.{Code}
use Rattle.tier_base.specs.declared.code.Code.TheVariants.{BackingFault, JournalFault}
use Rattle.table_state.specs.declared.history.Entry.{Entry}
use Rattle.table_state.specs.declared.history.Sealed.{Sealed}
use Rattle.table_state.specs.declared.operation.Op.{Op}
use Rattle.table_state.specs.Histories.{state_at}
use Rattle.table_state.specs.Tables.{TableState}
use Rattle.cache_tier.specs.declared.reply.Reply.{Reply}
use Rattle.sql_subset.specs.declared.stmt.GroupKind.TheVariants.{ReadOnly}
use Rattle.cache_tier.specs.DynamicLoads.{state_loaded}
use Rattle.cache_tier.specs.FirstRun.{start}
use Rattle.cache_tier.specs.Groups.{Group}
use Rattle.cache_tier.specs.Targets.{with_flag}
use Rattle.cache_tier.specs.Locks.{lock_fault}
use Rattle.cache_tier.specs.Sets.{at_position}
use Rattle.cache_tier.specs.Shown.{exceeds, instances_where, shown}
use Rattle.cache_tier.specs.Standing.{IsStanding}
use Rattle.cache_tier.specs.Steps.{Asked, Rose, Run, faults_in}
use Rattle.cache_tier.specs.TierStates.{Tier, others}
use Rattle.cache_tier.specs.Worlds.{World}

-- how many faults of a code replies tell
abbrev pub faults_told : Code → List (Option Reply) → ℕ
faults_told c [] = 0
faults_told c (None ∷ replies) = faults_told c replies
faults_told c (Some reply ∷ replies) = faults_in c reply + faults_told c replies

-- in a run each fault that is told has a failed call of its own
pub record FaultsAreCaused (w w' : World) (replies : List (Option Reply)) : Type 0 where
  pub bank : Rose w.bank_faults (faults_told BackingFault replies) w'.bank_faults
  pub disk : Rose w.disk_faults (faults_told JournalFault replies) w'.disk_faults

abbrev pub RunIsCaused : Type 0
RunIsCaused = (w w' : World) (lines : List Asked) (replies : List (Option Reply)) → Run w lines replies w'
    → FaultsAreCaused w w' replies

-- an explicit READONLY group
abbrev pub explicit_read_only : Group → Group
explicit_read_only g = record g { def = record (g.def) { kind = ReadOnly; dynamic = false } }

-- behind its load it shows its view at the new position, past its horizon
abbrev pub LoadShowsView : Type 0
LoadShowsView =
    (history : List Entry) (log : List Sealed) (n : ℕ) (s : TableState) (g : Group) → state_at history n ≡ Some s
    → shown history log (with_flag true (state_loaded (at_position n s (explicit_read_only g))))
    ≡ instances_where s g.def.tree (exceeds (explicit_read_only g))

-- where no other session is open no lock is met
abbrev pub AloneIsFree : Type 0
AloneIsFree = (label : List ℕ) (t : Tier) (ops : List Op) → others label t ≡ [] → lock_fault label t ops ≡ None

-- the tier over an empty history stands
abbrev pub StartStands : Type 0
StartStands = IsStanding start
