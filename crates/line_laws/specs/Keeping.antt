-- What a part of a line keeps of a journal. (This project's rule.)

use Rattle.std.specs.Prelude.{◌≡◌, ℕ, Bool, Option, List, [], ◌∷◌, false, true, Some, None, Ok, map}
use Rattle.table_state.specs.declared.history.Sealed.{Sealed}
use Rattle.tier_base.specs.declared.code.Code.TheVariants as code
use Rattle.table_defs.specs.declared.definition.TableDef.{TableDef}
use Rattle.table_state.specs.declared.operation.Op.{Op}
use Rattle.table_state.specs.Histories.{state_of}
use Rattle.table_state.specs.Tables.{TableState}
use Rattle.outside.specs.Console.{IsDone}
use Rattle.evaluator.specs.declared.change.Change.{Change}
use Rattle.resolution.specs.Writes.{PlacedChange, change_seen, resolved_writes}
use Rattle.sql_query.specs.declared.write.Write.{Write}
use Rattle.order_laws.specs.Sides.{are_off}
use Rattle.order_laws.specs.Standing.{live_tables}
use Rattle.order_laws.specs.Commits.{NoneConflicts, pending}
use Rattle.instances.specs.declared.tree.Tree.{Tree}
use Rattle.sql_subset.specs.declared.stmt.CreateGroup.{CreateGroup}
use Rattle.cache_tier.specs.declared.reply.Note.{Note}
use Rattle.cache_tier.specs.declared.reply.Reply.{Reply}
use Rattle.cache_tier.specs.CommitSteps.{is_synchronous_own, sealed_own}
use Rattle.cache_tier.specs.ConsoleSteps.{refers_to_writethrough}
use Rattle.cache_tier.specs.Defining.{IsNewGroup}
use Rattle.cache_tier.specs.Definitions.{IsTreeOf, definition_names, placed_tables}
use Rattle.cache_tier.specs.DueWork.{Item}
use Rattle.cache_tier.specs.Groups.{definitions_of}
use Rattle.cache_tier.specs.StandingBetween.{Stands, live_groups_of}
use Rattle.cache_tier.specs.Steps.{tells}
use Rattle.cache_tier.specs.Events.{with_tier}
use Rattle.cache_tier.specs.TierStates.{Session, Tier, session_of}
use Rattle.cache_tier.specs.Worlds.{IsUnshared, Part, Stage, World}
use Rattle.recovery.specs.Journalled.{IsJournalled, IsJournalledOn}
use Rattle.recovery.specs.Recalling.{group_of}

-- Where the tier stands, its journal is its own, and others change no table of a live writethrough group: behind the
-- part the journal is the tier's, unless a call of its disk failed, which ends the run.
abbrev pub KeepsJournal : Part → Type 0
KeepsJournal part =
    (w w' : World) (early : List Sealed) (reply : Reply) → Stands w → IsJournalled w early → IsUnshared w
    → part w w' reply → tells code.JournalFault reply.last ≡ false → IsJournalledOn w' early

-- a stage ends the run: a call of the journal's disk failed
abbrev pub is_broken : Option Reply → Bool
is_broken None = false
is_broken (Some reply) = tells code.JournalFault reply.last

-- A call of the journal's disk failed: the journal has what may be there. So it is that of a tier, perhaps of the one
-- that the line would have left; and what was held is held.
pub record IsBrokenOff (w : World) (early : List Sealed) : Type 0 where
  pub tier : Tier
  pub on : IsJournalledOn (with_tier tier w) early

-- so it is where a part ended the run
abbrev pub BreaksJournal : Part → Type 0
BreaksJournal part =
    (w w' : World) (early : List Sealed) (reply : Reply) → Stands w → IsJournalled w early → IsUnshared w
    → part w w' reply → tells code.JournalFault reply.last ≡ true → IsBrokenOff w' early

-- the same where this holds of the world
abbrev pub BreaksJournalWhere : (World → Type 0) → Part → Type 0
BreaksJournalWhere P part =
    (w w' : World) (early : List Sealed) (reply : Reply) → Stands w → IsJournalled w early → IsUnshared w → P w
    → part w w' reply → tells code.JournalFault reply.last ≡ true → IsBrokenOff w' early

-- the same of a statement of an open session
abbrev pub BreaksJournalOf : Session → Part → Type 0
BreaksJournalOf s part =
    (w w' : World) (early : List Sealed) (reply : Reply) → Stands w → IsJournalled w early → IsUnshared w
    → session_of w.tier s.label ≡ Some s → part w w' reply → tells code.JournalFault reply.last ≡ true
    → IsBrokenOff w' early

-- the same of an item of due work
abbrev pub KeepsJournalDue : Item → Type 0
KeepsJournalDue item =
    (w w' : World) (early : List Sealed) (notes : List Note) (stop : Option Reply) → Stands w → IsJournalled w early
    → IsUnshared w → item w w' notes stop → is_broken stop ≡ false → IsJournalledOn w' early

abbrev pub BreaksJournalDue : Item → Type 0
BreaksJournalDue item =
    (w w' : World) (early : List Sealed) (notes : List Note) (stop : Option Reply) → Stands w → IsJournalled w early
    → IsUnshared w → item w w' notes stop → is_broken stop ≡ true → IsBrokenOff w' early

-- an item in which no call of the journal's disk fails
abbrev pub NeverBreaks : Item → Type 0
NeverBreaks item =
    (w w' : World) (notes : List Note) (stop : Option Reply) → item w w' notes stop → is_broken stop ≡ false

-- the same, whether the tier stands or not, as where a commit is in doubt
abbrev pub KeepsJournalInDoubt : Item → Type 0
KeepsJournalInDoubt item =
    (w w' : World) (early : List Sealed) (notes : List Note) (stop : Option Reply) → IsJournalled w early → IsUnshared w
    → item w w' notes stop → is_broken stop ≡ false → IsJournalledOn w' early

-- the same where this holds of the world
abbrev pub KeepsJournalWhere : (World → Type 0) → Part → Type 0
KeepsJournalWhere P part =
    (w w' : World) (early : List Sealed) (reply : Reply) → Stands w → IsJournalled w early → IsUnshared w → P w
    → part w w' reply → tells code.JournalFault reply.last ≡ false → IsJournalledOn w' early

-- nothing more
abbrev pub Anything : World → Type 0
Anything w = Unit {0}

-- the same of a statement of an open session, where this holds of the world and the session
abbrev pub KeepsJournalOf : Session → (World → Type 0) → Part → Type 0
KeepsJournalOf s P part =
    (w w' : World) (early : List Sealed) (reply : Reply) → Stands w → IsJournalled w early → IsUnshared w
    → session_of w.tier s.label ≡ Some s → P w → part w w' reply → tells code.JournalFault reply.last ≡ false
    → IsJournalledOn w' early

-- The definition breaks no rule of names, and each group that it may make is one that may come.
pub record MayCreate (d : CreateGroup) (w : World) : Type 0 where
  pub names : definition_names w.tier.schema (definitions_of w.tier.groups) d ≡ None
  pub new : (tree : Tree) → IsTreeOf (placed_tables w.tier.schema d) tree → IsNewGroup w (group_of w.tier d tree)

-- no foreign key of the table refers to one of a live writethrough group
abbrev pub RefersToNone : TableDef → World → Type 0
RefersToNone def w = refers_to_writethrough w.tier def.foreign_key ≡ false

-- the session has no uncommitted writes
abbrev pub HasNoWrites : Session → World → Type 0
HasNoWrites s w = s.own ≡ []

-- nothing that is pending conflicts with the session's writes
abbrev pub MeetsNone : Session → World → Type 0
MeetsNone s w =
    (b : TableState) → state_of w.history ≡ Some b
    → NoneConflicts b.schema (pending w.history w.tier.log) (sealed_own w.tier s)

-- the same of a session whose writes are synchronous
abbrev pub MeetsIfAtOnce : Session → World → Type 0
MeetsIfAtOnce s w = is_synchronous_own w.tier s ≡ true → MeetsNone s w

-- whatever a write that is passed on does over the backing schema is on no table of a live writethrough group
abbrev pub IsOffLive : PlacedChange → World → Type 0
IsOffLive placed w =
    (change : Change) (ops : List Op) (rows : ℕ) (b s : TableState) → change_seen change ≡ placed
    → state_of w.history ≡ Some b → s.schema ≡ b.schema → IsDone (change ∷ []) ops rows s
    → are_off (live_tables (live_groups_of w.tier.groups)) ops ≡ true

-- the same of the console's writes
abbrev pub AreOffLive : List Write → World → Type 0
AreOffLive writes w =
    (changes : List Change) (ops : List Op) (rows : ℕ) (b s : TableState)
    → resolved_writes w.tier.schema writes ≡ Ok (map change_seen changes) → state_of w.history ≡ Some b
    → s.schema ≡ b.schema → IsDone changes ops rows s → are_off (live_tables (live_groups_of w.tier.groups)) ops ≡ true

-- the same of a stage, as of the end of the input
abbrev pub KeepsJournalAt : Stage → Type 0
KeepsJournalAt stage =
    (w w' : World) (early : List Sealed) (stop : Option Reply) → Stands w → IsJournalled w early → IsUnshared w
    → stage w w' stop → is_broken stop ≡ false → IsJournalledOn w' early

-- whether the tier stands or not
abbrev pub BreaksJournalAt : Stage → Type 0
BreaksJournalAt stage =
    (w w' : World) (early : List Sealed) (stop : Option Reply) → IsJournalled w early → IsUnshared w
    → stage w w' stop → is_broken stop ≡ true → IsBrokenOff w' early
