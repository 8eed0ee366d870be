-- What a writethrough group takes in by LOAD and REFRESH. (TimesTen SQL Reference, "LOAD CACHE GROUP", "REFRESH CACHE
-- GROUP".)

use Rattle.std.specs.Prelude.{◌≡◌, ℕ, List, [], ◌∷◌, Bool, true, false, ◌&&◌, Option, Some, map, slice_get, slice_set, Result, Ok, Err}
use Rattle.std.specs.Bool.{MatchBool}
use Rattle.std.specs.FinMap.{values}
use Rattle.tier_base.specs.declared.code.Code.TheVariants as code
use Rattle.tier_base.specs.declared.number.TableId.{TableId}
use Rattle.row_types.specs.declared.rule.Refused.{Refused}
use Rattle.row_types.specs.declared.rule.Refused.TheVariants as refused
use Rattle.row_types.specs.declared.value.Value.{Value}
use Rattle.table_state.specs.Tables.{TableState, table_at}
use Rattle.instances.specs.declared.tree.Child.{Child}
use Rattle.group_catalog.specs.Catalogs.{groups_in}
use Rattle.group_catalog.specs.Identified.{is_given}
use Rattle.group_catalog.specs.declared.which.ResolvedWhich.{ResolvedWhich}
use Rattle.group_store.specs.Stores.{HasRootKeys, Kept, SameButSpare, put_tables}
use Rattle.cache_tier.specs.declared.reply.Last.TheVariants.{Done, No}
use Rattle.cache_tier.specs.declared.reply.Reply.{Reply}
use Rattle.cache_tier.specs.Conditions.{is_id, overflow_fault}
use Rattle.cache_tier.specs.Groups.{Group, is_explicit, is_read_only}
use Rattle.cache_tier.specs.LoadSteps.{LoadsReadOnly, LoadsWritethrough, added_answer, gained_answer}
use Rattle.cache_tier.specs.Reading.{Reads, as_it_was, backing_at}
use Rattle.cache_tier.specs.RefreshSteps.{RefreshesReadOnly, RefreshesWritethrough, held_answer, judged_roots, refreshed_answer}
use Rattle.cache_tier.specs.Rules.{past, plain}
use Rattle.cache_tier.specs.Sets.{Choice, alone, changed_from, loaded_with, set_tried}
use Rattle.cache_tier.specs.Targets.{Settles, Target, backing_roots, held_roots, view_roots, whole_answer}
use Rattle.cache_tier.specs.Worlds.{IsUnshared, Part, Unless, World, only}
use Rattle.stored_tier.specs.declared.tier.Tier.{Tier as Stored}
use Rattle.stored_tier.specs.Choosing.{counted}
use Rattle.stored_tier.specs.Gathering.{coming_in, gathered_in, overflows_in}
use Rattle.stored_tier.specs.Performing.{IsPerformedOver, StandsFor}
use Rattle.stored_tier.specs.Sites.{IsAt}
use Rattle.outside.specs.Holding.{Held}
use Rattle.outside.specs.Sites.{SiteState}
use Rattle.tier_journal.specs.declared.journal.TierJournal.{TierJournal}
use Rattle.tier_journal.specs.KeptOver.{KeepsOver}
use Rattle.tier_base.specs.declared.limit.Limit.TheVariants as limit

-- what of the tier is neither of its groups nor of their rows
pub record IsSameElsewhere (old new : Stored) : Type 0 where
  pub schema : new.schema ≡ old.schema
  pub visible : new.visible ≡ old.visible
  pub stale : new.stale ≡ old.stale
  pub directory : new.directory ≡ old.directory
  pub hidden : new.hidden ≡ old.hidden
  pub sessions : new.sessions ≡ old.sessions
  pub unsettled : new.unsettled ≡ old.unsettled
  pub writers : new.writers ≡ old.writers
  pub next : new.next ≡ old.next
  pub clock : new.clock ≡ old.clock

-- two lists of stores, pair by pair
abbrev pub Pairs : (Kept → Kept → Type 0) → List Kept → List Kept → Type 0
Pairs P [] [] = Unit {0}
Pairs P [] (y ∷ ys) = ⊥
Pairs P (x ∷ xs) [] = ⊥
Pairs P (x ∷ xs) (y ∷ ys) = P x y × Pairs P xs ys

-- at most the room of stores is another
pub record IsSameButRoom (old new : Stored) : Type 0 where
  pub rest : IsSameElsewhere old new
  pub stores : Pairs SameButSpare old.stores.items new.stores.items
  pub catalog : new.catalog ≡ old.catalog
  pub verified : new.verified ≡ old.verified

-- The writethrough group at a place has the instances of these tables that match, beside its own, and is loaded. The
-- reply tells how many came, or how many match.
pub record TakesIn (old new : Stored) (place : ℕ) (which : ResolvedWhich) (refreshes : Bool) (s : TableState)
    (reply : Reply) : Type 0 where
  pub group : Group
  pub store : Kept
  pub filled : Kept
  pub there : slice_get (groups_in old.catalog) place ≡ Some group
  pub kept : slice_get old.stores.items place ≡ Some store
  pub writes : is_read_only group ≡ false
  pub keyed : HasRootKeys store
  pub fits : overflows_in s group.def.tree which ≡ false
  pub rows : SameButSpare (put_tables 0 (map values (gathered_in s group.def.tree store which)) store) filled
  pub stores : new.stores.items ≡ slice_set old.stores.items place filled
  pub groups : groups_in new.catalog
      ≡ changed_from (alone place) (λ g. record g { loaded = true }) 0 (groups_in old.catalog)
  pub rest : IsSameElsewhere old new
  pub unverified : new.verified ≡ false
  pub count : reply
      ≡ only (Done (counted refreshes which (table_at s group.def.tree.root.table)
      (coming_in s group.def.tree store which)))

-- the condition is 120 on a root row of these tables
pub record Overflows (old : Stored) (place : ℕ) (which : ResolvedWhich) (s : TableState) : Type 0 where
  pub group : Group
  pub there : slice_get (groups_in old.catalog) place ≡ Some group
  pub is : overflows_in s group.def.tree which ≡ true

-- the condition is no 120 on a root row of these tables
pub record Fits (old : Stored) (place : ℕ) (which : ResolvedWhich) (s : TableState) : Type 0 where
  pub group : Group
  pub there : slice_get (groups_in old.catalog) place ≡ Some group
  pub is : overflows_in s group.def.tree which ≡ false

-- the group takes in what matches; or 120; or memory was wanting
abbrev pub TakesMatching : Stored → Stored → ℕ → ResolvedWhich → Bool → TableState → Result Reply Refused → Type 0
TakesMatching old new place which refreshes s (Ok reply) = TakesIn old new place which refreshes s reply
TakesMatching old new place which refreshes s (Err (refused.Rule rule)) =
    IsSameButRoom old new × Overflows old place which s × (rule ≡ plain code.Overflow)
TakesMatching old new place which refreshes s (Err refused.Memory) = IsSameButRoom old new

-- what is given stands for what the target has
pub record IsOfTarget (x : Target) (at : ℕ) (which : ResolvedWhich) : Type 0 where
  pub place : x.place ≡ at
  pub filter : which.filter ≡ x.filter
  pub id : (key : List Value) → is_given key which.id ≡ is_id key x.id

-- LOAD of a writethrough group behind its round, and REFRESH
abbrev pub ReadsMatching : Bool → Target → Part
ReadsMatching false x =
    Reads as_it_was
    (λ n w w' reply.
    Unless (overflow_fault x.filter (backing_roots (backing_at w n) x)) (Settles x (added_answer x n)) w w' reply)
ReadsMatching true x =
    Reads as_it_was
    (λ n w w' reply.
    Unless (overflow_fault x.filter (judged_roots (backing_at w n) x)) (Settles x (refreshed_answer x n)) w w' reply)

-- what LOAD of a dynamic READONLY group does at a position, and REFRESH
abbrev pub TakesAtPosition : Bool → Target → ℕ → Part
TakesAtPosition false x n w w' reply =
    Unless (overflow_fault x.filter (view_roots (backing_at w n) x)) (Settles x (gained_answer x n)) w w' reply
TakesAtPosition true x n w w' reply =
    Unless (overflow_fault x.filter (held_roots x (view_roots (backing_at w n) x))) (Settles x (held_answer x n)) w
    w' reply

abbrev pub ReadsDynamic : Bool → Target → Part
ReadsDynamic refreshes x = Reads as_it_was (TakesAtPosition refreshes x)

-- so it is of a READONLY group, explicit or dynamic; the note that a refresh of its set is tried stands, or comes with
-- it
abbrev pub ShowsAtPosition : Bool → Target → ℕ → Part
ShowsAtPosition refreshes x n w w' reply =
    MatchBool (is_explicit x.group) (Settles x (whole_answer x n) w w' reply) (TakesAtPosition refreshes x n w w' reply)

abbrev pub ReadsNoted : Bool → Target → Part
ReadsNoted refreshes x = Reads as_it_was (ShowsAtPosition refreshes x)

abbrev pub ReadsTried : Bool → Target → Part
ReadsTried refreshes x = Reads (set_tried x.group) (ShowsAtPosition refreshes x)

-- these are the tables of the group at a place
pub record AsksTree (t : Stored) (place : ℕ) (asked : List TableId) : Type 0 where
  pub group : Group
  pub there : slice_get (groups_in t.catalog) place ≡ Some group
  pub is : asked ≡ group.def.tree.root.table ∷ map (λ (c : Child). c.table) group.def.tree.children

-- LOAD of the group at a place, or REFRESH where it isn't dynamic
abbrev pub MayTake : Stored → ℕ → Bool → Type 0
MayTake t place refreshes =
    (g : Group) → slice_get (groups_in t.catalog) place ≡ Some g → (refreshes && g.def.dynamic) ≡ false

-- LOAD of a group that is found, or REFRESH
abbrev pub LoadsTarget : Bool → Target → Part
LoadsTarget false x w w' reply =
    MatchBool (is_read_only x.group) (LoadsReadOnly x w w' reply) (LoadsWritethrough x w w' reply)
LoadsTarget true x w w' reply =
    MatchBool (is_read_only x.group) (RefreshesReadOnly x w w' reply) (RefreshesWritethrough x w w' reply)

-- for each world of these at the site that stands so, and whose journal is kept over the disk
abbrev pub PerformsWhere : (World → Type 0) → {D : Type 0} → (D → SiteState) → (D → ℕ → Held → Type 0) → Stored
    → Stored → Option TierJournal → Option TierJournal → D → D → Option Reply → (World → World → Type 0) → Type 0
PerformsWhere P state possible old new k k' d d' stop does =
    (w : World) → IsAt (state d) w → StandsFor old w → IsUnshared w → KeepsOver state possible d k w → P w
    → IsPerformedOver state possible new k' d' stop (does w)

-- 119 of the journal where the condition is no 120, or 120; or memory was wanting
abbrev pub JudgesFull : Stored → ℕ → ResolvedWhich → TableState → Result Reply Refused → Type 0
JudgesFull old place which s (Ok reply) = Fits old place which s × (reply ≡ only (No (past limit.JournalSlot)))
JudgesFull old place which s (Err (refused.Rule rule)) =
    Overflows old place which s × (rule ≡ plain code.Overflow)
JudgesFull old place which s (Err refused.Memory) = Unit {0}

-- the group is at the place, and nothing is unsettled
pub record IsSettledAt (place : ℕ) (g : Group) (w : World) : Type 0 where
  pub there : slice_get w.tier.groups place ≡ Some g
  pub settled : w.tier.unsettled ≡ []

-- the group is at the place
abbrev pub IsGroupAt : ℕ → Group → World → Type 0
IsGroupAt place g w = slice_get w.tier.groups place ≡ Some g

-- LOAD or REFRESH of a READONLY group that is refreshed with these, in each world at the site
abbrev pub LoadsNoted : {D : Type 0} → (D → SiteState) → (D → ℕ → Held → Type 0) → Stored → Stored
    → Option TierJournal → Option TierJournal → D → D → ℕ → ResolvedWhich → Bool → Choice → Reply → Type 0
LoadsNoted state possible old new k k' d d' place which refreshes chosen reply =
    (x : Target) → IsOfTarget x place which → is_read_only x.group ≡ true → chosen ≡ loaded_with x.group place
    → PerformsWhere (IsGroupAt place x.group) state possible old new k k' d d' (Some reply)
    (λ w w'. ReadsNoted refreshes x w w' reply)
