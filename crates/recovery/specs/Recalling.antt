-- What a commit journal's entries leave of a tier that is opened again: the catalog with its STATEs and flags, what is
-- committed, and the next ticket. (TimesTen Cache User's Guide, "Recovery"; that nothing is loaded yet, and what is
-- pending waits for a round, is this project's rule.)

use Rattle.std.specs.Prelude.{◌≡◌, ℕ, ◌≤◌, ◌^◌, List, [], ◌∷◌, Bool, Some, map, if◌then◌else◌, None}
use Rattle.tier_base.specs.declared.number.TableId.{TableId}
use Rattle.table_defs.specs.declared.definition.TableDef.{TableDef}
use Rattle.table_state.specs.declared.history.Entry.{Entry}
use Rattle.table_state.specs.Histories.{state_of}
use Rattle.table_state.specs.Tables.{TableState}
use Rattle.instances.specs.declared.tree.Tree.{Tree}
use Rattle.sql_subset.specs.declared.stmt.CreateGroup.{CreateGroup}
use Rattle.sql_subset.specs.declared.stmt.RefreshState.{RefreshState}
use Rattle.sql_subset.specs.declared.stmt.RefreshState.TheVariants.{On, Off, Paused}
use Rattle.recovery_laws.specs.Matching.{IsMatched}
use Rattle.recovery_laws.specs.Notes.{Commit, Define, Drop, Flag, Mark, Note, Number, Prepare, commits_in, log_in}
use Rattle.cache_tier.specs.AlterSteps.{with_state}
use Rattle.cache_tier.specs.DefineSteps.{with_new_group}
use Rattle.cache_tier.specs.Definitions.{IsTreeOf, defined_by, definition_names, is_read_only_kind, new_group, placed_tables}
use Rattle.cache_tier.specs.DropSteps.{without_group}
use Rattle.cache_tier.specs.Groups.{Group, definitions_of}
use Rattle.cache_tier.specs.Journals.{Commits, Defines, Drops, JournalEntry, Marks, Numbers, Prepares, SetsLoaded, SetsState, next_behind, next_with}
use Rattle.cache_tier.specs.StandingBetween.{HasNoTableOf, IsCatalogued}
use Rattle.cache_tier.specs.TierStates.{Tier, with_group}

-- ---- entries as the laws of recovery see them

-- the tables that a definition's group writes through: none of a READONLY one
abbrev pub written_tables : List TableDef → CreateGroup → List TableId
written_tables schema d = if is_read_only_kind d.kind then [] else map (λ p. p.id) (placed_tables schema d)

abbrev pub state_number : RefreshState → ℕ
state_number On = 1
state_number Off = 2
state_number Paused = 3

abbrev pub note_of : List TableDef → JournalEntry → Note
note_of schema (Commits s) = Commit s
note_of schema (Prepares s) = Prepare s
note_of schema (Numbers t) = Number t
note_of schema (Marks t) = Mark t
note_of schema (Defines d text) = Define d.name (written_tables schema d)
note_of schema (Drops name) = Drop name
note_of schema (SetsState name state) = Flag name (state_number state)
note_of schema (SetsLoaded name flag) = Flag name (if flag then 4 else 0)

abbrev pub notes_of : List TableDef → List JournalEntry → List Note
notes_of schema entries = map (note_of schema) entries

-- ---- the catalog, entry by entry

-- the group of a definition as it begins
abbrev pub group_of : Tier → CreateGroup → Tree → Group
group_of t d tree = new_group t.next t.now d (defined_by t.schema d tree)

-- A definition makes this group: it breaks no rule of names, its tree stands for what is written and is sound, and no
-- group has a table of it.
pub record IsDefined (d : CreateGroup) (t t' : Tier) : Type 0 where
  pub tree : Tree
  pub is : IsTreeOf (placed_tables t.schema d) tree
  pub names : definition_names t.schema (definitions_of t.groups) d ≡ None
  pub sound : IsCatalogued t.schema (group_of t d tree)
  pub apart : HasNoTableOf t.groups (group_of t d tree)
  pub left : t' ≡ with_new_group d tree t

abbrev pub with_loaded : Bool → Group → Group
with_loaded flag g = record g { loaded = flag }

-- What an entry makes of the tier. The next ticket counts up with them, so a group's first ticket is one above all that
-- stand before its definition; a mark isn't one of them.
abbrev pub Recalls : JournalEntry → Tier → Tier → Type 0
Recalls (Commits s) t t' = t' ≡ record t { next = next_with t.next (Commits s) }
Recalls (Prepares s) t t' = t' ≡ record t { next = next_with t.next (Prepares s) }
Recalls (Numbers n) t t' = t' ≡ record t { next = next_with t.next (Numbers n) }
Recalls (Marks n) t t' = t' ≡ t
Recalls (Defines d text) t t' = IsDefined d t t'
Recalls (Drops name) t t' = t' ≡ without_group name t
Recalls (SetsState name state) t t' = t' ≡ with_group name (with_state state) t
Recalls (SetsLoaded name flag) t t' = t' ≡ with_group name (with_loaded flag) t

-- one entry after the other
abbrev pub RecallsAll : List JournalEntry → Tier → Tier → Type 0
RecallsAll [] t t' = t' ≡ t
RecallsAll (e ∷ entries) t t' = (mid : Tier) × Recalls e t mid × RecallsAll entries mid t'

-- ---- the tier

-- A journal's entries and a history belong together, and a ticket is left.
pub record AreMatched (entries : List JournalEntry) (history : List Entry) : Type 0 where
  pub backing : TableState
  pub leaves : state_of history ≡ Some backing
  pub matched : IsMatched (notes_of backing.schema entries) history
  pub last : next_behind entries ≤ 2 ^ 63

-- What is committed is what the entries tell of over the history; all of their asynchronous commits are unsettled, as
-- their receipts aren't known.
abbrev pub recalled : List TableDef → List JournalEntry → List Entry → Tier → Tier
recalled schema entries history t =
    record t {
      log = log_in history (notes_of schema entries);
      unsettled = commits_in (notes_of schema entries);
      next = next_behind entries;
    }
