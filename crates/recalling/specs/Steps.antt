-- What one entry that fits makes of the groups, the tickets and the commits. (This project's rule.)

use Rattle.std.specs.Prelude.{◌≡◌, ℕ, ◌+◌, List, [], ◌∷◌, ◌++◌, Bool, true, false, not, Option, Some, None, find, slice_get}
use Rattle.std.specs.List.{filter, list_any}
use Rattle.table_defs.specs.declared.definition.TableDef.{TableDef}
use Rattle.table_state.specs.declared.history.Sealed.{Sealed}
use Rattle.instances.specs.declared.tree.Tree.{Tree}
use Rattle.sql_subset.specs.declared.stmt.CreateGroup.{CreateGroup}
use Rattle.cache_tier.specs.AlterSteps.{with_state}
use Rattle.cache_tier.specs.Definitions.{defined_by, new_group}
use Rattle.cache_tier.specs.Groups.{Group, changed_where, is_asynchronous, is_called, is_synchronous}
use Rattle.cache_tier.specs.Journals.{Commits, Defines, Drops, JournalEntry, Marks, Numbers, Prepares, SetsLoaded, SetsState, next_with}
use Rattle.group_catalog.specs.Catalogs.{groups_in}
use Rattle.group_catalog.specs.ReadBack.{IsReadBack}
use Rattle.recovery.specs.Recalling.{with_loaded}
use Rattle.recalling.specs.declared.folding.Fold.{Fold}
use Rattle.recalling.specs.Fitting.{fits}

-- the group of a definition that is read back comes behind the others
pub record IsDefinedBehind (schema : List TableDef) (moment above : ℕ) (d : CreateGroup) (groups groups' : List Group)
    : Type 0 where
  pub tree : Tree
  pub back : IsReadBack schema groups d tree
  pub left : groups' ≡ groups ++ new_group above moment d (defined_by schema d tree) ∷ []

-- the groups behind an entry
abbrev pub Moves : List TableDef → ℕ → ℕ → JournalEntry → List Group → List Group → Type 0
Moves schema moment above (Commits s) groups groups' = groups' ≡ groups
Moves schema moment above (Prepares s) groups groups' = groups' ≡ groups
Moves schema moment above (Numbers ticket) groups groups' = groups' ≡ groups
Moves schema moment above (Marks next) groups groups' = groups' ≡ groups
Moves schema moment above (Defines d text) groups groups' = IsDefinedBehind schema moment above d groups groups'
Moves schema moment above (Drops name) groups groups' = groups' ≡ filter (λ g. not (is_called name g)) groups
Moves schema moment above (SetsState name state) groups groups' =
    groups' ≡ changed_where (is_called name) (with_state state) groups
Moves schema moment above (SetsLoaded name flag) groups groups' =
    groups' ≡ changed_where (is_called name) (with_loaded flag) groups

-- one above the greatest ticket behind an entry; a mark isn't one
abbrev pub above_with : ℕ → JournalEntry → ℕ
above_with above (Commits s) = s.ticket.0 + 1
above_with above (Prepares s) = s.ticket.0 + 1
above_with above (Numbers ticket) = ticket + 1
above_with above (Marks next) = above
above_with above (Defines d text) = above
above_with above (Drops name) = above
above_with above (SetsState name state) = above
above_with above (SetsLoaded name flag) = above

-- the transaction that an entry commits
abbrev pub committed : JournalEntry → List Sealed
committed (Commits s) = s ∷ []
committed (Prepares s) = []
committed (Numbers ticket) = []
committed (Marks next) = []
committed (Defines d text) = []
committed (Drops name) = []
committed (SetsState name state) = []
committed (SetsLoaded name flag) = []

-- the entry fits, and is taken into the fold
pub record IsTaken (schema : List TableDef) (moment : ℕ) (e : JournalEntry) (old new : Fold) : Type 0 where
  pub fit : fits schema (groups_in old.catalog) old.above e ≡ true
  pub groups : Moves schema moment old.above e (groups_in old.catalog) (groups_in new.catalog)
  pub above : new.above ≡ above_with old.above e
  pub next : new.next ≡ next_with old.next e
  pub commits : new.commits.items ≡ old.commits.items ++ committed e

-- no entry
pub record IsNewFold (fold : Fold) : Type 0 where
  pub groups : groups_in fold.catalog ≡ []
  pub above : fold.above ≡ 1
  pub next : fold.next ≡ 1
  pub commits : fold.commits.items ≡ []

-- no two groups have one name
abbrev pub AreNamedApart : List Group → Type 0
AreNamedApart [] = Unit {0}
AreNamedApart (g ∷ groups) = (list_any (is_called g.def.name) groups ≡ false) × AreNamedApart groups

-- the first group of a name stands at this place
pub record IsPlaceOf (groups : List Group) (name : List ℕ) (place : ℕ) : Type 0 where
  pub group : Group
  pub at : slice_get groups place ≡ Some group
  pub found : find (is_called name) groups ≡ Some group

-- it has the name
abbrev pub is_one_called : List ℕ → Option Group → Bool
is_one_called name None = false
is_one_called name (Some g) = is_called name g

-- the kind of the groups of a transaction
abbrev pub is_of_kind : Bool → Group → Bool
is_of_kind true = is_synchronous
is_of_kind false = is_asynchronous
