-- The catalog as the abstract tier's list of groups.

use Rattle.std.specs.Prelude.{◌≡◌, ℕ, List, Bool, not, Some, slice_get}
use Rattle.cache_tier.specs.Groups.{Group}
use Rattle.cache_tier.specs.Undone.{is_user_managed}
use Rattle.group_catalog.specs.declared.catalog.Catalog.{Catalog}
use Rattle.group_catalog.specs.Kept.{groups_seen}

-- its groups, in the order of their definitions
abbrev pub groups_in : Catalog → List Group
groups_in catalog = groups_seen catalog.groups.items

-- a group as the tier does them: it isn't a user-managed one
abbrev pub is_plain : Group → Bool
is_plain g = not (is_user_managed g.def.kind)

-- no two groups have one name
abbrev pub HaveOwnNames : List Group → Type 0
HaveOwnNames groups =
    (i j : ℕ) (g h : Group) → slice_get groups i ≡ Some g → slice_get groups j ≡ Some h → g.def.name ≡ h.def.name
    → i ≡ j
