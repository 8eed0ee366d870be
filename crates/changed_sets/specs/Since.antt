-- The position since which a set is refreshed by what changed. (TimesTen Cache User's Guide, "Automatically refreshing
-- a cache group": AUTOREFRESH MODE INCREMENTAL and FULL; the rest is this project's rule.)

use Rattle.std.specs.Prelude.{ℕ, suc, List, [], ◌∷◌, ◌++◌, Bool, true, false, ◌&&◌, ◌||◌, not, Option, Some, None, if◌then◌else◌}
use Rattle.instances.specs.declared.tree.Tree.{Tree}
use Rattle.instances.specs.Trees.{is_place}
use Rattle.sql_subset.specs.declared.stmt.RefreshMode.{RefreshMode}
use Rattle.sql_subset.specs.declared.stmt.RefreshMode.TheVariants.{Full, Incremental}
use Rattle.cache_tier.specs.Groups.{Group, is_on, is_read_only}
use Rattle.cache_tier.specs.Sets.{Choice}
use Rattle.stored_tier.specs.Lists.{is_by_use}
use Rattle.stored_tier.specs.Refreshing.{is_filled}

abbrev pub is_full : RefreshMode → Bool
is_full Incremental = false
is_full Full = true

-- A READONLY group of MODE INCREMENTAL. Where its instances leave by last use it is dynamic: of an explicit one those
-- that are new at the bank would come as the newest.
abbrev pub goes_by_changes : Group → Bool
goes_by_changes g =
    is_read_only g && not (is_full g.def.mode) && (g.def.dynamic || not (is_by_use g.def.aging))

-- Where the group is chosen, it goes by changes, and where it keeps rows its STATE is ON, and it is at this position.
-- (The bank keeps what changed since the positions of groups that are ON.)
abbrev pub is_ready_since : Choice → ℕ → ℕ → Group → Bool
is_ready_since chosen n place g =
    not (chosen place g)
    || (goes_by_changes g && (not (g.def.dynamic || g.loaded) || (is_on g.state && is_place n g.position)))

-- so it is of each, from a place on
abbrev pub are_ready_since : Choice → ℕ → ℕ → List Group → Bool
are_ready_since chosen n place [] = true
are_ready_since chosen n place (g ∷ groups) =
    is_ready_since chosen n place g && are_ready_since chosen n (suc place) groups

-- the position of the first of these
abbrev pub first_position : Choice → ℕ → List Group → Option ℕ
first_position filled place [] = None
first_position filled place (g ∷ groups) =
    if filled place g then g.position else first_position filled (suc place) groups

abbrev pub since_where : Option ℕ → Choice → List Group → Option ℕ
since_where None chosen groups = None
since_where (Some n) chosen groups = if are_ready_since chosen n 0 groups then Some n else None

-- the position of the chosen groups that keep rows, where they have one and no chosen group is to be read whole
abbrev pub asked_since : Choice → List Group → Option ℕ
asked_since chosen groups = since_where (first_position (is_filled chosen None) 0 groups) chosen groups

-- the trees of these groups, from a place on
abbrev pub trees_of : Choice → ℕ → List Group → List Tree
trees_of filled place [] = []
trees_of filled place (g ∷ groups) =
    (if filled place g then g.def.tree ∷ [] else []) ++ trees_of filled (suc place) groups
