-- A copy of some of the tables.

use Rattle.std.specs.Prelude.{ℕ, suc, List, [], ◌∷◌, Bool, nat_eq, if◌then◌else◌}
use Rattle.std.specs.List.{list_any}
use Rattle.std.specs.FinMap.{empty}
use Rattle.table_defs.specs.tier_base.specs.declared.number.TableId.{TableId}
use Rattle.indexed_rows.specs.Rows.{Table}

-- the table is one of these
abbrev pub is_one_of : List TableId → TableId → Bool
is_one_of tables t = list_any (λ one. nat_eq one.0 t.0) tables

-- the tables that were asked for, and the others without rows; the first of all is at this place
abbrev pub only_asked : List TableId → ℕ → List Table → List Table
only_asked asked place [] = []
only_asked asked place (table ∷ tables) =
    (if is_one_of asked (record { 0 = place }) then table else empty) ∷ only_asked asked (suc place) tables
