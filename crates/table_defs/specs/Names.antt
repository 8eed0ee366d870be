-- Tables and columns by their names. (TimesTen SQL Reference, "Names, namespace and parameters".)

use Rattle.std.specs.Prelude.{ℕ, List, Option, Some, None, Bool, ◌^◌, nat_eq, nat_lt, if◌then◌else◌, position}
use Rattle.std.specs.Cmp.Lexicographic.{pointwise}
use Rattle.std.specs.List.{list_any}
use Rattle.std.specs.Option.{option_and_then}
use Rattle.row_types.specs.declared.declaration.ColumnDeclaration.{ColumnDeclaration}
use Rattle.row_types.specs.tier_base.specs.declared.number.TableId.{TableId}
use Rattle.table_defs.specs.declared.definition.TableDef.{TableDef}

-- the same name
abbrev pub same_name : List ℕ → List ℕ → Bool
same_name a b = pointwise nat_eq a b

-- one of the names
abbrev pub is_listed : List (List ℕ) → List ℕ → Bool
is_listed names name = list_any (λ n. same_name n name) names

-- the number of the table at a place
abbrev pub table_id : ℕ → Option TableId
table_id place = if nat_lt place (2 ^ 32) then Some (record { 0 = place }) else None

-- the table of this name
abbrev pub place_of_table : List TableDef → List ℕ → Option TableId
place_of_table schema name = option_and_then table_id (position (λ def. same_name def.name name) schema)

-- the place of the declared column of this name
abbrev pub place_of_column : List ColumnDeclaration → List ℕ → Option ℕ
place_of_column columns name = position (λ c. same_name c.name name) columns
