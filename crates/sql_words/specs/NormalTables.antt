-- The normal form of a table: one primary key stands as a clause of its own, its columns and those of the foreign key
-- are NOT NULL, and the numbers of types stand by value, a scale that isn't written being 0 (this project's rule).
use Rattle.std.specs.Prelude.{ℕ, Bool, nat_eq, ◌||◌, ◌&&◌, List, [], ◌∷◌, map, codes, bytes_eq, Option, Some, None, if◌then◌else◌}
use Rattle.std.specs.List.{filter, list_any}
use Rattle.std.specs.Option.{option_or, is_none}
use Rattle.sql_phrases.specs.row_types.specs.declared.declaration.TypeDeclaration.{TypeDeclaration}
use Rattle.sql_phrases.specs.row_types.specs.declared.declaration.TypeDeclaration.TheVariants as types
use Rattle.sql_phrases.specs.row_types.specs.declared.declaration.ColumnDeclaration.{ColumnDeclaration}
use Rattle.sql_phrases.specs.row_types.specs.declared.declaration.ForeignKeyDeclaration.{ForeignKeyDeclaration}
use Rattle.sql_phrases.specs.row_types.specs.declared.declaration.TableDeclaration.{TableDeclaration}

-- digits without the zeros in front; no digits are 0
abbrev pub by_value : List ℕ → List ℕ
by_value [] = codes "0"
by_value (b ∷ []) = b ∷ []
by_value (b ∷ c ∷ digits) = if nat_eq b 48 then by_value (c ∷ digits) else b ∷ c ∷ digits

-- a scale that isn't written is 0
abbrev pub scale_by_value : Option (List ℕ) → List ℕ
scale_by_value None = codes "0"
scale_by_value (Some digits) = by_value digits

abbrev pub normal_type : TypeDeclaration → TypeDeclaration
normal_type types.TtInteger = types.TtInteger
normal_type types.TtBigint = types.TtBigint
normal_type (types.Varchar2 digits) = types.Varchar2 (by_value digits)
normal_type (types.Number precision scale) = types.Number (by_value precision) (Some (scale_by_value scale))
normal_type types.Timestamp = types.Timestamp

-- the columns that have PRIMARY KEY behind them
abbrev pub marked : List ColumnDeclaration → List (List ℕ)
marked columns = map (λ c. c.name) (filter (λ c. c.primary_key) columns)

-- the key that is declared once: by a clause, or behind one column
abbrev pub single_key : Option (List (List ℕ)) → List (List ℕ) → Option (List (List ℕ))
single_key (Some names) [] = Some names
single_key None (name ∷ []) = Some (name ∷ [])
single_key clause names = None

abbrev pub is_in : List ℕ → List (List ℕ) → Bool
is_in name names = list_any (λ other. bytes_eq name other) names

-- the columns of a key, where there is one
abbrev pub key_columns : Option (List (List ℕ)) → List (List ℕ)
key_columns None = []
key_columns (Some names) = names

-- the columns of a foreign key, where there is one
abbrev pub foreign_columns : Option ForeignKeyDeclaration → List (List ℕ)
foreign_columns None = []
foreign_columns (Some key) = key.columns

-- a column of a table with this key, or without one that is declared once, and with these columns of a foreign key
abbrev pub normal_column : Option (List (List ℕ)) → List (List ℕ) → ColumnDeclaration → ColumnDeclaration
normal_column key foreign c = record {
  name = c.name;
  ty = normal_type c.ty;
  not_null = is_in c.name (key_columns key) || is_in c.name foreign || c.not_null;
  primary_key = is_none key && c.primary_key;
}

-- a table with this key, or without one that is declared once
abbrev pub with_key : Option (List (List ℕ)) → TableDeclaration → TableDeclaration
with_key key table = record {
  name = table.name;
  columns = map (normal_column key (foreign_columns table.foreign_key)) table.columns;
  primary_key = option_or key table.primary_key;
  foreign_key = table.foreign_key;
}

-- A table that declares no primary key or more than one keeps them as they are.
abbrev pub normal_table : TableDeclaration → TableDeclaration
normal_table table = with_key (single_key table.primary_key (marked table.columns)) table
