-- Declared tables: the first rule that a declaration breaks, and the definition that it makes. (TimesTen SQL
-- Reference, "CREATE TABLE"; the codes and their order are this project's rule.)

use Rattle.std.specs.Prelude.{◌≡◌, ℕ, List, [], ◌∷◌, ◌++◌, ◌+◌, ◌*◌, ◌-◌, Option, Some, None, Bool, true, false, ◌&&◌, ◌||◌, not, ◌==◌, nat_eq, nat_le, nat_lt, length, Result, Ok, Err, map, find, fold, count_by, position, slice_get, is_some, unwrap_or, codes, if◌then◌else◌}
use Rattle.std.specs.Char.{is_ascii_digit}
use Rattle.std.specs.List.{list_all}
use Rattle.std.specs.Option.{option_and_then, option_map, option_or}
use Rattle.row_types.specs.tier_base.specs.Limits.{greatest}
use Rattle.row_types.specs.tier_base.specs.declared.code.Code.{Code}
use Rattle.row_types.specs.tier_base.specs.declared.code.Code.TheVariants.{UnknownTable, UnknownColumn, NameInUse, TypeMismatch, OutOfRange}
use Rattle.row_types.specs.tier_base.specs.declared.limit.Limit.{Limit}
use Rattle.row_types.specs.tier_base.specs.declared.limit.Limit.TheVariants.{Tables, Columns, KeyColumns}
use Rattle.row_types.specs.declared.column.Column.{Column}
use Rattle.row_types.specs.declared.column.Ty.{Ty}
use Rattle.row_types.specs.declared.column.Ty.TheVariants as ty
use Rattle.row_types.specs.declared.declaration.ColumnDeclaration.{ColumnDeclaration}
use Rattle.row_types.specs.declared.declaration.ForeignKeyDeclaration.{ForeignKeyDeclaration}
use Rattle.row_types.specs.declared.declaration.TableDeclaration.{TableDeclaration}
use Rattle.row_types.specs.declared.declaration.TypeDeclaration.{TypeDeclaration}
use Rattle.row_types.specs.declared.declaration.TypeDeclaration.TheVariants.{TtInteger, TtBigint, Number, Varchar2, Timestamp}
use Rattle.row_types.specs.declared.rule.Detail.{Detail}
use Rattle.row_types.specs.declared.rule.Detail.TheVariants.{Nothing, Name, NoType}
use Rattle.row_types.specs.declared.rule.Rule.{Rule}
use Rattle.row_types.specs.declared.rule.Refused.{Refused}
use Rattle.row_types.specs.declared.rule.Refused.TheVariants as refused
use Rattle.table_defs.specs.declared.definition.ForeignKey.{ForeignKey}
use Rattle.table_defs.specs.declared.definition.TableDef.{TableDef}
use Rattle.table_defs.specs.Names.{same_name, is_listed, place_of_table, place_of_column}

-- the refusal tells this rule; memory may be wanting at any time
abbrev pub IsRefusedBy : Option Rule → Refused → Type 0
IsRefusedBy fault (refused.Rule rule) = fault ≡ Some rule
IsRefusedBy fault refused.Memory = Unit {0}

-- there is no fault, or it is told
abbrev pub Tells : {X : Type 0} → Result X Refused → Option Rule → Type 0
Tells (Ok x) fault = fault ≡ None
Tells (Err e) fault = IsRefusedBy fault e

abbrev pub broken : Code → Detail → Option Rule
broken code detail = Some (record { code = code; detail = detail })

abbrev pub broken_at : Code → Option (List ℕ) → Option Rule
broken_at code None = None
broken_at code (Some name) = broken code (Name name)

-- the names of the PRIMARY KEY clause, none where there is no clause
abbrev pub key_names : TableDeclaration → List (List ℕ)
key_names d = unwrap_or d.primary_key []

-- the names of the FOREIGN KEY clause, none where there is no clause
abbrev pub foreign_names : TableDeclaration → List (List ℕ)
foreign_names d = unwrap_or (option_map (λ f. f.columns) d.foreign_key) []

-- 102: the parent isn't there
abbrev pub missing_parent : List TableDef → Option ForeignKeyDeclaration → Option (List ℕ)
missing_parent schema None = None
missing_parent schema (Some f) = if is_some (place_of_table schema f.parent) then None else Some f.parent

-- the first column whose name stands before it
abbrev pub first_repeated : List ColumnDeclaration → List ColumnDeclaration → Option (List ℕ)
first_repeated before [] = None
first_repeated before (c ∷ columns) =
    if is_some (place_of_column before c.name) then Some c.name else first_repeated (before ++ c ∷ []) columns

-- the first of the names that is no column's or stands before it
abbrev pub first_wrong : List ColumnDeclaration → List (List ℕ) → List (List ℕ) → Option (List ℕ)
first_wrong columns before [] = None
first_wrong columns before (name ∷ names) =
    if is_some (place_of_column columns name)
    && not (is_listed before name) then first_wrong columns (before ++ name ∷ []) names else Some name

-- 103: in the order of the text, the columns first and then the clauses
abbrev pub wrong_name : TableDeclaration → Option (List ℕ)
wrong_name d =
    option_or (first_repeated [] d.columns) (option_or (first_wrong d.columns [] (key_names d))
    (first_wrong d.columns [] (foreign_names d)))

-- 113: the name is another table's
abbrev pub taken_name : List TableDef → List ℕ → Option (List ℕ)
taken_name schema name = if is_some (place_of_table schema name) then Some name else None

-- how many primary keys there are: columns with PRIMARY KEY behind them, and the clause
abbrev pub key_count : TableDeclaration → ℕ
key_count d = count_by (λ c. c.primary_key) d.columns + (if length (key_names d) == 0 then 0 else 1)

-- the number that digits write
abbrev pub number_of : List ℕ → ℕ
number_of digits = fold (λ n digit. 10 * n + (digit - 48)) 0 digits

-- VARCHAR2 takes a number from 1 to 4000
abbrev pub text_type : List ℕ → Option Ty
text_type digits =
    if list_all is_ascii_digit digits && nat_le 1 (number_of digits)
    && nat_le (number_of digits) 4000 then Some (ty.Varchar2 (number_of digits)) else None

-- NUMBER takes a precision from 1 to 18 and a scale from 0 to it
abbrev pub number_type : List ℕ → List ℕ → Option Ty
number_type precision scale =
    if list_all is_ascii_digit precision && list_all is_ascii_digit scale && nat_le 1 (number_of precision)
    && nat_le (number_of precision) 18 && nat_le (number_of scale) (number_of precision)
    then Some (ty.Number (number_of precision) (number_of scale)) else None

-- the type, where there is such a type; a scale that isn't there is 0
abbrev pub type_of : TypeDeclaration → Option Ty
type_of TtInteger = Some ty.TtInteger
type_of TtBigint = Some ty.TtBigint
type_of (Number precision scale) = number_type precision (unwrap_or scale (codes "0"))
type_of (Varchar2 digits) = text_type digits
type_of Timestamp = Some ty.Timestamp

abbrev pub same_type : Ty → Ty → Bool
same_type ty.TtInteger ty.TtInteger = true
same_type ty.TtBigint ty.TtBigint = true
same_type (ty.Number p s) (ty.Number q r) = nat_eq p q && nat_eq s r
same_type (ty.Varchar2 a) (ty.Varchar2 b) = nat_eq a b
same_type ty.Timestamp ty.Timestamp = true
same_type a b = false

abbrev pub has_type : Option ColumnDeclaration → Ty → Bool
has_type None wanted = false
has_type (Some c) wanted = is_type (type_of c.ty)
  where
    is_type : Option Ty → Bool
    is_type None = false
    is_type (Some t) = same_type t wanted

-- the column has the type of the parent's column, which has the name behind REFERENCES
abbrev pub refers_to : List ColumnDeclaration → List ℕ → List ℕ → Option Column → Bool
refers_to columns name other None = false
refers_to columns name other (Some column) =
    same_name column.name other && has_type (find (λ c. same_name c.name name) columns) column.ty

-- the columns go with the whole primary key of the parent, in its order
abbrev pub refers_to_key : List ColumnDeclaration → List Column → List (List ℕ) → List (List ℕ) → List ℕ → Bool
refers_to_key columns parent [] [] [] = true
refers_to_key columns parent (name ∷ names) (other ∷ others) (place ∷ places) =
    refers_to columns name other (slice_get parent place) && refers_to_key columns parent names others places
refers_to_key columns parent names others places = false

abbrev pub is_reference : List ColumnDeclaration → ForeignKeyDeclaration → Option TableDef → Bool
is_reference columns f None = false
is_reference columns f (Some parent) =
    refers_to_key columns parent.columns f.columns f.parent_columns parent.primary_key

-- the definition of the parent
abbrev pub parent_of : List TableDef → ForeignKeyDeclaration → Option TableDef
parent_of schema f = option_and_then (λ t. slice_get schema t.0) (place_of_table schema f.parent)

abbrev pub is_sound_reference : TableDeclaration → List TableDef → Option ForeignKeyDeclaration → Bool
is_sound_reference d schema None = true
is_sound_reference d schema (Some f) = is_reference d.columns f (parent_of schema f)

-- 104: no primary key, or two, or a foreign key that isn't the parent's primary key
abbrev pub key_fault : TableDeclaration → List TableDef → Option Rule
key_fault d schema =
    if key_count d == 1 && is_sound_reference d schema d.foreign_key then None else broken TypeMismatch Nothing

-- 105: a column of a type that there isn't
abbrev pub type_fault : List ColumnDeclaration → Option Rule
type_fault columns = if list_all (λ c. is_some (type_of c.ty)) columns then None else broken OutOfRange NoType

-- the first rule that the declaration breaks
abbrev pub fault_of : TableDeclaration → List TableDef → Option Rule
fault_of d schema =
    option_or (broken_at UnknownTable (missing_parent schema d.foreign_key))
    (option_or (broken_at UnknownColumn (wrong_name d))
    (option_or (broken_at NameInUse (taken_name schema d.name))
    (option_or (key_fault d schema) (type_fault d.columns))))

-- the places of the columns of these names
abbrev pub places_of : List ColumnDeclaration → List (List ℕ) → List ℕ
places_of columns names = map (λ name. unwrap_or (place_of_column columns name) 0) names

-- the primary key: the clause's, or else the column's with PRIMARY KEY behind it
abbrev pub key_places : TableDeclaration → List ℕ
key_places d =
    if length (key_names d) == 0 then unwrap_or (position (λ c. c.primary_key) d.columns) 0
    ∷ [] else places_of d.columns (key_names d)

-- a column that is declared so refuses NULL, and each column of a key
abbrev pub refuses_null : TableDeclaration → ColumnDeclaration → Bool
refuses_null d c = c.not_null || c.primary_key || is_listed (key_names d) c.name || is_listed (foreign_names d) c.name

abbrev pub resolved_column : TableDeclaration → ColumnDeclaration → Column
resolved_column d c = record {
  name = c.name;
  ty = unwrap_or (type_of c.ty) ty.TtInteger;
  not_null = refuses_null d c;
}

abbrev pub resolved_reference : TableDeclaration → List TableDef → ForeignKeyDeclaration → ForeignKey
resolved_reference d schema f = record {
  columns = places_of d.columns f.columns;
  parent = unwrap_or (place_of_table schema f.parent) (record { 0 = 0 });
  cascade = f.cascade;
}

-- the definition that the declaration makes, where it breaks no rule
abbrev pub resolved : TableDeclaration → List TableDef → TableDef
resolved d schema = record {
  name = d.name;
  columns = map (resolved_column d) d.columns;
  primary_key = key_places d;
  foreign_key = option_map (resolved_reference d schema) d.foreign_key;
}

-- a declaration that breaks no rule over some schema made the definition
pub record IsChecked (def : TableDef) : Type 0 where
  pub declaration : TableDeclaration
  pub schema : List TableDef
  pub sound : fault_of declaration schema ≡ None
  pub is : def ≡ resolved declaration schema

-- the columns of the foreign key
abbrev pub foreign_places : Option ForeignKey → List ℕ
foreign_places None = []
foreign_places (Some foreign) = foreign.columns

-- the first limit that the table would pass, put behind this schema
abbrev pub limit_of : TableDef → List TableDef → Option Limit
limit_of def schema =
    if nat_le (greatest Tables) (length schema) then Some Tables else
    if nat_lt (greatest Columns) (length def.columns) then Some Columns else
    if nat_lt (greatest KeyColumns) (length def.primary_key)
    || nat_lt (greatest KeyColumns) (length (foreign_places def.foreign_key)) then Some KeyColumns else None
