-- The columns that an INSERT or a SET names, and the row of expressions that they make.

use Rattle.std.specs.Prelude.{ℕ, List, [], ◌∷◌, ◌++◌, Option, Some, None, Bool, true, false, ◌&&◌, drop, nat_eq, position, find, slice_get, slice_set, Result, Ok, Err, if◌then◌else◌}
use Rattle.std.specs.List.{list_any}
use Rattle.std.specs.Option.{option_and_then, option_map}
use Rattle.evaluator.specs.tier_base.specs.declared.code.Code.{Code}
use Rattle.evaluator.specs.tier_base.specs.declared.code.Code.TheVariants as code
use Rattle.evaluator.specs.row_types.specs.declared.column.Column.{Column}
use Rattle.evaluator.specs.row_types.specs.declared.rule.Rule.{Rule}
use Rattle.evaluator.specs.expressions.specs.declared.typing.Family.{Family}
use Rattle.evaluator.specs.expressions.specs.Types.{agrees, family_of_type}
use Rattle.evaluator.specs.table_defs.specs.declared.definition.TableDef.{TableDef}
use Rattle.evaluator.specs.table_defs.specs.Names.{same_name}
use Rattle.evaluator.specs.Rules.{about, then_do}

-- the column of this name, by its name alone
abbrev pub column_named : List Column → List ℕ → Option ℕ
column_named columns name = position (λ column. same_name column.name name) columns

-- the place is among these
abbrev pub is_place : List ℕ → ℕ → Bool
is_place places place = list_any (λ other. nat_eq other place) places

-- 103 where there is no such column, or its place is among those before
abbrev pub unnamed : List ℕ → List ℕ → Option ℕ → Result ℕ Rule
unnamed before name None = Err (about code.UnknownColumn name)
unnamed before name (Some place) = if is_place before place then Err (about code.UnknownColumn name) else Ok place

-- the place of a column that isn't among those before, or 103
unfoldable pub target_of : List Column → List ℕ → List ℕ → Result ℕ Rule
target_of columns before name = unnamed before name (column_named columns name)

-- the places of the columns that are named, behind those before; 103 of the first name that is no column's, or that
-- stands there a second time
abbrev pub targets_behind : List Column → List ℕ → List (List ℕ) → Result (List ℕ) Rule
targets_behind columns before [] = Ok before
targets_behind columns before (name ∷ names) =
    then_do (λ place. targets_behind columns (before ++ place ∷ []) names) (target_of columns before name)

-- the value at the first of the places
abbrev pub put_first : {A : Type 0} → List A → List ℕ → A → List A
put_first row [] value = row
put_first row (place ∷ places) value = slice_set row place value

-- each value at its column's place of the row
abbrev pub arranged : {A : Type 0} → List A → List ℕ → List A → List A
arranged row places [] = row
arranged row places (value ∷ values) = arranged (put_first row places value) (drop 1 places) values

-- the family of the column at a place
abbrev pub family_at : List Column → ℕ → Option Family
family_at columns place = option_map (λ column. family_of_type column.ty) (slice_get columns place)

-- as many values as columns, and each of the family of its column, or NULL
abbrev pub suit_columns : List Column → List ℕ → List (Result (Option Family) Code) → Bool
suit_columns columns [] [] = true
suit_columns columns [] (family ∷ families) = false
suit_columns columns (place ∷ places) [] = false
suit_columns columns (place ∷ places) (family ∷ families) =
    agrees (Ok (family_at columns place)) family && suit_columns columns places families

-- the first of the columns that is of the primary key
abbrev pub key_column_of : TableDef → List ℕ → Option (List ℕ)
key_column_of def targets =
    option_and_then (λ place. option_map (λ column. column.name) (slice_get def.columns place))
    (find (is_place def.primary_key) targets)
