-- The INSERTs of a CSV file. (RFC 4180 and the crate csv say what a record and a field are; codes and their order are
-- this project's rule.)

use Rattle.std.specs.Prelude.{◌≡◌, ℕ, ◌+◌, ◌==◌, nat_le, nat_lt, Bool, true, false, ◌&&◌, ◌||◌, not, if◌then◌else◌, List, [], ◌∷◌, length, Option, Some, None, Result, Ok, Err}
use Rattle.std.specs.List.{list_all, list_any}
use Rattle.std.specs.Option.{option_map}
use Rattle.std.specs.Str.{is_utf8}
use Rattle.csv.specs.Reading.{default_config, records, strip_bom}
use Rattle.evaluator.specs.tier_base.specs.Limits.{greatest}
use Rattle.evaluator.specs.tier_base.specs.Names.{spells}
use Rattle.evaluator.specs.tier_base.specs.declared.code.Code.TheVariants as code
use Rattle.evaluator.specs.tier_base.specs.declared.limit.Limit.TheVariants.{Operations}
use Rattle.evaluator.specs.tier_base.specs.declared.number.TableId.{TableId}
use Rattle.evaluator.specs.row_types.specs.declared.column.Column.{Column}
use Rattle.evaluator.specs.row_types.specs.declared.column.Ty.{Ty}
use Rattle.evaluator.specs.row_types.specs.declared.column.Ty.TheVariants as ty
use Rattle.evaluator.specs.row_types.specs.declared.rule.Detail.TheVariants as detail
use Rattle.evaluator.specs.row_types.specs.declared.rule.Rule.{Rule}
use Rattle.evaluator.specs.row_types.specs.declared.rule.Refused.{Refused}
use Rattle.evaluator.specs.row_types.specs.declared.rule.Refused.TheVariants as refused
use Rattle.evaluator.specs.row_types.specs.declared.value.Value.{Value}
use Rattle.evaluator.specs.row_types.specs.declared.value.Value.TheVariants.{Null, Text, Time}
use Rattle.evaluator.specs.row_types.specs.Literals.{number_value}
use Rattle.evaluator.specs.row_types.specs.TimeTexts.{time_of}
use Rattle.evaluator.specs.expressions.specs.Trees.{Expr}
use Rattle.evaluator.specs.expressions.specs.Trees.{Literal}
use Rattle.evaluator.specs.table_defs.specs.declared.definition.TableDef.{TableDef}
use Rattle.evaluator.specs.declared.change.Action.TheVariants.{Insert}
use Rattle.evaluator.specs.declared.change.Change.{Change}
use Rattle.evaluator.specs.Rules.{about, added, limit, then_do}
use Rattle.evaluator.specs.Writes.{built}

-- the records of a file, each as its fields: those that csv reads with its defaults, the first one among them; a line
-- without bytes is none
abbrev pub records_in : List ℕ → List (List (List ℕ))
records_in bytes = records default_config (strip_bom bytes)

-- 101 of the record of this number
abbrev pub wrong_record : ℕ → Rule
wrong_record number = record { code = code.Syntax; detail = detail.Byte number }

-- the fields are the names of the columns, in their order and in any case
abbrev pub name_columns : List Column → List (List ℕ) → Bool
name_columns [] [] = true
name_columns (column ∷ columns) (field ∷ fields) = spells field column.name && name_columns columns fields
name_columns [] (field ∷ fields) = false
name_columns (column ∷ columns) [] = false

-- a number without a point
abbrev pub whole_value : List ℕ → Option Value
whole_value field = if list_any (λ b. b == 46) field then None else number_value field

-- a byte that may stand in a text: a tab, and no other control character
abbrev pub is_text_byte : ℕ → Bool
is_text_byte b = (b == 9) || (nat_le 32 b && not (b == 127))

-- the text of the field's bytes
abbrev pub plain_text : List ℕ → Option Value
plain_text field = if list_all is_text_byte field then Some (Text field) else None

-- the value that a field with bytes writes for a column of this type: a number as a literal writes it, without a point
-- for a column of integers; a text as it stands; a time as it is printed
abbrev pub value_written : Ty → List ℕ → Option Value
value_written ty.TtInteger field = whole_value field
value_written ty.TtBigint field = whole_value field
value_written (ty.Number precision scale) field = number_value field
value_written (ty.Varchar2 greatest) field = plain_text field
value_written ty.Timestamp field = option_map Time (time_of field)

-- the same of any field: that without bytes is NULL
abbrev pub value_in : Ty → List ℕ → Option Value
value_in t [] = Some Null
value_in t (b ∷ field) = value_written t (b ∷ field)

-- the value as a literal, or 105 of its column
abbrev pub literal_of : List ℕ → Option Value → Result Expr Rule
literal_of name None = Err (about code.OutOfRange name)
literal_of name (Some value) = Ok (Literal value)

-- the list of it
abbrev pub listed : {A : Type 0} → Result A Rule → Result (List A) Rule
listed r = then_do (λ x. Ok (x ∷ [])) r

-- the values of a record's fields, one for each column, or 105 of the first column whose field doesn't read
abbrev pub literals_in : List Column → List (List ℕ) → Result (List Expr) Rule
literals_in [] fields = Ok []
literals_in (column ∷ columns) [] = Ok []
literals_in (column ∷ columns) (field ∷ fields) =
    added (listed (literal_of column.name (value_in column.ty field))) (literals_in columns fields)

-- an INSERT of these values, one for each column of the table
abbrev pub insert_of : TableId → List Expr → Change
insert_of table values = record { table = table; action = Insert values }

-- the same where the columns keep the values, or the rule of an INSERT that they break: 105, then 106
abbrev pub kept_insert : TableId → List Column → List Expr → Result Change Rule
kept_insert table columns values = then_do (λ row. Ok (insert_of table values)) (built columns values [])

-- a field for each column, all of them UTF-8
abbrev pub is_record : List Column → List (List ℕ) → Bool
is_record columns fields = (length fields == length columns) && list_all is_utf8 fields

-- the INSERT of the record of this number: 101 of the record, then 105 of a field that doesn't read, then 105 and 106
-- of what was read
abbrev pub insert_in : TableId → List Column → ℕ → List (List ℕ) → Result Change Rule
insert_in table columns number fields =
    if is_record columns fields then then_do (kept_insert table columns) (literals_in columns fields)
    else Err (wrong_record number)

-- what the record of this number gives: number 0 is the header, which names the columns and gives nothing; a record
-- past the number of operations that a transaction may have is 119; any other one gives its INSERT
abbrev pub given_by : TableId → List Column → ℕ → List (List ℕ) → Result (List Change) Rule
given_by table columns number fields =
    if number == 0 then (if name_columns columns fields then Ok [] else Err (wrong_record 0))
    else (if nat_lt (greatest Operations) number then Err (limit Operations)
    else listed (insert_in table columns number fields))

-- what the records from this number on give, or what the first of them breaks; a file without a header is 101 at 0
abbrev pub inserts_from : TableId → List Column → ℕ → List (List (List ℕ)) → Result (List Change) Rule
inserts_from table columns number [] = if number == 0 then Err (wrong_record 0) else Ok []
inserts_from table columns number (fields ∷ records) =
    added (given_by table columns number fields) (inserts_from table columns (number + 1) records)

-- the INSERTs of the records in their order, or the first broken rule
abbrev pub inserts_of : TableId → TableDef → List (List (List ℕ)) → Result (List Change) Rule
inserts_of table def records = inserts_from table def.columns 0 records

-- the elements that a call answers, or the broken rule; memory may be wanting at any time
abbrev pub GivesAll : {A V : Type 0} → (V → List A) → Result (List A) Rule → Result V Refused → Type 0
GivesAll items r (Ok v) = r ≡ Ok (items v)
GivesAll items r (Err (refused.Rule e)) = r ≡ Err e
GivesAll items r (Err refused.Memory) = Unit {0}
