-- Parts of the reading of a record, which no other crate needs.

use Rattle.std.specs.Prelude.{◌≡◌, ℕ, ◌+◌, true, List, ◌∷◌, ◌++◌, Result, Ok, Err, drop}
use Rattle.std.specs.Borrow.{Bor}
use Rattle.csv.specs.Records.{Row, fields_of}
use Rattle.evaluator.specs.row_types.specs.declared.column.Column.{Column}
use Rattle.evaluator.specs.row_types.specs.declared.rule.Rule.{Rule}
use Rattle.evaluator.specs.row_types.specs.declared.rule.Refused.{Refused}
use Rattle.evaluator.specs.row_types.specs.declared.rule.Refused.TheVariants as refused
use Rattle.csv_import.specs.Inserts.{is_record}

-- the fields from a place on begin with this one
abbrev pub BeginsFrom : List (List ℕ) → ℕ → Bor (List ℕ) → Type 0
BeginsFrom fields place field = drop place fields ≡ field.now ∷ drop (place + 1) fields

-- this text has the fields, one for each column
abbrev pub IsRecord : List Column → List (List ℕ) → Row → Type 0
IsRecord columns fields text = (is_record columns fields ≡ true) × (fields_of text ≡ fields)

-- what a call puts behind a list, or the broken rule; memory may be wanting at any time
abbrev pub PutsAll : {A : Type 0} → Result (List A) Rule → Result (Unit {0}) Refused → (old new : List A) → Type 0
PutsAll {A} r (Ok u) old new = (more : List A) × (r ≡ Ok more) × (new ≡ old ++ more)
PutsAll r (Err (refused.Rule e)) old new = r ≡ Err e
PutsAll r (Err refused.Memory) old new = Unit {0}
