-- What operations make of own rows. (This project's rule.)

use Rattle.std.specs.Prelude.{◌≡◌, ℕ, ◌+◌, ◌<◌, ◌^◌, List, [], ◌∷◌, Option, Some, None, length, slice_get, slice_set, if◌then◌else◌}
use Rattle.std.specs.FinMap.{contains_key, insert, len, remove}
use Rattle.table_state.specs.row_types.specs.declared.value.Value.{Value}
use Rattle.table_state.specs.tier_base.specs.declared.number.TableId.{TableId}
use Rattle.table_state.specs.table_defs.specs.declared.definition.TableDef.{TableDef}
use Rattle.table_state.specs.indexed_rows.specs.Rows.{key_of, put_in}
use Rattle.table_state.specs.declared.operation.Op.{Op}
use Rattle.table_state.specs.declared.operation.Op.TheVariants.{Insert, Update, Delete}
use Rattle.table_state.specs.Operations.{table_of}
use Rattle.table_state.specs.Tables.{TableState, table_at}
use Rattle.own_rows.specs.declared.own.OwnRows.{OwnRows}
use Rattle.own_rows.specs.declared.steps.Step.{Step}
use Rattle.own_rows.specs.declared.steps.Step.TheVariants.{New, Changed, Out}
use Rattle.own_rows.specs.Over.{Lies}

-- A row goes in. Where its key's row was taken out before, the table below has the key; else it is fresh.
abbrev pub with_new : List Value → List Value → OwnRows → OwnRows
with_new key row own = record {
  live = insert own.live key row;
  fresh = if contains_key own.gone key then own.fresh else put_in own.fresh key [];
  gone = if contains_key own.gone key then remove own.gone key else own.gone;
}

-- a row gets other values
abbrev pub with_changed : List Value → List Value → OwnRows → OwnRows
with_changed key row own = record { live = insert own.live key row; fresh = own.fresh; gone = own.gone }

-- A row leaves. A fresh one is as if it had never been.
abbrev pub without : List Value → OwnRows → OwnRows
without key own = record {
  live = remove own.live key;
  fresh = if contains_key own.fresh key then remove own.fresh key else own.fresh;
  gone = if contains_key own.fresh key then own.gone else put_in own.gone key [];
}

-- an operation on the rows of its table
abbrev pub laid_in : TableDef → Op → OwnRows → OwnRows
laid_in def (Insert t row) own = with_new (key_of def.primary_key row) row own
laid_in def (Update t old new) own = with_changed (key_of def.primary_key new) new own
laid_in def (Delete t old) own = without (key_of def.primary_key old) own

abbrev pub laid_with : Option TableDef → Option OwnRows → Op → List OwnRows → List OwnRows
laid_with None own op owns = owns
laid_with (Some def) None op owns = owns
laid_with (Some def) (Some own) op owns = slice_set owns (table_of op).0 (laid_in def op own)

-- an operation more
abbrev pub laid : List TableDef → Op → List OwnRows → List OwnRows
laid schema op owns = laid_with (slice_get schema (table_of op).0) (slice_get owns (table_of op).0) op owns

-- operations more, one after another
abbrev pub laid_all : List TableDef → List Op → List OwnRows → List OwnRows
laid_all schema [] owns = owns
laid_all schema (op ∷ ops) owns = laid_all schema ops (laid schema op owns)

-- there is room for another row
pub record HasRoom (own : OwnRows) : Type 0 where
  pub live : len own.live + 1 < 2 ^ 63
  pub fresh : len own.fresh + 1 < 2 ^ 63
  pub gone : len own.gone + 1 < 2 ^ 63

-- Each table now has the own rows over those that it had, and where there are none it is as it was.
pub record LiesOn (owns : List OwnRows) (s now : TableState) : Type 0 where
  pub own :
      (t : TableId) (own : OwnRows) → slice_get owns t.0 ≡ Some own
      → Lies own.live own.fresh own.gone (table_at s t) (table_at now t)
  pub other : (t : TableId) → slice_get owns t.0 ≡ None → table_at now t ≡ table_at s t
  pub schema : now.schema ≡ s.schema
  pub whole : length now.tables ≡ length s.tables

-- what a prepared step makes of own rows
abbrev pub stepped : Step → OwnRows → OwnRows
stepped (New row mark) own = with_new row.0 row.1 own
stepped (Changed row) own = with_changed row.0 row.1 own
stepped (Out mark) own = without mark.0 own

-- marks have no values, and that of a new row has its key
abbrev pub IsReady : Step → Type 0
IsReady (New row mark) = (mark.0 ≡ row.0) × (mark.1 ≡ [])
IsReady (Changed row) = Unit {0}
IsReady (Out mark) = mark.1 ≡ []

-- a step on one of the tables
abbrev pub stepped_with : Option OwnRows → TableId → Step → List OwnRows → List OwnRows
stepped_with None t step owns = owns
stepped_with (Some own) t step owns = slice_set owns t.0 (stepped step own)

abbrev pub stepped_all : List (TableId × Step) → List OwnRows → List OwnRows
stepped_all [] owns = owns
stepped_all (x ∷ xs) owns = stepped_all xs (stepped_with (slice_get owns x.0.0) x.0 x.1 owns)

-- there is room for so many rows more in each table
abbrev pub HaveRoom : ℕ → List OwnRows → Type 0
HaveRoom n owns =
    (i : ℕ) (own : OwnRows) → slice_get owns i ≡ Some own
    → (len own.live + n < 2 ^ 63) × (len own.fresh + n < 2 ^ 63) × (len own.gone + n < 2 ^ 63)

-- each step is ready, and its table is there
abbrev pub AreReady : ℕ → List (TableId × Step) → Type 0
AreReady n [] = Unit {0}
AreReady n (x ∷ xs) = (x.0.0 < n) × IsReady x.1 × AreReady n xs

-- the step is ready and makes what the operation makes
pub record IsStepOf (def : TableDef) (op : Op) (step : Step) : Type 0 where
  pub ready : IsReady step
  pub makes : (own : OwnRows) → stepped step own ≡ laid_in def op own

abbrev pub IsStepIn : Option TableDef → Op → Step → Type 0
IsStepIn None op step = ⊥
IsStepIn (Some def) op step = IsStepOf def op step

-- the steps are those of the operations
abbrev pub AreStepsOf : List TableDef → List Op → List (TableId × Step) → Type 0
AreStepsOf schema [] [] = Unit {0}
AreStepsOf schema [] (x ∷ xs) = ⊥
AreStepsOf schema (op ∷ ops) [] = ⊥
AreStepsOf schema (op ∷ ops) (x ∷ xs) =
    (x.0 ≡ table_of op) × IsStepIn (slice_get schema (table_of op).0) op x.1 × AreStepsOf schema ops xs
