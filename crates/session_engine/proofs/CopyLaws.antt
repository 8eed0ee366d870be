-- Rows that stand under their keys and fit their columns, by place in key order.
use Rattle.std.proofs.Common.{◌≡◌, ℕ, ◌+◌, ◌<◌, ◌≤◌, ◌⊎◌, inl, inr, Some, List, length, slice_get, sym, ap, subst, ◌∙◌, arith}
use Rattle.std.proofs.lemmas.Bool.{cases_lt}
use Rattle.std.specs.FinMap.{entries, len, len-entries}
use Rattle.row_types.specs.declared.value.Value.{Value}
use Rattle.table_defs.specs.declared.definition.TableDef.{TableDef}
use Rattle.indexed_rows.specs.Rows.{Table, key_of}
use Rattle.indexed_rows.proofs.EntryLaws.{has_at, mapped_at, read}
use Rattle.table_state.specs.Keyed.{HasFit, IsKeyed, IsUnderKeys}
use Rattle.table_state.specs.Tables.{TableState}
use Rattle.session_engine.specs.Copying.{StandsAt}

below : (i n : ℕ) → i < n + 1 → (i < n) ⊎ (i ≡ n)
below i n lt = elim (cases_lt i n) [
  | inl less ↦ inl less
  | inr more ↦ inr (omega (arith, lt, more))
]

-- the rows at the first so many places do
abbrev pub StandBelow : TableDef → Table → ℕ → Type 0
StandBelow def table n = (i : ℕ) → i < n → StandsAt def table i

pub stand_none : (def : TableDef) (table : Table) → StandBelow def table 0
stand_none def table i lt = absurd (omega (arith, lt))

pub stand_more : (def : TableDef) (table : Table) (n : ℕ) → StandsAt def table n → StandBelow def table n → StandBelow def table (n + 1)
stand_more def table n here all i lt = by (below i n lt)
  where
    by : (i < n) ⊎ (i ≡ n) → StandsAt def table i
    by (inl less) = all i less
    by (inr same) = subst (StandsAt def table) (sym same) here

pub all_stand : (def : TableDef) (table : Table) (n : ℕ) → len table ≤ n → StandBelow def table n → IsUnderKeys def.primary_key table × HasFit def.columns table
all_stand def table n long all = (
  λ key row e.
      let at = has_at table key row e in
      let it = all at.0 (within key row at.0 at.1) row (mapped_at (λ z. z.1) (entries table) at.0 (key, row) at.1) in
      let both : Some (key_of def.primary_key row) ≡ Some key = sym it.0 ∙ mapped_at (λ z. z.0) (entries table) at.0 (key, row) at.1 in
      let same : key_of def.primary_key row ≡ key = cc in same,
  λ key row e.
      let at = has_at table key row e in
      (all at.0 (within key row at.0 at.1) row (mapped_at (λ z. z.1) (entries table) at.0 (key, row) at.1)).1,
)
  where
    within : (key row : List Value) (i : ℕ) → slice_get (entries table) i ≡ Some (key, row) → i < n
    within key row i at = let lt = (read (entries table) i (key, row) (key, row) at).0 in omega (arith, lt, len-entries table, long)

-- the tables at the first so many places have such rows
abbrev pub KeyedBelow : TableState → ℕ → Type 0
KeyedBelow s n =
    (i : ℕ) (def : TableDef) (table : Table) → i < n → slice_get s.schema i ≡ Some def → slice_get s.tables i ≡ Some table → IsUnderKeys def.primary_key table × HasFit def.columns table

pub keyed_none : (s : TableState) → KeyedBelow s 0
keyed_none s i def table lt = absurd (omega (arith, lt))

pub keyed_more : (s : TableState) (n : ℕ) → ((def : TableDef) (table : Table) → slice_get s.schema n ≡ Some def → slice_get s.tables n ≡ Some table → IsUnderKeys def.primary_key table × HasFit def.columns table) → KeyedBelow s n → KeyedBelow s (n + 1)
keyed_more s n here all i def table lt = by (below i n lt)
  where
    by : (i < n) ⊎ (i ≡ n) → slice_get s.schema i ≡ Some def → slice_get s.tables i ≡ Some table → IsUnderKeys def.primary_key table × HasFit def.columns table
    by (inl less) at rows = all i def table less at rows
    by (inr same) at rows = here def table (ap (slice_get s.schema) (sym same) ∙ at) (ap (slice_get s.tables) (sym same) ∙ rows)

pub all_keyed : (s : TableState) (n : ℕ) → length s.schema ≤ n → KeyedBelow s n → IsKeyed s
all_keyed s n long all t def table at rows =
    let lt = (read s.schema t def def at).0 in all t def table (omega (arith, lt, long)) at rows
