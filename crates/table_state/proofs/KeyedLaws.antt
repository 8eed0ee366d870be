-- Operations leave rows under their keys, and rows that fit the columns.
use Rattle.std.proofs.Common.{◌≡◌, ℕ, zero, suc, Bool, true, false, cond, ◌&&◌, Option, Some, None, is_some, T, List, [], ◌∷◌, ◌++◌, length, slice_get, slice_set, ◌⊎◌, inl, inr, refl, sym, ap, subst, ◌∙◌, arith}
use Rattle.std.specs.Option.{option_and_then, option_map}
use Rattle.std.specs.Ordering.{eq_by_cmp, is_eq}
use Rattle.std.specs.declared.cmp.Ordering.{Ordering}
use Rattle.std.specs.declared.cmp.Ordering.TheVariants.{Less, Equal, Greater}
use Rattle.std.specs.FinMap as fm
use Rattle.table_defs.specs.row_types.specs.declared.column.Column.{Column}
use Rattle.table_defs.specs.row_types.specs.declared.value.Value.{Value}
use Rattle.table_defs.specs.row_types.specs.Order.{key_order}
use Rattle.table_defs.specs.row_types.proofs.OrderLaws.{key_total, key_exact}
use Rattle.table_defs.specs.tier_base.specs.declared.number.TableId.{TableId}
use Rattle.table_defs.specs.declared.definition.TableDef.{TableDef}
use Rattle.table_state.specs.declared.history.Entry.{Entry}
use Rattle.table_state.specs.declared.history.Entry.TheVariants.{Definition, Foreign, Own}
use Rattle.table_state.specs.declared.operation.Op.{Op}
use Rattle.table_state.specs.declared.operation.Op.TheVariants.{Insert, Update, Delete}
use Rattle.table_state.specs.Histories.{after_entry, no_tables, state_from, state_of}
use Rattle.table_state.specs.Independence.{IsWhole}
use Rattle.table_state.proofs.IndependenceLaws.{entry_whole}
use Rattle.table_state.specs.Operations.{applied, applied_all, on_table, only_if}
use Rattle.indexed_rows.specs.Rows.{Table, key_of}
use Rattle.table_state.specs.Tables.{TableState, fits_columns}
use Rattle.table_state.specs.Keyed.{HasFit, IsKeyed, IsUnderKeys}

abbrev Row : Type 0
Row = List Value

pub none_is_under : (places : List ℕ) → IsUnderKeys places fm.empty
none_is_under places key row h = let e : None ≡ Some row = sym (fm.get-empty key_order key) ∙ h in absurd (subst T (sym (ap is_some e)) tt)

insert_under : (places : List ℕ) (m : Table) (row : Row) → IsUnderKeys places m → IsUnderKeys places (fm.insert m (key_of places row) row)
insert_under places m row under key found h = by (key_order key (key_of places row)) refl (sym (fm.get-insert key_total m (key_of places row) row key) ∙ h)
  where
    by : (o : Ordering) → key_order key (key_of places row) ≡ o → cond (is_eq o) (Some row) (fm.get m key) ≡ Some found → key_of places found ≡ key
    by Less e h = under key found h
    by Equal e h = let same : row ≡ found = cc in ap (key_of places) (sym same) ∙ sym (key_exact key (key_of places row) e)
    by Greater e h = under key found h

remove_under : (places : List ℕ) (m : Table) (gone : Row) → IsUnderKeys places m → IsUnderKeys places (fm.remove m gone)
remove_under places m gone under key found h = by (eq_by_cmp key_order key gone) (sym (fm.get-remove key_total m gone key) ∙ h)
  where
    by : (b : Bool) → cond b None (fm.get m key) ≡ Some found → key_of places found ≡ key
    by true h = cc
    by false h = under key found h

-- and each fits the columns

pub none_has_fit : (columns : List Column) → HasFit columns fm.empty
none_has_fit columns key row h = let e : None ≡ Some row = sym (fm.get-empty key_order key) ∙ h in absurd (subst T (sym (ap is_some e)) tt)

insert_fit : (columns : List Column) (m : Table) (at row : Row) → fits_columns columns row ≡ true → HasFit columns m → HasFit columns (fm.insert m at row)
insert_fit columns m at row fits wide key found h = by (eq_by_cmp key_order key at) (sym (fm.get-insert key_total m at row key) ∙ h)
  where
    by : (b : Bool) → cond b (Some row) (fm.get m key) ≡ Some found → fits_columns columns found ≡ true
    by true h = let same : row ≡ found = cc in ap (fits_columns columns) (sym same) ∙ fits
    by false h = wide key found h

remove_fit : (columns : List Column) (m : Table) (gone : Row) → HasFit columns m → HasFit columns (fm.remove m gone)
remove_fit columns m gone wide key found h = by (eq_by_cmp key_order key gone) (sym (fm.get-remove key_total m gone key) ∙ h)
  where
    by : (b : Bool) → cond b None (fm.get m key) ≡ Some found → fits_columns columns found ≡ true
    by true h = cc
    by false h = wide key found h

-- a row that fits has a value for each column
first_holds : (a b : Bool) → (a && b) ≡ true → a ≡ true
first_holds true b h = refl
first_holds false b h = cc

second_holds : (a b : Bool) → (a && b) ≡ true → b ≡ true
second_holds true b h = h
second_holds false b h = cc

pub fits_width : (columns : List Column) (row : Row) → fits_columns columns row ≡ true → length row ≡ length columns
fits_width [] [] h = refl
fits_width [] (v ∷ row) h = cc
fits_width (c ∷ columns) [] h = cc
fits_width (c ∷ columns) (v ∷ row) h = ap suc (fits_width columns row (second_holds _ _ h))

-- both of a table
abbrev IsSound : TableDef → Table → Type 0
IsSound def table = IsUnderKeys def.primary_key table × HasFit def.columns table

-- what applies only where a test holds
only_if_test : {X : Type 0} (b : Bool) (x y : X) → only_if b x ≡ Some y → b ≡ true
only_if_test true x y e = refl
only_if_test false x y e = cc

only_if_is : {X : Type 0} (b : Bool) (x y : X) → only_if b x ≡ Some y → x ≡ y
only_if_is true x y e = cc
only_if_is false x y e = cc

set_cases : {X : Type 0} (xs : List X) (i j : ℕ) (x y : X) → slice_get (slice_set xs i x) j ≡ Some y → ((j ≡ i) × (y ≡ x)) ⊎ (slice_get xs j ≡ Some y)
set_cases [] i j x y h = inr h
set_cases (z ∷ xs) zero zero x y h = inl (refl, cc)
set_cases (z ∷ xs) zero (suc j) x y h = inr h
set_cases (z ∷ xs) (suc i) zero x y h = inr h
set_cases (z ∷ xs) (suc i) (suc j) x y h = elim (set_cases xs i j x y h) [ inl e ↦ inl (ap suc e.0, e.1) | inr e ↦ inr e ]

-- a change of one table
module _ (s : TableState) (t : TableId) (change : TableDef → Table → Option Table) (keeps : (def : TableDef) (table new : Table) → change def table ≡ Some new → IsSound def table → IsSound def new) (keyed : IsKeyed s) where
  changed_keyed : (def : TableDef) (table new : Table) → slice_get s.schema t.0 ≡ Some def → slice_get s.tables t.0 ≡ Some table → change def table ≡ Some new → IsKeyed (record { schema = s.schema; tables = slice_set s.tables t.0 new })
  changed_keyed def table new d m e u other found d_is m_is =
      elim (set_cases s.tables t.0 u new found m_is) [
        | inl same ↦
            let def_is : def ≡ other = same_def (sym d ∙ ap (slice_get s.schema) (sym same.0) ∙ d_is) in
            subst (λ x. IsSound other x) (sym same.1) (subst (λ x. IsSound x new) def_is (keeps def table new e (keyed t.0 def table d m)))
        | inr before ↦ keyed u other found d_is before
      ]
    where
      same_def : Some def ≡ Some other → def ≡ other
      same_def e = cc

  pub on_table_keyed : (n : TableState) → on_table s t change ≡ Some n → IsKeyed n
  on_table_keyed n is = by (slice_get s.schema t.0) refl (slice_get s.tables t.0) refl is
    where
      last : (def : TableDef) (table : Table) → slice_get s.schema t.0 ≡ Some def → slice_get s.tables t.0 ≡ Some table → (o : Option Table) → change def table ≡ o
          → option_map (λ new. record { schema = s.schema; tables = slice_set s.tables t.0 new }) o ≡ Some n → IsKeyed n
      last def table d m None e h = cc
      last def table d m (Some new) e h =
          let same : record { schema = s.schema; tables = slice_set s.tables t.0 new } ≡ n = cc in
          subst IsKeyed same (changed_keyed def table new d m e)

      by : (d : Option TableDef) → slice_get s.schema t.0 ≡ d → (m : Option Table) → slice_get s.tables t.0 ≡ m
          → option_and_then (λ def. option_and_then (λ table. option_map (λ new. record { schema = s.schema; tables = slice_set s.tables t.0 new }) (change def table)) m) d ≡ Some n → IsKeyed n
      by None d_is m m_is h = cc
      by (Some def) d_is None m_is h = cc
      by (Some def) d_is (Some table) m_is h = last def table d_is m_is (change def table) refl h

-- an operation, operations, an entry, a history
insert_sound : (def : TableDef) (table : Table) (row : Row) → fits_columns def.columns row ≡ true → IsSound def table → IsSound def (fm.insert table (key_of def.primary_key row) row)
insert_sound def table row fits (under, wide) = (insert_under def.primary_key table row under, insert_fit def.columns table (key_of def.primary_key row) row fits wide)

remove_sound : (def : TableDef) (table : Table) (key : Row) → IsSound def table → IsSound def (fm.remove table key)
remove_sound def table key (under, wide) = (remove_under def.primary_key table key under, remove_fit def.columns table key wide)

pub op_keyed : (op : Op) (s n : TableState) → applied op s ≡ Some n → IsKeyed s → IsKeyed n
op_keyed (Insert t row) s n is keyed =
    on_table_keyed s t _ (λ def table new e sound. subst (λ x. IsSound def x) (only_if_is _ _ _ e) (insert_sound def table row (first_holds _ _ (first_holds _ _ (only_if_test _ _ _ e))) sound)) keyed n is
op_keyed (Update t old row) s n is keyed =
    on_table_keyed s t _ (λ def table new e sound. subst (λ x. IsSound def x) (only_if_is _ _ _ e) (insert_sound def table row (first_holds _ _ (first_holds _ _ (first_holds _ _ (only_if_test _ _ _ e)))) sound)) keyed n is
op_keyed (Delete t old) s n is keyed =
    on_table_keyed s t _ (λ def table new e sound. subst (λ x. IsSound def x) (only_if_is _ _ _ e) (remove_sound def table (key_of def.primary_key old) sound)) keyed n is

pub ops_keyed : (ops : List Op) (s n : TableState) → applied_all ops s ≡ Some n → IsKeyed s → IsKeyed n
ops_keyed [] s n is keyed = let same : s ≡ n = cc in subst IsKeyed same keyed
ops_keyed (op ∷ ops) s n is keyed = by (applied op s) refl is (λ t. ops_keyed ops t n)
  where
    by : (o : Option TableState) → applied op s ≡ o → option_and_then (applied_all ops) o ≡ Some n → ((t : TableState) → applied_all ops t ≡ Some n → IsKeyed t → IsKeyed n) → IsKeyed n
    by None e h rest = cc
    by (Some t) e h rest = rest t h (op_keyed op s t e keyed)

both_cases : {X Y : Type 0} (xs : List X) (ys : List Y) (x : X) (y : Y) (i : ℕ) (a : X) (b : Y) → length ys ≡ length xs → slice_get (xs ++ x ∷ []) i ≡ Some a → slice_get (ys ++ y ∷ []) i ≡ Some b
    → ((slice_get xs i ≡ Some a) × (slice_get ys i ≡ Some b)) ⊎ (b ≡ y)
both_cases [] [] x y zero a b e h k = inr cc
both_cases [] [] x y (suc i) a b e h k = cc
both_cases [] (v ∷ ys) x y i a b e h k = absurd (omega arith)
both_cases (u ∷ xs) [] x y i a b e h k = absurd (omega arith)
both_cases (u ∷ xs) (v ∷ ys) x y zero a b e h k = inl (h, k)
both_cases (u ∷ xs) (v ∷ ys) x y (suc i) a b e h k = both_cases xs ys x y i a b (omega arith) h k

entry_keyed : (entry : Entry) (s n : TableState) → after_entry entry s ≡ Some n → IsWhole s → IsKeyed s → IsKeyed n
entry_keyed (Definition def) s n is whole keyed =
    let same : record { schema = s.schema ++ def ∷ []; tables = s.tables ++ fm.empty ∷ [] } ≡ n = cc in
    subst IsKeyed same (λ t other table d m.
    elim (both_cases s.schema s.tables def fm.empty t other table whole d m) [
      | inl old ↦ keyed t other table old.0 old.1
      | inr new ↦ subst (λ x. IsSound other x) (sym new) (none_is_under other.primary_key, none_has_fit other.columns)
    ])
entry_keyed (Foreign ops) s n is whole keyed = ops_keyed ops s n is keyed
entry_keyed (Own ticket ops) s n is whole keyed = ops_keyed ops s n is keyed

from_keyed : (entries : List Entry) (s n : TableState) → state_from entries s ≡ Some n → IsWhole s → IsKeyed s → IsKeyed n
from_keyed [] s n is whole keyed = let same : s ≡ n = cc in subst IsKeyed same keyed
from_keyed (entry ∷ entries) s n is whole keyed = by (after_entry entry s) refl is (λ t. from_keyed entries t n)
  where
    by : (o : Option TableState) → after_entry entry s ≡ o → option_and_then (state_from entries) o ≡ Some n → ((t : TableState) → state_from entries t ≡ Some n → IsWhole t → IsKeyed t → IsKeyed n) → IsKeyed n
    by None e h rest = cc
    by (Some t) e h rest = rest t h (entry_whole entry s t e whole) (entry_keyed entry s t e whole keyed)

pub history_keyed : (entries : List Entry) (s : TableState) → state_of entries ≡ Some s → IsKeyed s
history_keyed entries s is = from_keyed entries no_tables s is refl (λ t def table d m. cc)
