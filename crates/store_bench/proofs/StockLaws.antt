-- The store of one table, and what is shown of it.
use Rattle.std.proofs.Common.{◌≡◌, ℕ, zero, suc, ◌<◌, ◌^◌, Bool, true, false, cond, ◌⊎◌, inl, inr, Some, None, unwrap_or, List, [], ◌∷◌, slice_get, refl, sym, ap, subst, ◌∙◌, arith}
use Rattle.std.specs.Option.{option_map, option_or}
use Rattle.std.specs.List.{position}
use Rattle.std.specs.Ordering.{eq_by_cmp}
use Rattle.std.specs.FinMap as fm
use Rattle.row_types.specs.declared.column.Column.{Column}
use Rattle.row_types.specs.declared.value.Value.{Value}
use Rattle.row_types.specs.Order.{key_order}
use Rattle.row_types.proofs.OrderLaws.{key_total}
use Rattle.tier_base.specs.declared.number.TableId.{TableId}
use Rattle.table_defs.specs.declared.definition.TableDef.{TableDef}
use Rattle.indexed_rows.specs.Rows.{Table, key_of, put_in}
use Rattle.table_state.specs.Keyed.{HasFit, IsUnderKeys}
use Rattle.table_state.specs.Sound.{RefersBack}
use Rattle.table_state.specs.Tables.{TableState, fits_columns, has_parent, table_at}
use Rattle.table_state.proofs.KeyedLaws.{none_has_fit, none_is_under}
use Rattle.instances.specs.Trees.{same_table}
use Rattle.instances.specs.Views.{kept_at}
use Rattle.cache_store.specs.Operating.{change_at}
use Rattle.slot_rows.specs.SlotKeys.{IsKeyedBy}
use Rattle.group_store.specs.Shown.{shown_by, stored_rows, tables_by}
use Rattle.group_store.specs.Stores.{IsNewStore, Kept, SameButSpare, put_store}
use Rattle.group_store.specs.Trees.{key_at}
use Rattle.store_bench.specs.Measured.{HoldsTable, IsPlain, IsReadable, IsStocked}

abbrev Row : Type 0
Row = List Value

-- a row that fits goes among rows that fit
insert_fits : (columns : List Column) (m : Table) (at row : Row) → fits_columns columns row ≡ true → HasFit columns m → HasFit columns (fm.insert m at row)
insert_fits columns m at row fits wide key found h = by (eq_by_cmp key_order key at) (sym (fm.get-insert key_total m at row key) ∙ h)
  where
    by : (b : Bool) → cond b (Some row) (fm.get m key) ≡ Some found → fits_columns columns found ≡ true
    by true h = let same : row ≡ found = cc in ap (fits_columns columns) (sym same) ∙ fits
    by false h = wide key found h

put_fits : (columns : List Column) (m : Table) (key row : Row) → fits_columns columns row ≡ true → HasFit columns m → HasFit columns (put_in m key row)
put_fits columns m key row fits wide = by (fm.contains_key m key)
  where
    by : (b : Bool) → HasFit columns (cond b m (fm.insert m key row))
    by true = wide
    by false = insert_fits columns m key row fits wide

put_at : (columns : List Column) (tables : List Table) (key row : Row) → fits_columns columns row ≡ true → HasFit columns (kept_at tables 0) → HasFit columns (kept_at (change_at 0 (λ t. put_in t key row) tables) 0)
put_at columns [] key row fits wide = wide
put_at columns (t ∷ tables) key row fits wide = put_fits columns t key row fits wide

-- the store without rows, with other room, and with a row more
pub new_holds : (columns : List Column) (s : Kept) (primary foreign : List ℕ) → IsNewStore (record { 0 = 0 }) primary foreign s → primary ≡ 0 ∷ [] → foreign ≡ [] → HoldsTable columns s
new_holds columns s primary foreign new first none = record {
  table = new.table;
  key = new.key ∙ first;
  foreign = new.foreign ∙ none;
  layers = new.layers;
  rows = subst (λ ts. HasFit columns (kept_at ts 0)) (sym new.tables) (none_has_fit columns);
}

pub same_holds : (columns : List Column) (s new : Kept) → HoldsTable columns s → SameButSpare s new → HoldsTable columns new
same_holds columns s new holds same = record {
  table = same.table ∙ holds.table;
  key = same.key ∙ holds.key;
  foreign = same.foreign ∙ holds.foreign;
  layers = same.layers ∙ holds.layers;
  rows = subst (λ ts. HasFit columns (kept_at ts 0)) (sym same.tables) holds.rows;
}

pub put_holds : (columns : List Column) (row : Row) (s new : Kept) → fits_columns columns row ≡ true → HoldsTable columns s → SameButSpare (put_store 0 row s) new → HoldsTable columns new
put_holds columns row s new fits holds same = record {
  table = same.table ∙ holds.table;
  key = same.key ∙ holds.key;
  foreign = same.foreign ∙ holds.foreign;
  layers = same.layers ∙ holds.layers;
  rows = subst (λ ts. HasFit columns (kept_at ts 0)) (sym same.tables) (put_at columns s.tables (key_of (key_at s.key s.layers 0) row) row fits holds.rows);
}

-- what is shown of a store of one table
module _ (def : TableDef) (s : Kept) (plain : IsPlain def) (holds : HoldsTable def.columns s) where
  abbrev shown : TableState
  shown = shown_by (def ∷ []) (s ∷ [])

  first : stored_rows (s ∷ []) (record { 0 = 0 }) ≡ kept_at s.tables 0
  first = ap (λ (t : TableId). unwrap_or (option_or (option_map (kept_at s.tables) (cond (same_table t (record { 0 = 0 })) (Some 0) (option_map suc (position (λ l. same_table l.table (record { 0 = 0 })) s.layers)))) None) fm.empty) holds.table

  rows_at : (n : ℕ) → (unwrap_or (slice_get (tables_by (stored_rows (s ∷ [])) 0 (def ∷ [])) n) fm.empty ≡ kept_at s.tables 0) ⊎ (unwrap_or (slice_get (tables_by (stored_rows (s ∷ [])) 0 (def ∷ [])) n) fm.empty ≡ fm.empty)
  rows_at zero = inl first
  rows_at (suc zero) = inr refl
  rows_at (suc (suc n)) = inr refl

  only : (n : ℕ) (other : TableDef) → slice_get (def ∷ []) n ≡ Some other → def ≡ other
  only zero other e = cc
  only (suc zero) other e = cc
  only (suc (suc n)) other e = cc

  rooted : (n : ℕ) (other : TableDef) → slice_get (def ∷ []) n ≡ Some other → other.foreign_key ≡ None
  rooted n other is = ap (λ d. d.foreign_key) (sym (only n other is)) ∙ plain.plain

  refers_back : (n : ℕ) (other : TableDef) → slice_get (def ∷ []) n ≡ Some other → RefersBack n other
  refers_back n other is foreign f = let none = sym (rooted n other is) ∙ f in cc

  module _ (keyed : IsKeyedBy s.key (kept_at s.tables 0)) (few : fm.len (kept_at s.tables 0) < 2 ^ 63) where
    under : (n : ℕ) → IsUnderKeys def.primary_key (unwrap_or (slice_get (tables_by (stored_rows (s ∷ [])) 0 (def ∷ [])) n) fm.empty)
    under n = elim (rows_at n) [
      | inl e ↦ subst (IsUnderKeys def.primary_key) (sym e) (subst (λ p. IsUnderKeys p (kept_at s.tables 0)) (holds.key ∙ sym plain.key) keyed)
      | inr e ↦ subst (IsUnderKeys def.primary_key) (sym e) (none_is_under def.primary_key)
    ]

    wide : (n : ℕ) → HasFit def.columns (unwrap_or (slice_get (tables_by (stored_rows (s ∷ [])) 0 (def ∷ [])) n) fm.empty)
    wide n = elim (rows_at n) [
      | inl e ↦ subst (HasFit def.columns) (sym e) holds.rows
      | inr e ↦ subst (HasFit def.columns) (sym e) (none_has_fit def.columns)
    ]

    below : (n : ℕ) → fm.len (unwrap_or (slice_get (tables_by (stored_rows (s ∷ [])) 0 (def ∷ [])) n) fm.empty) < 2 ^ 63
    below n = elim (rows_at n) [
      | inl e ↦ subst (λ m. fm.len m < 2 ^ 63) (sym e) few
      | inr e ↦ let none = ap fm.len e ∙ fm.len-empty key_order (List Value) in omega (arith, none)
    ]

    readable_one : IsReadable shown
    readable_one = record {
      sound = record {
        whole = refl;
        back = refers_back;
        keys = λ t other is. subst (λ (d : TableDef). IsUnderKeys d.primary_key (table_at shown t)) (only t.0 other is) (under t.0);
        fits = λ t other key row is got. subst (λ (d : TableDef). fits_columns d.columns row ≡ true) (only t.0 other is) (wide t.0 key row got);
        linked = λ t other key row is got. ap (λ f. has_parent shown f row) (rooted t.0 other is);
      };
      small = λ t. below t.0;
    }

-- what is shown of a stocked store, with the schema as it is
module _ (schema : List TableDef) (s : Kept) (stocked : IsStocked schema s) where
  pub readable : IsKeyedBy s.key (kept_at s.tables 0) → fm.len (kept_at s.tables 0) < 2 ^ 63 → IsReadable (shown_by schema (s ∷ []))
  readable keyed few = subst (λ d. IsReadable (shown_by d (s ∷ []))) (sym stocked.one) (readable_one stocked.def s stocked.plain stocked.holds keyed few)
