-- A table that isn't there has no rows.
use Rattle.std.proofs.Common.{◌≡◌, ◌≤◌, ℕ, Option, None, List, [], ◌∷◌, length, slice_get, unwrap_or, refl, sym, ap, ◌∙◌, zero, suc, arith}
use Rattle.std.proofs.lemmas.List.{length-map, nil_from_length}
use Rattle.std.specs.FinMap as fm
use Rattle.table_defs.specs.row_types.specs.declared.value.Value.{Value}
use Rattle.table_defs.specs.row_types.specs.Order.{key_order}
use Rattle.indexed_rows.specs.Rows.{Table}

module _ (found : Option Table) (none : None ≡ found) where
  pub no_table : unwrap_or found fm.empty ≡ fm.empty
  no_table = ap (λ o. unwrap_or o fm.empty) (sym none)

  pub no_len : 0 ≡ fm.len (unwrap_or found fm.empty)
  no_len = sym (ap fm.len no_table ∙ fm.len-empty key_order (List Value))

  pub no_find : (key : List Value) → None ≡ fm.get (unwrap_or found fm.empty) key
  no_find key = sym (ap (λ m. fm.get m key) no_table ∙ fm.get-empty key_order key)

  no_values : fm.values (unwrap_or found fm.empty) ≡ []
  no_values = nil_from_length (fm.values (unwrap_or found fm.empty)) (length-map (fm.entries (unwrap_or found fm.empty)) (λ e. e.1) ∙ sym (fm.len-entries (unwrap_or found fm.empty)) ∙ sym no_len)

  pub no_value : (place : ℕ) → None ≡ slice_get (fm.values (unwrap_or found fm.empty)) place
  no_value place = sym (ap (λ l. slice_get l place) no_values)

past : {A : Type 0} (xs : List A) (i : ℕ) → length xs ≤ i → None ≡ slice_get xs i
past [] i h = refl
past (x ∷ xs) zero h = absurd (omega arith)
past (x ∷ xs) (suc i) h = past xs i (omega arith)

pub past_values : (m : Table) (place : ℕ) → fm.len m ≤ place → None ≡ slice_get (fm.values m) place
past_values m place h = past (fm.values m) place (omega (arith, length-map (fm.entries m) (λ e. e.1), fm.len-entries m))
