-- Laws of tables with own rows over them.
use Rattle.std.proofs.Common.{◌≡◌, ℕ, zero, suc, ◌<◌, ◌≤◌, Option, Some, None, List, [], ◌∷◌, length, drop, slice_get, refl, sym, ap, ◌∙◌, arith}
use Rattle.std.specs.Option.{unwrap_or}
use Rattle.std.specs.FinMap.{empty, values}
use Rattle.table_state.specs.row_types.specs.declared.value.Value.{Value}
use Rattle.table_state.specs.table_defs.specs.declared.definition.TableDef.{TableDef}
use Rattle.table_state.specs.Children.{child_from, refers_to}
use Rattle.std.proofs.lemmas.Option.{slice_get_within}
use Rattle.table_state.specs.tier_base.specs.declared.number.TableId.{TableId}
use Rattle.table_state.specs.indexed_rows.specs.Rows.{Table, first_from}
use Rattle.table_state.specs.Tables.{TableState, table_at}
use Rattle.own_rows.specs.declared.own.OwnRows.{OwnRows}
use Rattle.own_rows.specs.Overlays.{FitsOn, left_over, over_all, overlaid}

over_at : (owns : List OwnRows) (tables : List Table) (i : ℕ) (own : OwnRows) → slice_get owns i ≡ Some own → length owns ≤ length tables → unwrap_or (slice_get (over_all owns tables) i) empty ≡ left_over own (unwrap_or (slice_get tables i) empty)
over_at [] tables i own e le = cc
over_at (o ∷ owns) [] i own e le = absurd (omega arith)
over_at (o ∷ owns) (t ∷ tables) zero own e le = let same : o ≡ own = cc in ap (λ z. left_over z t) same
over_at (o ∷ owns) (t ∷ tables) (suc i) own e le = over_at owns tables i own e (omega arith)

as_it_was : (owns : List OwnRows) (tables : List Table) (i : ℕ) → slice_get owns i ≡ None → unwrap_or (slice_get (over_all owns tables) i) empty ≡ unwrap_or (slice_get tables i) empty
as_it_was [] tables i e = refl
as_it_was (o ∷ owns) [] i e = refl
as_it_was (o ∷ owns) (t ∷ tables) zero e = cc
as_it_was (o ∷ owns) (t ∷ tables) (suc i) e = as_it_was owns tables i e

module _ (owns : List OwnRows) (s : TableState) (t : TableId) where
  pub own_table : FitsOn owns s → (own : OwnRows) → Some own ≡ slice_get owns t.0 → table_at (overlaid owns s) t ≡ left_over own (table_at s t)
  own_table fits own is = over_at owns s.tables t.0 own (sym is) fits.within

  pub other_table : None ≡ slice_get owns t.0 → table_at (overlaid owns s) t ≡ table_at s t
  other_table none = as_it_was owns s.tables t.0 (sym none)

  pub child_is : FitsOn owns s → (own : OwnRows) (def : TableDef) (schema : List TableDef) (key : List Value) (from : ℕ) (r : Option ℕ) → Some own ≡ slice_get owns t.0 → schema ≡ s.schema → Some def ≡ slice_get schema t.0
      → r ≡ first_from (refers_to key (Some def)) from (drop from (values (left_over own (table_at s t)))) → r ≡ child_from (overlaid owns s) t key from
  child_is fits own def schema key from r is schema_is def_is e =
      e
      ∙ ap (λ o. first_from (refers_to key o) from (drop from (values (left_over own (table_at s t))))) (def_is ∙ ap (λ l. slice_get l t.0) schema_is)
      ∙ ap (λ m. first_from (refers_to key (slice_get s.schema t.0)) from (drop from (values m))) (sym (own_table fits own is))

  pub is_defined : FitsOn owns s → (own : OwnRows) (schema : List TableDef) → Some own ≡ slice_get owns t.0 → schema ≡ s.schema → None ≡ slice_get schema t.0 → ⊥
  is_defined fits own schema is schema_is missing =
      let none : None ≡ slice_get s.schema t.0 = missing ∙ ap (λ l. slice_get l t.0) schema_is in
      let w = slice_get_within owns t.0 own (sym is) in
      let a = fits.within in let b = fits.whole in
      past s.schema t.0 none (omega arith)
    where
      past : {A : Type 0} (xs : List A) (i : ℕ) → None ≡ slice_get xs i → i < length xs → ⊥
      past [] i e lt = absurd (omega arith)
      past (x ∷ xs) zero e lt = cc
      past (x ∷ xs) (suc i) e lt = past xs i e (omega arith)
