-- Stored rows of which some left, and to which others came, stand under their keys and fit their tables.
use Rattle.std.proofs.Common.{◌≡◌, ◌⊎◌, ◌+◌, ℕ, zero, suc, true, Option, Some, None, List, [], ◌∷◌, inl, inr, slice_get, unwrap_or, arith, refl, sym, ap, subst, ◌∙◌}
use Rattle.std.specs.Option.{option_map, option_or}
use Rattle.std.specs.FinMap as fm
use Rattle.tier_base.specs.declared.number.TableId.{TableId}
use Rattle.row_types.specs.declared.value.Value.{Value}
use Rattle.indexed_rows.specs.Rows.{Table, key_of}
use Rattle.table_defs.specs.declared.definition.TableDef.{TableDef}
use Rattle.table_state.specs.Keyed.{HasFit, IsUnderKeys}
use Rattle.table_state.specs.Tables.{fits_columns}
use Rattle.instances.specs.Views.{kept_at}
use Rattle.open_sessions.specs.Opening.{seen_all}
use Rattle.order_laws.proofs.TruthLaws.{same_some}
use Rattle.group_catalog.specs.Catalogs.{groups_in}
use Rattle.group_store.specs.Shown.{kept_rows, stored_rows, tables_by}
use Rattle.group_store.specs.Stores.{Kept, key_columns, place_in}
use Rattle.stored_tier.proofs.VerifyLaws.{key_is, verified_by}
use Rattle.aging_cycles.specs.Coming.{HasRowsOf, HaveRowsOf, StayKeyed, StayVerified}
use Rattle.aging_cycles.proofs.RowsOf.{placed_alike}

abbrev Row : Type 0
Row = List Value

-- the row stands under its key, and fits
abbrev StandsSo : TableDef → Row → Row → Type 0
StandsSo def key row = (key_of def.primary_key row ≡ key) × (fits_columns def.columns row ≡ true)

module _ (schema : List TableDef) (u : TableId) (def : TableDef) (is : slice_get schema u.0 ≡ Some def) where
  -- the key of a table, in each of these stores that has it
  abbrev HaveKeys : List Kept → Type 0
  HaveKeys stores = (k : ℕ) (s : Kept) (p : ℕ) → slice_get stores k ≡ Some s → place_in s u ≡ Some p → key_columns s p ≡ def.primary_key

  abbrev ComesFrom : List Kept → Row → Row → Type 0
  ComesFrom old key row = (fm.get (stored_rows old u) key ≡ Some row) ⊎ StandsSo def key row

  -- what a table has in stores, by what the first of them has
  abbrev rows_by : Kept → List Kept → Option ℕ → Table
  rows_by s stores o = unwrap_or (option_or (option_map (kept_at s.tables) o) (kept_rows stores u)) fm.empty

  row_from : (old new : List Kept) → HaveRowsOf schema old new → HaveKeys old → (key row : Row) → fm.get (stored_rows new u) key ≡ Some row → ComesFrom old key row
  row_from [] [] have keys key row e = inl e
  row_from [] (y ∷ ys) have keys key row e = let long = have.long in absurd (omega (arith, long))
  row_from (x ∷ xs) [] have keys key row e = let long = have.long in absurd (omega (arith, long))
  row_from (x ∷ xs) (y ∷ ys) have keys key row e = by (place_in x u) refl (row_from xs ys rest (λ k. keys (suc k)) key row)
    where
      one : HasRowsOf schema x y
      one = have.each 0 x y refl refl

      rest : HaveRowsOf schema xs ys
      rest = record { long = (let long = have.long in omega (arith, long)); each = λ k. have.each (suc k) }

      by : (o : Option ℕ) → place_in x u ≡ o → (fm.get (stored_rows ys u) key ≡ Some row → ComesFrom xs key row) → ComesFrom (x ∷ xs) key row
      by None f later =
          let now : stored_rows (y ∷ ys) u ≡ stored_rows ys u = ap (rows_by y ys) (placed_alike schema x y one u ∙ f) in
          let was : stored_rows (x ∷ xs) u ≡ stored_rows xs u = ap (rows_by x xs) f in
          elim (later (ap (λ m. fm.get m key) (sym now) ∙ e)) [
            | inl stood ↦ inl (ap (λ m. fm.get m key) was ∙ stood)
            | inr came ↦ inr came
          ]
      by (Some p) f later =
          let now : stored_rows (y ∷ ys) u ≡ kept_at y.tables p = ap (rows_by y ys) (placed_alike schema x y one u ∙ f) in
          let was : stored_rows (x ∷ xs) u ≡ kept_at x.tables p = ap (rows_by x xs) f in
          elim (one.rows p key row (ap (λ m. fm.get m key) (sym now) ∙ e)) [
            | inl stood ↦ inl (ap (λ m. fm.get m key) was ∙ stood)
            | inr came ↦ inr (ap (λ ps. key_of ps row) (sym (keys 0 x p refl f)) ∙ came.key_is, came.fits u def f is)
          ]

-- the table of a number among those that are shown
table_there : (rows : TableId → Table) (n : ℕ) (defs : List TableDef) (i : ℕ) (def : TableDef) → slice_get defs i ≡ Some def → slice_get (tables_by rows n defs) i ≡ Some (rows (record { 0 = n + i }))
table_there rows n [] i def e = cc
table_there rows n (d ∷ defs) zero def e = let z : n ≡ n + zero = omega arith in ap (λ m. Some (rows (record { 0 = m }))) z
table_there rows n (d ∷ defs) (suc i) def e = let z : suc n + i ≡ n + suc i = omega arith in table_there rows (suc n) defs i def e ∙ ap (λ m. Some (rows (record { 0 = m }))) z

pub stay_keyed : StayKeyed
stay_keyed t new sound verified are i def table is there = subst (λ m. IsUnderKeys def.primary_key m × HasFit def.columns m) now_is (λ key row e. (entry key row e).0, λ key row e. (entry key row e).1)
  where
    none_before : 0 + i ≡ i
    none_before = omega arith

    known : slice_get t.schema i ≡ Some def
    known = ap (λ d. slice_get d i) (sym are.schema) ∙ is

    shown : (stores : List Kept) (defs : List TableDef) → slice_get defs i ≡ Some def → slice_get (tables_by (stored_rows stores) 0 defs) i ≡ Some (stored_rows stores (record { 0 = i }))
    shown stores defs at = table_there (stored_rows stores) 0 defs i def at ∙ ap (λ m. Some (stored_rows stores (record { 0 = m }))) none_before

    now_is : stored_rows new.stores.items (record { 0 = i }) ≡ table
    now_is = same_some (sym (shown new.stores.items new.schema is) ∙ there)

    before : IsUnderKeys def.primary_key (stored_rows t.stores.items (record { 0 = i })) × HasFit def.columns (stored_rows t.stores.items (record { 0 = i }))
    before = verified.rows.keyed i def (stored_rows t.stores.items (record { 0 = i })) known (shown t.stores.items t.schema known)

    entry : (key row : Row) → fm.get (stored_rows new.stores.items (record { 0 = i })) key ≡ Some row → StandsSo def key row
    entry key row e =
        elim (row_from t.schema (record { 0 = i }) def known t.stores.items new.stores.items are.stores
        (λ k s p at place. key_is t.schema (groups_in t.catalog) t.stores.items sound.kept k s at (record { 0 = i }) p place def known) key row e) [
          | inl stood ↦ (before.0 key row stood, before.1 key row stood)
          | inr came ↦ came
        ]

pub stay_verified : StayVerified
stay_verified t new sound verified are small apply =
    verified_by new (stay_keyed t new sound verified are) small (seen_all new.sessions) refl apply
