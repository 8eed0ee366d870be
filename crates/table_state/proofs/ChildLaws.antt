-- Laws of the first element that passes a test.
use Rattle.std.proofs.Common.{◌≡◌, ℕ, zero, suc, ◌+◌, ◌≤◌, ◌<◌, Bool, true, false, cond, Option, Some, None, IfSome, List, [], ◌∷◌, length, map, drop, slice_get, unwrap_or, refl, sym, ap, ◌∙◌, arith}
use Rattle.std.specs.FinMap as fm
use Rattle.std.specs.List.{find}
use Rattle.std.specs.Option.{option_and_then}
use Rattle.std.proofs.lemmas.List.{length-map, nil_from_length}
use Rattle.table_defs.specs.row_types.specs.declared.value.Value.{Value}
use Rattle.table_defs.specs.row_types.specs.Order.{key_order}
use Rattle.table_defs.specs.declared.definition.TableDef.{TableDef}
use Rattle.indexed_rows.specs.Rows.{first_from, Table}
use Rattle.table_state.specs.Children.{refers_to}

-- a table that isn't there has no rows, and so no child

no_values : (found : Option Table) → None ≡ found → fm.values (unwrap_or found fm.empty) ≡ []
no_values found none =
    let no_table : unwrap_or found fm.empty ≡ fm.empty = ap (λ o. unwrap_or o fm.empty) (sym none) in
    nil_from_length (fm.values (unwrap_or found fm.empty))
    (length-map (fm.entries (unwrap_or found fm.empty)) (λ e. e.1) ∙ sym (fm.len-entries (unwrap_or found fm.empty)) ∙ ap fm.len no_table ∙ fm.len-empty key_order (List Value))

nothing_behind : {A : Type 0} (from : ℕ) → drop {A = A} from [] ≡ []
nothing_behind zero = refl
nothing_behind (suc from) = refl

pub no_table_child : (found : Option Table) → None ≡ found → (p : List Value → Bool) (from : ℕ) → None ≡ first_from p from (drop from (fm.values (unwrap_or found fm.empty)))
no_table_child found none p from = sym (ap (λ l. first_from p from (drop from l)) (no_values found none) ∙ ap (first_from p from) (nothing_behind from))

-- without a definition no row refers to anything
pub no_def_child : (def : Option TableDef) → None ≡ def → (key : List Value) (i : ℕ) (rows : List (List Value)) → None ≡ first_from (refers_to key def) i rows
no_def_child def none key i rows = fails i rows ∙ ap (λ d. first_from (refers_to key d) i rows) none
  where
    fails : (i : ℕ) (rows : List (List Value)) → None ≡ first_from (refers_to key None) i rows
    fails i [] = refl
    fails i (row ∷ rows) = fails (suc i) rows

-- the first row that passes, by its entry

module _ (test : List Value → Bool) where
  found_in : (all es : List (List Value × List Value)) (k : ℕ) → ((i : ℕ) → slice_get es i ≡ slice_get all (k + i))
      → option_and_then (slice_get all) (first_from test k (map (λ e. e.1) es)) ≡ find (λ e. test e.1) es
  found_in all [] k h = refl
  found_in all (e ∷ es) k h =
      elim (test e.1) as (λ b. option_and_then (slice_get all) (cond b (Some k) (first_from test (suc k) (map (λ e. e.1) es))) ≡ cond b (Some e) (find (λ e. test e.1) es)) [
        | true ↦ let place : k + 0 ≡ k = omega arith in ap (slice_get all) (sym place) ∙ sym (h 0)
        | false ↦ found_in all es (suc k) (λ i. let place : k + suc i ≡ suc k + i = omega arith in h (suc i) ∙ ap (slice_get all) place)
      ]

  pub entry_found : (m : Table) → option_and_then (slice_get (fm.entries m)) (first_from test 0 (drop 0 (fm.values m))) ≡ find (λ e. test e.1) (fm.entries m)
  entry_found m = found_in (fm.entries m) (fm.entries m) 0 (λ i. let place : 0 + i ≡ i = omega arith in ap (slice_get (fm.entries m)) (sym place))

  within : (xs : List (List Value)) (k : ℕ) → IfSome (first_from test k xs) (λ place. place < k + length xs)
  within [] k = tt
  within (x ∷ xs) k =
      elim (test x) as (λ b. IfSome (cond b (Some k) (first_from test (suc k) xs)) (λ place. place < k + length (x ∷ xs))) [
        | true ↦ omega arith
        | false ↦ later (first_from test (suc k) xs) (within xs (suc k))
      ]
    where
      later : (o : Option ℕ) → IfSome o (λ place. place < suc k + length xs) → IfSome o (λ place. place < k + length (x ∷ xs))
      later None h = tt
      later (Some place) h = omega (arith, h)

  pub place_within : (m : Table) → IfSome (first_from test 0 (drop 0 (fm.values m))) (λ place. place < fm.len m)
  place_within m = by (first_from test 0 (fm.values m)) (within (fm.values m) 0)
    where
      by : (o : Option ℕ) → IfSome o (λ place. place < 0 + length (fm.values m)) → IfSome o (λ place. place < fm.len m)
      by None h = tt
      by (Some place) h = omega (arith, h, length-map (fm.entries m) (λ e. e.1), fm.len-entries m)
