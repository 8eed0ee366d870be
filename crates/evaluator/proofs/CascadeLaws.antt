-- Laws of deletions, and of going through the rows of a table.
use Rattle.std.proofs.Common.{◌≡◌, ℕ, zero, suc, ◌-◌, ◌<◌, ◌≤◌, None, Some, List, [], ◌∷◌, ◌++◌, length, take, slice_get, get_or, refl, sym, ap, ◌∙◌, arith}
use Rattle.std.specs.List.{flat_map}
use Rattle.std.proofs.lemmas.List.{length-map, take_all}
use Rattle.std.specs.FinMap as fm
use Rattle.expressions.specs.row_types.specs.declared.value.Value.{Value}
use Rattle.expressions.specs.tier_base.specs.declared.number.TableId.{TableId}
use Rattle.table_state.specs.declared.operation.Op.{Op}
use Rattle.table_state.specs.declared.operation.Op.TheVariants.{Delete}
use Rattle.table_state.specs.indexed_rows.specs.Rows.{Table}
use Rattle.table_state.specs.Tables.{TableState}
use Rattle.evaluator.specs.declared.capped.Capped.{Capped}
use Rattle.evaluator.specs.Capping.{extended, put}
use Rattle.evaluator.specs.Cascades.{children_from, deleted, key_in, referring}
use Rattle.evaluator.proofs.CapLaws.{extended-append}

past : {A : Type 0} (xs : List A) (i : ℕ) → i < length xs → None ≡ slice_get xs i → ⊥
past [] i h e = absurd (omega arith)
past (x ∷ xs) zero h e = cc
past (x ∷ xs) (suc i) h e = past xs i (omega arith) e

-- there is a row at each place below the length
pub no_row : (m : Table) (i n : ℕ) → n ≡ fm.len m → i < n → None ≡ slice_get (fm.values m) i → ⊥
no_row m i n is lt e = past (fm.values m) i (omega (arith, length-map (fm.entries m) (λ x. x.1), fm.len-entries m)) e

-- all rows were gone through
pub all_rows : (m : Table) (i n : ℕ) → n ≡ fm.len m → n ≤ i → take i (fm.values m) ≡ fm.values m
all_rows m i n is le = take_all i (fm.values m) (omega (arith, length-map (fm.entries m) (λ x. x.1), fm.len-entries m))

pub item_at : {A : Type 0} (xs : List A) (i : ℕ) (d : A) → i < length xs → slice_get xs i ≡ Some (get_or xs i d)
item_at [] i d h = absurd (omega arith)
item_at (x ∷ xs) zero d h = refl
item_at (x ∷ xs) (suc i) d h = item_at xs i d (omega arith)

deleted_more : (n : ℕ) (s : TableState) (t : TableId) (row : List Value) → (n ≡ 0 → ⊥) →
    deleted n s t row ≡ flat_map (λ child. flat_map (deleted (n - 1) s child) (referring s (key_in (slice_get s.schema t.0) row) child)) (children_from t 0 s.schema) ++ Delete t row ∷ []
deleted_more zero s t row h = absurd (h refl)
deleted_more (suc n) s t row h = let e : suc n - 1 ≡ n = omega arith in rw e refl

-- the row itself leaves last
pub deleted_last : (n : ℕ) (s : TableState) (t : TableId) (row : List Value) (children : List TableId) (i : ℕ) (start old new : Capped Op) → (n ≡ 0 → ⊥) → children ≡ children_from t 0 s.schema → length children ≤ i
    → old ≡ extended start (flat_map (λ child. flat_map (deleted (n - 1) s child) (referring s (key_in (slice_get s.schema t.0) row) child)) (take i children)) → new ≡ put old (Delete t row) → new ≡ extended start (deleted n s t row)
deleted_last n s t row children i start old new some are all so_far last =
    last ∙ ap (λ c. put c (Delete t row)) (so_far ∙ ap (λ l. extended start (flat_map gone l)) (take_all i children all ∙ are))
    ∙ sym (extended-append start (flat_map gone (children_from t 0 s.schema)) (Delete t row ∷ [])) ∙ ap (extended start) (sym (deleted_more n s t row some))
  where
    gone : TableId → List Op
    gone child = flat_map (deleted (n - 1) s child) (referring s (key_in (slice_get s.schema t.0) row) child)
