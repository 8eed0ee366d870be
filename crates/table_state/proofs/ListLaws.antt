-- Laws of looking through a list, and of a table of a state.
use Rattle.std.proofs.Common.{◌≡◌, ℕ, ◌+◌, ◌≤◌, Bool, false, cond, Some, None, List, [], ◌∷◌, slice_get, unwrap_or, is_some, refl, sym, ap, ◌∙◌}
use Rattle.std.specs.List.{find}
use Rattle.std.specs.FinMap.{empty, contains_key, get-empty, len, len-empty}
use Rattle.table_defs.specs.row_types.specs.declared.value.Value.{Value}
use Rattle.table_defs.specs.row_types.specs.Order.{key_order}
use Rattle.indexed_rows.specs.Rows.{Table}

-- where no element passes, none is found
pub find_none : {X : Type 0} (p : X → Bool) → ((x : X) → p x ≡ false) → (xs : List X) → None ≡ find p xs
find_none p fails [] = refl
find_none p fails (x ∷ xs) = find_none p fails xs ∙ sym (ap (λ b. cond b (Some x) (find p xs)) (fails x))

-- where there is no table there is no row
pub no_table : (tables : List Table) (t : ℕ) (key : List Value) → None ≡ slice_get tables t → false ≡ contains_key (unwrap_or (slice_get tables t) empty) key
no_table tables t key e = ap is_some (sym (get-empty key_order key)) ∙ ap (λ o. contains_key (unwrap_or o empty) key) e

pub no_rows : (tables : List Table) (t : ℕ) → None ≡ slice_get tables t → len (unwrap_or (slice_get tables t) empty) ≡ 0
no_rows tables t e = ap (λ o. len (unwrap_or o empty)) (sym e) ∙ len-empty key_order (List Value)
