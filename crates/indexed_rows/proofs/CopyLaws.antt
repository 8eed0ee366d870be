-- Laws of a copy of rows, made entry by entry.
use Rattle.std.proofs.Common.{◌≡◌, ℕ, zero, suc, ◌+◌, ◌≤◌, Bool, true, false, cond, Option, Some, None, is_some, List, [], ◌∷◌, ◌++◌, length, take, slice_get, refl, sym, ap, ◌∙◌, arith}
use Rattle.std.specs.Option.{option_or}
use Rattle.std.specs.Ordering.{eq_by_cmp, is_eq}
use Rattle.std.specs.declared.cmp.Ordering.{Ordering}
use Rattle.std.specs.declared.cmp.Ordering.TheVariants.{Less, Equal, Greater}
use Rattle.std.specs.FinMap.{contains_key, entries, find, get, get-entries, get-insert, insert, same_map}
use Rattle.std.proofs.lemmas.List.{take_all}
use Rattle.row_types.specs.declared.value.Value.{Value}
use Rattle.row_types.specs.Order.{key_order}
use Rattle.row_types.proofs.OrderLaws.{key_total, key_exact}
use Rattle.indexed_rows.specs.Rows.{Table}

abbrev Row : Type 0
Row = List Value

find_push : (es : List (Row × Row)) (key row q : Row) → find key_order q (es ++ (key, row) ∷ []) ≡ option_or (find key_order q es) (cond (eq_by_cmp key_order q key) (Some row) None)
find_push [] key row q = refl
find_push (e ∷ es) key row q = by (eq_by_cmp key_order q e.0) (find_push es key row q)
  where
    by : (b : Bool) → find key_order q (es ++ (key, row) ∷ []) ≡ option_or (find key_order q es) (cond (eq_by_cmp key_order q key) (Some row) None)
        → cond b (Some e.1) (find key_order q (es ++ (key, row) ∷ [])) ≡ option_or (cond b (Some e.1) (find key_order q es)) (cond (eq_by_cmp key_order q key) (Some row) None)
    by true h = refl
    by false h = h

-- a front of a list and the element behind it
pub take_at : {X : Type 0} (xs : List X) (i : ℕ) (x : X) → slice_get xs i ≡ Some x → take (i + 1) xs ≡ take i xs ++ x ∷ []
take_at [] i x e = cc
take_at (y ∷ xs) zero x e = let same : y ≡ x = cc in ap (λ z. z ∷ []) same
take_at (y ∷ xs) (suc i) x e = let next : suc i + 1 ≡ suc (i + 1) = omega arith in rw next (ap (λ l. y ∷ l) (take_at xs i x e))

or_none : (o : Option Row) → o ≡ option_or o None
or_none None = refl
or_none (Some x) = refl

-- what an entry more makes of a look-up
looked_up : (row : Row) (o at_key : Option Row) (r : Ordering) → (r ≡ Equal → o ≡ at_key) → cond (is_some at_key) o (cond (is_eq r) (Some row) o) ≡ option_or o (cond (is_eq r) (Some row) None)
looked_up row o (Some x) Less h = or_none o
looked_up row o (Some x) Equal h = rw (h refl) refl
looked_up row o (Some x) Greater h = or_none o
looked_up row o None Less h = or_none o
looked_up row o None Equal h = rw (h refl) refl
looked_up row o None Greater h = or_none o

get_cond : (b : Bool) (m n : Table) (q : Row) → get (cond b m n) q ≡ cond b (get m q) (get n q)
get_cond true m n q = refl
get_cond false m n q = refl

pub copied_more : (m copies new : Table) (i : ℕ) (e : Row × Row) (key row : Row) → ((q : Row) → get copies q ≡ find key_order q (take i (entries m))) → slice_get (entries m) i ≡ Some e → key ≡ e.0 → row ≡ e.1
    → new ≡ cond (contains_key copies key) copies (insert copies key row) → (q : Row) → get new q ≡ find key_order q (take (i + 1) (entries m))
copied_more m copies new i e key row so_far at key_is row_is made q =
    ap (λ x. get x q) made ∙ get_cond (contains_key copies key) copies (insert copies key row) q ∙ ap (cond (contains_key copies key) (get copies q)) (get-insert key_total copies key row q)
    ∙ looked_up row (get copies q) (get copies key) (key_order q key) (λ t. ap (get copies) (key_exact q key t))
    ∙ ap (λ o. option_or o (cond (eq_by_cmp key_order q key) (Some row) None)) (so_far q) ∙ sym (find_push (take i (entries m)) key row q)
    ∙ ap (λ k. find key_order q (take i (entries m) ++ (k, row) ∷ [])) key_is ∙ ap (λ r. find key_order q (take i (entries m) ++ (e.0, r) ∷ [])) row_is ∙ ap (find key_order q) (sym (take_at (entries m) i e at))

pub copied_all : (m copies : Table) (i : ℕ) → length (entries m) ≤ i → ((q : Row) → get copies q ≡ find key_order q (take i (entries m))) → copies ≡ m
copied_all m copies i h so_far = same_map key_total key_exact copies m (λ q. so_far q ∙ ap (find key_order q) (take_all i (entries m) h) ∙ sym (get-entries m q))
