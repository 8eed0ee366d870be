-- What a search among the entries says of the map.
use Rattle.std.proofs.Common.{Option, ℕ, ◌≡◌, ◌<◌, ◌≤◌, Less, Equal, Greater, List, [], ◌∷◌, length, get_or, set, map, true, false, cond, T, Some, None, Result, Ok, Err, IfOk, IfErr, slice_get, is_some, option_map, refl, sym, ap, ◌∙◌, subst, arith, zero, suc}
use Rattle.std.specs.List.{insert, remove}
use Rattle.std.specs.List.Sorted.{IsPartitionPoint, IsBinarySearchResult, IsSearchInRange}
use Rattle.std.specs.Ordering.{eq_by_cmp, is_eq}
use Rattle.std.specs.FinMap.{find, put, is_sorted}
use Rattle.std.specs.FinMap.Entries.{is_sorted-put}
use Rattle.std.specs.FinMap as fm
use Rattle.table_state.specs.row_types.specs.declared.value.Value.{Value}
use Rattle.table_state.specs.row_types.specs.Order.{key_order}
use Rattle.pending_writes.specs.declared.writers.Writer.{Writer}
use Rattle.table_state.specs.row_types.proofs.OrderLaws.{key_total, key_exact}
use Rattle.pending_writes.specs.Places.{Entries, IsKeyAt, IsGapFor}
use Rattle.table_state.specs.indexed_rows.proofs.Sorted.{rising, split_absent, split_put, key_at, find_at, put_at, sorted_remove, find_remove}

abbrev Table : Type 0
Table = fm.FinMap key_order (Option Writer)

pub no_entries : ◌≡◌ {A = Table} (fm.from_sorted []) fm.empty
no_entries = fm.empty_of_len (fm.from_sorted []) (fm.len-entries _ ∙ ap length (fm.entries-from_sorted key_order [] tt))

pub slice_get_read : {A : Type 0} (xs : List A) (i : ℕ) (x : A) → i < length xs → x ≡ get_or xs i x → slice_get xs i ≡ Some x
slice_get_read [] i x lt e = absurd (omega arith)
slice_get_read (y ∷ xs) zero x lt e = ap Some (sym e)
slice_get_read (y ∷ xs) (suc i) x lt e = slice_get_read xs i x (omega arith) e

pub slice_get_map : {A B : Type 0} (f : A → B) (xs : List A) (i : ℕ) (x : A) → slice_get xs i ≡ Some x → slice_get (map f xs) i ≡ Some (f x)
slice_get_map f [] i x e = cc
slice_get_map f (y ∷ xs) zero x e = ap (option_map f) e
slice_get_map f (y ∷ xs) (suc i) x e = slice_get_map f xs i x e

-- an entry with a key, found
has_entry : {K X : Type 0} (es : List (K × X)) (k : K) (i : ℕ) → slice_get (map (λ e. e.0) es) i ≡ Some k → (e : K × X) × (e ≡ get_or es i e)
has_entry [] k i at = cc
has_entry (e ∷ es) k zero at = (e, refl)
has_entry (e ∷ es) k (suc i) at = has_entry es k i at

module _ (m : Table) (k : List Value) (i : ℕ) where
  pub has_row : IsKeyAt (fm.entries m) k i → (e : List Value × Option Writer) → e ≡ get_or (fm.entries m) i e → fm.get m k ≡ Some e.1
  has_row at e is = fm.get-entries m k ∙ find_at key_order key_total (fm.entries m) k i e (fm.entries_sorted m) at is

  pub has_key : IsKeyAt (fm.entries m) k i → fm.contains_key m k ≡ true
  has_key at = let e = has_entry (fm.entries m) k i at in ap is_some (has_row at e.0 e.1)

  pub no_row : IsGapFor (fm.entries m) k i → fm.get m k ≡ None
  no_row gap = fm.get-entries m k ∙ gap.absent

  pub no_key : IsGapFor (fm.entries m) k i → fm.contains_key m k ≡ false
  no_key gap = ap is_some (no_row gap)

  -- to remove a key that isn't there changes nothing
  pub not_removed : IsGapFor (fm.entries m) k i → m ≡ fm.remove m k
  not_removed gap =
      fm.same_map key_total key_exact m (fm.remove m k) (λ q.
      elim (key_order q k) as (λ r. key_order q k ≡ r → fm.get m q ≡ cond (is_eq r) None (fm.get m q)) [
        | Less ↦ λ t. refl
        | Equal ↦ λ t. ap (fm.get m) (key_exact q k t) ∙ no_row gap
        | Greater ↦ λ t. refl
      ] refl ∙ sym (fm.get-remove key_total m k q))

-- the map of entries in order
module _ (es : Entries) (m : Table) (h : T (is_sorted key_order es)) (view : fm.from_sorted es ≡ m) where
  pub entries_of : fm.entries m ≡ es
  entries_of = ap fm.entries (sym view) ∙ fm.entries-from_sorted key_order es h

  pub length_of : fm.len m ≡ length es
  length_of = fm.len-entries m ∙ ap length entries_of

  pub entry_is : (i : ℕ) (e : List Value × Option Writer) → i < length es → e ≡ get_or es i e → slice_get (fm.entries m) i ≡ Some e
  entry_is i e lt is = ap (λ l. slice_get l i) entries_of ∙ slice_get_read es i e lt is

  pub inside : (i : ℕ) → i < fm.len m → i < length es
  inside i lt = subst (λ n. i < n) length_of lt

  pub up_to_end : (i : ℕ) → i ≤ fm.len m → i ≤ length es
  up_to_end i le = subst (λ n. i ≤ n) length_of le

  pub now_sorted : (k : List Value) (row : Option Writer) (new : Entries) → new ≡ put key_order k row es → T (is_sorted key_order new)
  now_sorted k row new e = subst (λ l. T (is_sorted key_order l)) (sym e) (is_sorted-put key_order key_total k row es h)

  pub now_has : (k : List Value) (row : Option Writer) (new : Entries) → new ≡ put key_order k row es → fm.from_sorted new ≡ fm.insert m k row
  now_has k row new e =
      fm.same_entries_map (fm.from_sorted new) (fm.insert m k row)
      (fm.entries-from_sorted key_order new (now_sorted k row new e) ∙ e ∙ ap (put key_order k row) (sym entries_of) ∙ sym (fm.entries-insert key_total m k row))

  pub goes_in : (k : List Value) (row : Option Writer) (i : ℕ) → IsGapFor (fm.entries m) k i → insert es i (k, row) ≡ put key_order k row es
  goes_in k row i gap = ap (λ l. insert l i (k, row)) (sym entries_of) ∙ gap.goes row ∙ ap (put key_order k row) entries_of

  key_here : (k : List Value) (i : ℕ) → IsKeyAt (fm.entries m) k i → IsKeyAt es k i
  key_here k i at = subst (λ l. IsKeyAt l k i) entries_of at

  pub goes_over : (k : List Value) (row : Option Writer) (i : ℕ) → IsKeyAt (fm.entries m) k i → set es i (k, row) ≡ put key_order k row es
  goes_over k row i at = put_at key_order key_total es k row i h (key_here k i at)

  pub row_of : (k : List Value) (i : ℕ) (e : List Value × Option Writer) → IsKeyAt (fm.entries m) k i → e ≡ get_or es i e → fm.get m k ≡ Some e.1
  row_of k i e at is = has_row m k i at e (is ∙ ap (λ l. get_or l i e) (sym entries_of))

  pub sorted_without : (i : ℕ) → T (is_sorted key_order (remove es i))
  sorted_without i = sorted_remove key_order es i h

  pub removed : (k : List Value) (i : ℕ) → IsKeyAt (fm.entries m) k i → fm.from_sorted (remove es i) ≡ fm.remove m k
  removed k i at =
      fm.same_map key_total key_exact (fm.from_sorted (remove es i)) (fm.remove m k) (λ q.
      fm.get-from_sorted key_order (remove es i) q (sorted_without i)
      ∙ find_remove key_order key_total es k i q h (key_here k i at)
      ∙ ap (cond (eq_by_cmp key_order q k) None) (sym (fm.get-entries m q ∙ ap (find key_order q) entries_of))
      ∙ sym (fm.get-remove key_total m k q))

  -- what a search among the entries found
  pub in_range : (r : Result ℕ ℕ) → IsSearchInRange r (length es) → IsSearchInRange r (fm.len m)
  in_range r b = subst (IsSearchInRange r) (sym length_of) b

  pub found_key : (k : List Value) (r : Result ℕ ℕ) → IsSearchInRange r (length es) → IsBinarySearchResult (λ e. key_order e.0 k) es r → IfOk r (IsKeyAt (fm.entries m) k)
  found_key k (Ok i) b p = subst (λ l. IsKeyAt l k i) (sym entries_of) (key_at key_order key_total key_exact es k i b p)
  found_key k (Err i) b p = tt

  gap_here : (k : List Value) (i : ℕ) → i ≤ length es → IsPartitionPoint (λ e. key_order e.0 k ≡ Less) (λ e. key_order e.0 k ≡ Greater) es i → IsGapFor es k i
  gap_here k i b point =
      record { absent = split_absent key_order key_total es k i point; goes = λ row. split_put key_order key_total es k row i b point }

  pub found_gap : (k : List Value) (r : Result ℕ ℕ) → IsSearchInRange r (length es) → IsBinarySearchResult (λ e. key_order e.0 k) es r → IfErr r (IsGapFor (fm.entries m) k)
  found_gap k (Ok i) b p = tt
  found_gap k (Err i) b p = subst (λ l. IsGapFor l k i) (sym entries_of) (gap_here k i b (p (rising key_order key_total es k h)))
