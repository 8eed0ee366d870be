-- Laws of the index by parent.
use Rattle.std.proofs.Common.{◌≡◌, ℕ, Bool, true, false, not, Option, Some, None, List, [], ◌∷◌, ◌++◌, length, slice_get, unwrap_or, cond, is_some, inl, inr, refl, sym, ap, subst, ◌∙◌}
use Rattle.std.specs.Ordering.{is_eq}
use Rattle.std.specs.declared.cmp.Ordering.{Ordering}
use Rattle.std.specs.declared.cmp.Ordering.TheVariants.{Less, Equal, Greater}
use Rattle.std.specs.FinMap.{contains_key, empty, get, get-empty, insert, remove}
use Rattle.std.specs.List.{find}
use Rattle.std.proofs.lemmas.List.{length-map}
use Rattle.row_types.specs.declared.value.Value.{Value}
use Rattle.row_types.specs.declared.value.Value.TheVariants.{Null}
use Rattle.row_types.specs.Order.{key_order}
use Rattle.row_types.proofs.OrderLaws.{order_exact}
use Rattle.indexed_rows.specs.declared.parents.Parents.{Parents}
use Rattle.indexed_rows.specs.Rows.{put_in, changes, Table, key_of}
use Rattle.indexed_rows.specs.Indexes.{IsEntryIn, IsIndexOf, entry_of, with_entry, without_entry}
use Rattle.indexed_rows.proofs.EntryLaws.{decided, get_gone, get_left, get_new, get_other, insert_over, left_keeps, left_only, put_has, put_keeps, put_only, tail_of}

abbrev Row : Type 0
Row = List Value

same_some : {X : Type 0} {x y : X} → Some x ≡ Some y → x ≡ y
same_some e = cc

key_length : (places : List ℕ) (row : Row) → length (key_of places row) ≡ length places
key_length places row = length-map places (λ place. unwrap_or (slice_get row place) Null)

-- entries of rows with different keys differ
keys_differ : (p : Parents) (k row k' row' : Row) → entry_of p k row ≡ entry_of p k' row' → k ≡ k'
keys_differ p k row k' row' e = tail_of (key_of p.columns row) (key_of p.columns row') k k' (key_length p.columns row ∙ sym (key_length p.columns row')) e

-- no rows have no entries
pub none_indexed : (p : Parents) → p.entries ≡ empty → IsIndexOf p empty
none_indexed p is = record {
  has = λ key row e. let none = get-empty {X = Row} key_order key in cc;
  only = λ entry e. let none : get p.entries entry ≡ None = ap (λ m. get m entry) is ∙ get-empty key_order entry in cc;
}

module _ (p : Parents) (rows : Table) (index : IsIndexOf p rows) (key : Row) where
  pub entered : (row : Row) → get rows key ≡ None → IsIndexOf (with_entry (entry_of p key row) p) (insert rows key row)
  entered row none = record {
    has = λ k r e. elim (decided k key) as (λ d. contains_key (put_in p.entries (entry_of p key row) []) (entry_of p k r) ≡ true) [
      | inl same ↦
          let row_is : r ≡ row = same_some (sym e ∙ ap (get (insert rows key row)) same ∙ get_new rows key row) in
          rw (same, row_is) (put_has p.entries (entry_of p key row) [])
      | inr other ↦ put_keeps p.entries (entry_of p key row) [] (entry_of p k r) (index.has k r (sym (get_other rows key row k other) ∙ e))
    ];
    only = λ q e. elim (put_only p.entries (entry_of p key row) [] q e) as (λ d. IsEntryIn (with_entry (entry_of p key row) p) (insert rows key row) q) [
      | inl same ↦ record { key = key; row = row; there = get_new rows key row; is = same }
      | inr has ↦ later q (index.only q has)
    ];
  }
    where
      later : (q : Row) → IsEntryIn p rows q → IsEntryIn (with_entry (entry_of p key row) p) (insert rows key row) q
      later q one = elim (decided one.key key) as (λ d. IsEntryIn (with_entry (entry_of p key row) p) (insert rows key row) q) [
        | inl same ↦ let some : get rows key ≡ Some one.row = ap (get rows) (sym same) ∙ one.there in cc
        | inr other ↦ record { key = one.key; row = one.row; there = get_other rows key row one.key other ∙ one.there; is = one.is }
      ]

  pub gone : (old : Row) → get rows key ≡ Some old → IsIndexOf (without_entry (entry_of p key old) p) (remove rows key)
  gone old is = record {
    has = λ k r e. elim (decided k key) as (λ d. contains_key (remove p.entries (entry_of p key old)) (entry_of p k r) ≡ true) [
      | inl same ↦ let none : get (remove rows key) k ≡ None = ap (get (remove rows key)) same ∙ get_gone rows key in cc
      | inr other ↦ left_keeps p.entries (entry_of p key old) (entry_of p k r) (λ both. other (keys_differ p k r key old both)) (index.has k r (sym (get_left rows key k other) ∙ e))
    ];
    only = λ q e. let was = left_only p.entries (entry_of p key old) q e in later q was.0 (index.only q was.1);
  }
    where
      later : (q : Row) → (q ≡ entry_of p key old → ⊥) → IsEntryIn p rows q → IsEntryIn (without_entry (entry_of p key old) p) (remove rows key) q
      later q differs one = elim (decided one.key key) as (λ d. IsEntryIn (without_entry (entry_of p key old) p) (remove rows key) q) [
        | inl same ↦
            let row_is : one.row ≡ old = same_some (sym one.there ∙ ap (get rows) same ∙ is) in
            absurd (differs (one.is ∙ ap (λ k. entry_of p k one.row) same ∙ ap (entry_of p key) row_is))
        | inr other ↦ record { key = one.key; row = one.row; there = get_left rows key one.key other ∙ one.there; is = one.is }
      ]

  -- the parent stays
  pub stayed : (old new : Row) → get rows key ≡ Some old → key_of p.columns old ≡ key_of p.columns new → IsIndexOf p (insert rows key new)
  stayed old new is parent = record {
    has = λ k r e. elim (decided k key) as (λ d. contains_key p.entries (entry_of p k r) ≡ true) [
      | inl same ↦
          let row_is : r ≡ new = same_some (sym e ∙ ap (get (insert rows key new)) same ∙ get_new rows key new) in
          let entry_is : entry_of p k r ≡ entry_of p key old = ap (λ l. entry_of p l r) same ∙ ap (entry_of p key) row_is ∙ ap (λ l. l ++ key) (sym parent) in
          ap (contains_key p.entries) entry_is ∙ index.has key old is
      | inr other ↦ index.has k r (sym (get_other rows key new k other) ∙ e)
    ];
    only = λ q e. later q (index.only q e);
  }
    where
      later : (q : Row) → IsEntryIn p rows q → IsEntryIn p (insert rows key new) q
      later q one = elim (decided one.key key) as (λ d. IsEntryIn p (insert rows key new) q) [
        | inl same ↦
            let row_is : one.row ≡ old = same_some (sym one.there ∙ ap (get rows) same ∙ is) in
            record { key = key; row = new; there = get_new rows key new; is = one.is ∙ ap (λ k. entry_of p k one.row) same ∙ ap (entry_of p key) row_is ∙ ap (λ l. l ++ key) parent }
        | inr other ↦ record { key = one.key; row = one.row; there = get_other rows key new one.key other ∙ one.there; is = one.is }
      ]

-- the entry moves
pub moved : (p : Parents) (rows : Table) → IsIndexOf p rows → (key old new : Row) → get rows key ≡ Some old
    → IsIndexOf (with_entry (entry_of p key new) (without_entry (entry_of p key old) p)) (insert rows key new)
moved p rows index key old new is =
    subst (IsIndexOf (with_entry (entry_of p key new) (without_entry (entry_of p key old) p))) (insert_over rows key new)
    (entered (without_entry (entry_of p key old) p) (remove rows key) (gone p rows index key old is) key new (get_gone rows key))

-- where no place changes, the parent stays

none_first : (b : Bool) (place : ℕ) (rest : Option ℕ) → cond b (Some place) rest ≡ None → (b ≡ false) × (rest ≡ None)
none_first true place rest e = cc
none_first false place rest e = (refl, e)

tied : (r : Ordering) → not (is_eq r) ≡ false → r ≡ Equal
tied Less e = cc
tied Equal e = refl
tied Greater e = cc

pub parent_stays : (places : List ℕ) (old new : Row) → find (changes old new) places ≡ None → key_of places old ≡ key_of places new
parent_stays [] old new e = refl
parent_stays (place ∷ places) old new e =
    let none = none_first (changes old new place) place (find (changes old new) places) e in
    let first : unwrap_or (slice_get old place) Null ≡ unwrap_or (slice_get new place) Null = order_exact _ _ (tied _ none.0) in
    let others : key_of places old ≡ key_of places new = parent_stays places old new none.1 in
    λ i. first i ∷ others i

-- a key whose row went in had none
pub was_new : (rows new : Table) (kept key row : Row) (was : Bool) → was ≡ not (contains_key rows kept) → was ≡ true → kept ≡ key → new ≡ cond (contains_key rows kept) rows (insert rows kept row)
    → (new ≡ insert rows key row) × (get rows key ≡ None)
was_new rows new kept key row was is holds same made = (made ∙ ap (λ b. cond b rows (insert rows kept row)) absent ∙ ap (λ k. insert rows k row) same, ap (get rows) (sym same) ∙ none_of (get rows kept) absent)
  where
    opposite : (b : Bool) → not b ≡ true → b ≡ false
    opposite true e = cc
    opposite false e = refl

    absent : contains_key rows kept ≡ false
    absent = opposite (contains_key rows kept) (sym is ∙ holds)

    none_of : (o : Option Row) → is_some o ≡ false → o ≡ None
    none_of None e = refl
    none_of (Some x) e = cc
