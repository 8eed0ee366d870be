-- The next row of a parent in a stored table.
use Rattle.std.proofs.Common.{◌≡◌, ℕ, zero, suc, ◌<◌, ◌≤◌, Bool, true, false, cond, List, [], ◌∷◌, ◌++◌, length, drop, Some, None, refl, sym, ap, ◌∙◌, arith}
use Rattle.std.proofs.lemmas.List.{length-map}
use Rattle.std.specs.FinMap as fm
use Rattle.slot_rows.specs.row_types.specs.declared.value.Value.{Value}
use Rattle.slot_rows.specs.indexed_rows.specs.Rows.{Table, first_from, has_key, key_of}
use Rattle.slot_rows.specs.indexed_rows.proofs.EntryLaws.{same_values, there}
use Rattle.slot_rows.specs.indexed_rows.proofs.FirstLaws.{here, no_more}
use Rattle.slot_rows.specs.Orders.{place_from}
use Rattle.group_store.specs.Joined.{foreign_there}
use Rattle.group_store.specs.Recent.{orders_for}
use Rattle.group_store.specs.declared.tree_rows.ChildRows.{ChildRows}
use Rattle.group_store.specs.declared.tree_rows.TreeRows.{TreeRows}
use Rattle.group_store.proofs.JoinedLaws.{next_place}
use Rattle.std.proofs.Common.{◌-◌, slice_get, unwrap_or}
use Rattle.std.specs.Option.{option_map}
use Rattle.slot_rows.specs.indexed_rows.proofs.MapLaws.{slice_get_map}
use Rattle.group_store.specs.Joined.{layer_of}

abbrev Row : Type 0
Row = List Value

untrue : (b : Bool) → (b ≡ true → ⊥) → b ≡ false
untrue true h = absurd (h refl)
untrue false h = refl

key_long : (columns : List ℕ) (row : Row) → length (key_of columns row) ≡ length columns
key_long [] row = refl
key_long (c ∷ columns) row = ap suc (key_long columns row)

none_passes : {A : Type 0} (test : A → Bool) (xs : List A) (from : ℕ) → ((x : A) → test x ≡ false) → first_from test from xs ≡ None
none_passes test [] from h = refl
none_passes test (x ∷ xs) from h = ap (λ b. cond b (Some from) (first_from test (suc from) xs)) (h x) ∙ none_passes test xs (suc from) h

-- no row has a key of another length
pub never_child : (table : Table) (columns : List ℕ) (key : Row) (from : ℕ) → (length key ≡ length columns → ⊥) → None ≡ place_from table columns key from
never_child table columns key from other =
    sym (none_passes (has_key columns key) (drop from (fm.values table)) from (λ row. untrue (has_key columns key row) (λ holds. other (sym (ap length (same_values (key_of columns row) key holds)) ∙ key_long columns row))))

-- each row has the key of no columns
pub each_child : (table : Table) (columns : List ℕ) (key : Row) (from : ℕ) → length columns ≡ 0 → length key ≡ 0 → from < fm.len table → Some from ≡ place_from table columns key from
each_child table [] [] from e f lt =
    let within : from < length (fm.values table) = omega (arith, lt, length-map (fm.entries table) (λ x. x.1), fm.len-entries table) in
    let x = there (fm.values table) from within in
    sym (here (has_key [] []) (fm.values table) from x.0 x.1 refl)
each_child table (c ∷ columns) key from e f lt = absurd (omega (arith, e))
each_child table [] (k ∷ key) from e f lt = absurd (omega (arith, f))

pub past_child : (table : Table) (columns : List ℕ) (key : Row) (from : ℕ) → fm.len table ≤ from → None ≡ place_from table columns key from
past_child table columns key from past =
    sym (no_more (has_key columns key) (fm.values table) from (omega (arith, past, length-map (fm.entries table) (λ x. x.1), fm.len-entries table)))

-- the order by a foreign key
pub order_is : (foreign places : List ℕ) → 0 < length foreign → orders_for foreign places ≡ (foreign ++ places) ∷ []
order_is [] places some = absurd (omega (arith, some))
order_is (c ∷ foreign) places some = refl

-- past the end there is no row
pub past_rows : (table : Table) (at : ℕ) → fm.len table ≤ at → None ≡ slice_get (fm.values table) at
past_rows table at past = none (fm.values table) at (omega (arith, past, length-map (fm.entries table) (λ x. x.1), fm.len-entries table))
  where
    none : (xs : List Row) (i : ℕ) → length xs ≤ i → None ≡ slice_get xs i
    none [] i le = refl
    none (x ∷ xs) zero le = absurd (omega (arith, le))
    none (x ∷ xs) (suc i) le = none xs i (omega (arith, le))

pub foreign_child : (t : TreeRows) (place : ℕ) (c : ChildRows) → 0 < place → slice_get t.children.items (place - 1) ≡ Some c → foreign_there t place ≡ c.foreign
foreign_child t place c some is = ap (foreign_there t) (next_place place some) ∙ ap (λ o. unwrap_or (option_map (λ l. l.foreign) o) []) (slice_get_map layer_of t.children.items (place - 1) c is)
