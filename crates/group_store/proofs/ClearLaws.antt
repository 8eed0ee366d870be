-- Tables without rows.
use Rattle.std.proofs.Common.{◌≡◌, ℕ, suc, ◌<◌, List, [], ◌∷◌, length, map, slice_get, Some, refl, arith}
use Rattle.std.specs.FinMap.{empty}
use Rattle.slot_rows.specs.indexed_rows.specs.Rows.{Table}
use Rattle.group_store.specs.Joined.{tables_of}
use Rattle.group_store.specs.Trees.{all_empty}
use Rattle.group_store.specs.declared.tree_rows.ChildRows.{ChildRows}
use Rattle.group_store.specs.declared.tree_rows.TreeRows.{TreeRows}

abbrev table_in : ChildRows → Table
table_in c = c.rows.table

none_in : (cs ds : List ChildRows) → length ds ≡ length cs → ((i : ℕ) (c : ChildRows) → i < length ds → slice_get ds i ≡ Some c → c.rows.table ≡ empty) → map table_in ds ≡ all_empty (map table_in cs)
none_in [] [] e h = refl
none_in [] (d ∷ ds) e h = absurd (omega (arith, e))
none_in (c ∷ cs) [] e h = absurd (omega (arith, e))
none_in (c ∷ cs) (d ∷ ds) e h =
    let first : table_in d ≡ empty = h 0 d (omega arith) refl in
    let rest = none_in cs ds (omega (arith, e)) (λ i x lt is. h (suc i) x (omega (arith, lt)) is) in
    λ i. first i ∷ rest i

pub none_left : (old new : TreeRows) → length new.children.items ≡ length old.children.items → new.roots.table ≡ empty → ((i : ℕ) (c : ChildRows) → i < length new.children.items → slice_get new.children.items i ≡ Some c → c.rows.table ≡ empty) → tables_of new ≡ all_empty (tables_of old)
none_left old new long root rows = let rest = none_in old.children.items new.children.items long rows in λ i. root i ∷ rest i
