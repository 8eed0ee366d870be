-- The keys of rows, as a set.
use Rattle.std.proofs.Common.{◌≡◌, Bool, true, false, cond, T, ◌&&◌, List, [], ◌∷◌, map, Option, Some, None, is_some, refl, sym, ap, subst, ◌∙◌}
use Rattle.std.specs.Option.{option_map}
use Rattle.std.specs.Ordering.{is_lt}
use Rattle.std.specs.FinMap as fm
use Rattle.std.specs.FinMap.Entries.{below_all, find}
use Rattle.slot_rows.specs.row_types.specs.declared.value.Value.{Value}
use Rattle.slot_rows.specs.row_types.specs.Order.{key_order}
use Rattle.slot_rows.specs.row_types.proofs.OrderLaws.{key_exact, key_total}
use Rattle.slot_rows.specs.indexed_rows.specs.Rows.{Table, is_same}
use Rattle.slot_rows.specs.indexed_rows.proofs.EntryLaws.{same_values}
use Rattle.cache_store.specs.table_state.specs.declared.operation.Op.{Op}
use Rattle.cache_store.specs.table_state.specs.declared.operation.Op.TheVariants.{Delete, Insert, Update}
use Rattle.cache_store.specs.table_state.specs.Operations.{table_of}
use Rattle.cache_store.specs.instances.specs.Trees.{same_table}
use Rattle.group_store.specs.Entering.{Keys, entered_by, keys_of_rows, root_entered}
use Rattle.group_store.specs.Stores.{Kept}

abbrev Row : Type 0
Row = List Value

abbrev marked : List (Row × Row) → List (Row × Unit {0})
marked es = map (λ e. (e.0, tt)) es

below_marked : (x : Row) (es : List (Row × Row)) → below_all key_order x (marked es) ≡ below_all key_order x es
below_marked x [] = refl
below_marked x (e ∷ es) = ap (λ b. is_lt (key_order x e.0) && b) (below_marked x es)

sorted_marked : (es : List (Row × Row)) → fm.is_sorted key_order (marked es) ≡ fm.is_sorted key_order es
sorted_marked [] = refl
sorted_marked (e ∷ es) = let one = below_marked e.0 es in let rest = sorted_marked es in λ i. one i && rest i

rises : (m : Table) → T (fm.is_sorted key_order (marked (fm.entries m)))
rises m = subst T (sym (sorted_marked (fm.entries m))) (fm.entries_sorted m)

find_marked : (q : Row) (es : List (Row × Row)) → find key_order q (marked es) ≡ option_map (λ x. tt) (find key_order q es)
find_marked q [] = refl
find_marked q (e ∷ es) = by (is_same q e.0) (find_marked q es)
  where
    by : (b : Bool) → find key_order q (marked es) ≡ option_map (λ x. tt) (find key_order q es) → cond b (Some tt) (find key_order q (marked es)) ≡ option_map (λ x. tt) (cond b (Some e.1) (find key_order q es))
    by true rest = refl
    by false rest = rest

got : (m : Table) (q : Row) → ◌≡◌ {A = Option (Unit {0})} (fm.get (keys_of_rows m) q) (option_map (λ (x : Row). tt) (fm.get m q))
got m q = fm.get-from_sorted key_order (marked (fm.entries m)) q (rises m) ∙ find_marked q (fm.entries m) ∙ ap (option_map (λ x. tt)) (sym (fm.get-entries m q))

firsts : (es : List (Row × Row)) → map (λ e. e.0) (marked es) ≡ map (λ e. e.0) es
firsts [] = refl
firsts (e ∷ es) = ap (λ l. e.0 ∷ l) (firsts es)

pub same_keys : (m : Table) → fm.keys m ≡ fm.keys (keys_of_rows m)
same_keys m = sym (firsts (fm.entries m)) ∙ ap (map (λ e. e.0)) (sym (fm.entries-from_sorted key_order (marked (fm.entries m)) (rises m)))

pub no_keys : (m : Table) → m ≡ fm.empty → ◌≡◌ {A = Keys} (keys_of_rows m) fm.empty
no_keys m e = fm.same_map key_total key_exact (keys_of_rows m) fm.empty (λ q. got m q ∙ ap (λ x. option_map (λ (y : Row). tt) (fm.get x q)) e ∙ ap (option_map (λ (y : Row). tt)) (fm.get-empty key_order q) ∙ sym (fm.get-empty key_order q))

abbrev mark : Option Row → Option (Unit {0})
mark o = option_map (λ (x : Row). tt) o

marks : (b : Bool) (row : Row) (o : Option Row) → ◌≡◌ {A = Option (Unit {0})} (mark (cond b (Some row) o)) (cond b (Some tt) (mark o))
marks true row o = refl
marks false row o = refl

drops : (b : Bool) (o : Option Row) → ◌≡◌ {A = Option (Unit {0})} (mark (cond b None o)) (cond b None (mark o))
drops true o = refl
drops false o = refl

held : (b : Bool) (o : Option Row) → (b ≡ true → is_some o ≡ true) → ◌≡◌ {A = Option (Unit {0})} (mark o) (cond b (Some tt) (mark o))
held true None h = let z : false ≡ true = h refl in cc
held true (Some x) h = refl
held false o h = refl

pub one_key_more : (m new : Table) (key row : Row) → new ≡ (cond (fm.contains_key m key) m (fm.insert m key row)) → ◌≡◌ {A = Keys} (keys_of_rows new) (fm.insert (keys_of_rows m) key tt)
one_key_more m new key row e = fm.same_map key_total key_exact (keys_of_rows new) (fm.insert (keys_of_rows m) key tt) (λ q. got new q ∙ ap (λ x. mark (fm.get x q)) e ∙ by q (fm.contains_key m key) refl ∙ ap (cond (is_same q key) (Some tt)) (sym (got m q)) ∙ sym (fm.get-insert key_total (keys_of_rows m) key tt q))
  where
    by : (q : Row) (b : Bool) → fm.contains_key m key ≡ b → ◌≡◌ {A = Option (Unit {0})} (mark (fm.get (cond b m (fm.insert m key row)) q)) (cond (is_same q key) (Some tt) (mark (fm.get m q)))
    by q true has = held (is_same q key) (fm.get m q) (λ s. ap (fm.contains_key m) (same_values q key s) ∙ has)
    by q false has = ap mark (fm.get-insert key_total m key row q) ∙ marks (is_same q key) row (fm.get m q)

pub one_key_less : (m new : Table) (key : Row) → new ≡ fm.remove m key → ◌≡◌ {A = Keys} (keys_of_rows new) (fm.remove (keys_of_rows m) key)
one_key_less m new key e = fm.same_map key_total key_exact (keys_of_rows new) (fm.remove (keys_of_rows m) key) (λ q. got new q ∙ ap (λ x. mark (fm.get x q)) e ∙ ap mark (fm.get-remove key_total m key q) ∙ drops (is_same q key) (fm.get m q) ∙ ap (cond (is_same q key) None) (sym (got m q)) ∙ sym (fm.get-remove key_total (keys_of_rows m) key q))

-- an operation enters what it does on the root table, and nothing on another
pub by_table : (base : Kept) (op : Op) (roots : Keys) → entered_by base op roots ≡ cond (same_table base.table (table_of op)) (root_entered base.key op roots) roots
by_table base (Insert t row) roots = refl
by_table base (Update t old row) roots = by (same_table base.table t)
  where
    by : (b : Bool) → roots ≡ cond b roots roots
    by true = refl
    by false = refl
by_table base (Delete t old) roots = refl
