-- The keys that a group has where root rows are beside its hidden ones.
use Rattle.std.proofs.Common.{◌≡◌, ℕ, suc, Bool, true, false, cond, ◌||◌, Option, Some, None, is_some, List, [], ◌∷◌, ◌++◌, map, slice_get, refl, sym, ap, ◌∙◌}
use Rattle.std.specs.FinMap as fm
use Rattle.std.specs.Option.{option_or}
use Rattle.row_types.specs.declared.value.Value.{Value}
use Rattle.table_defs.specs.declared.definition.TableDef.{TableDef}
use Rattle.indexed_rows.specs.Rows.{Table, is_same, key_of, put_in}
use Rattle.indexed_rows.proofs.EntryLaws.{at_has}
use Rattle.table_state.specs.Tables.{TableState, table_at}
use Rattle.instances.specs.declared.tree.Tree.{Tree}
use Rattle.instances.specs.Trees.{is_sound}
use Rattle.instances.specs.Views.{kept_at}
use Rattle.cache_store.proofs.JoinLaws.{get_put_in}
use Rattle.slot_rows.specs.SlotKeys.{RowsHeld}
use Rattle.group_store.specs.Keeping.{primary_of}
use Rattle.group_store.specs.Stores.{Kept}
use Rattle.cache_tier.specs.Groups.{is_key}
use Rattle.cache_tier.proofs.ShownTables.{defined_in, some_def}
use Rattle.cache_tier.proofs.SoundStates.{IsSoundState}
use Rattle.stored_tier.proofs.StoreForms.{primary}
use Rattle.stored_tier.specs.Filling.{is_held}
use Rattle.group_engine.specs.Gaining.{rows_put, widened}
use Rattle.group_engine.proofs.FillLaws.{get_front}

abbrev Row : Type 0
Row = List Value

or_false : (b : Bool) → (b || false) ≡ b
or_false true = refl
or_false false = refl

assoc : (a b c : Bool) → ((a || b) || c) ≡ (a || (b || c))
assoc true b c = refl
assoc false b c = refl

-- one row more
put_held : (t : Table) (k row q : Row) → fm.contains_key (put_in t k row) q ≡ (fm.contains_key t q || is_same q k)
put_held t k row q = ap is_some (get_put_in t k row q) ∙ by (fm.get t q) (is_same q k)
  where
    by : (o : Option Row) (b : Bool) → is_some (option_or o (cond b (Some row) None)) ≡ (is_some o || b)
    by None true = refl
    by None false = refl
    by (Some r) b = refl

pub rows_held : (places : List ℕ) (rows : List Row) (t : Table) (q : Row) → fm.contains_key (rows_put places rows t) q ≡ (fm.contains_key t q || is_key (map (key_of places) rows) q)
rows_held places [] t q = sym (or_false (fm.contains_key t q))
rows_held places (row ∷ rows) t q =
    rows_held places rows (put_in t (key_of places row) row) q
    ∙ ap (λ b. b || is_key (map (key_of places) rows) q) (put_held t (key_of places row) row q)
    ∙ assoc (fm.contains_key t q) (is_same q (key_of places row)) (is_key (map (key_of places) rows) q)

-- rows that stand under their keys
keys_of : (places : List ℕ) (es : List (Row × Row)) → ((i : ℕ) (e : Row × Row) → slice_get es i ≡ Some e → key_of places e.1 ≡ e.0) → map (key_of places) (map (λ (e : Row × Row). e.1) es) ≡ map (λ (e : Row × Row). e.0) es
keys_of places [] keyed = refl
keys_of places (e ∷ es) keyed = let one = keyed 0 e refl in let rest = keys_of places es (λ i x at. keyed (suc i) x at) in λ i. one i ∷ rest i

pub held_widened : (s : Kept) (h : RowsHeld) (gained : Table) → ((q row : Row) → fm.get gained q ≡ Some row → key_of h.places row ≡ q) → (q : Row) → is_held s (widened h gained) q ≡ (is_held s h.table q || is_key (fm.keys gained) q)
held_widened s h gained keyed q =
    ap (λ b. fm.contains_key (kept_at s.tables 0) q || b)
    (rows_held h.places (fm.values gained) h.table q
    ∙ ap (λ l. fm.contains_key h.table q || is_key l q) (keys_of h.places (fm.entries gained) (λ i e at. keyed e.0 e.1 (at_has gained i e at))))
    ∙ sym (assoc (fm.contains_key (kept_at s.tables 0) q) (fm.contains_key h.table q) (is_key (fm.keys gained) q))

-- the root rows of a state stand under the values of the primary key
pub primary_key : (schema more : List TableDef) (tree : Tree) (state : TableState) → IsSoundState state → is_sound schema tree ≡ true → state.schema ≡ schema ++ more → (q row : Row) → fm.get (table_at state tree.root.table) q ≡ Some row → key_of (primary_of schema tree.root.table) row ≡ q
primary_key schema more tree state is sound front q row found =
    let d = some_def (slice_get schema tree.root.table.0) (defined_in schema tree 0 tree.root.table sound refl) in
    let there : slice_get state.schema tree.root.table.0 ≡ Some d.0 = ap (λ defs. slice_get defs tree.root.table.0) front ∙ get_front schema more tree.root.table.0 (defined_in schema tree 0 tree.root.table sound refl) ∙ d.1 in
    ap (λ ps. key_of ps row) (primary schema tree.root.table d.0 d.1) ∙ is.keyed tree.root.table d.0 there q row found
