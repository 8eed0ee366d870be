-- Rows of tables that fit, one table after another.
use Rattle.std.proofs.Common.{◌≡◌, ◌⊎◌, ◌<◌, ◌≤◌, ◌+◌, ℕ, Some, List, inl, inr, length, get_or, slice_get, arith, sym, ap, subst, ◌∙◌}
use Rattle.std.proofs.lemmas.Bool.{cases_lt}
use Rattle.tier_base.specs.declared.number.TableId.{TableId}
use Rattle.row_types.specs.declared.value.Value.{Value}
use Rattle.table_defs.specs.declared.definition.TableDef.{TableDef}
use Rattle.indexed_rows.specs.Rows.{Table}
use Rattle.indexed_rows.proofs.EntryLaws.{read, there}
use Rattle.table_state.specs.Keyed.{HasFit}
use Rattle.instances.specs.declared.tree.Tree.{Tree}
use Rattle.instances.specs.Trees.{table_of}
use Rattle.aging_cycles.specs.Fitting.{AreFit, AreListedFit, DoFit}
use Rattle.order_laws.proofs.TruthLaws.{same_some}

-- the rows of the table at a place
abbrev pub FitsAt : List TableDef → Tree → ℕ → Table → Type 0
FitsAt schema tree i rows = (t : TableId) (def : TableDef) → table_of tree i ≡ Some t → slice_get schema t.0 ≡ Some def → HasFit def.columns rows

-- those of the tables below a number
abbrev pub AreFitBelow : ℕ → List TableDef → Tree → List Table → Type 0
AreFitBelow n schema tree tables = (i : ℕ) (rows : Table) → i < n → slice_get tables i ≡ Some rows → FitsAt schema tree i rows

-- an element that is there
pub element : {X : Type 0} (xs : List X) (n : ℕ) (x : X) → n < length xs → x ≡ get_or xs n x → slice_get xs n ≡ Some x
element xs n x lt is =
    let (y, at) = there xs n lt in
    at ∙ ap Some (sym (is ∙ (read xs n y x at).1))

below : (i n : ℕ) → i < n + 1 → (i < n) ⊎ (i ≡ n)
below i n lt = elim (cases_lt i n) [
  | inl less ↦ inl less
  | inr more ↦ inr (Prim.omega (arith, lt, more))
]

pub one_more_table : (schema : List TableDef) (tree : Tree) (tables : List Table) (n : ℕ) (rows : Table) → slice_get tables n ≡ Some rows → FitsAt schema tree n rows → AreFitBelow n schema tree tables → AreFitBelow (n + 1) schema tree tables
one_more_table schema tree tables n rows here fits all i other lt at = by (below i n lt)
  where
    by : (i < n) ⊎ (i ≡ n) → FitsAt schema tree i other
    by (inl less) = all i other less at
    by (inr same) = subst (λ x. FitsAt schema tree i x) (same_some (sym here ∙ ap (slice_get tables) (sym same) ∙ at)) (subst (λ k. FitsAt schema tree k rows) (sym same) fits)

pub all_tables_fit : (schema : List TableDef) (tree : Tree) (tables : List Table) (n : ℕ) → length tables ≤ n → AreFitBelow n schema tree tables → AreFit schema tree tables
all_tables_fit schema tree tables n long all i rows t def at is known =
    let within = (read tables i rows rows at).0 in
    all i rows (Prim.omega (arith, long, within)) at t def is known

-- ---- lists, one element after another

abbrev pub AllBelow : {X : Type 0} → (ℕ → X → Type 0) → ℕ → List X → Type 0
AllBelow {X} P n xs = (i : ℕ) (x : X) → i < n → slice_get xs i ≡ Some x → P i x

pub one_more : {X : Type 0} (P : ℕ → X → Type 0) (xs : List X) (n : ℕ) (x : X) → slice_get xs n ≡ Some x → P n x → AllBelow P n xs → AllBelow P (n + 1) xs
one_more {X} P xs n x here is all i other lt at = by (below i n lt)
  where
    by : (i < n) ⊎ (i ≡ n) → P i other
    by (inl less) = all i other less at
    by (inr same) = subst (P i) (same_some (sym here ∙ ap (slice_get xs) (sym same) ∙ at)) (subst (λ k. P k x) (sym same) is)

pub all_elements : {X : Type 0} (P : ℕ → X → Type 0) (xs : List X) (n : ℕ) → length xs ≤ n → AllBelow P n xs → (i : ℕ) (x : X) → slice_get xs i ≡ Some x → P i x
all_elements P xs n long all i x at =
    let within = (read xs i x x at).0 in
    all i x (Prim.omega (arith, long, within)) at

-- the rows of a list, at a place of a tree
abbrev pub ListFitsAt : List TableDef → Tree → ℕ → List (List Value) → Type 0
ListFitsAt schema tree i rows = (t : TableId) (def : TableDef) → table_of tree i ≡ Some t → slice_get schema t.0 ≡ Some def → DoFit def.columns rows

pub all_lists_fit : (schema : List TableDef) (tree : Tree) (lists : List (List (List Value))) (n : ℕ) → length lists ≤ n → AllBelow (ListFitsAt schema tree) n lists → AreListedFit schema tree lists
all_lists_fit schema tree lists n long all i j rows row t def at there is known = all_elements (ListFitsAt schema tree) lists n long all i rows at t def is known j row there
