-- What is left of what a store showed, where instances were told.
use Rattle.std.proofs.Common.{◌≡◌, ℕ, Bool, true, false, ◌&&◌, ◌||◌, not, cond, Option, Some, None, List, [], ◌∷◌, slice_get, refl, sym, ap, ◌∙◌, arith}
use Rattle.std.specs.List.{list_any}
use Rattle.std.specs.FinMap as fm
use Rattle.row_types.specs.declared.value.Value.{Value}
use Rattle.row_types.proofs.OrderLaws.{key_exact}
use Rattle.indexed_rows.specs.Rows.{Table, is_same}
use Rattle.indexed_rows.proofs.EntryLaws.{same_values}
use Rattle.table_state.specs.Tables.{TableState}
use Rattle.instances.specs.declared.tree.Tree.{Tree}
use Rattle.instances.specs.Roots.{root_at}
use Rattle.instances.specs.Views.{instance_of, kept_at, root_rows, view_of}
use Rattle.outside.specs.Laws.{is_told}
use Rattle.outside.specs.declared.changes.Touched.{Touched}
use Rattle.outside.proofs.RowLaws.{is_same_self}
use Rattle.cache_store.specs.Shown.{has_root, shown_of}
use Rattle.cache_store.proofs.JoinLaws.{same_tables}
use Rattle.cache_store.proofs.OwnLaws.{keeps}
use Rattle.cache_store.proofs.ShownLaws.{gets_chosen, shown_length, view_root}
use Rattle.group_store.specs.Keeping.{KeepsOthers}

abbrev Row : Type 0
Row = List Value

abbrev pub Test : Type 0
Test = Row → Bool

abbrev pub Drops : Type 0
Drops = (state : TableState) (tree : Tree) → KeepsOthers state tree

-- roots that pass, but for the told ones
abbrev pub left : Test → List Touched → Test
left p told k = p k && not (is_told told k)

pub left_more : (p : Test) (t : Touched) (told : List Touched) → left (λ k. p k && not (is_same k t.instance.root)) told ≡ left p (t ∷ told)
left_more p t told = λ i k. by (p k) (is_same k t.instance.root) (is_told told k) i
  where
    by : (a b c : Bool) → ((a && not b) && not c) ≡ (a && not (b || c))
    by true true c = refl
    by true false c = refl
    by false b c = refl

pub left_none : (p : Test) → left p [] ≡ p
left_none p = λ i k. by (p k) i
  where
    by : (a : Bool) → (a && true) ≡ a
    by true = refl
    by false = refl

-- ---- the others are in the second state what they were

none_of : {X : Type 0} (b : Bool) → ◌≡◌ {A = Option X} (cond b None None) None
none_of true = refl
none_of false = refl

-- of a value that is there only where a test passes, the test passes
pub record IsThere (b : Bool) (v : Option Row) (row : Row) : Type 0 where
  pub passes : b ≡ true
  pub is : v ≡ Some row

pub there : (b : Bool) (v : Option Row) (row : Row) → cond b v None ≡ Some row → IsThere b v row
there true v row e = record { passes = refl; is = e }
there false v row e = cc

-- the root that a shown row is reached from
record HasRoot (s : TableState) (tree : Tree) (p : Test) (place : ℕ) (key row : Row) : Type 0 where
  root : Row
  reached : root_at s tree place key ≡ Some root
  passes : p root ≡ true
  viewed : fm.get (kept_at (view_of s tree) place) key ≡ Some row

root_there : (s : TableState) (tree : Tree) (p : Test) (place : ℕ) (key row : Row) → fm.get (kept_at (shown_of s tree p) place) key ≡ Some row → HasRoot s tree p place key row
root_there s tree p place key row e =
    let is : IsThere (has_root p (root_at s tree place key)) (fm.get (kept_at (view_of s tree) place) key) row = there _ _ row (sym (gets_chosen s tree p place key) ∙ e) in
    let r = view_root s tree place key row is.is in
    record { root = r.0; reached = r.1; passes = ap (has_root p) (sym r.1) ∙ is.passes; viewed = is.is }

shown_there : (s : TableState) (tree : Tree) (p : Test) (place : ℕ) (key row : Row) → HasRoot s tree p place key row → fm.get (kept_at (shown_of s tree p) place) key ≡ Some row
shown_there s tree p place key row has =
    gets_chosen s tree p place key
    ∙ ap (λ b. cond b (fm.get (kept_at (view_of s tree) place) key) None) (ap (has_root p) has.reached ∙ has.passes)
    ∙ has.viewed

-- a row that one state shows another one shows, too, where the instances of the roots are the same
moves : (a b : TableState) (tree : Tree) (p : Test) (same : (root : Row) → p root ≡ true → instance_of b tree root ≡ instance_of a tree root) (place : ℕ) (key row : Row)
    → fm.get (kept_at (shown_of a tree p) place) key ≡ Some row → fm.get (kept_at (shown_of b tree p) place) key ≡ Some row
moves a b tree p same place key row e =
    let has = root_there a tree p place key row e in
    let own : fm.get (kept_at (instance_of a tree has.root) place) key ≡ Some row = shown_there a tree (λ k. is_same k has.root) place key row (record { root = has.root; reached = has.reached; passes = is_same_self has.root; viewed = has.viewed }) in
    let other : HasRoot b tree (λ k. is_same k has.root) place key row = root_there b tree (λ k. is_same k has.root) place key row (ap (λ ts. fm.get (kept_at ts place) key) (same has.root has.passes) ∙ own) in
    shown_there b tree p place key row (record { root = other.root; reached = other.reached; passes = ap p (same_values other.root has.root other.passes) ∙ has.passes; viewed = other.viewed })

pub same_shown : (a b : TableState) (tree : Tree) (p : Test) → ((root : Row) → p root ≡ true → instance_of b tree root ≡ instance_of a tree root) → shown_of a tree p ≡ shown_of b tree p
same_shown a b tree p same =
    same_tables (shown_of a tree p) (shown_of b tree p) (shown_length a tree p ∙ sym (shown_length b tree p))
    (λ place key. by place key (fm.get (kept_at (shown_of a tree p) place) key) refl (fm.get (kept_at (shown_of b tree p) place) key) refl)
  where
    by : (place : ℕ) (key : Row) (o : Option Row) → fm.get (kept_at (shown_of a tree p) place) key ≡ o → (u : Option Row) → fm.get (kept_at (shown_of b tree p) place) key ≡ u
        → fm.get (kept_at (shown_of a tree p) place) key ≡ fm.get (kept_at (shown_of b tree p) place) key
    by place key (Some row) e u f = e ∙ sym (moves a b tree p same place key row e)
    by place key None e None f = e ∙ sym f
    by place key None e (Some row) f = moves b a tree p (λ root passes. sym (same root passes)) place key row f ∙ sym f

-- ---- root rows

pub first_shown : (s : TableState) (tree : Tree) (q : Test) (key : Row) → fm.get (kept_at (shown_of s tree q) 0) key ≡ cond (q key) (fm.get (root_rows s tree.root) key) None
first_shown s tree q key =
    ap (λ (m : Table). fm.get m key) (keeps s tree.children (fm.retain_keys (root_rows s tree.root) q ∷ []) 0 (omega arith))
    ∙ fm.get-retain_keys (root_rows s tree.root) q key (λ y tie. ap q (sym (key_exact key y tie)))

-- the root row of an instance
pub instance_root : (s : TableState) (tree : Tree) (root : Row) → fm.get (kept_at (instance_of s tree root) 0) root ≡ fm.get (root_rows s tree.root) root
instance_root s tree root =
    first_shown s tree (λ k. is_same k root) root ∙ ap (λ b. cond b (fm.get (root_rows s tree.root) root) None) (is_same_self root)

-- the told ones that are shown
abbrev pub is_chosen : (Touched → Bool) → List Touched → Row → Bool
is_chosen shown told k = list_any (λ t. shown t && is_same k t.instance.root) told

-- each is told once, as it is in a state
abbrev pub AreOnce : List Touched → Type 0
AreOnce told = (i j : ℕ) (a b : Touched) → slice_get told i ≡ Some a → slice_get told j ≡ Some b → a.instance.root ≡ b.instance.root → i ≡ j

abbrev pub AreNow : TableState → Tree → List Touched → Type 0
AreNow s tree told = (i : ℕ) (t : Touched) → slice_get told i ≡ Some t → t.instance.rows ≡ instance_of s tree t.instance.root
