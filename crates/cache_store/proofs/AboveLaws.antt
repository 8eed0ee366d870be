-- The row that a shown row refers to.
use Rattle.std.proofs.Common.{◌≡◌, ℕ, suc, ◌<◌, ◌≤◌, Bool, Some, List, [], ◌∷◌, ◌++◌, length, drop, slice_get, inl, inr, refl, sym, ap, subst, ◌∙◌, arith}
use Rattle.std.proofs.lemmas.Bool.{cases_lt}
use Rattle.std.specs.FinMap.{get}
use Rattle.instances.specs.row_types.specs.declared.value.Value.{Value}
use Rattle.instances.specs.table_defs.specs.declared.definition.TableDef.{TableDef}
use Rattle.instances.specs.table_defs.specs.Declarations.{foreign_places}
use Rattle.instances.specs.indexed_rows.specs.Rows.{Table, key_of}
use Rattle.instances.specs.table_state.specs.Tables.{TableState, table_at}
use Rattle.instances.specs.declared.tree.Child.{Child}
use Rattle.instances.specs.declared.tree.Tree.{Tree}
use Rattle.instances.specs.Instances.{IsIn}
use Rattle.instances.specs.Views.{child_rows, kept_at, root_rows, with_children}
use Rattle.cache_store.specs.Shown.{shown_of}
use Rattle.std.specs.FinMap.{retain_keys}
use Rattle.cache_store.proofs.OwnLaws.{keeps}
use Rattle.cache_store.proofs.ShownLaws.{at_drop, at_end, at_front, child_row, length_more, past_drop, within}

abbrev Row : Type 0
Row = List Value

-- a row of a child table, and the row that it refers to among those kept
pub record Above (s : TableState) (tree : Tree) (kept : List Table) (i : ℕ) (key row : Row) : Type 0 where
  pub child : Child
  pub there : slice_get tree.children i ≡ Some child
  pub before : child.parent ≤ i
  pub found : get (table_at s child.table) key ≡ Some row
  pub definition : TableDef
  pub is : slice_get s.schema child.table.0 ≡ Some definition
  pub parent : Row
  pub parent_there : IsIn kept child.parent (key_of (foreign_places definition.foreign_key) row) parent

module _ (s : TableState) (tree : Tree) (whole : List Table) where
  steps : (cs : List Child) (d : ℕ) (V : List Table) → drop d tree.children ≡ cs → length V ≡ suc d → with_children s cs V ≡ whole → (i : ℕ) → d ≤ i → (key row : Row) → IsIn whole (suc i) key row → Above s tree whole i key row
  steps [] d V at long is i le key row e =
      let lt : suc i < length V = within V (suc i) key row (subst (λ W. IsIn W (suc i) key row) (sym is) e) in absurd (omega (arith, lt, long, le))
  steps (c ∷ cs) d V at long is i le key row e =
      let X = child_rows s (kept_at V c.parent) c in
      let later = steps cs (suc d) (V ++ X ∷ []) (past_drop tree.children d c cs at) (length_more V X ∙ ap suc long) is i in
      elim (cases_lt d i) [
        | inl lt ↦ later lt key row e
        | inr ge ↦
            let same : i ≡ d = omega (arith, ge, le) in
            let here : kept_at whole (suc i) ≡ X = ap (λ j. kept_at whole (suc j)) same ∙ ap (λ W. kept_at W (suc d)) (sym is) ∙ keeps s cs (V ++ X ∷ []) (suc d) (omega (arith, long, length_more V X)) ∙ ap (kept_at (V ++ X ∷ [])) (sym long) ∙ at_end V X in
            let r = child_row s (kept_at V c.parent) c key row (ap (λ t. get t key) (sym here) ∙ e) in
            let lt : c.parent < length V = within V c.parent (key_of (foreign_places r.refers.definition.foreign_key) row) r.refers.parent r.refers.there in
            let stays : kept_at whole c.parent ≡ kept_at V c.parent = ap (λ W. kept_at W c.parent) (sym is) ∙ keeps s cs (V ++ X ∷ []) c.parent (omega (arith, lt, length_more V X)) ∙ at_front V X c.parent lt in
            record {
              child = c;
              there = ap (slice_get tree.children) same ∙ at_drop tree.children d c cs at;
              before = omega (arith, lt, long, same);
              found = r.there;
              definition = r.refers.definition;
              is = r.refers.is;
              parent = r.refers.parent;
              parent_there = ap (λ t. get t (key_of (foreign_places r.refers.definition.foreign_key) row)) stays ∙ r.refers.there;
            }
      ]

-- each shown row of a child table refers to a shown one
pub above : (s : TableState) (tree : Tree) (p : Row → Bool) (i : ℕ) (key row : Row) → IsIn (shown_of s tree p) (suc i) key row → Above s tree (shown_of s tree p) i key row
above s tree p i key row e = steps s tree (shown_of s tree p) tree.children 0 (retain_keys (root_rows s tree.root) p ∷ []) refl refl refl i (omega arith) key row e
