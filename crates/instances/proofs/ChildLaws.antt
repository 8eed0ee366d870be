-- Laws of going through the children of a tree.
use Rattle.std.proofs.Common.{◌≡◌, ℕ, zero, suc, ◌+◌, ◌<◌, ◌&&◌, Option, Some, Result, IfOk, List, [], ◌∷◌, ◌++◌, length, drop, slice_get, get_or, refl, sym, ap, ◌∙◌, arith}
use Rattle.table_state.specs.table_defs.specs.declared.definition.TableDef.{TableDef}
use Rattle.table_state.specs.indexed_rows.specs.Rows.{Table}
use Rattle.table_state.specs.Tables.{TableState, table_at}
use Rattle.table_state.specs.indexed_rows.proofs.FirstLaws.{drop_at}
use Rattle.instances.specs.declared.tree.Child.{Child}
use Rattle.instances.specs.Views.{child_rows, is_kept, kept_at, refers_to_one, rows_where, selects, with_children}
use Rattle.instances.proofs.OnlyLaws.{if_ok}

item_at : {A : Type 0} (xs : List A) (i : ℕ) (d : A) → i < length xs → slice_get xs i ≡ Some (get_or xs i d)
item_at [] i d h = absurd (omega arith)
item_at (x ∷ xs) zero d h = refl
item_at (x ∷ xs) (suc i) d h = item_at xs i d (omega arith)

pub one_more : (s : TableState) (children : List Child) (i : ℕ) (child : Child) (kept more start : List Table) (rows : Table) → i < length children → child ≡ get_or children i child → with_children s (drop i children) kept ≡ start
    → rows ≡ child_rows s (kept_at kept child.parent) child → more ≡ kept ++ rows ∷ [] → with_children s (drop (i + 1) children) more ≡ start
one_more s children i child kept more start rows lt is so_far are grown =
    ap (with_children s (drop (i + 1) children)) (grown ∙ ap (λ t. kept ++ t ∷ []) are)
    ∙ sym (ap (λ cs. with_children s cs kept) (drop_at children i child (item_at children i child lt ∙ ap Some (sym is))))
    ∙ so_far

-- the rows of a child, read from the state
pub kept_child : {E : Type 0} (s : TableState) (child : Child) (kept : List Table) (parents rows : Table) (def : Option TableDef) (result : Result Table E) → parents ≡ kept_at kept child.parent → rows ≡ table_at s child.table → def ≡ slice_get s.schema child.table.0
    → IfOk result (λ out. out ≡ rows_where (λ row. selects child.filter row && refers_to_one parents def row) rows) → IfOk result (λ out. out ≡ child_rows s (kept_at kept child.parent) child)
kept_child s child kept parents rows def result above there defined =
    if_ok (λ (out : Table). out ≡ rows_where (λ row. selects child.filter row && refers_to_one parents def row) rows) (λ (out : Table). out ≡ child_rows s (kept_at kept child.parent) child)
    (λ out is. is ∙ ap (λ (t : Table). rows_where (λ row. selects child.filter row && refers_to_one t def row) rows) above
    ∙ ap (λ (d : Option TableDef). rows_where (λ row. selects child.filter row && refers_to_one (kept_at kept child.parent) d row) rows) defined
    ∙ ap (rows_where (is_kept s (kept_at kept child.parent) child)) there) result
