-- A root that is hidden.
use Rattle.std.proofs.Common.{◌≡◌, Bool, true, false, cond, ◌&&◌, ◌||◌, List, [], ◌∷◌, ◌++◌, Option, Some, None, is_some, refl, sym, ap, ◌∙◌}
use Rattle.std.specs.FinMap as fm
use Rattle.slot_rows.specs.row_types.specs.declared.value.Value.{Value}
use Rattle.slot_rows.specs.row_types.proofs.OrderLaws.{key_exact, key_total}
use Rattle.slot_rows.specs.indexed_rows.specs.Rows.{Table, is_same}
use Rattle.slot_rows.specs.indexed_rows.proofs.EntryLaws.{get_new, get_other, same_itself, same_values}
use Rattle.cache_store.specs.table_state.specs.Tables.{TableState}
use Rattle.cache_store.specs.instances.specs.declared.tree.Child.{Child}
use Rattle.cache_store.specs.instances.specs.declared.tree.Tree.{Tree}
use Rattle.cache_store.specs.instances.specs.Views.{child_rows, kept_at, root_rows, with_children}
use Rattle.group_store.specs.Hiding.{HidesOne, hidden_with}

abbrev Row : Type 0
Row = List Value

-- the root's table is the first
first_kept : (s : TableState) (cs : List Child) (t : Table) (rest : List Table) → kept_at (with_children s cs (t ∷ rest)) 0 ≡ t
first_kept s [] t rest = refl
first_kept s (c ∷ cs) t rest = first_kept s cs t (rest ++ child_rows s (kept_at (t ∷ rest) c.parent) c ∷ [])

module _ (rows : Table) (p q : Row → Bool) (root : Row) where
  abbrev hidden : Table
  hidden = fm.retain_keys rows q

  chosen : (r : Row → Bool) (k : Row) → fm.get (fm.retain_keys rows r) k ≡ cond (r k) (fm.get rows k) None
  chosen r k = fm.get-retain_keys rows r k (λ x e. ap r (sym (key_exact k x e)))

  same_none : (b : Bool) → ◌≡◌ {A = Option Row} (cond b None None) None
  same_none true = refl
  same_none false = refl

  -- of another key
  elsewhere : (k : Row) → is_same k root ≡ false → (o : Option Row) → fm.get (hidden_with o root hidden) k ≡ cond (q k || (p k && is_same k root)) (fm.get rows k) None
  elsewhere k other o = by o ∙ chosen q k ∙ ap (λ b. cond b (fm.get rows k) None) (sym (ap (λ b. q k || (p k && b)) other ∙ only (q k) (p k)))
    where
      only : (a b : Bool) → (a || (b && false)) ≡ a
      only true b = refl
      only false true = refl
      only false false = refl

      apart : k ≡ root → ⊥
      apart e = let z : false ≡ true = sym other ∙ same_itself k root e in cc

      put : (row : Row) (b : Bool) → fm.get (cond b hidden (fm.insert hidden root row)) k ≡ fm.get hidden k
      put row true = refl
      put row false = get_other hidden root row k apart

      by : (o : Option Row) → fm.get (hidden_with o root hidden) k ≡ fm.get hidden k
      by None = refl
      by (Some row) = put row (fm.contains_key hidden root)

  -- of its own key
  here : (a b : Bool) (o : Option Row) → q root ≡ a → p root ≡ b → fm.get rows root ≡ o → fm.get (hidden_with (cond b o None) root hidden) root ≡ cond (a || (b && true)) o None
  here a false o x y z = chosen q root ∙ ap (λ b. cond b (fm.get rows root) None) x ∙ ap (λ v. cond a v None) z ∙ ap (λ b. cond b o None) (or_none a)
    where
      or_none : (a : Bool) → a ≡ (a || false)
      or_none true = refl
      or_none false = refl
  here a true None x y z = chosen q root ∙ ap (λ v. cond (q root) v None) z ∙ same_none (q root) ∙ sym (same_none (a || true))
  here true true (Some row) x y z =
      let got = chosen q root ∙ ap (λ b. cond b (fm.get rows root) None) x ∙ z in
      ap (λ b. fm.get (cond b hidden (fm.insert hidden root row)) root) (ap is_some got) ∙ got
  here false true (Some row) x y z =
      let got = chosen q root ∙ ap (λ b. cond b (fm.get rows root) None) x in
      ap (λ b. fm.get (cond b hidden (fm.insert hidden root row)) root) (ap is_some got) ∙ get_new hidden root row

  one_more : hidden_with (fm.get (fm.retain_keys rows p) root) root hidden ≡ fm.retain_keys rows (λ k. q k || (p k && is_same k root))
  one_more = fm.same_map key_total key_exact (hidden_with (fm.get (fm.retain_keys rows p) root) root hidden) (fm.retain_keys rows (λ k. q k || (p k && is_same k root))) (λ k. by k (is_same k root) refl ∙ sym (chosen (λ k. q k || (p k && is_same k root)) k))
    where
      by : (k : Row) (b : Bool) → is_same k root ≡ b → fm.get (hidden_with (fm.get (fm.retain_keys rows p) root) root hidden) k ≡ cond (q k || (p k && is_same k root)) (fm.get rows k) None
      by k false e = elsewhere k e (fm.get (fm.retain_keys rows p) root)
      by k true e =
          let z = same_values k root e in
          ap (fm.get (hidden_with (fm.get (fm.retain_keys rows p) root) root hidden)) z
          ∙ ap (λ o. fm.get (hidden_with o root hidden) root) (chosen p root)
          ∙ here (q root) (p root) (fm.get rows root) refl refl refl
          ∙ ap (λ b. cond (q root || (p root && b)) (fm.get rows root) None) (sym (same_itself root root refl))
          ∙ ap (λ x. cond (q x || (p x && is_same x root)) (fm.get rows x) None) (sym z)

pub hides_one : (s : TableState) (tree : Tree) → HidesOne s tree
hides_one s tree p q root k hidden keeps are =
    let rows = root_rows s tree.root in
    let first = ap (λ ts. kept_at ts 0) keeps.tables ∙ first_kept s tree.children (fm.retain_keys rows p) [] in
    ap (λ t. hidden_with (fm.get t root) root hidden) first ∙ ap (hidden_with (fm.get (fm.retain_keys rows p) root) root) are ∙ one_more rows p q root
