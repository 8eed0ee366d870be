-- An instance that no change touches is as it was.
use Rattle.std.proofs.Common.{◌≡◌, ℕ, zero, suc, Bool, true, false, cond, ◌||◌, Option, Some, None, List, [], ◌∷◌, ◌++◌, ◌&&◌, drop, map, slice_get, nat_eq, refl, sym, ap, subst, ◌∙◌}
use Rattle.std.proofs.lemmas.Bool.{eqb-true, eq-eqb}
use Rattle.std.specs.Option.{option_and_then}
use Rattle.std.specs.List.{flat_map, list_any}
use Rattle.std.specs.FinMap.{get, same_map}
use Rattle.row_types.specs.declared.value.Value.{Value}
use Rattle.row_types.proofs.OrderLaws.{key_total, key_exact}
use Rattle.tier_base.specs.declared.number.TableId.{TableId}
use Rattle.table_defs.specs.declared.definition.TableDef.{TableDef}
use Rattle.table_defs.specs.Declarations.{foreign_places}
use Rattle.indexed_rows.specs.Rows.{Table, is_same, key_of}
use Rattle.table_state.specs.Copies.{is_one_of}
use Rattle.table_state.specs.declared.footprint.RowKey.{RowKey}
use Rattle.table_state.specs.Tables.{TableState, table_at}
use Rattle.change_log.specs.declared.log.RowChange.{RowChange}
use Rattle.change_log.specs.Logs.{Each, IsChanged, IsChangeOf, is_at, is_changed, is_same_row, row_at}
use Rattle.change_log.proofs.LoggingLaws.{Keeps, goes_on, history_keeps}
use Rattle.instances.specs.declared.tree.Child.{Child}
use Rattle.instances.specs.declared.tree.Tree.{Tree}
use Rattle.instances.specs.Roots.{root_at, root_of}
use Rattle.instances.specs.Trees.{is_sound, place_of}
use Rattle.instances.specs.Views.{child_rows, instance_of, is_kept, kept_at, only, passes, refers_to_one, root_rows, selects}
use Rattle.instances.proofs.Gathering.{get_where}
use Rattle.instances.proofs.InstanceLaws.{is_apart}
use Rattle.instances.proofs.OnlyLaws.{get_only}
use Rattle.outside.specs.Changes.{AllTouched, AreTouched, IsChangesOf, has_changed, is_root, is_wanted, old_root_at, old_root, root_above, touches, tree_tables}
use Rattle.outside.specs.Laws.{UntouchedStays, is_told}
use Rattle.outside.specs.declared.changes.Touched.{Touched}
use Rattle.outside.proofs.RowLaws.{is_same_self, left_of_and, passed, right_of_and, same_is, some_row}
use Rattle.outside.proofs.TreeLaws.{Built, child_defined, grown_is_built, grown_state, is_low, of_state, one_built, parent_is, place_is, root_place}

abbrev Row : Type 0
Row = List Value

or_right : (a b : Bool) → b ≡ true → (a || b) ≡ true
or_right true b e = refl
or_right false b e = e

none_of : (o : Option Row) → ((r : Row) → o ≡ Some r → ⊥) → None ≡ o
none_of None f = refl
none_of (Some r) f = absurd (f r refl)

abbrev table_with : ℕ → TableId
table_with n = record { 0 = n }

-- what holds of each entry of a changed key holds of one of the log
module _ (tables : List TableId) (from to : TableState) (t : TableId) (q : Row) (f : RowChange → Bool)
    (holds : (change : RowChange) → change.table ≡ t → change.key ≡ q → change.old ≡ row_at from t q → f change ≡ true) where
  of_change : (c : RowChange) → IsChangeOf from to c → is_at t q c ≡ true → f c ≡ true
  of_change c is at =
      let numbers : t.0 ≡ c.table.0 = eqb-true t.0 c.table.0 (left_of_and (nat_eq t.0 c.table.0) (is_same q c.key) at) in
      let same_table : c.table ≡ t = ap table_with (sym numbers) in
      let same_key : c.key ≡ q = sym (same_is q c.key (right_of_and (nat_eq t.0 c.table.0) (is_same q c.key) at)) in
      holds c same_table same_key (is.old ∙ ap (λ (x : TableId). row_at from x c.key) same_table ∙ ap (row_at from t) same_key)

  any_change : (log : List RowChange) → Each (λ change. (is_one_of tables change.table ≡ true) × IsChangeOf from to change) log → is_changed log t q ≡ true → list_any f log ≡ true
  any_change [] each e = cc
  any_change (c ∷ log) each e = by (is_at t q c) refl e (any_change log each.1)
    where
      by : (b : Bool) → is_at t q c ≡ b → (b || is_changed log t q) ≡ true → (is_changed log t q ≡ true → list_any f log ≡ true) → list_any f (c ∷ log) ≡ true
      by true is h further = ap (λ b. b || list_any f log) (of_change c each.0.1 is)
      by false is h further = or_right (f c) (list_any f log) (further h)

same_row_is : (a b : Option Row) → is_same_row a b ≡ true → a ≡ b
same_row_is None None e = refl
same_row_is None (Some b) e = cc
same_row_is (Some a) None e = cc
same_row_is (Some a) (Some b) e = ap Some (same_is a b e)

-- the tables of a tree are among those of the trees
either : (a b : Bool) (P : Type 0) → (a || b) ≡ true → (a ≡ true → P) → (b ≡ true → P) → P
either true b P e f g = f refl
either false b P e f g = g e

any_append : (xs ys : List TableId) (t : TableId) → is_one_of xs t ≡ true → is_one_of (xs ++ ys) t ≡ true
any_append [] ys t e = cc
any_append (x ∷ xs) ys t e =
    either (nat_eq x.0 t.0) (is_one_of xs t) ((nat_eq x.0 t.0 || is_one_of (xs ++ ys) t) ≡ true) e
    (λ same. ap (λ b. b || is_one_of (xs ++ ys) t) same)
    (λ further. or_right (nat_eq x.0 t.0) (is_one_of (xs ++ ys) t) (any_append xs ys t further))

any_behind : (xs ys : List TableId) (t : TableId) → is_one_of ys t ≡ true → is_one_of (xs ++ ys) t ≡ true
any_behind [] ys t e = e
any_behind (x ∷ xs) ys t e = or_right (nat_eq x.0 t.0) (is_one_of (xs ++ ys) t) (any_behind xs ys t e)

any_tree : (trees : List Tree) (i : ℕ) (tree : Tree) (t : TableId) → slice_get trees i ≡ Some tree → is_one_of (tree_tables tree) t ≡ true → is_one_of (flat_map tree_tables trees) t ≡ true
any_tree [] i tree t at e = cc
any_tree (x ∷ trees) zero tree t at e =
    let same : x ≡ tree = cc in
    any_append (tree_tables x) (flat_map tree_tables trees) t (ap (λ (y : Tree). is_one_of (tree_tables y) t) same ∙ e)
any_tree (x ∷ trees) (suc i) tree t at e = any_behind (tree_tables x) (flat_map tree_tables trees) t (any_tree trees i tree t at e)

any_child : (cs : List Child) (d : ℕ) (c : Child) → slice_get cs d ≡ Some c → is_one_of (map (λ (child : Child). child.table) cs) c.table ≡ true
any_child [] d c e = cc
any_child (x ∷ cs) zero c e =
    let same : x ≡ c = cc in
    ap (λ b. b || is_one_of (map (λ (child : Child). child.table) cs) c.table) (eq-eqb x.table.0 c.table.0 (ap (λ (y : Child). y.table.0) same))
any_child (x ∷ cs) (suc d) c e = or_right (nat_eq x.table.0 c.table.0) (is_one_of (map (λ (child : Child). child.table) cs) c.table) (any_child cs d c e)

module _ (from to : TableState) (tree : Tree) (tables : List TableId) (log : List RowChange) (root : Row) (sound : is_sound from.schema tree ≡ true) (keeps : Keeps from.schema to.schema)
    (covers : (t : TableId) → is_one_of (tree_tables tree) t ≡ true → is_one_of tables t ≡ true) (changed : IsChanged tables from to log) (left : has_changed to tree log root ≡ false) where
  abbrev B : List Table
  B = instance_of to tree root

  b : Built (of_state to) tree (only root (root_rows to tree.root)) B
  b = subst (Built (of_state to) tree (only root (root_rows to tree.root))) (sym (grown_state to tree.children (only root (root_rows to tree.root) ∷ []))) (grown_is_built (of_state to) tree (only root (root_rows to tree.root)))

  -- no changed key has entries that touch the instance
  untouched : (t : TableId) (q : Row) → is_changed log t q ≡ true → ((change : RowChange) → change.table ≡ t → change.key ≡ q → change.old ≡ row_at from t q → touches to tree root change ≡ true) → ⊥
  untouched t q is holds = let all : has_changed to tree log root ≡ true = any_change tables from to t q (touches to tree root) holds log changed.sound is in cc

  -- a key that isn't changed has the row that it had
  stays : (t : TableId) (q : Row) → is_one_of (tree_tables tree) t ≡ true → (is_changed log t q ≡ true → ⊥) → row_at from t q ≡ row_at to t q
  stays t q covered not_changed = by (is_same_row (row_at from t q) (row_at to t q)) refl
    where
      by : (same : Bool) → is_same_row (row_at from t q) (row_at to t q) ≡ same → row_at from t q ≡ row_at to t q
      by true e = same_row_is (row_at from t q) (row_at to t q) e
      by false e = absurd (not_changed (changed.whole t q (covers t covered) e))

  now_touches : (change : RowChange) → root_of to tree change.table change.key ≡ Some root → touches to tree root change ≡ true
  now_touches change is = ap (λ o. is_root root o || is_root root (old_root to tree change)) is ∙ ap (λ x. x || is_root root (old_root to tree change)) (is_same_self root)

  old_touches : (change : RowChange) → old_root to tree change ≡ Some root → touches to tree root change ≡ true
  old_touches change is = or_right (is_root root (root_of to tree change.table change.key)) (is_root root (old_root to tree change)) (ap (is_root root) is ∙ is_same_self root)

  -- ---- the root row

  root_covered : is_one_of (tree_tables tree) tree.root.table ≡ true
  root_covered = ap (λ x. x || is_one_of (map (λ (child : Child). child.table) tree.children) tree.root.table) (eq-eqb tree.root.table.0 tree.root.table.0 refl)

  root_stays : row_at from tree.root.table root ≡ row_at to tree.root.table root
  root_stays = stays tree.root.table root root_covered (λ is. untouched tree.root.table root is
      (λ change of_root its_key old. old_touches change
      (ap (λ (t : TableId). option_and_then (old_root_at to tree change) (place_of tree t)) of_root ∙ ap (option_and_then (old_root_at to tree change)) (root_place tree) ∙ ap Some its_key)))

  same_roots : only root (root_rows from tree.root) ≡ only root (root_rows to tree.root)
  same_roots = same_map key_total key_exact (only root (root_rows from tree.root)) (only root (root_rows to tree.root))
      (λ q. get_only root (root_rows from tree.root) q ∙ by q (is_same q root) refl ∙ sym (get_only root (root_rows to tree.root) q))
    where
      at : (q : Row) → row_at from tree.root.table q ≡ row_at to tree.root.table q → get (root_rows from tree.root) q ≡ get (root_rows to tree.root) q
      at q same =
          get_where (selects tree.root.filter) (table_at from tree.root.table) q ∙ ap (λ (o : Option Row). cond (passes (selects tree.root.filter) o) o None) same
          ∙ sym (get_where (selects tree.root.filter) (table_at to tree.root.table) q)

      by : (q : Row) (x : Bool) → is_same q root ≡ x → cond x (get (root_rows from tree.root) q) None ≡ cond x (get (root_rows to tree.root) q) None
      by q true is = at q (ap (row_at from tree.root.table) (same_is q root is) ∙ root_stays ∙ ap (row_at to tree.root.table) (sym (same_is q root is)))
      by q false is = refl

  -- ---- the rows of a child

  module _ (d : ℕ) (c : Child) (at : slice_get tree.children d ≡ Some c) where
    abbrev P : Table
    P = kept_at B c.parent

    abbrev test : TableState → Row → Bool
    test s = is_kept s P c

    child_covered : is_one_of (tree_tables tree) c.table ≡ true
    child_covered = or_right (nat_eq tree.root.table.0 c.table.0) (is_one_of (map (λ (child : Child). child.table) tree.children) c.table) (any_child tree.children d c at)

    same_def : slice_get from.schema c.table.0 ≡ slice_get to.schema c.table.0
    same_def = let def = child_defined from.schema tree sound d c at in def.1 ∙ sym (keeps c.table.0 def.0 def.1)

    place : place_of tree c.table ≡ Some (suc d)
    place = place_is from.schema tree sound d c at

    here : kept_at B (suc d) ≡ child_rows to P c
    here = b.child d c at (is_low from.schema tree sound d c at)

    -- a changed row isn't in the instance
    not_now : (q row : Row) → is_changed log c.table q ≡ true → get (child_rows to P c) q ≡ Some row → ⊥
    not_now q row is there =
        let rooted : root_of to tree c.table q ≡ Some root = ap (option_and_then (λ n. root_at to tree n q)) place ∙ is_apart to tree root (suc d) q row (ap (λ (m : Table). get m q) here ∙ there) in
        untouched c.table q is (λ change of_child its_key old. now_touches change (ap (λ (t : TableId). root_of to tree t change.key) of_child ∙ ap (root_of to tree c.table) its_key ∙ rooted))

    -- and wasn't under its rows
    above : (row : Row) (o : Option TableDef) → slice_get from.schema c.table.0 ≡ o → refers_to_one P o row ≡ true → root_above to tree c row ≡ Some root
    above row None is e = cc
    above row (Some def) is e =
        let key : Row = key_of (foreign_places def.foreign_key) row in
        let parent = some_row (get P key) e in
        let t = parent_is from.schema tree sound d c at in
        let rooted : root_of to tree t.0 key ≡ Some root = ap (option_and_then (λ n. root_at to tree n key)) t.2 ∙ is_apart to tree root c.parent key parent.0 parent.1 in
        ap (option_and_then (λ (x : TableId). option_and_then (λ (y : TableDef). root_of to tree x (key_of (foreign_places y.foreign_key) row)) (slice_get to.schema c.table.0))) t.1
        ∙ ap (option_and_then (λ (y : TableDef). root_of to tree t.0 (key_of (foreign_places y.foreign_key) row))) (keeps c.table.0 def is) ∙ rooted

    not_before : (q row : Row) → is_changed log c.table q ≡ true → get (child_rows from P c) q ≡ Some row → ⊥
    not_before q row is there =
        let p = passed (test from) (table_at from c.table) q row there in
        let rooted : root_above to tree c row ≡ Some root = above row (slice_get from.schema c.table.0) refl (right_of_and (selects c.filter row) (refers_to_one P (slice_get from.schema c.table.0) row) p.good) in
        untouched c.table q is
        (λ change of_child its_key old. old_touches change
        (ap (λ (t : TableId). option_and_then (old_root_at to tree change) (place_of tree t)) of_child ∙ ap (option_and_then (old_root_at to tree change)) place
        ∙ ap (option_and_then (λ (x : Child). option_and_then (root_above to tree x) change.old)) at ∙ ap (option_and_then (root_above to tree c)) (old ∙ p.there) ∙ rooted))

    same_child : child_rows from P c ≡ child_rows to P c
    same_child = same_map key_total key_exact (child_rows from P c) (child_rows to P c) (λ q. by q (is_changed log c.table q) refl)
      where
        kept_with : Row → Option Row → Option Row
        kept_with q o = cond (passes (test to) o) o None

        by : (q : Row) (x : Bool) → is_changed log c.table q ≡ x → get (child_rows from P c) q ≡ get (child_rows to P c) q
        by q true is = sym (none_of (get (child_rows from P c) q) (λ row. not_before q row is)) ∙ none_of (get (child_rows to P c) q) (λ row. not_now q row is)
        by q false is =
            get_where (test from) (table_at from c.table) q
            ∙ ap (λ (o : Option TableDef). cond (passes (λ row. selects c.filter row && refers_to_one P o row) (row_at from c.table q)) (row_at from c.table q) None) same_def
            ∙ ap (kept_with q) (stays c.table q child_covered (λ yes. cc)) ∙ sym (get_where (test to) (table_at to c.table) q)

  -- ---- so it meets the equations of the old state

  pub same_instance : instance_of to tree root ≡ instance_of from tree root
  same_instance = one_built (of_state from) tree (is_low from.schema tree sound) (only root (root_rows from tree.root)) B (instance_of from tree root) old is
    where
      old : Built (of_state from) tree (only root (root_rows from tree.root)) B
      old = record { long = b.long; root = b.root ∙ sym same_roots; child = λ d c at low. b.child d c at low ∙ sym (same_child d c at) }

      is : Built (of_state from) tree (only root (root_rows from tree.root)) (instance_of from tree root)
      is = subst (Built (of_state from) tree (only root (root_rows from tree.root))) (sym (grown_state from tree.children (only root (root_rows from tree.root) ∷ []))) (grown_is_built (of_state from) tree (only root (root_rows from tree.root)))

-- ---- over what is told

of_tree : (s : TableState) (log : List RowChange) (wants : List RowKey) (trees : List Tree) (lists : List (List Touched)) (i : ℕ) (tree : Tree) (touched : List Touched)
    → AllTouched s log wants trees lists → slice_get trees i ≡ Some tree → slice_get lists i ≡ Some touched → AreTouched s log wants tree touched
of_tree s log wants [] lists i tree touched all a b = cc
of_tree s log wants (x ∷ trees) [] i tree touched all a b = cc
of_tree s log wants (x ∷ trees) (l ∷ lists) zero tree touched all a b =
    let same : x ≡ tree = cc in
    let same_list : l ≡ touched = cc in
    subst (AreTouched s log wants tree) same_list (subst (λ (y : Tree). AreTouched s log wants y l) same all.0)
of_tree s log wants (x ∷ trees) (l ∷ lists) (suc i) tree touched all a b = of_tree s log wants trees lists i tree touched all.1 a b

told_at : (touched : List Touched) (j : ℕ) (t : Touched) (root : Row) → slice_get touched j ≡ Some t → t.instance.root ≡ root → is_told touched root ≡ true
told_at [] j t root at is = cc
told_at (x ∷ touched) zero t root at is =
    let same : x ≡ t = cc in
    ap (λ c. c || is_told touched root) (ap (λ (y : Touched). is_same root y.instance.root) same ∙ ap (is_same root) is ∙ is_same_self root)
told_at (x ∷ touched) (suc j) t root at is = or_right (is_same root x.instance.root) (is_told touched root) (told_at touched j t root at is)

not_changed : (s : TableState) (log : List RowChange) (wants : List RowKey) (tree : Tree) (touched : List Touched) (root : Row) → AreTouched s log wants tree touched → is_told touched root ≡ false → has_changed s tree log root ≡ false
not_changed s log wants tree touched root are left = by (has_changed s tree log root) refl
  where
    by : (x : Bool) → has_changed s tree log root ≡ x → x ≡ false
    by false e = refl
    by true e =
        let found = are.whole root (ap (λ y. y || is_wanted s tree wants root) e) in
        let told : is_told touched root ≡ true = told_at touched found.0 found.1 root found.2 found.3 in
        cc

pub untouched_stays : UntouchedStays
untouched_stays history since trees wants changes from to i tree touched root tells a b at sound list left =
    let of_both : IsChangesOf from to trees wants changes = tells.between from to a b in
    let are : AreTouched to changes.log wants tree touched = of_tree to changes.log wants trees changes.touched i tree touched of_both.touched at list in
    same_instance from to tree (flat_map tree_tables trees) changes.log root sound (history_keeps (drop since.0 history) from to (goes_on history since.0 from to a b)) (λ t covered. any_tree trees i tree t at covered) of_both.log
    (not_changed to changes.log wants tree touched root are left)
