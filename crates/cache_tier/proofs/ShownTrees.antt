-- Sound trees, and the tables that are kept along one.
use Rattle.std.proofs.Common.{◌≡◌, ℕ, zero, suc, ◌+◌, ◌<◌, ◌≤◌, Bool, true, false, cond, ◌&&◌, nat_le, nat_lt, Option, Some, None, is_some, List, [], ◌∷◌, ◌++◌, length, slice_get, position, refl, sym, ap, ◌∙◌, arith, eq-eqb, eqb-true}
use Rattle.std.specs.Option.{option_and_then, option_map}
use Rattle.std.specs.List.{find, position_or_len}
use Rattle.std.specs.FinMap as fm
use Rattle.std.proofs.lemmas.Bool.{ltb-false}
use Rattle.std.proofs.lemmas.List.Folds.{find_at}
use Rattle.std.proofs.lemmas.List.Quantifiers.{position-Some}
use Rattle.tier_base.specs.declared.number.TableId.{TableId}
use Rattle.table_defs.specs.declared.definition.ForeignKey.{ForeignKey}
use Rattle.table_defs.specs.declared.definition.TableDef.{TableDef}
use Rattle.table_defs.specs.Declarations.{foreign_places}
use Rattle.indexed_rows.specs.Rows.{Table, key_of}
use Rattle.table_state.specs.Tables.{TableState, table_at}
use Rattle.instances.specs.declared.tree.Child.{Child}
use Rattle.instances.specs.declared.tree.Tree.{Tree}
use Rattle.instances.specs.Trees.{are_sound, is_parent, is_place, is_sound, is_sound_child, place_of, same_table, table_of}
use Rattle.instances.specs.Views.{child_rows, is_kept, kept_at, passes, refers_to_one, selects, with_children}
use Rattle.instances.proofs.Gathering.{get_where}
use Rattle.order_laws.proofs.TableLaws.{get_same}
use Rattle.order_laws.proofs.TruthLaws.{both_true}
use Rattle.cache_tier.proofs.PartLaws.{Row}

-- the tables that are kept

at_front : (kept : List Table) (x : Table) (i : ℕ) → i < length kept → kept_at (kept ++ x ∷ []) i ≡ kept_at kept i
at_front [] x i lt = absurd (Prim.omega arith)
at_front (y ∷ kept) x zero lt = refl
at_front (y ∷ kept) x (suc i) lt = at_front kept x i (Prim.omega arith)

at_end : (kept : List Table) (x : Table) → kept_at (kept ++ x ∷ []) (length kept) ≡ x
at_end [] x = refl
at_end (y ∷ kept) x = at_end kept x

length_more : (kept : List Table) (x : Table) → length (kept ++ x ∷ []) ≡ suc (length kept)
length_more [] x = refl
length_more (y ∷ kept) x = ap suc (length_more kept x)

pub front_kept : (s : TableState) (children : List Child) (kept : List Table) (p : ℕ) → p < length kept → kept_at (with_children s children kept) p ≡ kept_at kept p
front_kept s [] kept p lt = refl
front_kept s (c ∷ children) kept p lt =
    let x = child_rows s (kept_at kept c.parent) c in
    let more : length (kept ++ x ∷ []) ≡ suc (length kept) = length_more kept x in
    front_kept s children (kept ++ x ∷ []) p (Prim.omega arith) ∙ at_front kept x p lt

pub child_kept : (s : TableState) (children : List Child) (kept : List Table) (i : ℕ) (child : Child) → slice_get children i ≡ Some child → child.parent < length kept + i
    → kept_at (with_children s children kept) (length kept + i) ≡ child_rows s (kept_at (with_children s children kept) child.parent) child
child_kept s [] kept i child at lt = Prim.cc
child_kept s (c ∷ children) kept zero child at lt =
    let same : c ≡ child = Prim.cc in
    let x = child_rows s (kept_at kept c.parent) c in
    let more : length (kept ++ x ∷ []) ≡ suc (length kept) = length_more kept x in
    let here : length kept + 0 ≡ length kept = Prim.omega arith in
    let early : child.parent < length kept = Prim.omega arith in
    ap (kept_at (with_children s children (kept ++ x ∷ []))) here
    ∙ front_kept s children (kept ++ x ∷ []) (length kept) (Prim.omega arith) ∙ at_end kept x
    ∙ ap (λ (d : Child). child_rows s (kept_at kept d.parent) d) same
    ∙ ap (λ (m : Table). child_rows s m child) (sym (front_kept s children (kept ++ x ∷ []) child.parent (Prim.omega arith) ∙ at_front kept x child.parent early))
child_kept s (c ∷ children) kept (suc i) child at lt =
    let x = child_rows s (kept_at kept c.parent) c in
    let more : length (kept ++ x ∷ []) ≡ suc (length kept) = length_more kept x in
    let here : length kept + suc i ≡ length (kept ++ x ∷ []) + i = Prim.omega arith in
    ap (kept_at (with_children s children (kept ++ x ∷ []))) here ∙ child_kept s children (kept ++ x ∷ []) i child at (Prim.omega arith)

pub length_kept : (s : TableState) (children : List Child) (kept : List Table) → length (with_children s children kept) ≡ length kept + length children
length_kept s [] kept = Prim.omega arith
length_kept s (c ∷ children) kept =
    let x = child_rows s (kept_at kept c.parent) c in
    let more : length (kept ++ x ∷ []) ≡ suc (length kept) = length_more kept x in
    let rest : length (with_children s children (kept ++ x ∷ [])) ≡ length (kept ++ x ∷ []) + length children = length_kept s children (kept ++ x ∷ []) in
    Prim.omega arith

-- soundness of a tree

is_there : (place : ℕ) (o : Option ℕ) → is_place place o ≡ true → o ≡ Some place
is_there place None e = Prim.cc
is_there place (Some other) e = ap Some (eqb-true other place e)

-- a child in a sound tree
pub record SoundChild (schema : List TableDef) (tree : Tree) (i : ℕ) (child : Child) : Type 0 where
  pub place : place_of tree child.table ≡ Some (suc i)
  pub earlier : child.parent ≤ i
  pub def : TableDef
  pub defined : slice_get schema child.table.0 ≡ Some def
  pub foreign : ForeignKey
  pub key : def.foreign_key ≡ Some foreign
  pub parent : TableId
  pub there : table_of tree child.parent ≡ Some parent
  pub refers : foreign.parent.0 ≡ parent.0

parent_is : (o : Option TableId) (d : Option TableDef) → is_parent o (option_and_then (λ (def : TableDef). def.foreign_key) d) ≡ true
    → (t : TableId) × (def : TableDef) × (f : ForeignKey) × (o ≡ Some t) × (d ≡ Some def) × (def.foreign_key ≡ Some f) × (f.parent.0 ≡ t.0)
parent_is None None e = Prim.cc
parent_is None (Some def) e = Prim.cc
parent_is (Some t) None e = Prim.cc
parent_is (Some t) (Some def) e = by def.foreign_key refl e
  where
    by : (o : Option ForeignKey) → def.foreign_key ≡ o → is_parent (Some t) o ≡ true
        → (u : TableId) × (d : TableDef) × (f : ForeignKey) × (Some t ≡ Some u) × (Some def ≡ Some d) × (d.foreign_key ≡ Some f) × (f.parent.0 ≡ u.0)
    by None is h = Prim.cc
    by (Some f) is h = (t, def, f, refl, refl, is, eqb-true f.parent.0 t.0 h)

child_sound : (schema : List TableDef) (tree : Tree) (children : List Child) (from i : ℕ) (child : Child) → are_sound schema tree from children ≡ true → slice_get children i ≡ Some child → is_sound_child schema tree (from + i) child ≡ true
child_sound schema tree [] from i child e at = Prim.cc
child_sound schema tree (c ∷ children) from zero child e at =
    let same : c ≡ child = Prim.cc in
    let here : from + 0 ≡ from = Prim.omega arith in
    ap (λ n. is_sound_child schema tree n child) here ∙ ap (is_sound_child schema tree from) (sym same) ∙ (both_true (is_sound_child schema tree from c) (are_sound schema tree (suc from) children) e).0
child_sound schema tree (c ∷ children) from (suc i) child e at =
    let here : from + suc i ≡ suc from + i = Prim.omega arith in
    ap (λ n. is_sound_child schema tree n child) here ∙ child_sound schema tree children (suc from) i child (both_true (is_sound_child schema tree from c) (are_sound schema tree (suc from) children) e).1 at

le_of : (a b : ℕ) → nat_le a b ≡ true → a ≤ b
le_of a b e = Rattle.std.proofs.Common.leb-true a b e

pub sound_child : (schema : List TableDef) (tree : Tree) (i : ℕ) (child : Child) → is_sound schema tree ≡ true → slice_get tree.children i ≡ Some child → SoundChild schema tree i child
sound_child schema tree i child e at =
    let (root, all) = both_true (is_some (slice_get schema tree.root.table.0)) (are_sound schema tree 0 tree.children) e in
    let here : 0 + i ≡ i = Prim.omega arith in
    let one = ap (λ n. is_sound_child schema tree n child) (sym here) ∙ child_sound schema tree tree.children 0 i child all at in
    let (outer, parent) = both_true (is_place (suc i) (place_of tree child.table) && nat_le child.parent i) (is_parent (table_of tree child.parent) (option_and_then (λ (def : TableDef). def.foreign_key) (slice_get schema child.table.0))) one in
    let (place, le) = both_true (is_place (suc i) (place_of tree child.table)) (nat_le child.parent i) outer in
    let (t, def, f, t_is, d_is, f_is, same) = parent_is (table_of tree child.parent) (slice_get schema child.table.0) parent in
    record {
      place = is_there (suc i) (place_of tree child.table) place;
      earlier = le_of child.parent i le;
      def = def;
      defined = d_is;
      foreign = f;
      key = f_is;
      parent = t;
      there = t_is;
      refers = same;
    }

pub root_place : (tree : Tree) → place_of tree tree.root.table ≡ Some 0
root_place tree = ap (λ b. cond b (Some 0) (option_map suc (position (λ (child : Child). same_table child.table tree.root.table) tree.children))) (eq-eqb tree.root.table.0 tree.root.table.0 refl)

-- a table stands at one place
pub place_there : (schema : List TableDef) (tree : Tree) (p : ℕ) (t : TableId) → is_sound schema tree ≡ true → table_of tree p ≡ Some t → place_of tree t ≡ Some p
place_there schema tree zero t e is = let same : tree.root.table ≡ t = Prim.cc in ap (place_of tree) (sym same) ∙ root_place tree
place_there schema tree (suc i) t e is = by (slice_get tree.children i) refl is
  where
    by : (o : Option Child) → slice_get tree.children i ≡ o → option_map (λ (c : Child). c.table) o ≡ Some t → place_of tree t ≡ Some (suc i)
    by None at h = Prim.cc
    by (Some c) at h = let same : c.table ≡ t = Prim.cc in ap (place_of tree) (sym same) ∙ (sound_child schema tree i c e at).place

-- the table at the place that is found
pub record AtPlace (tree : Tree) (t : TableId) (p : ℕ) : Type 0 where
  pub table : TableId
  pub is : table_of tree p ≡ Some table
  pub same : table.0 ≡ t.0

pub found_at : {X : Type 0} (p : X → Bool) (xs : List X) (i : ℕ) → position p xs ≡ Some i → (x : X) × (slice_get xs i ≡ Some x) × (p x ≡ true)
found_at p [] i e = let none : None ≡ Some i = e in Prim.cc
found_at {X = X} p (d ∷ xs) i e =
    let at = position-Some p (d ∷ xs) i d e in
    let (x, is) = Rattle.indexed_rows.proofs.EntryLaws.there (d ∷ xs) i at.0 in
    let read = Rattle.indexed_rows.proofs.EntryLaws.read (d ∷ xs) i x d is in
    (x, is, ap p (sym read.1) ∙ at.1)

pub at_place : (tree : Tree) (t : TableId) (p : ℕ) → place_of tree t ≡ Some p → AtPlace tree t p
at_place tree t p e = by (same_table tree.root.table t) refl e
  where
    further : (o : Option ℕ) → position (λ (child : Child). same_table child.table t) tree.children ≡ o → option_map suc o ≡ Some p → AtPlace tree t p
    further None is h = Prim.cc
    further (Some i) is h =
        let (c, at, same) = found_at (λ (child : Child). same_table child.table t) tree.children i is in
        let here : suc i ≡ p = Prim.cc in
        record { table = c.table; is = ap (table_of tree) (sym here) ∙ ap (option_map (λ (x : Child). x.table)) at; same = eqb-true c.table.0 t.0 same }

    by : (b : Bool) → same_table tree.root.table t ≡ b → cond b (Some 0) (option_map suc (position (λ (child : Child). same_table child.table t) tree.children)) ≡ Some p → AtPlace tree t p
    by true is h = let here : 0 ≡ p = Prim.cc in record { table = tree.root.table; is = ap (table_of tree) (sym here); same = eqb-true tree.root.table.0 t.0 is }
    by false is h = further (position (λ (child : Child). same_table child.table t) tree.children) refl h

-- a row of a child table is kept where its parent row is
pub get_child : (s : TableState) (parents : Table) (c : Child) (def : TableDef) (f : ForeignKey) → c.filter ≡ None → slice_get s.schema c.table.0 ≡ Some def → def.foreign_key ≡ Some f → (k : Row)
    → fm.get (child_rows s parents c) k ≡ cond (passes (λ row. fm.contains_key parents (key_of f.columns row)) (fm.get (table_at s c.table) k)) (fm.get (table_at s c.table) k) None
get_child s parents c def f plain d fk k =
    get_where (is_kept s parents c) (table_at s c.table) k ∙ ap (λ (test : Row → Bool). cond (passes test (fm.get (table_at s c.table) k)) (fm.get (table_at s c.table) k) None) (λ i row. same row i)
  where
    same : (row : Row) → is_kept s parents c row ≡ fm.contains_key parents (key_of f.columns row)
    same row =
        ap (λ o. selects o row && refers_to_one parents (slice_get s.schema c.table.0) row) plain
        ∙ ap (λ o. refers_to_one parents o row) d
        ∙ ap (λ o. fm.contains_key parents (key_of (foreign_places o) row)) fk

-- the first element that passes, by its place
pub found_by_place : {X : Type 0} (p : X → Bool) (xs : List X) → option_and_then (slice_get xs) (position p xs) ≡ find p xs
found_by_place {X = X} p xs = by (nat_lt (position_or_len p xs) (length xs)) refl ∙ sym (find_at p xs)
  where
    past : (ys : List X) (i : ℕ) → length ys ≤ i → slice_get ys i ≡ None
    past [] i le = refl
    past (y ∷ ys) zero le = absurd (Prim.omega arith)
    past (y ∷ ys) (suc i) le = past ys i (Prim.omega arith)

    by : (b : Bool) → nat_lt (position_or_len p xs) (length xs) ≡ b → option_and_then (slice_get xs) (cond b (Some (position_or_len p xs)) None) ≡ slice_get xs (position_or_len p xs)
    by true e = refl
    by false e = sym (past xs (position_or_len p xs) (ltb-false (position_or_len p xs) (length xs) e))

-- a tree that is sound over a schema is sound over a longer one
all_later : (schema more : List TableDef) (tree : Tree) (from : ℕ) (children : List Child) → are_sound schema tree from children ≡ true → are_sound (schema ++ more) tree from children ≡ true
all_later schema more tree from [] e = refl
all_later schema more tree from (c ∷ children) e =
    let (first, rest) = both_true (is_sound_child schema tree from c) (are_sound schema tree (suc from) children) e in
    λ i. one first i && all_later schema more tree (suc from) children rest i
  where
    one : is_sound_child schema tree from c ≡ true → is_sound_child (schema ++ more) tree from c ≡ true
    one h =
        let (outer, parent) = both_true (is_place (suc from) (place_of tree c.table) && nat_le c.parent from) (is_parent (table_of tree c.parent) (option_and_then (λ (def : TableDef). def.foreign_key) (slice_get schema c.table.0))) h in
        let (t, def, f, t_is, d_is, f_is, same) = parent_is (table_of tree c.parent) (slice_get schema c.table.0) parent in
        λ i. outer i && (ap (λ o. is_parent (table_of tree c.parent) (option_and_then (λ (d : TableDef). d.foreign_key) o)) (get_same schema more c.table.0 (ap is_some d_is)) ∙ parent) i

pub sound_later : (schema more : List TableDef) (tree : Tree) → is_sound schema tree ≡ true → is_sound (schema ++ more) tree ≡ true
sound_later schema more tree e =
    let (root, all) = both_true (is_some (slice_get schema tree.root.table.0)) (are_sound schema tree 0 tree.children) e in
    λ i. (ap is_some (get_same schema more tree.root.table.0 root) ∙ root) i && all_later schema more tree 0 tree.children all i
