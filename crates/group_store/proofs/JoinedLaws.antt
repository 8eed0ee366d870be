-- The stored tables of a tree.
use Rattle.std.proofs.Common.{◌≡◌, ℕ, zero, suc, ◌+◌, ◌-◌, ◌<◌, ◌≤◌, true, List, [], ◌∷◌, ◌++◌, length, map, min, get_or, set, slice_get, take, Option, Some, None, unwrap_or, is_some, refl, sym, ap, subst, ◌∙◌, ◌⊎◌, inl, inr, arith}
use Rattle.std.proofs.lemmas.List.{length-map}
use Rattle.std.proofs.lemmas.Option.{slice_get-get_or}
use Rattle.std.specs.Option.{option_map}
use Rattle.std.specs.FinMap as fm
use Rattle.slot_rows.specs.row_types.specs.declared.value.Value.{Value}
use Rattle.slot_rows.specs.indexed_rows.proofs.MapLaws.{slice_get_map}
use Rattle.slot_rows.specs.indexed_rows.specs.Rows.{Table, key_of}
use Rattle.cache_store.specs.instances.specs.Views.{kept_at}
use Rattle.cache_store.specs.Operating.{change_at}
use Rattle.group_store.specs.Trees.{CanGo, IsChild, IsChildless, IsLeaf, Layer, key_at, leads}
use Rattle.group_store.proofs.TreeLaws.{through_child, top_leads, up_to}
use Rattle.slot_rows.specs.Orders.{IsRowWith, first_columns}
use Rattle.slot_rows.specs.SlotKeys.{RowsHeld}
use Rattle.std.specs.Vec.{with_item}
use Rattle.group_store.specs.Recent.{IsRowPlace, RecentHeld}
use Rattle.group_store.specs.Joined.{AreJoined, IsJoined, IsRowOf, KeepsTree, layer_of, layers_of, least, least_spare, places_at, tables_of}
use Rattle.group_store.specs.declared.tree_rows.ChildRows.{ChildRows}
use Rattle.group_store.specs.declared.tree_rows.TreeRows.{TreeRows}

abbrev Row : Type 0
Row = List Value

abbrev table_in : ChildRows → Table
table_in c = c.rows.table

-- the child that an index gives
pub item_there : (cs : List ChildRows) (i : ℕ) (c : ChildRows) → i < length cs → c ≡ get_or cs i c → slice_get cs i ≡ Some c
item_there cs i c w is = slice_get-get_or cs i c w ∙ ap Some (sym is)

pub kept_child : (t : Table) (cs : List ChildRows) (i : ℕ) (c : ChildRows) → slice_get cs i ≡ Some c → kept_at (t ∷ map table_in cs) (suc i) ≡ c.rows.table
kept_child t cs i c is = ap (λ o. unwrap_or o fm.empty) (slice_get_map table_in cs i c is)

pub key_child : (root : List ℕ) (cs : List ChildRows) (i : ℕ) (c : ChildRows) → slice_get cs i ≡ Some c → key_at root (map layer_of cs) (suc i) ≡ c.rows.places
key_child root cs i c is = ap (λ o. unwrap_or (option_map (λ l. l.key) o) []) (slice_get_map layer_of cs i c is)

-- a place behind the root's
pub next_place : (place : ℕ) → 0 < place → place ≡ suc (place - 1)
next_place place some = omega (arith, some)

module _ (t : TreeRows) (place : ℕ) (c : ChildRows) (some : 0 < place) (is : slice_get t.children.items (place - 1) ≡ Some c) where
  pub table_there : kept_at (tables_of t) place ≡ c.rows.table
  table_there = ap (kept_at (tables_of t)) (next_place place some) ∙ kept_child t.roots.table t.children.items (place - 1) c is

  pub places_there : places_at t place ≡ c.rows.places
  places_there = ap (places_at t) (next_place place some) ∙ key_child t.roots.places t.children.items (place - 1) c is

-- one child changes
pub tables_set : (cs : List ChildRows) (i : ℕ) (c d : ChildRows) (f : Table → Table) → slice_get cs i ≡ Some c → d.rows.table ≡ f c.rows.table → map table_in (set cs i d) ≡ change_at i f (map table_in cs)
tables_set [] i c d f is now = cc
tables_set (x ∷ cs) zero c d f is now = let z : x ≡ c = cc in ap (λ t. t ∷ map table_in cs) (now ∙ ap (λ y. f y.rows.table) (sym z))
tables_set (x ∷ cs) (suc i) c d f is now = ap (λ l. x.rows.table ∷ l) (tables_set cs i c d f is now)

pub layers_set : (cs : List ChildRows) (i : ℕ) (c d : ChildRows) → slice_get cs i ≡ Some c → layer_of d ≡ layer_of c → map layer_of (set cs i d) ≡ map layer_of cs
layers_set [] i c d is same = cc
layers_set (x ∷ cs) zero c d is same = let z : x ≡ c = cc in ap (λ l. l ∷ map layer_of cs) (same ∙ ap layer_of (sym z))
layers_set (x ∷ cs) (suc i) c d is same = ap (λ l. layer_of x ∷ l) (layers_set cs i c d is same)

abbrev IsKind : ChildRows → ChildRows → Type 0
IsKind e c = (layer_of e ≡ layer_of c) × (e.rows.orders ≡ c.rows.orders)

pub kinds_set : (cs : List ChildRows) (i : ℕ) (c d : ChildRows) → slice_get cs i ≡ Some c → IsKind d c → (j : ℕ) (e : ChildRows) → slice_get (set cs i d) j ≡ Some e → (x : ChildRows) × (slice_get cs j ≡ Some x) × IsKind e x
kinds_set [] i c d is same j e at = cc
kinds_set (x ∷ cs) zero c d is same zero e at =
    let z : x ≡ c = cc in
    let y : d ≡ e = cc in (x, refl, subst (λ w. IsKind w x) y (subst (IsKind d) (sym z) same))
kinds_set (x ∷ cs) zero c d is same (suc j) e at = (e, at, (refl, refl))
kinds_set (x ∷ cs) (suc i) c d is same zero e at = (e, at, (refl, refl))
kinds_set (x ∷ cs) (suc i) c d is same (suc j) e at = kinds_set cs i c d is same j e at

-- children of the same kinds under the same root are joined as before
pub joined_kept : (old new : TreeRows) → new.roots.places ≡ old.roots.places → layers_of new ≡ layers_of old → ((j : ℕ) (e : ChildRows) → slice_get new.children.items j ≡ Some e → (x : ChildRows) × (slice_get old.children.items j ≡ Some x) × IsKind e x) → AreJoined old → AreJoined new
joined_kept old new places layers kinds joined j e at =
    let k = kinds j e at in
    let was = joined j k.0 k.1 in
    let layer = k.2.0 in
    let parent : e.parent ≡ k.0.parent = ap (λ l. l.parent) layer in
    let foreign : e.foreign ≡ k.0.foreign = ap (λ l. l.foreign) layer in
    let key : e.rows.places ≡ k.0.rows.places = ap (λ l. l.key) layer in
    let keys : places_at new e.parent ≡ places_at old k.0.parent = ap (λ r. key_at r (layers_of new) e.parent) places ∙ ap (λ ls. key_at old.roots.places ls e.parent) layers ∙ ap (places_at old) parent in
    record {
      before = subst (λ p. p ≤ j) (sym parent) was.before;
      orders = k.2.1 ∙ was.orders ∙ sym (ap (λ f. (f ++ k.0.rows.places) ∷ []) foreign) ∙ sym (ap (λ p. (e.foreign ++ p) ∷ []) key);
      some = subst (λ f. 0 < length f) (sym foreign) was.some;
      long = ap length foreign ∙ was.long ∙ sym (ap length keys);
    }

module _ (t : TreeRows) (place : ℕ) (c d : ChildRows) (f : Table → Table) (some : 0 < place) (is : slice_get t.children.items (place - 1) ≡ Some c) (now : d.rows.table ≡ f c.rows.table) where
  pub tables_changed : t.roots.table ∷ map table_in (set t.children.items (place - 1) d) ≡ change_at place f (tables_of t)
  tables_changed = ap (λ l. t.roots.table ∷ l) (tables_set t.children.items (place - 1) c d f is now) ∙ sym (ap (λ p. change_at p f (tables_of t)) (next_place place some))

pub long_tables : (t : TreeRows) → length (tables_of t) ≡ suc (length t.children.items)
long_tables t = ap suc (length-map t.children.items table_in)

-- a child found by its parent's key
take_front : (xs ys : List ℕ) (n : ℕ) → length xs ≡ n → take n (xs ++ ys) ≡ xs
take_front [] ys zero e = refl
take_front [] ys (suc n) e = absurd (omega (arith, e))
take_front (x ∷ xs) ys zero e = absurd (omega (arith, e))
take_front (x ∷ xs) ys (suc n) e = ap (λ l. x ∷ l) (take_front xs ys n (omega (arith, e)))

pub front_is : (orders : List (List ℕ)) (foreign places : List ℕ) (n : ℕ) → orders ≡ (foreign ++ places) ∷ [] → length foreign ≡ n → first_columns orders 0 n ≡ foreign
front_is orders foreign places n e long = ap (λ os. first_columns os 0 n) e ∙ take_front foreign places n long

pub row_found : (c : ChildRows) (place : ℕ) (key : Row) (r : Option Row) → c.parent ≡ place → IsRowWith c.rows.table c.rows.places c.foreign key r → IsRowOf c place key r
row_found c place key None e with_row = λ h. with_row
row_found c place key (Some row) e with_row = (e, with_row.0, with_row.1)

-- a layer is that of a child
pub layer_got : (cs : List ChildRows) (i : ℕ) (l : Layer) → slice_get (map layer_of cs) i ≡ Some l → (c : ChildRows) × (slice_get cs i ≡ Some c) × (layer_of c ≡ l)
layer_got [] i l e = cc
layer_got (c ∷ cs) zero l e = (c, refl, (let z : layer_of c ≡ l = ap (λ o. unwrap_or o l) e in z))
layer_got (c ∷ cs) (suc i) l e = layer_got cs i l e

pub inside : (cs : List ChildRows) (i : ℕ) (c : ChildRows) → slice_get cs i ≡ Some c → i < length cs
inside [] i c e = cc
inside (x ∷ cs) zero c e = omega arith
inside (x ∷ cs) (suc i) c e = let r = inside cs i c e in omega (arith, r)

module _ (t : TreeRows) (place : ℕ) (key : Row) where
  -- a row of a child table that names a key
  pub child_is : (i : ℕ) (c : ChildRows) (row : Row) → slice_get t.children.items i ≡ Some c → IsRowOf c place key (Some row) → IsChild (layers_of t) (tables_of t) place key (suc i) row
  child_is i c row is found = record {
    i = i;
    layer = layer_of c;
    is = refl;
    there = slice_get_map layer_of t.children.items i c is;
    parent = found.0;
    found = ap (λ m. fm.get m (key_of c.rows.places row)) (kept_child t.roots.table t.children.items i c is) ∙ found.1;
    refers = found.2;
  }

  -- no child names it
  pub none_is : ((i : ℕ) (c : ChildRows) → i < length t.children.items → slice_get t.children.items i ≡ Some c → IsRowOf c place key None) → IsChildless (layers_of t) (tables_of t) place key
  none_is none i l child row there parent found =
      let c = layer_got t.children.items i l there in
      λ same. none i c.0 (inside t.children.items i c.0 c.1) c.1 (ap (λ x. x.parent) c.2 ∙ parent) child row
      (ap (λ m. fm.get m child) (sym (kept_child t.roots.table t.children.items i c.0 c.1)) ∙ found) (ap (λ x. key_of x.foreign row) c.2 ∙ same)

  module _ (joined : AreJoined t) (at : ℕ) (row : Row) (child : IsChild (layers_of t) (tables_of t) place key at row) where
    -- a child's table stands behind
    pub child_behind : (place < at) × (at ≤ length t.children.items)
    child_behind =
        let c = layer_got t.children.items child.i child.layer child.there in
        let before = (joined child.i c.0 c.1).before in
        let parent = ap (λ x. x.parent) c.2 ∙ child.parent in
        let lt = inside t.children.items child.i c.0 c.1 in
        (omega (arith, before, parent, lt, child.is), omega (arith, lt, child.is))

    pub child_places : places_at t at ≡ child.layer.key
    child_places = ap (places_at t) child.is ∙ ap (λ o. unwrap_or (option_map (λ l. l.key) o) []) child.there

    pub child_found : fm.get (kept_at (tables_of t) at) (key_of (places_at t at) row) ≡ Some row
    child_found = ap (λ ps. fm.get (kept_at (tables_of t) at) (key_of ps row)) child_places ∙ child.found

    -- a leaf of a child is one of its parent
    pub leaf_through : fm.contains_key (kept_at (tables_of t) place) key ≡ true → (q : ℕ) (r : Row) → IsLeaf t.roots.places (layers_of t) (tables_of t) at (key_of (places_at t at) row) q r → IsLeaf t.roots.places (layers_of t) (tables_of t) place key q r
    leaf_through has q r leaf =
        let behind = child_behind in
        let few = leaf.few in
        record {
          found = leaf.found;
          childless = leaf.childless;
          behind = (let low = leaf.behind in omega (arith, low, behind.0));
          within = leaf.within;
          steps = suc leaf.steps;
          few = omega (arith, few, behind.0);
          leads = through_child (layers_of t) (tables_of t) place key at row child has leaf.steps q (key_of (key_at t.roots.places (layers_of t) q) r)
              (subst (λ ps. leads (layers_of t) (tables_of t) at (key_of ps row) leaf.steps q (key_of (key_at t.roots.places (layers_of t) q) r) ≡ true) child_places leaf.leads);
        }

-- the row itself
pub leaf_itself : (t : TreeRows) (place : ℕ) (row : Row) → place ≤ length t.children.items → fm.get (kept_at (tables_of t) place) (key_of (places_at t place) row) ≡ Some row → IsChildless (layers_of t) (tables_of t) place (key_of (places_at t place) row)
    → IsLeaf t.roots.places (layers_of t) (tables_of t) place (key_of (places_at t place) row) place row
leaf_itself t place row within found childless =
    let long = length-map t.children.items layer_of in
    record {
      found = found;
      childless = childless;
      behind = omega arith;
      within = omega (arith, within, long);
      steps = 0;
      few = omega arith;
      leads = top_leads (layers_of t) (tables_of t) place (key_of (places_at t place) row) zero (ap is_some found);
    }

-- a leaf behind the top can go
pub leaf_goes : (t : TreeRows) (top : ℕ) (key : Row) (q : ℕ) (r : Row) (spot : ℕ) → top < q → IsLeaf t.roots.places (layers_of t) (tables_of t) top key q r → IsRowPlace (kept_at (tables_of t) q) (key_of (places_at t q) r) (Some spot) → CanGo (layers_of t) (tables_of t) top key q spot
leaf_goes t top key q r spot behind leaf at =
    let few = leaf.few in
    let within = leaf.within in
    record {
      key = key_of (places_at t q) r;
      here = at;
      childless = leaf.childless;
      behind = behind;
      within = within;
      leads = up_to (layers_of t) (tables_of t) top key leaf.steps (length (layers_of t)) q (key_of (places_at t q) r) (omega (arith, few, within)) leaf.leads;
    }

-- the room that each table has at least
least_of : (n : ℕ) (cs : List ChildRows) → least n cs ≤ n
least_of n [] = omega arith
least_of n (c ∷ cs) = let rest = least_of n cs in omega (arith, rest)

least_at : (n : ℕ) (cs : List ChildRows) (i : ℕ) (c : ChildRows) → slice_get cs i ≡ Some c → least n cs ≤ c.rows.spare
least_at n [] i c e = cc
least_at n (x ∷ cs) zero c e = let z : x ≡ c = cc in subst (λ y. min x.rows.spare (least n cs) ≤ y.rows.spare) z (omega arith)
least_at n (x ∷ cs) (suc i) c e = let rest = least_at n cs i c e in omega (arith, rest)

pub least_root : (n m d : ℕ) (cs : List ChildRows) → n ≤ m + d → least n cs ≤ least m cs + d
least_root n m d [] le = le
least_root n m d (c ∷ cs) le = let rest = least_root n m d cs le in omega (arith, rest)

pub least_set : (n d : ℕ) (cs : List ChildRows) (i : ℕ) (c e : ChildRows) → slice_get cs i ≡ Some c → c.rows.spare ≤ e.rows.spare + d → least n cs ≤ least n (set cs i e) + d
least_set n d [] i c e is le = cc
least_set n d (x ∷ cs) zero c e is le = let z : x ≡ c = cc in let s : x.rows.spare ≤ e.rows.spare + d = subst (λ y. y.rows.spare ≤ e.rows.spare + d) (sym z) le in omega (arith, s)
least_set n d (x ∷ cs) (suc i) c e is le = let rest = least_set n d cs i c e is le in omega (arith, rest)

pub root_room : (t : TreeRows) → least_spare t ≤ t.roots.spare
root_room t = least_of t.roots.spare t.children.items

pub child_room : (t : TreeRows) (i : ℕ) (c : ChildRows) → slice_get t.children.items i ≡ Some c → least_spare t ≤ c.rows.spare
child_room t i c is = least_at t.roots.spare t.children.items i c is

-- each table has so much room
pub least_all : (n more : ℕ) (cs : List ChildRows) → more ≤ n → ((i : ℕ) (c : ChildRows) → i < length cs → slice_get cs i ≡ Some c → more ≤ c.rows.spare) → more ≤ least n cs
least_all n more [] le h = le
least_all n more (c ∷ cs) le h = let first = h 0 c (omega arith) refl in let rest = least_all n more cs le (λ i x lt is. h (suc i) x (omega (arith, lt)) is) in omega (arith, first, rest)

-- one child changes in its rows alone
module _ (t : TreeRows) (i : ℕ) (c : ChildRows) (rows : RowsHeld) (is : slice_get t.children.items i ≡ Some c) (places : rows.places ≡ c.rows.places) (orders : rows.orders ≡ c.rows.orders) where
  abbrev child_now : ChildRows
  child_now = record { table = c.table; parent = c.parent; foreign = c.foreign; rows = rows }

  abbrev tree_now : TreeRows
  tree_now = record { roots = t.roots; children = with_item t.children i child_now }

  layer_now : layer_of child_now ≡ layer_of c
  layer_now = ap (λ ps. record { table = c.table; key = ps; foreign = c.foreign; parent = c.parent }) places

  pub keeps_at : KeepsTree t tree_now
  keeps_at =
      let layers = layers_set t.children.items i c child_now is layer_now in
      record { places = refl; foreign = refl; layers = layers; joined = joined_kept t tree_now refl layers (kinds_set t.children.items i c child_now is (layer_now, orders)) }

pub keeps_tree : (t : TreeRows) (place : ℕ) (c : ChildRows) (rows : RowsHeld) → slice_get t.children.items (place - 1) ≡ Some c → rows.places ≡ c.rows.places → rows.orders ≡ c.rows.orders
    → KeepsTree t (record { roots = t.roots; children = with_item t.children (place - 1) (record { table = c.table; parent = c.parent; foreign = c.foreign; rows = rows }) })
keeps_tree t place c rows is places orders = keeps_at t (place - 1) c rows is places orders

pub keeps_both : (a b c : TreeRows) → KeepsTree a b → KeepsTree b c → KeepsTree a c
keeps_both a b c x y = record { places = y.places ∙ x.places; foreign = y.foreign ∙ x.foreign; layers = y.layers ∙ x.layers; joined = λ j. y.joined (x.joined j) }

pub tables_kept : (cs : List ChildRows) (i : ℕ) (c d : ChildRows) → slice_get cs i ≡ Some c → d.rows.table ≡ c.rows.table → map table_in (set cs i d) ≡ map table_in cs
tables_kept [] i c d is same = cc
tables_kept (x ∷ cs) zero c d is same = let z : x ≡ c = cc in ap (λ l. l ∷ map table_in cs) (same ∙ ap table_in (sym z))
tables_kept (x ∷ cs) (suc i) c d is same = ap (λ l. table_in x ∷ l) (tables_kept cs i c d is same)

pub set_got : (cs : List ChildRows) (i : ℕ) (d : ChildRows) (j : ℕ) (x : ChildRows) → slice_get (set cs i d) j ≡ Some x → ((j ≡ i) × (d ≡ x)) ⊎ ((j ≡ i → ⊥) × (slice_get cs j ≡ Some x))
set_got [] i d j x e = cc
set_got (c ∷ cs) zero d zero x e = inl (refl, (let z : d ≡ x = cc in z))
set_got (c ∷ cs) zero d (suc j) x e = inr (λ h. absurd (omega (arith, h)), e)
set_got (c ∷ cs) (suc i) d zero x e = inr (λ h. absurd (omega (arith, h)), e)
set_got (c ∷ cs) (suc i) d (suc j) x e = elim (set_got cs i d j x e) [
  | inl w ↦ inl (ap suc w.0, w.1)
  | inr w ↦ inr (λ h. w.0 (omega (arith, h)), w.1)
]

-- the root's rows alone change
pub keeps_children : (t : TreeRows) (roots : RecentHeld) → roots.places ≡ t.roots.places → roots.foreign ≡ t.roots.foreign → KeepsTree t (record { roots = roots; children = t.children })
keeps_children t roots places foreign =
    let new : TreeRows = record { roots = roots; children = t.children } in
    record { places = places; foreign = foreign; layers = refl; joined = joined_kept t new places refl (λ j e at. (e, at, (refl, refl))) }

-- there are as many children
pub children_stay : (a b : TreeRows) → KeepsTree a b → length b.children.items ≡ length a.children.items
children_stay a b k = sym (length-map b.children.items layer_of) ∙ ap length k.layers ∙ length-map a.children.items layer_of

-- another child
got_more : (cs : List ChildRows) (d : ChildRows) (j : ℕ) (x : ChildRows) → slice_get (cs ++ d ∷ []) j ≡ Some x → (slice_get cs j ≡ Some x) ⊎ ((j ≡ length cs) × (d ≡ x))
got_more [] d zero x e = inr (refl, (let z : d ≡ x = cc in z))
got_more [] d (suc j) x e = cc
got_more (c ∷ cs) d zero x e = inl e
got_more (c ∷ cs) d (suc j) x e = elim (got_more cs d j x e) [
  | inl w ↦ inl w
  | inr w ↦ inr (ap suc w.0, w.1)
]

key_more : (root : List ℕ) (ls : List Layer) (l : Layer) (p : ℕ) → p ≤ length ls → key_at root (ls ++ l ∷ []) p ≡ key_at root ls p
key_more root ls l zero le = refl
key_more root ls l (suc p) le = ap (λ o. unwrap_or (option_map (λ x. x.key) o) []) (front ls p (omega (arith, le)))
  where
    front : (ls : List Layer) (p : ℕ) → p < length ls → slice_get (ls ++ l ∷ []) p ≡ slice_get ls p
    front [] p lt = absurd (omega (arith, lt))
    front (x ∷ ls) zero lt = refl
    front (x ∷ ls) (suc p) lt = front ls p (omega (arith, lt))

map_more : {Y : Type 0} (f : ChildRows → Y) (cs : List ChildRows) (d : ChildRows) → map f (cs ++ d ∷ []) ≡ map f cs ++ f d ∷ []
map_more f [] d = refl
map_more f (c ∷ cs) d = ap (λ l. f c ∷ l) (map_more f cs d)

module _ (t new : TreeRows) (c : ChildRows) (root : new.roots.places ≡ t.roots.places) (items : new.children.items ≡ t.children.items ++ c ∷ []) where
  pub layers_more : layers_of new ≡ layers_of t ++ layer_of c ∷ []
  layers_more = ap (map layer_of) items ∙ map_more layer_of t.children.items c

  pub tables_more : new.roots.table ≡ t.roots.table → tables_of new ≡ tables_of t ++ c.rows.table ∷ []
  tables_more same = (λ i. same i ∷ map table_in (items i)) ∙ ap (λ l. t.roots.table ∷ l) (map_more table_in t.children.items c)

  places_more : (p : ℕ) → p ≤ length t.children.items → places_at new p ≡ places_at t p
  places_more p le =
      ap (λ r. key_at r (layers_of new) p) root ∙ ap (λ ls. key_at t.roots.places ls p) layers_more
      ∙ key_more t.roots.places (layers_of t) (layer_of c) p (let long = length-map t.children.items layer_of in omega (arith, le, long))

  pub joined_more : IsJoined t (length t.children.items) c → AreJoined t → AreJoined new
  joined_more one joined j e at = elim (got_more t.children.items c j e (ap (λ xs. slice_get xs j) (sym items) ∙ at)) [
    | inl w ↦
        let was = joined j e w in
        let lt = inside t.children.items j e w in
        let le : e.parent ≤ length t.children.items = (let b = was.before in omega (arith, b, lt)) in
        record { before = was.before; orders = was.orders; some = was.some; long = was.long ∙ sym (ap length (places_more e.parent le)) }
    | inr w ↦
        let was = subst (IsJoined t (length t.children.items)) w.1 one in
        let le = was.before in
        record { before = (let i = w.0 in omega (arith, i, le)); orders = was.orders; some = was.some; long = was.long ∙ sym (ap length (places_more e.parent le)) }
  ]
