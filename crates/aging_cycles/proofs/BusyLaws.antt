-- Which instances are busy, over what a store keeps and in a world.
use Rattle.std.proofs.Common.{◌≡◌, ◌<◌, ℕ, zero, suc, Bool, true, false, cond, ◌&&◌, ◌||◌, nat_eq, Option, Some, None, is_some, List, [], ◌∷◌, length, map, slice_get, unwrap_or, refl, sym, ap, ◌∙◌, arith, eq-eqb, eqb-true}
use Rattle.std.proofs.lemmas.List.{length-map}
use Rattle.std.specs.Option.{option_and_then, option_map}
use Rattle.std.specs.List.{list_any}
use Rattle.std.specs.FinMap as fm
use Rattle.row_types.specs.Order.{key_order}
use Rattle.row_types.specs.declared.value.Value.{Value}
use Rattle.tier_base.specs.declared.number.TableId.{TableId}
use Rattle.table_defs.specs.declared.definition.TableDef.{TableDef}
use Rattle.table_defs.specs.Declarations.{foreign_places}
use Rattle.indexed_rows.specs.Rows.{Table, is_same, key_of}
use Rattle.indexed_rows.proofs.EntryLaws.{has_at, same_itself, same_values}
use Rattle.indexed_rows.proofs.MapLaws.{slice_get_map}
use Rattle.table_state.specs.declared.footprint.RowKey.{RowKey}
use Rattle.table_state.specs.declared.operation.Op.{Op}
use Rattle.table_state.specs.Footprints.{footprint_of, is_among, is_in, same_row_key}
use Rattle.table_state.specs.Tables.{TableState, table_at}
use Rattle.instances.specs.declared.tree.Child.{Child}
use Rattle.instances.specs.declared.tree.Tree.{Tree}
use Rattle.instances.specs.Roots.{parent_key, root_of, root_within}
use Rattle.instances.specs.Trees.{is_sound, place_of, table_of}
use Rattle.instances.specs.Views.{kept_at, passes}
use Rattle.order_laws.proofs.TruthLaws.{both_true, or_true}
use Rattle.cache_tier.proofs.ShownTables.{AtChild, AtRoot, InTree, in_tree_at, same_id}
use Rattle.cache_tier.proofs.ShownTrees.{SoundChild, at_place, place_there, root_place, sound_child}
use Rattle.group_store.specs.Keeping.{layer_for}
use Rattle.group_store.specs.Shown.{foreign_key_of}
use Rattle.group_store.specs.Stores.{Kept}
use Rattle.group_store.specs.Trees.{Layer, leads, parent_of, passes_up}
use Rattle.aging_cycles.specs.Busy.{is_held_by}
use Rattle.group_store.specs.Held.{has_row, held_at, id_at, is_instance_held}
use Rattle.aging_cycles.proofs.CutLaws.{child_leads, none_leads, root_leads}
use Rattle.aging_cycles.proofs.RootRows.{table_there}
use Rattle.aging_cycles.proofs.Within.{is_only, is_within, touches}

abbrev Row : Type 0
Row = List Value

-- truth and lists

same_answer : (a b : Bool) → (a ≡ true → b ≡ true) → (b ≡ true → a ≡ true) → a ≡ b
same_answer true true f g = refl
same_answer true false f g = sym (f refl)
same_answer false true f g = g refl
same_answer false false f g = refl

or_false : (b : Bool) → (b || false) ≡ b
or_false true = refl
or_false false = refl

any_of : {X : Type 0} (p : X → Bool) (xs : List X) → list_any p xs ≡ true → (i : ℕ) × (x : X) × (slice_get xs i ≡ Some x) × (p x ≡ true)
any_of p [] e = cc
any_of p (x ∷ xs) e = by (p x) refl e (λ h. any_of p xs h)
  where
    by : (b : Bool) → p x ≡ b → (b || list_any p xs) ≡ true → (list_any p xs ≡ true → (i : ℕ) × (y : _) × (slice_get xs i ≡ Some y) × (p y ≡ true)) → (i : ℕ) × (y : _) × (slice_get (x ∷ xs) i ≡ Some y) × (p y ≡ true)
    by true h z rest = (0, x, refl, h)
    by false h z rest = let r = rest z in (suc r.0, r.1, r.2, r.3)

any_is : {X : Type 0} (p : X → Bool) (xs : List X) (i : ℕ) (x : X) → slice_get xs i ≡ Some x → p x ≡ true → list_any p xs ≡ true
any_is p [] i x at e = cc
any_is p (y ∷ xs) zero x at e = let same : y ≡ x = cc in ap (λ b. b || list_any p xs) (ap p same ∙ e)
any_is p (y ∷ xs) (suc i) x at e = ap (λ b. p y || b) (any_is p xs i x at e) ∙ or_true (p y)

-- a row that passes is at a place
record Found (test : ℕ → Row → Bool) (ts : List Table) : Type 0 where
  pub place : ℕ
  pub key : Row
  pub passes : test place key ≡ true
  pub within : place < length ts

row_found : (test : ℕ → Row → Bool) (ts : List Table) → has_row test ts ≡ true → Found test ts
row_found test [] e = cc
row_found test (t ∷ ts) e = by (list_any (test 0) (fm.keys t)) refl e (λ h. row_found (λ place. test (suc place)) ts h)
  where
    by : (b : Bool) → list_any (test 0) (fm.keys t) ≡ b → (b || has_row (λ place. test (suc place)) ts) ≡ true → (has_row (λ place. test (suc place)) ts ≡ true → Found (λ place. test (suc place)) ts) → Found test (t ∷ ts)
    by true h z rest = let r = any_of (test 0) (fm.keys t) h in record { place = 0; key = r.1; passes = r.3; within = omega arith }
    by false h z rest = let r = rest z in let lt = r.within in record { place = suc r.place; key = r.key; passes = r.passes; within = omega (arith, lt) }

key_listed : (m : Table) (k row : Row) → fm.get m k ≡ Some row → (i : ℕ) × (slice_get (fm.keys m) i ≡ Some k)
key_listed m k row e = let (i, at) = has_at m k row e in (i, slice_get_map (λ (x : Row × Row). x.0) (fm.entries m) i (k, row) at)

row_is : (test : ℕ → Row → Bool) (ts : List Table) (p : ℕ) (k row : Row) → fm.get (kept_at ts p) k ≡ Some row → test p k ≡ true → has_row test ts ≡ true
row_is test [] p k row e h = nothing p e
  where
    nothing : (p : ℕ) → fm.get (kept_at [] p) k ≡ Some row → false ≡ true
    nothing zero x = let wrong : None ≡ Some row = sym (fm.get-empty key_order k) ∙ x in cc
    nothing (suc p) x = let wrong : None ≡ Some row = sym (fm.get-empty key_order k) ∙ x in cc
row_is test (t ∷ ts) zero k row e h =
    let (i, at) = key_listed t k row e in
    ap (λ b. b || has_row (λ place. test (suc place)) ts) (any_is (test 0) (fm.keys t) i k at h)
row_is test (t ∷ ts) (suc p) k row e h = ap (λ b. list_any (test 0) (fm.keys t) || b) (row_is (λ place. test (suc place)) ts p k row e h) ∙ or_true (list_any (test 0) (fm.keys t))

-- a key without a row is reached from no root
none_within : (s : TableState) (tree : Tree) (n p : ℕ) (u : TableId) (q : Row) → place_of tree u ≡ Some p → fm.get (table_at s u) q ≡ None → root_within n s tree p q ≡ None
none_within s tree n zero u q e gone = by (in_tree_at tree u zero e)
  where
    by : InTree tree u zero → cond (fm.contains_key (table_at s tree.root.table) q) (Some q) None ≡ None
    by (AtRoot z here) = ap (λ o. cond (is_some o) (Some q) None) (ap (λ t. fm.get (table_at s t) q) here ∙ gone)
    by (AtChild j c z there here) = absurd (omega (arith, z))
none_within s tree zero (suc i) u q e gone = refl
none_within s tree (suc n) (suc i) u q e gone = by (in_tree_at tree u (suc i) e)
  where
    by : InTree tree u (suc i) → root_within (suc n) s tree (suc i) q ≡ None
    by (AtRoot z here) = absurd (omega (arith, z))
    by (AtChild j c z there here) =
        let same : i ≡ j = omega (arith, z) in
        ap (option_and_then (λ (d : Child). option_and_then (root_within n s tree d.parent) (parent_key s d q))) (ap (slice_get tree.children) same ∙ there)
        ∙ ap (λ (o : Option Row). option_and_then (root_within n s tree c.parent) (option_and_then (λ r. option_map (λ (def : TableDef). key_of (foreign_places def.foreign_key) r) (slice_get s.schema c.table.0)) o))
        (ap (λ t. fm.get (table_at s t) q) here ∙ gone)

-- a store with the rows of a state
module _ (s : TableState) (tree : Tree) (store : Kept) (root : Row) (sound : is_sound s.schema tree ≡ true) (table : store.table ≡ tree.root.table) (layers : store.layers ≡ map (layer_for s.schema) tree.children)
    (long : length store.tables ≡ suc (length tree.children)) (its : (u : TableId) (p : ℕ) → place_of tree u ≡ Some p → kept_at store.tables p ≡ table_at s u) where
  few : length store.layers ≡ length tree.children
  few = ap length layers ∙ length-map tree.children (layer_for s.schema)

  roots : kept_at store.tables 0 ≡ table_at s tree.root.table
  roots = its tree.root.table 0 (root_place tree)

  top : (n : ℕ) (q : Row) → leads store.layers store.tables 0 root n zero q ≡ passes (is_only root) (root_within n s tree zero q)
  top n q = root_leads store.layers store.tables root n q ∙ ap (λ (m : Table). is_same q root && fm.contains_key m root) roots ∙ by (is_same q root) refl
    where
      there : (b : Bool) → fm.contains_key (table_at s tree.root.table) q ≡ b → is_same q root ≡ true → b ≡ passes (is_only root) (cond b (Some q) None)
      there true e same = sym (ap (λ b. b || false) same)
      there false e same = refl

      gone : (b : Bool) → is_same q root ≡ false → false ≡ passes (is_only root) (cond b (Some q) None)
      gone true other = sym (ap (λ b. b || false) other)
      gone false other = refl

      by : (b : Bool) → is_same q root ≡ b → (is_same q root && fm.contains_key (table_at s tree.root.table) root) ≡ passes (is_only root) (cond (fm.contains_key (table_at s tree.root.table) q) (Some q) None)
      by true e =
          ap (λ b. b && fm.contains_key (table_at s tree.root.table) root) e
          ∙ ap (fm.contains_key (table_at s tree.root.table)) (sym (same_values q root e))
          ∙ there (fm.contains_key (table_at s tree.root.table) q) refl e
      by false e = ap (λ b. b && fm.contains_key (table_at s tree.root.table) root) e ∙ gone (fm.contains_key (table_at s tree.root.table) q) e

  -- a row leads to the root where it is reached from it
  pub leads_is : (n p : ℕ) (u : TableId) (q : Row) → place_of tree u ≡ Some p → leads store.layers store.tables 0 root n p q ≡ passes (is_only root) (root_within n s tree p q)
  leads_is n zero u q e = top n q
  leads_is zero (suc i) u q e = none_leads store.layers store.tables root i q
  leads_is (suc n) (suc i) u q e = child_leads store.layers store.tables root n i q ∙ by (in_tree_at tree u (suc i) e) (λ p t r at. leads_is n p t r at)
    where
      at_child : (j : ℕ) (c : Child) → i ≡ j → slice_get tree.children j ≡ Some c → c.table ≡ u → ((p : ℕ) (t : TableId) (r : Row) → place_of tree t ≡ Some p → leads store.layers store.tables 0 root n p r ≡ passes (is_only root) (root_within n s tree p r))
          → passes_up (leads store.layers store.tables 0 root n) (parent_of store.layers store.tables (suc i) q) ≡ passes (is_only root) (root_within (suc n) s tree (suc i) q)
      at_child j c same there here rest =
          (λ k. passes_up (leads store.layers store.tables 0 root n) (option_and_then {U = ℕ × Row} (λ (l : Layer). option_map (λ (row : Row). (l.parent, key_of l.foreign row)) (fm.get (rows_here k) q)) (layer_here k)))
          ∙ by (fm.get (table_at s c.table) q) refl
          ∙ sym (ap (λ o. passes (is_only root) (option_and_then (λ (d : Child). option_and_then (root_within n s tree d.parent) (parent_key s d q)) o)) at)
        where
          at : slice_get tree.children i ≡ Some c
          at = ap (slice_get tree.children) same ∙ there

          one : SoundChild s.schema tree i c
          one = sound_child s.schema tree i c sound at

          layer_here : slice_get store.layers i ≡ Some (layer_for s.schema c)
          layer_here = ap (λ ls. slice_get ls i) layers ∙ slice_get_map (layer_for s.schema) tree.children i c at

          rows_here : kept_at store.tables (suc i) ≡ table_at s c.table
          rows_here = its c.table (suc i) one.place

          columns : foreign_key_of s.schema c.table ≡ one.foreign.columns
          columns = ap (λ o. unwrap_or (option_map (λ (def : TableDef). foreign_places def.foreign_key) o) []) one.defined ∙ ap (λ f. foreign_places f) one.key

          named : (row : Row) → option_map (λ (def : TableDef). key_of (foreign_places def.foreign_key) row) (slice_get s.schema c.table.0) ≡ Some (key_of one.foreign.columns row)
          named row = ap (option_map (λ (def : TableDef). key_of (foreign_places def.foreign_key) row)) one.defined ∙ ap (λ f. Some (key_of (foreign_places f) row)) one.key

          by : (o : Option Row) → fm.get (table_at s c.table) q ≡ o
              → passes_up (leads store.layers store.tables 0 root n) (option_map (λ (row : Row). (c.parent, key_of (foreign_key_of s.schema c.table) row)) (fm.get (table_at s c.table) q))
              ≡ passes (is_only root) (option_and_then (root_within n s tree c.parent) (parent_key s c q))
          by None h =
              ap (λ (o : Option Row). passes_up (leads store.layers store.tables 0 root n) (option_map (λ (row : Row). (c.parent, key_of (foreign_key_of s.schema c.table) row)) o)) h
              ∙ sym (ap (λ (o : Option Row). passes (is_only root) (option_and_then (root_within n s tree c.parent) (option_and_then (λ r. option_map (λ (def : TableDef). key_of (foreign_places def.foreign_key) r) (slice_get s.schema c.table.0)) o))) h)
          by (Some row) h =
              ap (λ (o : Option Row). passes_up (leads store.layers store.tables 0 root n) (option_map (λ (r : Row). (c.parent, key_of (foreign_key_of s.schema c.table) r)) o)) h
              ∙ ap (λ f. leads store.layers store.tables 0 root n c.parent (key_of f row)) columns
              ∙ rest c.parent one.parent (key_of one.foreign.columns row) (place_there s.schema tree c.parent one.parent sound one.there)
              ∙ sym (ap (λ (o : Option Row). passes (is_only root) (option_and_then (root_within n s tree c.parent) (option_and_then (λ r. option_map (λ (def : TableDef). key_of (foreign_places def.foreign_key) r) (slice_get s.schema c.table.0)) o))) h
              ∙ ap (λ o. passes (is_only root) (option_and_then (root_within n s tree c.parent) o)) (named row))

      by : InTree tree u (suc i) → ((p : ℕ) (t : TableId) (r : Row) → place_of tree t ≡ Some p → leads store.layers store.tables 0 root n p r ≡ passes (is_only root) (root_within n s tree p r))
          → passes_up (leads store.layers store.tables 0 root n) (parent_of store.layers store.tables (suc i) q) ≡ passes (is_only root) (root_within (suc n) s tree (suc i) q)
      by (AtRoot z here) rest = absurd (omega (arith, z))
      by (AtChild j c z there here) rest = at_child j c (omega (arith, z)) there here rest

  -- the id of the table at a place
  id_is : (p : ℕ) (u : TableId) → table_of tree p ≡ Some u → id_at store.table store.layers p ≡ u
  id_is zero u e = let same : tree.root.table ≡ u = cc in table ∙ same
  id_is (suc i) u e = by (slice_get tree.children i) refl e
    where
      by : (o : Option Child) → slice_get tree.children i ≡ o → option_map (λ (c : Child). c.table) o ≡ Some u → unwrap_or (option_map (λ (l : Layer). l.table) (slice_get store.layers i)) store.table ≡ u
      by None at h = cc
      by (Some c) at h =
          let same : c.table ≡ u = cc in
          ap (λ o. unwrap_or (option_map (λ (l : Layer). l.table) o) store.table) (ap (λ ls. slice_get ls i) layers ∙ slice_get_map (layer_for s.schema) tree.children i c at) ∙ same

  -- what is reached has a row
  row_there : (n p : ℕ) (u : TableId) (q : Row) → place_of tree u ≡ Some p → passes (is_only root) (root_within n s tree p q) ≡ true → (row : Row) × (fm.get (kept_at store.tables p) q ≡ Some row)
  row_there n p u q e h = by (fm.get (table_at s u) q) refl
    where
      by : (o : Option Row) → fm.get (table_at s u) q ≡ o → (row : Row) × (fm.get (kept_at store.tables p) q ≡ Some row)
      by (Some row) f = (row, ap (λ (m : Table). fm.get m q) (its u p e) ∙ f)
      by None f = let wrong : false ≡ true = sym (ap (passes (is_only root)) (none_within s tree n p u q e f)) ∙ h in cc

  -- some operations hold a row of the instance
  pub held_is : (owns : List (List Op)) → is_instance_held (is_held_by s.schema owns) store root ≡ list_any (λ ops. touches s tree (is_only root) ops) owns
  held_is owns = same_answer _ _ there back
    where
      is_within_at : (p : ℕ) (z : RowKey) → place_of tree z.table ≡ Some p → is_within s tree (is_only root) z ≡ leads store.layers store.tables 0 root (length store.layers) p z.key
      is_within_at p z e =
          ap (λ o. passes (is_only root) (option_and_then (λ place. root_within (length tree.children) s tree place z.key) o)) e
          ∙ ap (λ n. passes (is_only root) (root_within n s tree p z.key)) (sym few)
          ∙ sym (leads_is (length store.layers) p z.table z.key e)

      among : (keys : List RowKey) (z : RowKey) → is_among keys z ≡ true → is_within s tree (is_only root) z ≡ true → list_any (is_within s tree (is_only root)) keys ≡ true
      among keys z m w =
          let (i, y, at, same) = any_of (same_row_key z) keys m in
          let both = both_true (nat_eq z.table.0 y.table.0) (is_same z.key y.key) same in
          let t : z.table ≡ y.table = same_id z.table y.table (eqb-true z.table.0 y.table.0 both.0) in
          let k : z.key ≡ y.key = same_values z.key y.key both.1 in
          any_is (is_within s tree (is_only root)) keys i y at ((λ j. passes (is_only root) (root_of s tree (sym t j) (sym k j))) ∙ w)

      either : (a b : Bool) (P : Type 0) → (a || b) ≡ true → (a ≡ true → P) → (b ≡ true → P) → P
      either true b P e f g = f refl
      either false b P e f g = g e

      touched : (ops : List Op) (z : RowKey) → is_in (footprint_of s.schema ops) z ≡ true → is_within s tree (is_only root) z ≡ true → touches s tree (is_only root) ops ≡ true
      touched ops z e w = either (is_among (footprint_of s.schema ops).written z) (is_among (footprint_of s.schema ops).referred z) _ e
          (λ h. ap (λ b. b || list_any (is_within s tree (is_only root)) (footprint_of s.schema ops).referred) (among (footprint_of s.schema ops).written z h w))
          (λ h. (ap (λ b. list_any (is_within s tree (is_only root)) (footprint_of s.schema ops).written || b) (among (footprint_of s.schema ops).referred z h w) ∙ or_true (list_any (is_within s tree (is_only root)) (footprint_of s.schema ops).written)))

      there : is_instance_held (is_held_by s.schema owns) store root ≡ true → list_any (λ ops. touches s tree (is_only root) ops) owns ≡ true
      there h =
          let f = row_found _ store.tables h in
          let both = both_true (leads store.layers store.tables 0 root (length store.layers) f.place f.key) (held_at (is_held_by s.schema owns) store.table store.layers f.place f.key) f.passes in
          let lt = f.within in
          let u = table_there tree f.place (omega (arith, lt, long)) in
          let (i, ops, at, holds) = any_of (λ ops. is_in (footprint_of s.schema ops) (record { table = id_at store.table store.layers f.place; key = f.key })) owns both.1 in
          let id = id_is f.place u.0 u.1 in
          any_is (λ ops. touches s tree (is_only root) ops) owns i ops at
          (touched ops (record { table = u.0; key = f.key }) (ap (λ t. is_in (footprint_of s.schema ops) (record { table = t; key = f.key })) (sym id) ∙ holds)
          (is_within_at f.place (record { table = u.0; key = f.key }) (place_there s.schema tree f.place u.0 sound u.1) ∙ both.0))

      holding : (i : ℕ) (ops : List Op) → slice_get owns i ≡ Some ops → (keys : List RowKey) → ((z : RowKey) → is_among keys z ≡ true → is_in (footprint_of s.schema ops) z ≡ true) → list_any (is_within s tree (is_only root)) keys ≡ true
          → is_instance_held (is_held_by s.schema owns) store root ≡ true
      holding i ops at keys own h =
          let (j, z, here, w) = any_of (is_within s tree (is_only root)) keys h in
          by z (any_is (same_row_key z) keys j z here (λ k. eq-eqb z.table.0 z.table.0 refl k && same_itself z.key z.key refl k)) w (place_of tree z.table) refl
        where
          by : (z : RowKey) → is_among keys z ≡ true → is_within s tree (is_only root) z ≡ true → (o : Option ℕ) → place_of tree z.table ≡ o → is_instance_held (is_held_by s.schema owns) store root ≡ true
          by z m w None e = let wrong : false ≡ true = sym (ap (λ o. passes (is_only root) (option_and_then (λ place. root_within (length tree.children) s tree place z.key) o)) e) ∙ w in cc
          by z m w (Some p) e =
              let a = at_place tree z.table p e in
              let led : leads store.layers store.tables 0 root (length store.layers) p z.key ≡ true = sym (is_within_at p z e) ∙ w in
              let r = row_there (length store.layers) p z.table z.key e (sym (leads_is (length store.layers) p z.table z.key e) ∙ led) in
              let id : id_at store.table store.layers p ≡ z.table = id_is p a.table a.is ∙ same_id a.table z.table a.same in
              row_is (λ place key. leads store.layers store.tables 0 root (length store.layers) place key && held_at (is_held_by s.schema owns) store.table store.layers place key) store.tables p z.key r.0 r.1
              (λ k. led k && (ap (λ t. is_held_by s.schema owns t z.key) id ∙ any_is (λ ops. is_in (footprint_of s.schema ops) z) owns i ops at (own z m)) k)

      back : list_any (λ ops. touches s tree (is_only root) ops) owns ≡ true → is_instance_held (is_held_by s.schema owns) store root ≡ true
      back h =
          let (i, ops, at, t) = any_of (λ ops. touches s tree (is_only root) ops) owns h in
          either (list_any (is_within s tree (is_only root)) (footprint_of s.schema ops).written) (list_any (is_within s tree (is_only root)) (footprint_of s.schema ops).referred) _ t
          (holding i ops at (footprint_of s.schema ops).written (λ z m. ap (λ b. b || is_among (footprint_of s.schema ops).referred z) m))
          (holding i ops at (footprint_of s.schema ops).referred (λ z m. ap (λ b. is_among (footprint_of s.schema ops).written z || b) m ∙ or_true (is_among (footprint_of s.schema ops).written z)))
