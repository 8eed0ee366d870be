-- A tree that is sound: each table stands in it once, and a tree without WHERE covers its tables.
use Rattle.std.proofs.Common.{◌≡◌, ℕ, zero, suc, ◌+◌, ◌<◌, ◌≤◌, Bool, true, false, not, cond, ◌&&◌, nat_le, nat_lt, List, [], ◌∷◌, ◌++◌, length, map, drop, slice_get, Option, Some, None, is_some, unwrap_or, refl, sym, ap, subst, ◌∙◌, inl, inr, arith, eq-eqb, eqb-true}
use Rattle.std.proofs.lemmas.Bool.{cases_lt, leb-true, ltb-true}
use Rattle.std.proofs.lemmas.List.{length-map}
use Rattle.std.specs.List.{position, prefix_len}
use Rattle.std.specs.Option.{option_and_then, option_map}
use Rattle.std.specs.FinMap.{contains_key, get}
use Rattle.slot_rows.specs.row_types.specs.declared.value.Value.{Value}
use Rattle.slot_rows.specs.tier_base.specs.declared.number.TableId.{TableId}
use Rattle.cache_store.specs.table_defs.specs.declared.definition.ForeignKey.{ForeignKey}
use Rattle.cache_store.specs.table_defs.specs.declared.definition.TableDef.{TableDef}
use Rattle.cache_store.specs.table_defs.specs.Declarations.{foreign_places}
use Rattle.slot_rows.specs.indexed_rows.specs.Rows.{Table, key_of}
use Rattle.cache_store.specs.table_state.specs.Sound.{IsTableState}
use Rattle.cache_store.specs.table_state.specs.Tables.{TableState, has_parent, table_at}
use Rattle.cache_store.specs.instances.specs.declared.tree.Child.{Child}
use Rattle.cache_store.specs.instances.specs.declared.tree.Tree.{Tree}
use Rattle.cache_store.specs.instances.specs.Trees.{are_sound, is_parent, is_place, is_sound, is_sound_child, place_of, same_table, table_of}
use Rattle.cache_store.specs.instances.specs.Views.{child_rows, is_kept, kept_at, refers_to_one, root_rows, rows_where, selects, with_children}
use Rattle.cache_store.specs.Covering.{ChildrenCoverAll, CoversAll}
use Rattle.cache_store.specs.Operating.{ParentsFirst, StandsAt}
use Rattle.cache_store.specs.Shown.{shown_of}
use Rattle.cache_store.proofs.ShownLaws.{at_drop, at_end, at_front, length_more, past_drop}
use Rattle.group_store.specs.Keeping.{HasNoFilter, IsFor, layer_for, primary_of}
use Rattle.group_store.specs.Trees.{key_at}
use Rattle.slot_rows.specs.indexed_rows.proofs.MapLaws.{slice_get_map}
use Rattle.group_store.specs.Stores.{Kept, place_in}
use Rattle.std.specs.FinMap.{retain_keys}

abbrev Row : Type 0
Row = List Value

pub same_id : (a b : TableId) → a.0 ≡ b.0 → a ≡ b
same_id a b e = ap (λ n. record { 0 = n }) e

pub it_itself : (t : TableId) → same_table t t ≡ true
it_itself t = eq-eqb t.0 t.0 refl

same_by : (a b : TableId) → same_table a b ≡ true → a ≡ b
same_by a b e = same_id a b (eqb-true a.0 b.0 e)

left_of : (a b : Bool) → (a && b) ≡ true → a ≡ true
left_of true b e = refl
left_of false b e = e

right_of : (a b : Bool) → (a && b) ≡ true → b ≡ true
right_of true b e = e
right_of false b e = cc

-- a table's place in the store is that in the tree
first_in : (schema : List TableDef) (t : TableId) (cs : List Child) → prefix_len (λ l. not (same_table l.table t)) (map (layer_for schema) cs) ≡ prefix_len (λ c. not (same_table c.table t)) cs
first_in schema t [] = refl
first_in schema t (c ∷ cs) = ap (λ n. cond (not (same_table c.table t)) (1 + n) 0) (first_in schema t cs)

pub place_same : (schema : List TableDef) (tree : Tree) (k : Kept) → IsFor schema tree k → (t : TableId) → place_in k t ≡ place_of tree t
place_same schema tree k form t =
    ap (λ r. cond (same_table r t) (Some 0) (option_map suc (position (λ l. same_table l.table t) k.layers))) form.table
    ∙ ap (λ ls. cond (same_table tree.root.table t) (Some 0) (option_map suc (position (λ l. same_table l.table t) ls))) form.layers
    ∙ ap (λ o. cond (same_table tree.root.table t) (Some 0) (option_map suc o)) among
  where
    among : position (λ l. same_table l.table t) (map (layer_for schema) tree.children) ≡ position (λ c. same_table c.table t) tree.children
    among =
        let first = first_in schema t tree.children in
        let long = length-map tree.children (layer_for schema) in
        λ i. cond (nat_lt (first i) (long i)) (Some (first i)) None

is_there : (place : ℕ) (o : Option ℕ) → is_place place o ≡ true → o ≡ Some place
is_there place None e = cc
is_there place (Some other) e = ap Some (eqb-true other place e)

-- what was found stands there
found_at : (t : TableId) (cs : List Child) → prefix_len (λ c. not (same_table c.table t)) cs < length cs → (c : Child) × (slice_get cs (prefix_len (λ c. not (same_table c.table t)) cs) ≡ Some c) × (same_table c.table t ≡ true)
found_at t [] lt = absurd (omega (arith, lt))
found_at t (c ∷ cs) lt = by (same_table c.table t) refl lt (found_at t cs)
  where
    n : ℕ
    n = prefix_len (λ c. not (same_table c.table t)) cs

    by : (b : Bool) → same_table c.table t ≡ b → cond (not b) (1 + prefix_len (λ c. not (same_table c.table t)) cs) 0 < suc (length cs)
        → (prefix_len (λ c. not (same_table c.table t)) cs < length cs → (c : Child) × (slice_get cs (prefix_len (λ c. not (same_table c.table t)) cs) ≡ Some c) × (same_table c.table t ≡ true))
        → (d : Child) × (slice_get (c ∷ cs) (cond (not b) (1 + prefix_len (λ c. not (same_table c.table t)) cs) 0) ≡ Some d) × (same_table d.table t ≡ true)
    by true e lt rest = (c, refl, e)
    by false e lt rest =
        let r = rest (omega (arith, lt)) in
        let z : 1 + prefix_len (λ c. not (same_table c.table t)) cs ≡ suc (prefix_len (λ c. not (same_table c.table t)) cs) = omega arith in
        (r.0, ap (slice_get (c ∷ cs)) z ∙ r.1, r.2)

pub stands_there : (tree : Tree) (t : TableId) (at : ℕ) → place_of tree t ≡ Some at → table_of tree at ≡ Some t
stands_there tree t at e = by (same_table tree.root.table t) refl e
  where
    behind : (n : ℕ) (b : Bool) → nat_lt n (length tree.children) ≡ b → n ≡ prefix_len (λ c. not (same_table c.table t)) tree.children → option_map suc (cond b (Some n) None) ≡ Some at → table_of tree at ≡ Some t
    behind n true lt is e =
        let z : suc n ≡ at = cc in
        let f = found_at t tree.children (subst (λ m. m < length tree.children) is (ltb-true n (length tree.children) lt)) in
        ap (table_of tree) (sym z) ∙ ap (option_map (λ c. c.table)) (ap (slice_get tree.children) is ∙ f.1) ∙ ap Some (same_by f.0.table t f.2)
    behind n false lt is e = cc

    by : (b : Bool) → same_table tree.root.table t ≡ b → cond b (Some 0) (option_map suc (position (λ c. same_table c.table t) tree.children)) ≡ Some at → table_of tree at ≡ Some t
    by true f e = let z : 0 ≡ at = cc in ap (table_of tree) (sym z) ∙ ap Some (same_by tree.root.table t f)
    by false f e = behind (prefix_len (λ c. not (same_table c.table t)) tree.children) (nat_lt (prefix_len (λ c. not (same_table c.table t)) tree.children) (length tree.children)) refl refl e

module _ (schema : List TableDef) (tree : Tree) (sound : is_sound schema tree ≡ true) where
  each_sound : (cs : List Child) (place i : ℕ) (c : Child) → are_sound schema tree place cs ≡ true → slice_get cs i ≡ Some c → is_sound_child schema tree (place + i) c ≡ true
  each_sound [] place i c e at = cc
  each_sound (d ∷ cs) place zero c e at =
      let z : d ≡ c = cc in
      let w : place ≡ place + zero = omega arith in
      subst (λ n. is_sound_child schema tree n c ≡ true) w (subst (λ x. is_sound_child schema tree place x ≡ true) z (left_of (is_sound_child schema tree place d) (are_sound schema tree (suc place) cs) e))
  each_sound (d ∷ cs) place (suc i) c e at =
      let w : suc place + i ≡ place + suc i = omega arith in
      subst (λ n. is_sound_child schema tree n c ≡ true) w (each_sound cs (suc place) i c (right_of (is_sound_child schema tree place d) (are_sound schema tree (suc place) cs) e) at)

  child_sound : (i : ℕ) (c : Child) → slice_get tree.children i ≡ Some c → is_sound_child schema tree i c ≡ true
  child_sound i c at = let w : 0 + i ≡ i = omega arith in subst (λ n. is_sound_child schema tree n c ≡ true) w (each_sound tree.children 0 i c (right_of (is_some (slice_get schema tree.root.table.0)) (are_sound schema tree 0 tree.children) sound) at)

  abbrev definition : Child → Option ForeignKey
  definition c = option_and_then (λ def. def.foreign_key) (slice_get schema c.table.0)

  its_place : (i : ℕ) (c : Child) → slice_get tree.children i ≡ Some c → place_of tree c.table ≡ Some (suc i)
  its_place i c at = is_there (suc i) (place_of tree c.table) (left_of (is_place (suc i) (place_of tree c.table)) (nat_le c.parent i) (left_of (is_place (suc i) (place_of tree c.table) && nat_le c.parent i) (is_parent (table_of tree c.parent) (definition c)) (child_sound i c at)))

  pub parents_first : ParentsFirst tree
  parents_first i c at = leb-true c.parent i (right_of (is_place (suc i) (place_of tree c.table)) (nat_le c.parent i) (left_of (is_place (suc i) (place_of tree c.table) && nat_le c.parent i) (is_parent (table_of tree c.parent) (definition c)) (child_sound i c at)))

  its_parent : (i : ℕ) (c : Child) → slice_get tree.children i ≡ Some c → is_parent (table_of tree c.parent) (definition c) ≡ true
  its_parent i c at = right_of (is_place (suc i) (place_of tree c.table) && nat_le c.parent i) (is_parent (table_of tree c.parent) (definition c)) (child_sound i c at)

  -- each table stands first at its place
  pub first_place : (place : ℕ) (t : TableId) → table_of tree place ≡ Some t → place_of tree t ≡ Some place
  first_place zero t e = let z : tree.root.table ≡ t = cc in subst (λ u. place_of tree u ≡ Some 0) z (ap (λ b. cond b (Some 0) (option_map suc (position (λ c. same_table c.table tree.root.table) tree.children))) (it_itself tree.root.table))
  first_place (suc i) t e = by (slice_get tree.children i) refl e
    where
      by : (o : Option Child) → slice_get tree.children i ≡ o → option_map (λ c. c.table) o ≡ Some t → place_of tree t ≡ Some (suc i)
      by None f e = cc
      by (Some c) f e = let z : c.table ≡ t = cc in subst (λ u. place_of tree u ≡ Some (suc i)) z (its_place i c f)

  pub stands : (t : TableId) (at : ℕ) → place_of tree t ≡ Some at → StandsAt tree t at
  stands t at e = record {
    there = stands_there tree t at e;
    alone = λ place other there same.
        let both : Some place ≡ Some at = sym (first_place place other there) ∙ ap (place_of tree) (same_id other t same) ∙ e in
        let z : place ≡ at = cc in z;
  }

  -- what a child's definition and its parent's table are
  record Joins (c : Child) : Type 0 where
    def : TableDef
    is : slice_get schema c.table.0 ≡ Some def
    foreign : ForeignKey
    has : def.foreign_key ≡ Some foreign
    parent : TableId
    there : table_of tree c.parent ≡ Some parent
    names : foreign.parent ≡ parent

  joins : (i : ℕ) (c : Child) → slice_get tree.children i ≡ Some c → Joins c
  joins i c at = by (table_of tree c.parent) refl (slice_get schema c.table.0) refl (its_parent i c at)
    where
      with_key : (t : TableId) (def : TableDef) → table_of tree c.parent ≡ Some t → slice_get schema c.table.0 ≡ Some def → (o : Option ForeignKey) → def.foreign_key ≡ o → is_parent (Some t) o ≡ true → Joins c
      with_key t def e f None g h = cc
      with_key t def e f (Some foreign) g h = record { def = def; is = f; foreign = foreign; has = g; parent = t; there = e; names = same_by foreign.parent t h }

      by : (o : Option TableId) → table_of tree c.parent ≡ o → (d : Option TableDef) → slice_get schema c.table.0 ≡ d → is_parent o (option_and_then (λ def. def.foreign_key) d) ≡ true → Joins c
      by None e d f h = cc
      by (Some t) e None f h = cc
      by (Some t) e (Some def) f h = with_key t def e f def.foreign_key refl h

  -- a table of the tree has a definition
  pub defined : (place : ℕ) (t : TableId) → table_of tree place ≡ Some t → (def : TableDef) × (slice_get schema t.0 ≡ Some def)
  defined zero t e = let z : tree.root.table ≡ t = cc in by (slice_get schema t.0) refl (subst (λ u. is_some (slice_get schema u.0) ≡ true) z (left_of (is_some (slice_get schema tree.root.table.0)) (are_sound schema tree 0 tree.children) sound))
    where
      by : (o : Option TableDef) → slice_get schema t.0 ≡ o → is_some (slice_get schema t.0) ≡ true → (def : TableDef) × (slice_get schema t.0 ≡ Some def)
      by None f e = let x : false ≡ true = sym (ap is_some f) ∙ e in cc
      by (Some def) f e = (def, f)
  defined (suc i) t e = by (slice_get tree.children i) refl e
    where
      by : (o : Option Child) → slice_get tree.children i ≡ o → option_map (λ c. c.table) o ≡ Some t → (def : TableDef) × (slice_get schema t.0 ≡ Some def)
      by None f e = cc
      by (Some c) f e = let z : c.table ≡ t = cc in let j = joins i c f in (j.def, subst (λ u. slice_get schema u.0 ≡ Some j.def) z j.is)

-- the columns of a table's key
pub key_for : (schema : List TableDef) (tree : Tree) (k : Kept) → IsFor schema tree k → (at : ℕ) (t : TableId) → table_of tree at ≡ Some t → key_at k.key k.layers at ≡ primary_of schema t
key_for schema tree k form zero t e = let z : tree.root.table ≡ t = cc in form.key ∙ ap (primary_of schema) z
key_for schema tree k form (suc i) t e = ap (λ ls. unwrap_or (option_map (λ l. l.key) (slice_get ls i)) []) form.layers ∙ by (slice_get tree.children i) refl e
  where
    by : (o : Option Child) → slice_get tree.children i ≡ o → option_map (λ c. c.table) o ≡ Some t → unwrap_or (option_map (λ l. l.key) (slice_get (map (layer_for schema) tree.children) i)) [] ≡ primary_of schema t
    by None f e = cc
    by (Some c) f e = let z : c.table ≡ t = cc in ap (λ o. unwrap_or (option_map (λ l. l.key) o) []) (slice_get_map (layer_for schema) tree.children i c f) ∙ ap (primary_of schema) z

pub primary : (schema : List TableDef) (t : TableId) (def : TableDef) → slice_get schema t.0 ≡ Some def → primary_of schema t ≡ def.primary_key
primary schema t def e = ap (λ o. unwrap_or (option_map (λ d. d.primary_key) o) []) e

-- a tree without WHERE covers the tables of a state
module _ (s : TableState) (tree : Tree) (sound : is_sound s.schema tree ≡ true) (plain : HasNoFilter tree) (is : IsTableState s) where
  abbrev Until : ℕ → List Table → Type 0
  Until d before = (j : ℕ) (t : TableId) → j ≤ d → table_of tree j ≡ Some t → kept_at before j ≡ table_at s t

  until_more : (d : ℕ) (before : List Table) (c : Child) → slice_get tree.children d ≡ Some c → length before ≡ suc d → Until d before → Until (suc d) (before ++ table_at s c.table ∷ [])
  until_more d before c at long u j t le there = elim (cases_lt j (suc d)) [
    | inl lt ↦ at_front before (table_at s c.table) j (omega (arith, lt, long)) ∙ u j t (omega (arith, lt)) there
    | inr ge ↦
        let same : j ≡ suc d = omega (arith, ge, le) in
        let here : Some c.table ≡ Some t = sym (ap (option_map (λ x. x.table)) at) ∙ sym (ap (table_of tree) same) ∙ there in
        let z : c.table ≡ t = cc in
        ap (kept_at (before ++ table_at s c.table ∷ [])) (same ∙ sym long) ∙ at_end before (table_at s c.table) ∙ ap (table_at s) z
  ]

  child_refers : (d : ℕ) (before : List Table) (c : Child) → slice_get tree.children d ≡ Some c → Until d before → (key row : Row) → get (table_at s c.table) key ≡ Some row → refers_to_one (kept_at before c.parent) (slice_get s.schema c.table.0) row ≡ true
  child_refers d before c at u key row found =
      let j = joins s.schema tree sound d c at in
      let linked = is.linked c.table j.def key row j.is found in
      let parents = u c.parent j.parent (parents_first s.schema tree sound d c at) j.there in
      let named : has_parent s (Some j.foreign) row ≡ true = ap (λ o. has_parent s o row) (sym j.has) ∙ linked in
      ap (λ o. refers_to_one (kept_at before c.parent) o row) j.is
      ∙ ap (λ o. contains_key (kept_at before c.parent) (key_of (foreign_places o) row)) j.has
      ∙ ap (λ m. contains_key m (key_of j.foreign.columns row)) (parents ∙ ap (table_at s) (sym j.names)) ∙ named

  children_cover : (cs : List Child) (d : ℕ) (before : List Table) → drop d tree.children ≡ cs → length before ≡ suc d → Until d before → ChildrenCoverAll s before cs
  children_cover [] d before at long u = tt
  children_cover (c ∷ cs) d before at long u =
      let here = at_drop tree.children d c cs at in
      (plain.children d c here, child_refers d before c here u, children_cover cs (suc d) (before ++ table_at s c.table ∷ []) (past_drop tree.children d c cs at) (length_more before (table_at s c.table) ∙ ap suc long) (until_more d before c here long u))

  pub covers : CoversAll s tree
  covers = (plain.root, children_cover tree.children 0 (table_at s tree.root.table ∷ []) refl refl first)
    where
      first : Until 0 (table_at s tree.root.table ∷ [])
      first zero t le there = let z : tree.root.table ≡ t = cc in ap (table_at s) z
      first (suc j) t le there = absurd (omega (arith, le))

-- what is shown doesn't change with tables that the tree hasn't
module _ (s new : TableState) (tree : Tree) (p : Row → Bool) (schema : new.schema ≡ s.schema) (same : (place : ℕ) (t : TableId) → table_of tree place ≡ Some t → table_at new t ≡ table_at s t) where
  child_same : (d : ℕ) (c : Child) (parents : Table) → slice_get tree.children d ≡ Some c → child_rows new parents c ≡ child_rows s parents c
  child_same d c parents at =
      ap (λ (defs : List TableDef). rows_where (λ row. selects c.filter row && refers_to_one parents (slice_get defs c.table.0) row) (table_at new c.table)) schema
      ∙ ap (rows_where (is_kept s parents c)) (same (suc d) c.table (ap (option_map (λ x. x.table)) at))

  all_same : (cs : List Child) (d : ℕ) (before : List Table) → drop d tree.children ≡ cs → with_children new cs before ≡ with_children s cs before
  all_same [] d before at = refl
  all_same (c ∷ cs) d before at =
      ap (λ t. with_children new cs (before ++ t ∷ [])) (child_same d c (kept_at before c.parent) (at_drop tree.children d c cs at))
      ∙ all_same cs (suc d) (before ++ child_rows s (kept_at before c.parent) c ∷ []) (past_drop tree.children d c cs at)

  pub shown_same : shown_of new tree p ≡ shown_of s tree p
  shown_same =
      ap (λ t. with_children new tree.children (retain_keys (rows_where (selects tree.root.filter) t) p ∷ [])) (same 0 tree.root.table refl)
      ∙ all_same tree.children 0 (retain_keys (root_rows s tree.root) p ∷ []) refl
