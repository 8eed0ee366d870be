-- Laws of rows that are put together table by table along a tree.
use Rattle.std.proofs.Common.{◌≡◌, ℕ, zero, suc, ◌+◌, ◌<◌, ◌≤◌, true, ◌&&◌, Option, Some, None, is_some, List, [], ◌∷◌, ◌++◌, length, slice_get, refl, sym, ap, subst, ◌∙◌, arith}
use Rattle.std.proofs.lemmas.Bool.{eqb-true, eq-eqb, leb-true}
use Rattle.std.specs.Prelude.{nat_le}
use Rattle.std.specs.Option.{option_and_then, option_map}
use Rattle.tier_base.specs.declared.number.TableId.{TableId}
use Rattle.table_defs.specs.declared.definition.TableDef.{TableDef}
use Rattle.indexed_rows.specs.Rows.{Table}
use Rattle.indexed_rows.proofs.EntryLaws.{read}
use Rattle.table_state.specs.Tables.{TableState}
use Rattle.instances.specs.declared.tree.Child.{Child}
use Rattle.instances.specs.declared.tree.Tree.{Tree}
use Rattle.instances.specs.Trees.{are_sound, is_parent, is_place, is_sound, is_sound_child, place_of, table_of}
use Rattle.instances.specs.Views.{child_rows, kept_at, with_children}
use Rattle.outside.proofs.RowLaws.{left_of_and, right_of_and}

-- the rows of a child, by its place and the rows kept of its parent
abbrev pub Step : Type 0
Step = ℕ → Table → Child → Table

abbrev pub grown : Step → List Child → List Table → List Table
grown step [] kept = kept
grown step (child ∷ children) kept = grown step children (kept ++ step (length kept) (kept_at kept child.parent) child ∷ [])

abbrev pub of_state : TableState → Step
of_state s place parents child = child_rows s parents child

pub grown_state : (s : TableState) (cs : List Child) (kept : List Table) → with_children s cs kept ≡ grown (of_state s) cs kept
grown_state s [] kept = refl
grown_state s (c ∷ cs) kept = grown_state s cs (kept ++ child_rows s (kept_at kept c.parent) c ∷ [])

-- what stands at a place behind one more table
pub length_more : (kept : List Table) (x : Table) → length (kept ++ x ∷ []) ≡ suc (length kept)
length_more [] x = refl
length_more (y ∷ kept) x = ap suc (length_more kept x)

at_front : (kept : List Table) (x : Table) (i : ℕ) → i < length kept → kept_at (kept ++ x ∷ []) i ≡ kept_at kept i
at_front [] x i lt = absurd (omega arith)
at_front (y ∷ kept) x zero lt = refl
at_front (y ∷ kept) x (suc i) lt = at_front kept x i (omega arith)

at_end : (kept : List Table) (x : Table) → kept_at (kept ++ x ∷ []) (length kept) ≡ x
at_end [] x = refl
at_end (y ∷ kept) x = at_end kept x

pub same_tables : (V W : List Table) → length V ≡ length W → ((i : ℕ) → i < length V → kept_at V i ≡ kept_at W i) → V ≡ W
same_tables [] [] e f = refl
same_tables [] (w ∷ W) e f = absurd (omega arith)
same_tables (v ∷ V) [] e f = absurd (omega arith)
same_tables (v ∷ V) (w ∷ W) e f =
    let first : v ≡ w = f 0 (omega arith) in
    let rest : V ≡ W = same_tables V W (omega arith) (λ i lt. f (suc i) (omega arith)) in
    ap (λ x. x ∷ V) first ∙ ap (λ r. w ∷ r) rest

pub child_there : (cs : List Child) (d : ℕ) → d < length cs → (c : Child) × (slice_get cs d ≡ Some c)
child_there [] d lt = absurd (omega arith)
child_there (c ∷ cs) zero lt = (c, refl)
child_there (c ∷ cs) (suc d) lt = child_there cs d (omega arith)

module _ (step : Step) where
  long_grown : (cs : List Child) (kept : List Table) → length (grown step cs kept) ≡ length kept + length cs
  long_grown [] kept = omega arith
  long_grown (c ∷ cs) kept =
      let x : Table = step (length kept) (kept_at kept c.parent) c in
      let rest : length (grown step cs (kept ++ x ∷ [])) ≡ length (kept ++ x ∷ []) + length cs = long_grown cs (kept ++ x ∷ []) in
      let more : length (kept ++ x ∷ []) ≡ suc (length kept) = length_more kept x in
      omega (arith, rest, more)

  front : (cs : List Child) (kept : List Table) (i : ℕ) → i < length kept → kept_at (grown step cs kept) i ≡ kept_at kept i
  front [] kept i lt = refl
  front (c ∷ cs) kept i lt =
      let x : Table = step (length kept) (kept_at kept c.parent) c in
      let more : length (kept ++ x ∷ []) ≡ suc (length kept) = length_more kept x in
      front cs (kept ++ x ∷ []) i (omega (arith, more)) ∙ at_front kept x i lt

  child_at : (cs : List Child) (kept : List Table) (d : ℕ) (c : Child) → slice_get cs d ≡ Some c → c.parent < length kept + d
      → kept_at (grown step cs kept) (length kept + d) ≡ step (length kept + d) (kept_at (grown step cs kept) c.parent) c
  child_at [] kept d c e low = cc
  child_at (x ∷ cs) kept zero c e low =
      let same : x ≡ c = cc in
      subst (λ (y : Child). y.parent < length kept + 0 → kept_at G (length kept + 0) ≡ step (length kept + 0) (kept_at G y.parent) y) same here low
    where
      X : Table
      X = step (length kept) (kept_at kept x.parent) x

      G : List Table
      G = grown step cs (kept ++ X ∷ [])

      none : length kept + 0 ≡ length kept
      none = omega arith

      here : x.parent < length kept + 0 → kept_at G (length kept + 0) ≡ step (length kept + 0) (kept_at G x.parent) x
      here lower =
          let more : length (kept ++ X ∷ []) ≡ suc (length kept) = length_more kept X in
          let parents : kept_at G x.parent ≡ kept_at kept x.parent = front cs (kept ++ X ∷ []) x.parent (omega (arith, more)) ∙ at_front kept X x.parent (omega arith) in
          ap (kept_at G) none ∙ front cs (kept ++ X ∷ []) (length kept) (omega (arith, more)) ∙ at_end kept X
          ∙ ap (λ p. step (length kept) p x) (sym parents) ∙ ap (λ n. step n (kept_at G x.parent) x) (sym none)
  child_at (x ∷ cs) kept (suc d) c e low =
      let X : Table = step (length kept) (kept_at kept x.parent) x in
      let more : length (kept ++ X ∷ []) ≡ suc (length kept) = length_more kept X in
      let there : length (kept ++ X ∷ []) + d ≡ length kept + suc d = omega (arith, more) in
      subst (λ n. kept_at (grown step cs (kept ++ X ∷ [])) n ≡ step n (kept_at (grown step cs (kept ++ X ∷ [])) c.parent) c) there (child_at cs (kept ++ X ∷ []) d c e (omega (arith, more)))

-- one table for the root and one for each child, each by its step from the rows of its parent
pub record Built (step : Step) (tree : Tree) (roots : Table) (V : List Table) : Type 0 where
  pub long : length V ≡ suc (length tree.children)
  pub root : kept_at V 0 ≡ roots
  pub child : (d : ℕ) (c : Child) → slice_get tree.children d ≡ Some c → c.parent ≤ d → kept_at V (suc d) ≡ step (suc d) (kept_at V c.parent) c

pub grown_is_built : (step : Step) (tree : Tree) (roots : Table) → Built step tree roots (grown step tree.children (roots ∷ []))
grown_is_built step tree roots = record {
  long = let all : length (grown step tree.children (roots ∷ [])) ≡ 1 + length tree.children = long_grown step tree.children (roots ∷ []) in omega (arith, all);
  root = front step tree.children (roots ∷ []) 0 (omega arith);
  child = λ d c at low.
      let next : 1 + d ≡ suc d = omega arith in
      subst (λ n. kept_at (grown step tree.children (roots ∷ [])) n ≡ step n (kept_at (grown step tree.children (roots ∷ [])) c.parent) c) next (child_at step tree.children (roots ∷ []) d c at (omega arith));
}

-- each child stands behind its parent
abbrev pub IsLow : Tree → Type 0
IsLow tree = (d : ℕ) (c : Child) → slice_get tree.children d ≡ Some c → c.parent ≤ d

-- there is one such list
module _ (step : Step) (tree : Tree) (low : IsLow tree) (roots : Table) (V W : List Table) (v : Built step tree roots V) (w : Built step tree roots W) where
  upto : (n i : ℕ) → i ≤ n → i < length V → kept_at V i ≡ kept_at W i
  upto n zero le lt = v.root ∙ sym w.root
  upto zero (suc d) le lt = absurd (omega arith)
  upto (suc n) (suc d) le lt =
      let long : length V ≡ suc (length tree.children) = v.long in
      let p = child_there tree.children d (omega (arith, long)) in
      let is_low : p.0.parent ≤ d = low d p.0 p.1 in
      v.child d p.0 p.1 is_low ∙ ap (λ t. step (suc d) t p.0) (upto n p.0.parent (omega (arith, is_low)) (omega (arith, is_low))) ∙ sym (w.child d p.0 p.1 is_low)

  pub one_built : V ≡ W
  one_built = same_tables V W (v.long ∙ sym w.long) (λ i lt. upto i i (omega arith) lt)

-- what a sound tree has
sound_child : (schema : List TableDef) (tree : Tree) (cs : List Child) (place d : ℕ) (c : Child) → are_sound schema tree place cs ≡ true → slice_get cs d ≡ Some c → is_sound_child schema tree (place + d) c ≡ true
sound_child schema tree [] place d c e at = cc
sound_child schema tree (x ∷ cs) place zero c e at =
    let same : x ≡ c = cc in
    let here : place ≡ place + 0 = omega arith in
    subst (λ n. is_sound_child schema tree n c ≡ true) here (subst (λ (y : Child). is_sound_child schema tree place y ≡ true) same (left_of_and (is_sound_child schema tree place x) _ e))
sound_child schema tree (x ∷ cs) place (suc d) c e at =
    let there : suc place + d ≡ place + suc d = omega arith in
    subst (λ n. is_sound_child schema tree n c ≡ true) there (sound_child schema tree cs (suc place) d c (right_of_and (is_sound_child schema tree place x) _ e) at)

at_place : (n : ℕ) (o : Option ℕ) → is_place n o ≡ true → o ≡ Some n
at_place n None e = cc
at_place n (Some m) e = ap Some (eqb-true m n e)

pub root_place : (tree : Tree) → place_of tree tree.root.table ≡ Some 0
root_place tree = rw (eq-eqb tree.root.table.0 tree.root.table.0 refl) refl

-- a foreign key is that of a definition
parent_defined : (o : Option TableId) (d : Option TableDef) → is_parent o (option_and_then (λ def. def.foreign_key) d) ≡ true → (def : TableDef) × (d ≡ Some def)
parent_defined None None e = cc
parent_defined None (Some def) e = (def, refl)
parent_defined (Some t) None e = cc
parent_defined (Some t) (Some def) e = (def, refl)

module _ (schema : List TableDef) (tree : Tree) (sound : is_sound schema tree ≡ true) where
  one_sound : (d : ℕ) (c : Child) → slice_get tree.children d ≡ Some c → is_sound_child schema tree d c ≡ true
  one_sound d c at =
      let none : 0 + d ≡ d = omega arith in
      subst (λ n. is_sound_child schema tree n c ≡ true) none (sound_child schema tree tree.children 0 d c (right_of_and (is_some (slice_get schema tree.root.table.0)) _ sound) at)

  pub is_low : IsLow tree
  is_low d c at = leb-true c.parent d (right_of_and (is_place (suc d) (place_of tree c.table)) (nat_le c.parent d) (left_of_and (is_place (suc d) (place_of tree c.table) && nat_le c.parent d) _ (one_sound d c at)))

  pub place_is : (d : ℕ) (c : Child) → slice_get tree.children d ≡ Some c → place_of tree c.table ≡ Some (suc d)
  place_is d c at = at_place (suc d) (place_of tree c.table) (left_of_and (is_place (suc d) (place_of tree c.table)) (nat_le c.parent d) (left_of_and (is_place (suc d) (place_of tree c.table) && nat_le c.parent d) _ (one_sound d c at)))

  -- the definition of a child's table is there
  pub child_defined : (d : ℕ) (c : Child) → slice_get tree.children d ≡ Some c → (def : TableDef) × (slice_get schema c.table.0 ≡ Some def)
  child_defined d c at =
      parent_defined (table_of tree c.parent) (slice_get schema c.table.0)
      (right_of_and (is_place (suc d) (place_of tree c.table) && nat_le c.parent d) (is_parent (table_of tree c.parent) (option_and_then (λ def. def.foreign_key) (slice_get schema c.table.0))) (one_sound d c at))

  -- its parent's table stands in the tree at that place first
  table_at_place : (n d : ℕ) → n ≤ d → d < length tree.children → (t : TableId) × (table_of tree n ≡ Some t) × (place_of tree t ≡ Some n)
  table_at_place zero d le lt = (tree.root.table, refl, root_place tree)
  table_at_place (suc e) d le lt =
      let p = child_there tree.children e (omega (arith, le, lt)) in
      (p.0.table, ap (option_map (λ (child : Child). child.table)) p.1, place_is e p.0 p.1)

  pub parent_is : (d : ℕ) (c : Child) → slice_get tree.children d ≡ Some c → (t : TableId) × (table_of tree c.parent ≡ Some t) × (place_of tree t ≡ Some c.parent)
  parent_is d c at = table_at_place c.parent d (is_low d c at) (read tree.children d c c at).0
