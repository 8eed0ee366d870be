-- The rows of instances are those that a root row is reached from.
use Rattle.std.proofs.Common.{◌≡◌, ℕ, zero, suc, ◌+◌, ◌≤◌, Bool, true, false, cond, ◌&&◌, ◌||◌, nat_eq, Option, Some, None, is_some, List, [], ◌∷◌, length, map, slice_get, refl, sym, ap, subst, ◌∙◌, arith, eq-eqb, eqb-true}
use Rattle.std.specs.Option.{option_and_then, option_map}
use Rattle.std.specs.List.{list_any}
use Rattle.std.proofs.lemmas.List.Folds.{list_any-append}
use Rattle.std.specs.FinMap as fm
use Rattle.row_types.specs.Order.{key_order}
use Rattle.row_types.specs.declared.value.Value.{Value}
use Rattle.tier_base.specs.declared.number.TableId.{TableId}
use Rattle.table_defs.specs.declared.definition.TableDef.{TableDef}
use Rattle.table_defs.specs.Declarations.{foreign_places}
use Rattle.indexed_rows.specs.Rows.{Table, is_same, key_of}
use Rattle.indexed_rows.proofs.EntryLaws.{has_at, read, same_itself, same_values}
use Rattle.table_state.specs.declared.footprint.RowKey.{RowKey}
use Rattle.table_state.specs.declared.operation.Op.{Op}
use Rattle.table_state.specs.Footprints.{footprint_of, is_among, is_in, same_row_key}
use Rattle.table_state.specs.Tables.{TableState, table_at}
use Rattle.instances.specs.declared.tree.Child.{Child}
use Rattle.instances.specs.declared.tree.Tree.{Tree}
use Rattle.instances.specs.Roots.{parent_key, root_of, root_within}
use Rattle.instances.specs.Trees.{is_sound, place_of, table_of}
use Rattle.instances.specs.Views.{kept_at, passes, root_rows, rows_where}
use Rattle.instances.proofs.Gathering.{entry_found, get_where}
use Rattle.session_state.proofs.ApartLaws.{any_false, any_or, any_same}
use Rattle.order_laws.proofs.TruthLaws.{both_true, or_true}
use Rattle.cache_tier.specs.Groups.{Group, is_key}
use Rattle.cache_tier.specs.Locks.{instance_rows, keys_in_children, keys_in_table, tree_tables}
use Rattle.cache_tier.specs.Shown.{instances_where, root_key}
use Rattle.cache_tier.specs.StandingBetween.{has_no_where}
use Rattle.cache_tier.proofs.ShownTables.{AtChild, AtRoot, InTree, child_plain, in_tree_at, root_plain, same_id}
use Rattle.cache_tier.proofs.ShownTrees.{SoundChild, at_place, child_kept, front_kept, get_child, place_there, sound_child}
use Rattle.aging_cycles.proofs.RootRows.{plain_roots}

abbrev Row : Type 0
Row = List Value

-- truth

same_answer : (a b : Bool) → (a ≡ true → b ≡ true) → (b ≡ true → a ≡ true) → a ≡ b
same_answer true true f g = refl
same_answer true false f g = sym (f refl)
same_answer false true f g = g refl
same_answer false false f g = refl

either_true : (P : Type 0) (a b : Bool) → (a || b) ≡ true → (a ≡ true → P) → (b ≡ true → P) → P
either_true P true b e f g = f refl
either_true P false b e f g = g e

-- lists of keys

turned : (a b : RowKey) → same_row_key a b ≡ same_row_key b a
turned a b = same_answer (same_row_key a b) (same_row_key b a) (way a b) (way b a)
  where
    way : (a b : RowKey) → same_row_key a b ≡ true → same_row_key b a ≡ true
    way a b e =
        let (table, key) = both_true (nat_eq a.table.0 b.table.0) (is_same a.key b.key) e in
        λ i. (eq-eqb b.table.0 a.table.0 (sym (eqb-true a.table.0 b.table.0 table))) i && (same_itself b.key a.key (sym (same_values a.key b.key key))) i

swap : (xs ys : List RowKey) → list_any (is_among xs) ys ≡ list_any (is_among ys) xs
swap xs [] = sym (any_false (is_among []) xs (λ x. refl))
swap xs (y ∷ ys) =
    ap (λ b. b || list_any (is_among xs) ys) (any_same (same_row_key y) (λ x. same_row_key x y) xs (λ x. turned y x))
    ∙ ap (λ b. list_any (λ x. same_row_key x y) xs || b) (swap xs ys) ∙ sym (any_or (λ x. same_row_key x y) (is_among ys) xs)

-- a key that is listed is that of a row of a table

any_mapped : {A B : Type 0} (p : B → Bool) (f : A → B) (xs : List A) (i : ℕ) (y : A) → slice_get xs i ≡ Some y → p (f y) ≡ true → list_any p (map f xs) ≡ true
any_mapped p f [] i y at e = cc
any_mapped p f (z ∷ xs) zero y at e = let same : z ≡ y = cc in ap (λ b. b || list_any p (map f xs)) (ap (λ q. p (f q)) same ∙ e)
any_mapped p f (z ∷ xs) (suc i) y at e = ap (λ b. p (f z) || b) (any_mapped p f xs i y at e) ∙ or_true (p (f z))

any_in_table : (p : RowKey → Bool) (t : TableId) (m : Table) (q row : Row) → fm.get m q ≡ Some row → p (record { table = t; key = q }) ≡ true → list_any p (keys_in_table t m) ≡ true
any_in_table p t m q row e h = let (i, at) = has_at m q row e in any_mapped p (λ (z : Row × Row). record { table = t; key = z.0 }) (fm.entries m) i (q, row) at h

any_in_children : (p : RowKey → Bool) (ts : List TableId) (ms : List Table) (n : ℕ) (t : TableId) (q row : Row) → slice_get ts n ≡ Some t → fm.get (kept_at ms n) q ≡ Some row → p (record { table = t; key = q }) ≡ true → list_any p (keys_in_children ts ms) ≡ true
any_in_children p [] ms n t q row at e h = cc
any_in_children p (u ∷ ts) [] n t q row at e h = let wrong : None ≡ Some row = sym (fm.get-empty key_order q) ∙ e in cc
any_in_children p (u ∷ ts) (m ∷ ms) zero t q row at e h =
    let same : u ≡ t = cc in
    list_any-append p (keys_in_table u m) (keys_in_children ts ms)
    ∙ ap (λ b. b || list_any p (keys_in_children ts ms)) (any_in_table p u m q row e (ap (λ z. p (record { table = z; key = q })) same ∙ h))
any_in_children p (u ∷ ts) (m ∷ ms) (suc n) t q row at e h =
    list_any-append p (keys_in_table u m) (keys_in_children ts ms)
    ∙ ap (λ b. list_any p (keys_in_table u m) || b) (any_in_children p ts ms n t q row at e h) ∙ or_true (list_any p (keys_in_table u m))

get_mapped : (children : List Child) (i : ℕ) → slice_get (map (λ (c : Child). c.table) children) i ≡ option_map (λ (c : Child). c.table) (slice_get children i)
get_mapped [] i = refl
get_mapped (c ∷ children) zero = refl
get_mapped (c ∷ children) (suc i) = get_mapped children i

pub table_listed : (tree : Tree) (p : ℕ) → slice_get (tree_tables tree) p ≡ table_of tree p
table_listed tree zero = refl
table_listed tree (suc i) = get_mapped tree.children i

pub record Listed (p : RowKey → Bool) (ts : List TableId) (ms : List Table) : Type 0 where
  pub place : ℕ
  pub table : TableId
  pub key : Row
  pub row : Row
  pub there : slice_get ts place ≡ Some table
  pub found : fm.get (kept_at ms place) key ≡ Some row
  pub passes : p (record { table = table; key = key }) ≡ true

in_entries : (p : RowKey → Bool) (t : TableId) (es : List (Row × Row)) → list_any p (map (λ (e : Row × Row). record { table = t; key = e.0 }) es) ≡ true → (i : ℕ) × (e : Row × Row) × (slice_get es i ≡ Some e) × (p (record { table = t; key = e.0 }) ≡ true)
in_entries p t [] h = cc
in_entries p t (e ∷ es) h = by (p (record { table = t; key = e.0 })) refl h (in_entries p t es)
  where
    by : (b : Bool) → p (record { table = t; key = e.0 }) ≡ b → (b || list_any p (map (λ (x : Row × Row). record { table = t; key = x.0 }) es)) ≡ true
        → (list_any p (map (λ (x : Row × Row). record { table = t; key = x.0 }) es) ≡ true → (i : ℕ) × (x : Row × Row) × (slice_get es i ≡ Some x) × (p (record { table = t; key = x.0 }) ≡ true))
        → (i : ℕ) × (x : Row × Row) × (slice_get (e ∷ es) i ≡ Some x) × (p (record { table = t; key = x.0 }) ≡ true)
    by true is h rest = (0, e, refl, is)
    by false is h rest = let r = rest h in (suc r.0, r.1, r.2, r.3)

pub listed : (p : RowKey → Bool) (ts : List TableId) (ms : List Table) → list_any p (keys_in_children ts ms) ≡ true → Listed p ts ms
listed p [] ms h = cc
listed p (t ∷ ts) [] h = cc
listed p (t ∷ ts) (m ∷ ms) h =
    either_true (Listed p (t ∷ ts) (m ∷ ms)) (list_any p (keys_in_table t m)) (list_any p (keys_in_children ts ms)) (sym (list_any-append p (keys_in_table t m) (keys_in_children ts ms)) ∙ h)
    (λ here. (let r = in_entries p t (fm.entries m) here in record { place = 0; table = t; key = r.1.0; row = r.1.1; there = refl; found = entry_found m r.0 r.1 r.2; passes = r.3 }))
    (λ later. (let r = listed p ts ms later in record { place = suc r.place; table = r.table; key = r.key; row = r.row; there = r.there; found = r.found; passes = r.passes }))

-- ---- what is reached from roots

-- the root key alone
abbrev pub is_only : List Value → List Value → Bool
is_only root other = is_key (root ∷ []) other

-- the key's row is reached from a root whose key passes
abbrev pub is_within : TableState → Tree → (List Value → Bool) → RowKey → Bool
is_within s tree test key = passes test (root_of s tree key.table key.key)

-- so is one of those that operations hold
abbrev pub touches : TableState → Tree → (List Value → Bool) → List Op → Bool
touches s tree test ops =
    list_any (is_within s tree test) (footprint_of s.schema ops).written
    || list_any (is_within s tree test) (footprint_of s.schema ops).referred

-- root rows stand under their keys
abbrev pub IsRooted : TableState → Group → Type 0
IsRooted s g = (k r : Row) → fm.get (table_at s g.def.tree.root.table) k ≡ Some r → root_key s g r ≡ k

module _ (s : TableState) (g : Group) (test : Row → Bool) (sound : is_sound s.schema g.def.tree ≡ true) (plain : has_no_where g.def.tree ≡ true) (rooted : IsRooted s g) where
  abbrev tree : Tree
  tree = g.def.tree

  abbrev inside : List Table
  inside = instances_where s g.def.tree (λ row. test (root_key s g row))

  abbrev roots : Table
  roots = rows_where (λ row. test (root_key s g row)) (root_rows s g.def.tree.root)

  root_at : (n : ℕ) (q : Row) → passes test (root_within n s g.def.tree zero q) ≡ is_some (fm.get (kept_at inside 0) q)
  root_at n q = by (fm.get (table_at s g.def.tree.root.table) q) refl ∙ sym here
    where
      its : fm.get (root_rows s g.def.tree.root) q ≡ fm.get (table_at s g.def.tree.root.table) q
      its = ap (λ (m : Table). fm.get m q) (plain_roots s g.def.tree (root_plain g.def.tree plain))

      here : is_some (fm.get (kept_at inside 0) q) ≡ is_some (cond (passes (λ row. test (root_key s g row)) (fm.get (table_at s g.def.tree.root.table) q)) (fm.get (table_at s g.def.tree.root.table) q) None)
      here =
          ap (λ (m : Table). is_some (fm.get m q)) (front_kept s g.def.tree.children (roots ∷ []) 0 (omega arith))
          ∙ ap is_some (get_where (λ row. test (root_key s g row)) (root_rows s g.def.tree.root) q)
          ∙ ap (λ (o : Option Row). is_some (cond (passes (λ row. test (root_key s g row)) o) o None)) its

      some_at : (b : Bool) (row : Row) → is_some (cond b (Some row) None) ≡ b
      some_at true row = refl
      some_at false row = refl

      by : (o : Option Row) → fm.get (table_at s g.def.tree.root.table) q ≡ o → passes test (cond (is_some (fm.get (table_at s g.def.tree.root.table) q)) (Some q) None) ≡ is_some (cond (passes (λ row. test (root_key s g row)) (fm.get (table_at s g.def.tree.root.table) q)) (fm.get (table_at s g.def.tree.root.table) q) None)
      by None e = (λ i. passes test (cond (is_some (e i)) (Some q) None)) ∙ sym (λ i. is_some (cond (passes (λ row. test (root_key s g row)) (e i)) (e i) None))
      by (Some row) e =
          let key : root_key s g row ≡ q = rooted q row e in
          (λ i. passes test (cond (is_some (e i)) (Some q) None)) ∙ ap test (sym key)
          ∙ sym ((λ i. is_some (cond (passes (λ r. test (root_key s g r)) (e i)) (e i) None)) ∙ some_at (test (root_key s g row)) row)

  child_at : (n i : ℕ) (c : Child) (q : Row) → slice_get g.def.tree.children i ≡ Some c
      → ((u : TableId) (r : Row) → place_of g.def.tree u ≡ Some c.parent → passes test (root_within n s g.def.tree c.parent r) ≡ is_some (fm.get (kept_at inside c.parent) r))
      → passes test (root_within (suc n) s g.def.tree (suc i) q) ≡ is_some (fm.get (kept_at inside (suc i)) q)
  child_at n i c q there rest =
      ap (λ o. passes test (option_and_then (λ (d : Child). option_and_then (root_within n s g.def.tree d.parent) (parent_key s d q)) o)) there
      ∙ by (fm.get (table_at s c.table) q) refl ∙ sym within
    where
      one : SoundChild s.schema g.def.tree i c
      one = sound_child s.schema g.def.tree i c sound there

      within : is_some (fm.get (kept_at inside (suc i)) q) ≡ is_some (cond (passes (λ row. fm.contains_key (kept_at inside c.parent) (key_of one.foreign.columns row)) (fm.get (table_at s c.table) q)) (fm.get (table_at s c.table) q) None)
      within =
          let early : c.parent ≤ i = one.earlier in
          let here : suc i ≡ length (roots ∷ []) + i = omega arith in
          ap (λ n. is_some (fm.get (kept_at inside n) q)) here
          ∙ ap (λ (m : Table). is_some (fm.get m q)) (child_kept s g.def.tree.children (roots ∷ []) i c there (omega arith))
          ∙ ap is_some (get_child s (kept_at inside c.parent) c one.def one.foreign (child_plain g.def.tree i c plain there) one.defined one.key q)

      named : (row : Row) → option_map (λ (def : TableDef). key_of (foreign_places def.foreign_key) row) (slice_get s.schema c.table.0) ≡ Some (key_of one.foreign.columns row)
      named row = ap (option_map (λ (def : TableDef). key_of (foreign_places def.foreign_key) row)) one.defined ∙ ap (λ f. Some (key_of (foreign_places f) row)) one.key

      parent : place_of g.def.tree one.parent ≡ Some c.parent
      parent = place_there s.schema g.def.tree c.parent one.parent sound one.there

      some_at : (b : Bool) (row : Row) → is_some (cond b (Some row) None) ≡ b
      some_at true row = refl
      some_at false row = refl

      by : (o : Option Row) → fm.get (table_at s c.table) q ≡ o → passes test (option_and_then (root_within n s g.def.tree c.parent) (parent_key s c q)) ≡ is_some (cond (passes (λ row. fm.contains_key (kept_at inside c.parent) (key_of one.foreign.columns row)) (fm.get (table_at s c.table) q)) (fm.get (table_at s c.table) q) None)
      by None e =
          ap (λ (o : Option Row). passes test (option_and_then (root_within n s g.def.tree c.parent) (option_and_then (λ row. option_map (λ (def : TableDef). key_of (foreign_places def.foreign_key) row) (slice_get s.schema c.table.0)) o))) e
          ∙ sym (ap (λ (o : Option Row). is_some (cond (passes (λ row. fm.contains_key (kept_at inside c.parent) (key_of one.foreign.columns row)) o) o None)) e)
      by (Some row) e =
          ap (λ (o : Option Row). passes test (option_and_then (root_within n s g.def.tree c.parent) (option_and_then (λ r. option_map (λ (def : TableDef). key_of (foreign_places def.foreign_key) r) (slice_get s.schema c.table.0)) o))) e
          ∙ ap (λ o. passes test (option_and_then (root_within n s g.def.tree c.parent) o)) (named row)
          ∙ rest one.parent (key_of one.foreign.columns row) parent
          ∙ sym (ap (λ (o : Option Row). is_some (cond (passes (λ r. fm.contains_key (kept_at inside c.parent) (key_of one.foreign.columns r)) o) o None)) e
          ∙ some_at (fm.contains_key (kept_at inside c.parent) (key_of one.foreign.columns row)) row)

  reached : (n p : ℕ) (u : TableId) (q : Row) → p ≤ n → place_of g.def.tree u ≡ Some p → passes test (root_within n s g.def.tree p q) ≡ is_some (fm.get (kept_at inside p) q)
  reached zero p u q le e = by (in_tree_at g.def.tree u p e)
    where
      by : InTree g.def.tree u p → passes test (root_within zero s g.def.tree p q) ≡ is_some (fm.get (kept_at inside p) q)
      by (AtRoot z here) = subst (λ m. passes test (root_within zero s g.def.tree m q) ≡ is_some (fm.get (kept_at inside m) q)) (sym z) (root_at zero q)
      by (AtChild i c z there here) = absurd (omega (arith, le, z))
  reached (suc n) p u q le e = by (in_tree_at g.def.tree u p e) (λ m t r less at. reached n m t r less at)
    where
      by : InTree g.def.tree u p → ((m : ℕ) (t : TableId) (r : Row) → m ≤ n → place_of g.def.tree t ≡ Some m → passes test (root_within n s g.def.tree m r) ≡ is_some (fm.get (kept_at inside m) r))
          → passes test (root_within (suc n) s g.def.tree p q) ≡ is_some (fm.get (kept_at inside p) q)
      by (AtRoot z here) rest = subst (λ m. passes test (root_within (suc n) s g.def.tree m q) ≡ is_some (fm.get (kept_at inside m) q)) (sym z) (root_at (suc n) q)
      by (AtChild i c z there here) rest =
          let early = (sound_child s.schema g.def.tree i c sound there).earlier in
          subst (λ m. passes test (root_within (suc n) s g.def.tree m q) ≡ is_some (fm.get (kept_at inside m) q)) (sym z)
          (child_at n i c q there (λ t r at. rest c.parent t r (omega (arith, le, z, early)) at))

  few : (u : TableId) (p : ℕ) → place_of g.def.tree u ≡ Some p → p ≤ length g.def.tree.children
  few u p e = by (in_tree_at g.def.tree u p e)
    where
      by : InTree g.def.tree u p → p ≤ length g.def.tree.children
      by (AtRoot z here) = omega (arith, z)
      by (AtChild i c z there here) = let lt = (read g.def.tree.children i c c there).0 in omega (arith, z, lt)

  -- the key's row is in one of the instances
  pub within_is : (key : RowKey) → is_within s g.def.tree test key ≡ is_among (instance_rows s g test) key
  within_is key = by (place_of g.def.tree key.table) refl
    where
      -- a row of the instances that has the key
      its : is_among (instance_rows s g test) key ≡ true → (p : ℕ) × (place_of g.def.tree key.table ≡ Some p) × (is_some (fm.get (kept_at inside p) key.key) ≡ true)
      its h =
          let r = listed (same_row_key key) (tree_tables g.def.tree) inside h in
          let (table, same) = both_true (nat_eq key.table.0 r.table.0) (is_same key.key r.key) r.passes in
          let t : key.table ≡ r.table = same_id key.table r.table (eqb-true key.table.0 r.table.0 table) in (
            r.place,
            ap (place_of g.def.tree) t ∙ place_there s.schema g.def.tree r.place r.table sound (sym (table_listed g.def.tree r.place) ∙ r.there),
            ap (λ k. is_some (fm.get (kept_at inside r.place) k)) (same_values key.key r.key same) ∙ ap is_some r.found,
          )

      none : place_of g.def.tree key.table ≡ None → (b : Bool) → is_among (instance_rows s g test) key ≡ b → b ≡ false
      none e true h = let r = its h in let wrong : None ≡ Some r.0 = sym e ∙ r.1 in cc
      none e false h = refl

      has_row : (p : ℕ) (t : TableId) → slice_get (tree_tables g.def.tree) p ≡ Some t → key.table ≡ t → (o : Option Row) → fm.get (kept_at inside p) key.key ≡ o → is_some o ≡ true → is_among (instance_rows s g test) key ≡ true
      has_row p t there same None e h = cc
      has_row p t there same (Some row) e h = any_in_children (same_row_key key) (tree_tables g.def.tree) inside p t key.key row there e
          (λ i. eq-eqb key.table.0 t.0 (ap (λ (z : TableId). z.0) same) i && same_itself key.key key.key refl i)

      by : (o : Option ℕ) → place_of g.def.tree key.table ≡ o → passes test (option_and_then (λ place. root_within (length g.def.tree.children) s g.def.tree place key.key) (place_of g.def.tree key.table)) ≡ is_among (instance_rows s g test) key
      by None e = ap (λ o. passes test (option_and_then (λ place. root_within (length g.def.tree.children) s g.def.tree place key.key) o)) e ∙ sym (none e (is_among (instance_rows s g test) key) refl)
      by (Some p) e =
          ap (λ o. passes test (option_and_then (λ place. root_within (length g.def.tree.children) s g.def.tree place key.key) o)) e
          ∙ reached (length g.def.tree.children) p key.table key.key (few key.table p e) e
          ∙ same_answer (is_some (fm.get (kept_at inside p) key.key)) (is_among (instance_rows s g test) key)
          (λ h. (let a = at_place g.def.tree key.table p e in
          has_row p a.table (table_listed g.def.tree p ∙ a.is) (sym (same_id a.table key.table a.same)) (fm.get (kept_at inside p) key.key) refl h))
          (λ h. (let r = its h in
          let both : Some r.0 ≡ Some p = sym r.1 ∙ e in
          let same : r.0 ≡ p = cc in
          ap (λ m. is_some (fm.get (kept_at inside m) key.key)) (sym same) ∙ r.2))

  -- operations hold the key of a row of the instances
  pub touches_is : (ops : List Op) → touches s g.def.tree test ops ≡ list_any (λ z. is_in (footprint_of s.schema ops) z) (instance_rows s g test)
  touches_is ops =
      let fp = footprint_of s.schema ops in
      let rows = instance_rows s g test in
      (λ i. among fp.written i || among fp.referred i) ∙ sym (any_or (is_among fp.written) (is_among fp.referred) rows)
    where
      among : (keys : List RowKey) → list_any (is_within s g.def.tree test) keys ≡ list_any (is_among keys) (instance_rows s g test)
      among keys = any_same (is_within s g.def.tree test) (is_among (instance_rows s g test)) keys within_is ∙ swap (instance_rows s g test) keys
