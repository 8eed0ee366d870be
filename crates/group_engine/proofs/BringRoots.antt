-- The root that a wanted row is reached from, over the tables of a snapshot, and the row that a group gains of it.
use Rattle.std.proofs.Common.{◌≡◌, ℕ, zero, suc, Bool, true, false, not, cond, ◌&&◌, ◌||◌, Option, Some, None, is_some, List, [], ◌∷◌, length, map, filter, nat_eq, slice_get, unwrap_or, Result, Ok, Err, IfOk, refl, sym, ap, subst, ◌∙◌, arith}
use Rattle.std.specs.FinMap as fm
use Rattle.std.specs.Option.{option_and_then, option_map, option_or}
use Rattle.tier_base.specs.declared.number.TableId.{TableId}
use Rattle.row_types.specs.Order.{key_order}
use Rattle.row_types.specs.declared.value.Value.{Value}
use Rattle.row_types.proofs.OrderLaws.{key_total}
use Rattle.indexed_rows.specs.Rows.{Table, is_same, key_of, put_in}
use Rattle.indexed_rows.proofs.EntryLaws.{same_values}
use Rattle.table_defs.specs.Declarations.{foreign_places}
use Rattle.table_defs.specs.declared.definition.TableDef.{TableDef}
use Rattle.table_state.specs.Copies.{is_one_of}
use Rattle.table_state.specs.Tables.{TableState, table_at}
use Rattle.instances.specs.declared.tree.Child.{Child}
use Rattle.instances.specs.declared.tree.Tree.{Tree}
use Rattle.instances.specs.Roots.{parent_key, root_of, root_within}
use Rattle.instances.specs.Trees.{place_of}
use Rattle.instances.specs.Views.{passes, root_rows, rows_where, selects}
use Rattle.instances.proofs.Gathering.{get_where}
use Rattle.cache_store.proofs.JoinLaws.{get_put_in}
use Rattle.group_catalog.specs.Catalogs.{groups_in}
use Rattle.group_store.specs.Stores.{HasRootKeys, Kept}
use Rattle.slot_rows.specs.SlotKeys.{RowsHeld}
use Rattle.cache_tier.specs.Commits.{tables_of}
use Rattle.cache_tier.specs.DynamicLoads.{found_root}
use Rattle.cache_tier.specs.Groups.{Group, is_key}
use Rattle.cache_tier.specs.Sets.{is_in_view}
use Rattle.cache_tier.specs.Shown.{exceeds, instance_key}
use Rattle.cache_tier.specs.Wants.{Want}
use Rattle.cache_tier.proofs.ShownTrees.{front_kept}
use Rattle.stored_tier.specs.Filling.{is_held}
use Rattle.stored_tier.specs.declared.tier.Tier.{Tier as Stored}
use Rattle.stored_tier.proofs.GatherLaws.{table_none}
use Rattle.group_engine.proofs.GainingLaws.{one_there}
use Rattle.group_engine.specs.Bringing.{FindsRoot, found_in, found_row, found_under}
use Rattle.group_engine.specs.Gaining.{is_past_row}
use Rattle.group_engine.proofs.FillLaws.{first_one}

abbrev Row : Type 0
Row = List Value

-- the root over a copy of the tables of a tree

or_true : (b : Bool) → (b || true) ≡ true
or_true true = refl
or_true false = refl

child_there : (children : List Child) (place : ℕ) (c : Child) → slice_get children place ≡ Some c → is_one_of (map (λ (x : Child). x.table) children) c.table ≡ true
child_there [] place c at = Prim.cc
child_there (x ∷ children) zero c at =
    let same : x ≡ c = Prim.cc in
    ap (λ (y : Child). is_one_of (y.table ∷ map (λ (z : Child). z.table) children) c.table) same ∙ first_one c.table (map (λ (z : Child). z.table) children)
child_there (x ∷ children) (suc place) c at = later x.table (child_there children place c at)
  where
    later : (u : TableId) → is_one_of (map (λ (y : Child). y.table) children) c.table ≡ true → is_one_of (u ∷ map (λ (y : Child). y.table) children) c.table ≡ true
    later u e = ap (λ b. nat_eq u.0 c.table.0 || b) e ∙ or_true (nat_eq u.0 c.table.0)

module _ (s copy : TableState) (schema : copy.schema ≡ s.schema) (tree : Tree) (rows : (u : TableId) → is_one_of (tables_of tree) u ≡ true → table_at copy u ≡ table_at s u) where
  root_rows_copied : table_at copy tree.root.table ≡ table_at s tree.root.table
  root_rows_copied = rows tree.root.table (first_one tree.root.table (map (λ (c : Child). c.table) tree.children))

  child_rows_copied : (place : ℕ) (c : Child) → slice_get tree.children place ≡ Some c → table_at copy c.table ≡ table_at s c.table
  child_rows_copied place c at = rows c.table
      (ap (λ b. nat_eq tree.root.table.0 c.table.0 || b) (child_there tree.children place c at) ∙ or_true (nat_eq tree.root.table.0 c.table.0))

  parent_copied : (c : Child) → table_at copy c.table ≡ table_at s c.table → (key : Row) → parent_key copy c key ≡ parent_key s c key
  parent_copied c same key = λ i. option_and_then (λ row. option_map (λ (def : TableDef). key_of (foreign_places def.foreign_key) row) (slice_get (schema i) c.table.0)) (fm.get (same i) key)

  within_copied : (n place : ℕ) (key : Row) → root_within n copy tree place key ≡ root_within n s tree place key
  within_copied n zero key = at_root n
    where
      at_root : (m : ℕ) → root_within m copy tree zero key ≡ root_within m s tree zero key
      at_root zero = ap (λ (m : Table). cond (fm.contains_key m key) (Some key) None) root_rows_copied
      at_root (suc m) = ap (λ (m : Table). cond (fm.contains_key m key) (Some key) None) root_rows_copied
  within_copied zero (suc place) key = refl
  within_copied (suc n) (suc place) key = by (λ p q. within_copied n p q) (slice_get tree.children place) refl
    where
      above : ((p : ℕ) (q : Row) → root_within n copy tree p q ≡ root_within n s tree p q) → (o : Option Row) (parent : ℕ) → option_and_then (root_within n copy tree parent) o ≡ option_and_then (root_within n s tree parent) o
      above rest None parent = refl
      above rest (Some q) parent = rest parent q

      by : ((p : ℕ) (q : Row) → root_within n copy tree p q ≡ root_within n s tree p q) → (o : Option Child) → slice_get tree.children place ≡ o
          → option_and_then (λ (c : Child). option_and_then (root_within n copy tree c.parent) (parent_key copy c key)) (slice_get tree.children place)
          ≡ option_and_then (λ (c : Child). option_and_then (root_within n s tree c.parent) (parent_key s c key)) (slice_get tree.children place)
      by rest None at =
          ap (option_and_then (λ (c : Child). option_and_then (root_within n copy tree c.parent) (parent_key copy c key))) at
          ∙ sym (ap (option_and_then (λ (c : Child). option_and_then (root_within n s tree c.parent) (parent_key s c key))) at)
      by rest (Some c) at =
          ap (option_and_then (λ (c : Child). option_and_then (root_within n copy tree c.parent) (parent_key copy c key))) at
          ∙ ap (option_and_then (root_within n copy tree c.parent)) (parent_copied c (child_rows_copied place c at) key)
          ∙ above rest (parent_key s c key) c.parent
          ∙ sym (ap (option_and_then (λ (c : Child). option_and_then (root_within n s tree c.parent) (parent_key s c key))) at)

  pub root_copied : (u : TableId) (key : Row) → root_of copy tree u key ≡ root_of s tree u key
  root_copied u key = by (place_of tree u)
    where
      by : (o : Option ℕ) → option_and_then (λ place. root_within (length tree.children) copy tree place key) o ≡ option_and_then (λ place. root_within (length tree.children) s tree place key) o
      by None = refl
      by (Some place) = within_copied (length tree.children) place key

-- one row

abbrev lone : Row → Row → Bool → Table
lone k row there = cond there fm.empty (fm.insert fm.empty k row)

lone_entries : (k row : Row) → fm.entries (put_in fm.empty k row) ≡ (k, row) ∷ []
lone_entries k row =
    ap (λ (b : Bool). fm.entries (lone k row b)) (ap is_some (fm.get-empty {X = Row} key_order k))
    ∙ fm.entries-insert key_total (fm.empty {X = Row} {R = key_order}) k row
    ∙ ap (fm.put key_order k row) (none (fm.entries (fm.empty {X = Row} {R = key_order})) (sym (fm.len-entries fm.empty) ∙ fm.len-empty key_order Row))
  where
    none : (l : List (Row × Row)) → length l ≡ 0 → l ≡ []
    none [] e = refl
    none (x ∷ l) e = absurd (Prim.omega (arith, e))

lone_key : (k row : Row) → fm.keys (put_in fm.empty k row) ≡ k ∷ []
lone_key k row = ap (λ (es : List (Row × Row)). map (λ e. e.0) es) (lone_entries k row)

no_key : fm.keys (fm.empty {X = Row} {R = key_order}) ≡ []
no_key = ap (λ (es : List (Row × Row)). map (λ e. e.0) es) (none (fm.entries (fm.empty {X = Row} {R = key_order})) (sym (fm.len-entries fm.empty) ∙ fm.len-empty key_order Row))
  where
    none : (l : List (Row × Row)) → length l ≡ 0 → l ≡ []
    none [] e = refl
    none (x ∷ l) e = absurd (Prim.omega (arith, e))

-- no row is found in no rows
none_of_empty : (q row : Row) → fm.get (fm.empty {X = Row} {R = key_order}) q ≡ Some row → ⊥
none_of_empty q row e = let wrong : None ≡ Some row = sym (fm.get-empty key_order q) ∙ e in Prim.cc

-- the row is one of the table
pub found_from : (g : Group) (s : Kept) (hidden : Table) (want : Want) (S : TableState) (q row : Row) → fm.get (found_in g s hidden want S) q ≡ Some row → fm.get (table_at S g.def.tree.root.table) q ≡ Some row
found_from g s hidden want S q row e = under (root_of S g.def.tree want.table want.key) e
  where
    lone : (k r : Row) → fm.get (table_at S g.def.tree.root.table) k ≡ Some r → (b : Bool) → is_same q k ≡ b → option_or (fm.get (fm.empty {X = Row} {R = key_order}) q) (cond b (Some r) None) ≡ Some row → fm.get (table_at S g.def.tree.root.table) q ≡ Some row
    lone k r at true same found =
        let is : Some r ≡ Some row = sym (ap (λ o. option_or o (Some r)) (fm.get-empty key_order q)) ∙ found in
        ap (fm.get (table_at S g.def.tree.root.table)) (same_values q k same) ∙ at ∙ is
    lone k r at false same found = let wrong : None ≡ Some row = sym (ap (λ (o : Option Row). option_or o None) (fm.get-empty key_order q)) ∙ found in Prim.cc

    of : (k r : Row) → fm.get (table_at S g.def.tree.root.table) k ≡ Some r → (b : Bool) → fm.get (cond b (put_in fm.empty k r) fm.empty) q ≡ Some row → fm.get (table_at S g.def.tree.root.table) q ≡ Some row
    of k r at true found = lone k r at (is_same q k) refl (sym (get_put_in fm.empty k r q) ∙ found)
    of k r at false found = absurd (none_of_empty q row found)

    row_of : (k : Row) (o : Option Row) → fm.get (table_at S g.def.tree.root.table) k ≡ o → fm.get (found_row g s hidden k o) q ≡ Some row → fm.get (table_at S g.def.tree.root.table) q ≡ Some row
    row_of k None at found = absurd (none_of_empty q row found)
    row_of k (Some r) at found = of k r at (is_past_row g r && not (is_held s hidden k)) found

    under : (o : Option Row) → fm.get (found_under g s hidden S o) q ≡ Some row → fm.get (table_at S g.def.tree.root.table) q ≡ Some row
    under None found = absurd (none_of_empty q row found)
    under (Some k) found = row_of k (fm.get (table_at S g.def.tree.root.table) k) refl found

-- the root that is found, by cases

abbrev of_root : TableState → Group → Option Row → List Row
of_root s g None = []
of_root s g (Some key) = cond (is_in_view s g key) (key ∷ []) []

pub is_found : (s : TableState) (g : Group) (want : Want) → found_root s g want ≡ of_root s g (instance_key s g want.table want.key)
is_found s g want = by (instance_key s g want.table want.key) refl
  where
    by : (o : Option Row) → instance_key s g want.table want.key ≡ o → found_root s g want ≡ of_root s g (instance_key s g want.table want.key)
    by None e = Prim.cc
    by (Some key) e = Prim.cc

-- it is in the view
pub found_past : (s : TableState) (g : Group) (want : Want) (q : Row) → is_key (found_root s g want) q ≡ true → is_in_view s g q ≡ true
found_past s g want q e = by (instance_key s g want.table want.key) (sym (ap (λ l. is_key l q) (is_found s g want)) ∙ e)
  where
    one : (k : Row) (b : Bool) → is_same q k ≡ b → (b || false) ≡ true → q ≡ k
    one k true same f = same_values q k same
    one k false same f = Prim.cc

    of : (k : Row) (b : Bool) → is_in_view s g k ≡ b → is_key (cond b (k ∷ []) []) q ≡ true → is_in_view s g q ≡ true
    of k true viewed f = ap (is_in_view s g) (one k (is_same q k) refl f) ∙ viewed
    of k false viewed f = Prim.cc

    by : (o : Option Row) → is_key (of_root s g o) q ≡ true → is_in_view s g q ≡ true
    by None f = Prim.cc
    by (Some k) f = of k (is_in_view s g k) refl f

-- the STATE, the keys and the position play no part
pub found_same : (s : TableState) (g h : Group) (want : Want) → h.def ≡ g.def → h.horizon ≡ g.horizon → found_root s h want ≡ found_root s g want
found_same s g h want def horizon =
    is_found s h want
    ∙ (λ i. of_root s (record g { def = def i; horizon = horizon i }) (instance_key s (record g { def = def i }) want.table want.key))
    ∙ sym (is_found s g want)

-- the keys that the group gains are those of the root that is found, and that it doesn't have
module _ (S : TableState) (g : Group) (s : Kept) (hidden : Table) (held : (q : Row) → is_key g.keys q ≡ is_held s hidden q) (want : Want) where
  abbrev T : Table
  T = table_at S g.def.tree.root.table

  abbrev R : Table
  R = root_rows S g.def.tree.root

  viewed : (q : Row) → is_in_view S g q ≡ passes (is_past_row g) (fm.get T q)
  viewed q =
      ap (λ (m : Table). fm.contains_key m q) (front_kept S g.def.tree.children (rows_where (exceeds g) R ∷ []) 0 (Prim.omega arith))
      ∙ ap is_some (get_where (exceeds g) R q)
      ∙ ap (λ (o : Option Row). is_some (cond (passes (exceeds g) o) o None)) (get_where (selects g.def.tree.root.filter) T q)
      ∙ by (fm.get T q)
    where
      of : (a b : Bool) (row : Row) → is_some (cond (passes (λ r. b) (cond a (Some row) None)) (cond a (Some row) None) None) ≡ (a && b)
      of true true row = refl
      of true false row = refl
      of false b row = refl

      picks : (a : Bool) (row : Row) → is_some (cond (passes (exceeds g) (cond a (Some row) None)) (cond a (Some row) None) None) ≡ (a && exceeds g row)
      picks true row = of true (exceeds g row) row
      picks false row = refl

      by : (o : Option Row) → is_some (cond (passes (exceeds g) (cond (passes (selects g.def.tree.root.filter) o) o None)) (cond (passes (selects g.def.tree.root.filter) o) o None) None) ≡ passes (is_past_row g) o
      by None = refl
      by (Some row) = picks (selects g.def.tree.root.filter row) row

  pub found_keys : fm.keys (found_in g s hidden want S) ≡ filter (λ q. not (is_key g.keys q)) (found_root S g want)
  found_keys = under (root_of S g.def.tree want.table want.key) ∙ sym (ap (filter (λ q. not (is_key g.keys q))) (is_found S g want))
    where
      of : (k row : Row) (a h : Bool) → is_key g.keys k ≡ h → fm.keys (cond (a && not h) (put_in fm.empty k row) fm.empty) ≡ filter (λ q. not (is_key g.keys q)) (cond a (k ∷ []) [])
      of k row true true e = no_key ∙ sym (ap (λ b. cond (not b) (k ∷ []) []) e)
      of k row true false e = lone_key k row ∙ sym (ap (λ b. cond (not b) (k ∷ []) []) e)
      of k row false h e = no_key

      row_of : (k : Row) (o : Option Row) → fm.keys (found_row g s hidden k o) ≡ filter (λ q. not (is_key g.keys q)) (cond (passes (is_past_row g) o) (k ∷ []) [])
      row_of k None = no_key
      row_of k (Some row) = of k row (is_past_row g row) (is_held s hidden k) (held k)

      under : (o : Option Row) → fm.keys (found_under g s hidden S o) ≡ filter (λ q. not (is_key g.keys q)) (of_root S g o)
      under None = no_key
      under (Some k) = row_of k (fm.get T k) ∙ sym (ap (λ b. filter (λ q. not (is_key g.keys q)) (cond b (k ∷ []) [])) (viewed k))

-- no row of no table
pub none_found : (g : Group) (s : Kept) (hidden : Table) (key : Row) (ts : List Table) (i : ℕ) → None ≡ slice_get ts i → found_row g s hidden key (fm.get (unwrap_or (slice_get ts i) fm.empty) key) ≡ fm.empty
none_found g s hidden key ts i e = ap (found_row g s hidden key) (ap (λ (m : Table). fm.get m key) (table_none ts i e) ∙ fm.get-empty key_order key)

-- what is at the place
pub finds_so : (t : Stored) (place : ℕ) (want : Want) (state : TableState) {E : Type 0} (result : Result Table E) (g : Group) (s : Kept) (h : RowsHeld) → Some g ≡ slice_get (groups_in t.catalog) place → Some s ≡ slice_get t.stores.items place → Some h ≡ slice_get t.hidden.items place
    → HasRootKeys s → IfOk result (λ rows. rows ≡ found_in g s h.table want state) → IfOk result (FindsRoot t place want state)
finds_so t place want state (Err e) g s h there kept held roots is = is
finds_so t place want state (Ok rows) g s h there kept held roots is = λ g' s' h' at.
    let one = one_there t place g s h there kept held in
    let group = one.group g' s' h' at in
    let store = one.store g' s' h' at in
    let hidden = one.hidden g' s' h' at in
    (subst HasRootKeys store roots, is ∙ (λ i. found_in (group i) (store i) (hidden i).table want state))

pub ok_so : {V E : Type 0} (result : Result V E) (P Q : V → Type 0) → ((x : V) → P x → Q x) → IfOk result P → IfOk result Q
ok_so (Err e) P Q so is = is
ok_so (Ok x) P Q so is = so x is
