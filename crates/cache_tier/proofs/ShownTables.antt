-- What is shown, table by table: of the tables of writethrough groups a part of the virtual state.
use Rattle.std.proofs.Common.{◌≡◌, ℕ, zero, suc, ◌+◌, ◌≤◌, Bool, true, false, cond, ◌&&◌, Option, Some, None, is_some, List, [], ◌∷◌, ◌++◌, length, slice_get, unwrap_or, refl, sym, ap, ◌∙◌, arith}
use Rattle.std.specs.Option.{is_none, option_and_then, option_map}
use Rattle.std.specs.List.{find, list_all}
use Rattle.std.specs.FinMap as fm
use Rattle.std.specs.FinMap.{empty}
use Rattle.row_types.proofs.OrderLaws.{key_total, key_exact}
use Rattle.tier_base.specs.declared.number.TableId.{TableId}
use Rattle.table_defs.specs.declared.definition.ForeignKey.{ForeignKey}
use Rattle.table_defs.specs.declared.definition.TableDef.{TableDef}
use Rattle.indexed_rows.specs.Rows.{Table, key_of}
use Rattle.table_state.specs.declared.history.Entry.{Entry}
use Rattle.table_state.specs.Copies.{is_one_of}
use Rattle.table_state.specs.Independence.{IsWhole}
use Rattle.table_state.specs.Tables.{TableState, table_at}
use Rattle.instances.specs.declared.tree.Child.{Child}
use Rattle.instances.specs.declared.tree.Tree.{Tree}
use Rattle.instances.specs.Trees.{are_sound, is_sound, place_of, table_of}
use Rattle.instances.specs.Views.{child_rows, kept_at, passes, root_rows, rows_where, selects}
use Rattle.instances.proofs.Gathering.{get_where}
use Rattle.order_laws.specs.Commits.{virtual_state}
use Rattle.order_laws.specs.Effects.{row_at}
use Rattle.order_laws.specs.Standing.{live_tables}
use Rattle.order_laws.proofs.TableLaws.{get_same}
use Rattle.order_laws.proofs.TruthLaws.{both_true, same_some}
use Rattle.cache_tier.specs.Groups.{Group, covers, is_key, is_writethrough}
use Rattle.cache_tier.specs.Shown.{root_key, shown, shown_in, shown_state, shown_table, shown_where, shows_root, table_of_group, tables_from}
use Rattle.cache_tier.specs.TierStates.{Tier}
use Rattle.cache_tier.specs.StandingBetween.{HasCatalog, IsCatalogued, foreign_key_in, has_no_where, live_groups_of}
use Rattle.cache_tier.proofs.GroupTables.{LiveTable, each_found, live_at, live_table, over_is_found, read_only_not, same_found, through_live}
use Rattle.cache_tier.proofs.PartLaws.{IsClosedPart, Row}
use Rattle.cache_tier.proofs.ShownTrees.{SoundChild, at_place, child_kept, front_kept, get_child, place_there, sound_child}
use Rattle.cache_tier.proofs.SoundStates.{IsSoundState}

from_at : (rows : TableId → Table) (place : ℕ) (defs : List TableDef) (i : ℕ) → is_some (slice_get defs i) ≡ true → slice_get (tables_from rows place defs) i ≡ Some (rows (record { 0 = place + i }))
from_at rows place [] i e = Prim.cc
from_at rows place (def ∷ defs) zero e = let here : place ≡ place + 0 = Prim.omega arith in ap (λ n. Some (rows (record { 0 = n }))) here
from_at rows place (def ∷ defs) (suc i) e = let here : suc place + i ≡ place + suc i = Prim.omega arith in from_at rows (suc place) defs i e ∙ ap (λ n. Some (rows (record { 0 = n }))) here

from_past : (rows : TableId → Table) (place : ℕ) (defs : List TableDef) (i : ℕ) → slice_get defs i ≡ None → slice_get (tables_from rows place defs) i ≡ None
from_past rows place [] i e = refl
from_past rows place (def ∷ defs) zero e = Prim.cc
from_past rows place (def ∷ defs) (suc i) e = from_past rows (suc place) defs i e

pub from_length : (rows : TableId → Table) (place : ℕ) (defs : List TableDef) → length (tables_from rows place defs) ≡ length defs
from_length rows place [] = refl
from_length rows place (def ∷ defs) = ap suc (from_length rows (suc place) defs)

pub shown_whole : (h : List Entry) (t : Tier) → IsWhole (shown_state h t)
shown_whole h t = from_length (shown_table h t) 0 t.schema

pub table_shown : (h : List Entry) (t : Tier) (table : TableId) → is_some (slice_get t.schema table.0) ≡ true → table_at (shown_state h t) table ≡ shown_table h t table
table_shown h t table e =
    let here : 0 + table.0 ≡ table.0 = Prim.omega arith in
    ap (λ o. unwrap_or o empty) (from_at (shown_table h t) 0 t.schema table.0 e ∙ ap (λ n. Some (shown_table h t (record { 0 = n }))) here)

pub no_table_shown : (h : List Entry) (t : Tier) (table : TableId) → slice_get t.schema table.0 ≡ None → table_at (shown_state h t) table ≡ empty
no_table_shown h t table e = ap (λ o. unwrap_or o empty) (from_past (shown_table h t) 0 t.schema table.0 e)

-- two states with one schema and the same tables
same_lists : (xs ys : List Table) → length xs ≡ length ys → ((i : ℕ) → unwrap_or (slice_get xs i) empty ≡ unwrap_or (slice_get ys i) empty) → xs ≡ ys
same_lists [] [] len same = refl
same_lists [] (y ∷ ys) len same = absurd (Prim.omega (arith, len))
same_lists (x ∷ xs) [] len same = absurd (Prim.omega (arith, len))
same_lists (x ∷ xs) (y ∷ ys) len same =
    let rest : xs ≡ ys = same_lists xs ys (Prim.omega (arith, len)) (λ i. same (suc i)) in
    let first : x ≡ y = same 0 in
    λ i. first i ∷ rest i

pub same_state : (a b : TableState) → a.schema ≡ b.schema → length a.tables ≡ length b.tables → ((t : TableId) → table_at a t ≡ table_at b t) → a ≡ b
same_state a b schema len same =
    let tables : a.tables ≡ b.tables = same_lists a.tables b.tables len (λ i. same (record { 0 = i })) in
    λ i. record { schema = schema i; tables = tables i }

pub same_rows : (a b : TableState) (t : TableId) → ((k : Row) → row_at a t k ≡ row_at b t k) → table_at a t ≡ table_at b t
same_rows a b t same = fm.same_map key_total key_exact (table_at a t) (table_at b t) same

-- trees without WHERE

none_is : {X : Type 0} (o : Option X) → is_none o ≡ true → o ≡ None
none_is None e = refl
none_is (Some x) e = Prim.cc

pub root_plain : (tree : Tree) → has_no_where tree ≡ true → tree.root.filter ≡ None
root_plain tree e = none_is tree.root.filter (both_true (is_none tree.root.filter) (list_all (λ (child : Child). is_none child.filter) tree.children) e).0

all_plain : (children : List Child) (i : ℕ) (c : Child) → list_all (λ (child : Child). is_none child.filter) children ≡ true → slice_get children i ≡ Some c → c.filter ≡ None
all_plain [] i c e at = Prim.cc
all_plain (d ∷ children) zero c e at =
    let same : d ≡ c = Prim.cc in
    ap (λ (x : Child). x.filter) (sym same) ∙ none_is d.filter (both_true (is_none d.filter) (list_all (λ (child : Child). is_none child.filter) children) e).0
all_plain (d ∷ children) (suc i) c e at = all_plain children i c (both_true (is_none d.filter) (list_all (λ (child : Child). is_none child.filter) children) e).1 at

pub child_plain : (tree : Tree) (i : ℕ) (c : Child) → has_no_where tree ≡ true → slice_get tree.children i ≡ Some c → c.filter ≡ None
child_plain tree i c e at = all_plain tree.children i c (both_true (is_none tree.root.filter) (list_all (λ (child : Child). is_none child.filter) tree.children) e).1 at

pub defined_in : (schema : List TableDef) (tree : Tree) (p : ℕ) (u : TableId) → is_sound schema tree ≡ true → table_of tree p ≡ Some u → is_some (slice_get schema u.0) ≡ true
defined_in schema tree zero u e is =
    let same : tree.root.table ≡ u = Prim.cc in
    ap (λ (x : TableId). is_some (slice_get schema x.0)) (sym same) ∙ (both_true (is_some (slice_get schema tree.root.table.0)) (are_sound schema tree 0 tree.children) e).0
defined_in schema tree (suc i) u e is = by (slice_get tree.children i) refl is
  where
    by : (o : Option Child) → slice_get tree.children i ≡ o → option_map (λ (c : Child). c.table) o ≡ Some u → is_some (slice_get schema u.0) ≡ true
    by None at h = Prim.cc
    by (Some c) at h =
        let same : c.table ≡ u = Prim.cc in
        ap (λ (x : TableId). is_some (slice_get schema x.0)) (sym same) ∙ ap is_some (sound_child schema tree i c e at).defined

pub some_def : (o : Option TableDef) → is_some o ≡ true → (d : TableDef) × (o ≡ Some d)
some_def None e = Prim.cc
some_def (Some d) e = (d, refl)

pub cond_some : (b : Bool) (o : Option Row) (row : Row) → cond b o None ≡ Some row → o ≡ Some row
cond_some true o row e = e
cond_some false o row e = Prim.cc

cond_none : (b : Bool) → cond b (let o : Option Row = None in o) None ≡ None
cond_none true = refl
cond_none false = refl

pub same_id : (t u : TableId) → t.0 ≡ u.0 → t ≡ u
same_id t u e = λ i. record { 0 = e i }

pub place_covers : (g : Group) (u : TableId) (p : ℕ) → place_of g.def.tree u ≡ Some p → covers u g ≡ true
place_covers g u p e = ap is_some e

-- a table of a tree is its root, or that of a child
pub data InTree (tree : Tree) (u : TableId) (p : ℕ) : Type 0 where
  AtRoot : p ≡ 0 → tree.root.table ≡ u → InTree tree u p
  AtChild : (i : ℕ) → (c : Child) → p ≡ suc i → slice_get tree.children i ≡ Some c → c.table ≡ u → InTree tree u p

pub in_tree_at : (tree : Tree) (u : TableId) (p : ℕ) → place_of tree u ≡ Some p → InTree tree u p
in_tree_at tree u p e = let a = at_place tree u p e in by p refl a.table a.is a.same
  where
    of : (i : ℕ) → p ≡ suc i → (w : TableId) → w.0 ≡ u.0 → (o : Option Child) → slice_get tree.children i ≡ o → option_map (λ (c : Child). c.table) o ≡ Some w → InTree tree u p
    of i q w same None at is = Prim.cc
    of i q w same (Some c) at is = let one : c.table ≡ w = Prim.cc in AtChild i c q at (one ∙ same_id w u same)

    by : (n : ℕ) → p ≡ n → (w : TableId) → table_of tree p ≡ Some w → w.0 ≡ u.0 → InTree tree u p
    by zero q w is same =
        let here : Some tree.root.table ≡ Some w = sym (ap (table_of tree) q) ∙ is in
        AtRoot q (same_some here ∙ same_id w u same)
    by (suc i) q w is same = of i q w same (slice_get tree.children i) refl (sym (ap (table_of tree) q) ∙ is)

-- the tables of a tier's writethrough groups
abbrev pub live_of : Tier → List TableId
live_of t = live_tables (live_groups_of t.groups)

-- What writethrough groups show of the virtual state.
module _ (h : List Entry) (t : Tier) (v : TableState) (v_is : virtual_state h t.log ≡ Some v) (cat : HasCatalog t) (more : List TableDef) (front : v.schema ≡ t.schema ++ more) (sound : IsSoundState v) where
  pub its_group : (u : TableId) (l : LiveTable t.groups u) → IsCatalogued t.schema l.group
  its_group u l = each_found (IsCatalogued t.schema) (covers u) t.groups l.group cat.each l.found

  pub live_one : (u : TableId) → is_one_of (live_of t) u ≡ true → LiveTable t.groups u
  live_one u e = live_at t.groups u cat.apart (sym (live_table t.groups u) ∙ e)

  pub one_live : (u : TableId) (g : Group) → find (covers u) t.groups ≡ Some g → is_writethrough g ≡ true → is_one_of (live_of t) u ≡ true
  one_live u g found through = live_table t.groups u ∙ through_live t.groups u g found through

  -- another table of the group
  abbrev pub beside : (u w : TableId) (l : LiveTable t.groups u) (p : ℕ) → place_of l.group.def.tree w ≡ Some p → LiveTable t.groups w
  beside u w l p e = record { group = l.group; found = same_found t.groups u w l.group cat.apart l.found (place_covers l.group w p e); through = l.through; place = p; at = e }

  pub defined_live : (u : TableId) (l : LiveTable t.groups u) → is_some (slice_get t.schema u.0) ≡ true
  defined_live u l =
      let a = at_place l.group.def.tree u l.place l.at in
      ap (λ n. is_some (slice_get t.schema n)) (sym a.same) ∙ defined_in t.schema l.group.def.tree l.place a.table (its_group u l).sound a.is

  pub same_def : (u : TableId) → LiveTable t.groups u → slice_get t.schema u.0 ≡ slice_get v.schema u.0
  same_def u l = sym (ap (λ s. slice_get s u.0) front ∙ get_same t.schema more u.0 (defined_live u l))

  pub row_shown : (u : TableId) (l : LiveTable t.groups u) (k : Row) → row_at (shown_state h t) u k ≡ fm.get (kept_at (shown_in v l.group) l.place) k
  row_shown u l k = ap (λ (m : Table). fm.get m k) (
      table_shown h t u (defined_live u l)
      ∙ ap (table_of_group h t.log u) (over_is_found t.groups u ∙ l.found)
      ∙ ap (λ o. kept_at (shown h t.log l.group) (unwrap_or o 0)) l.at
      ∙ ap (λ b. kept_at (shown_where (cond b (option_and_then (Rattle.table_state.specs.Histories.state_at h) l.group.position) (virtual_state h t.log)) l.group) l.place) (read_only_not l.group l.through)
      ∙ ap (λ o. kept_at (shown_where o l.group) l.place) v_is)

  -- the root rows of the keys
  pub get_root : (g : Group) → IsCatalogued t.schema g → is_writethrough g ≡ true → slice_get t.schema g.def.tree.root.table.0 ≡ slice_get v.schema g.def.tree.root.table.0 → (k : Row)
      → fm.get (kept_at (shown_in v g) 0) k ≡ cond (is_key g.keys k) (row_at v g.def.tree.root.table k) None
  get_root g c through same k =
      ap (λ (m : Table). fm.get m k) (front_kept v g.def.tree.children (rows_where (shows_root v g) (root_rows v g.def.tree.root) ∷ []) 0 (Prim.omega arith))
      ∙ get_where (shows_root v g) (root_rows v g.def.tree.root) k
      ∙ ap (λ (o : Option Row). cond (passes (shows_root v g) o) o None) all_roots
      ∙ by (row_at v g.def.tree.root.table k) refl
    where
      all_roots : fm.get (root_rows v g.def.tree.root) k ≡ row_at v g.def.tree.root.table k
      all_roots = get_where (selects g.def.tree.root.filter) (table_at v g.def.tree.root.table) k ∙ ap (λ f. cond (passes (selects f) (row_at v g.def.tree.root.table k)) (row_at v g.def.tree.root.table k) None) (root_plain g.def.tree (c.plain through)) ∙ of (row_at v g.def.tree.root.table k)
        where
          of : (o : Option Row) → cond (passes (selects None) o) o None ≡ o
          of None = refl
          of (Some r) = refl

      by : (o : Option Row) → row_at v g.def.tree.root.table k ≡ o → cond (passes (shows_root v g) o) o None ≡ cond (is_key g.keys k) o None
      by None e = sym (cond_none (is_key g.keys k))
      by (Some r) e =
          let (d, d_is) = some_def (slice_get v.schema g.def.tree.root.table.0) (ap is_some (sym same) ∙ (both_true (is_some (slice_get t.schema g.def.tree.root.table.0)) (are_sound t.schema g.def.tree 0 g.def.tree.children) c.sound).0) in
          let key : root_key v g r ≡ k = ap (λ o. Rattle.evaluator.specs.Cascades.key_in o r) d_is ∙ sound.keyed g.def.tree.root.table d d_is k r e in
          shows ∙ ap (λ q. cond (is_key g.keys q) (Some r) None) key
        where
          shows : cond (shows_root v g r) (Some r) None ≡ cond (is_key g.keys (root_key v g r)) (Some r) None
          shows = ap (λ b. cond (cond b (cond (Rattle.cache_tier.specs.Groups.is_explicit g) g.loaded (is_key g.keys (root_key v g r)) && Rattle.cache_tier.specs.Shown.exceeds g r) (is_key g.keys (root_key v g r))) (Some r) None) (read_only_not g through)

  -- the rows of a child's table
  pub kept_child : (g : Group) (i : ℕ) (c : Child) → is_sound t.schema g.def.tree ≡ true → slice_get g.def.tree.children i ≡ Some c → kept_at (shown_in v g) (suc i) ≡ child_rows v (kept_at (shown_in v g) c.parent) c
  kept_child g i c sound_tree at =
      let roots = rows_where (shows_root v g) (root_rows v g.def.tree.root) in
      let early : c.parent ≤ i = (sound_child t.schema g.def.tree i c sound_tree at).earlier in
      let here : suc i ≡ length (roots ∷ []) + i = Prim.omega arith in
      ap (kept_at (shown_in v g)) here ∙ child_kept v g.def.tree.children (roots ∷ []) i c at (Prim.omega arith)

  -- what they show is a part of it
  within_at : (u : TableId) (l : LiveTable t.groups u) → InTree l.group.def.tree u l.place → (k row : Row) → fm.get (kept_at (shown_in v l.group) l.place) k ≡ Some row → row_at v u k ≡ Some row
  within_at u l (AtRoot q here) k row e =
      ap (λ w. row_at v w k) (sym here)
      ∙ cond_some (is_key l.group.keys k) (row_at v l.group.def.tree.root.table k) row
      (sym (get_root l.group (its_group u l) l.through (ap (λ (w : TableId). slice_get t.schema w.0) here ∙ same_def u l ∙ sym (ap (λ (w : TableId). slice_get v.schema w.0) here)) k) ∙ sym (ap (λ n. fm.get (kept_at (shown_in v l.group) n) k) q) ∙ e)
  within_at u l (AtChild i c q at here) k row e =
      let g = l.group in
      let one = sound_child t.schema g.def.tree i c (its_group u l).sound at in
      let parents = kept_at (shown_in v g) c.parent in
      let d : slice_get v.schema c.table.0 ≡ Some one.def = ap (λ (w : TableId). slice_get v.schema w.0) here ∙ sym (same_def u l) ∙ ap (λ (w : TableId). slice_get t.schema w.0) (sym here) ∙ one.defined in
      ap (λ w. row_at v w k) (sym here)
      ∙ cond_some (passes (λ r. fm.contains_key parents (key_of one.foreign.columns r)) (row_at v c.table k)) (row_at v c.table k) row
      (sym (ap (λ (m : Table). fm.get m k) (kept_child g i c (its_group u l).sound at) ∙ get_child v parents c one.def one.foreign (child_plain g.def.tree i c ((its_group u l).plain l.through) at) d one.key k)
      ∙ sym (ap (λ n. fm.get (kept_at (shown_in v g) n) k) q) ∙ e)

  family_at : (u : TableId) (l : LiveTable t.groups u) → InTree l.group.def.tree u l.place → (def : TableDef) (f : ForeignKey) (k row : Row) → slice_get v.schema u.0 ≡ Some def → def.foreign_key ≡ Some f → row_at v u k ≡ Some row
      → is_some (fm.get (kept_at (shown_in v l.group) l.place) k) ≡ is_some (row_at (shown_state h t) f.parent (key_of f.columns row))
  family_at u l (AtRoot q here) def f k row d fk e =
      let own : slice_get t.schema l.group.def.tree.root.table.0 ≡ Some def = ap (λ (w : TableId). slice_get t.schema w.0) here ∙ same_def u l ∙ d in
      let none : foreign_key_in t.schema l.group.def.tree.root.table ≡ None = (its_group u l).free l.through in
      let wrong : None ≡ Some f = sym none ∙ ap (option_and_then (λ (x : TableDef). x.foreign_key)) own ∙ fk in Prim.cc
  family_at u l (AtChild i c q at here) def f k row d fk e =
      let g = l.group in
      let one = sound_child t.schema g.def.tree i c (its_group u l).sound at in
      let parents = kept_at (shown_in v g) c.parent in
      let in_v : slice_get v.schema c.table.0 ≡ Some one.def = ap (λ (w : TableId). slice_get v.schema w.0) here ∙ sym (same_def u l) ∙ ap (λ (w : TableId). slice_get t.schema w.0) (sym here) ∙ one.defined in
      let defs : one.def ≡ def = same_some (sym in_v ∙ ap (λ (w : TableId). slice_get v.schema w.0) here ∙ d) in
      let keys : one.foreign ≡ f = same_some (sym one.key ∙ ap (λ (x : TableDef). x.foreign_key) defs ∙ fk) in
      let at_parent : place_of g.def.tree f.parent ≡ Some c.parent = ap (place_of g.def.tree) (same_id f.parent one.parent (ap (λ (x : ForeignKey). x.parent.0) (sym keys) ∙ one.refers)) ∙ place_there t.schema g.def.tree c.parent one.parent (its_group u l).sound one.there in
      ap (λ n. is_some (fm.get (kept_at (shown_in v g) n) k)) q
      ∙ ap is_some (ap (λ (m : Table). fm.get m k) (kept_child g i c (its_group u l).sound at) ∙ get_child v parents c one.def one.foreign (child_plain g.def.tree i c ((its_group u l).plain l.through) at) in_v one.key k)
      ∙ ap (λ (o : Option Row). is_some (cond (passes (λ r. fm.contains_key parents (key_of one.foreign.columns r)) o) o None)) (ap (λ w. row_at v w k) here ∙ e)
      ∙ test (fm.contains_key parents (key_of one.foreign.columns row))
      ∙ ap (λ (x : ForeignKey). fm.contains_key parents (key_of x.columns row)) keys
      ∙ sym (ap is_some (row_shown f.parent (beside u f.parent l c.parent at_parent) (key_of f.columns row)))
    where
      test : (b : Bool) → is_some (cond b (Some row) (let o : Option Row = None in o)) ≡ b
      test true = refl
      test false = refl

  pub part_shown : IsClosedPart (live_of t) v (shown_state h t)
  part_shown = record {
    defined = λ u e. same_def u (live_one u e);
    within = λ u k row e is. let l = live_one u e in within_at u l (in_tree_at l.group.def.tree u l.place l.at) k row (sym (row_shown u l k) ∙ is);
    families = λ u def f k row e d fk is. let l = live_one u e in ap is_some (row_shown u l k) ∙ family_at u l (in_tree_at l.group.def.tree u l.place l.at) def f k row d fk is;
  }

  -- its roots are those of the keys
  pub root_shown : (g : Group) → find (covers g.def.tree.root.table) t.groups ≡ Some g → is_writethrough g ≡ true → (k : Row)
      → row_at (shown_state h t) g.def.tree.root.table k ≡ cond (is_key g.keys k) (row_at v g.def.tree.root.table k) None
  root_shown g found through k =
      let l : LiveTable t.groups g.def.tree.root.table = record { group = g; found = found; through = through; place = 0; at = Rattle.cache_tier.proofs.ShownTrees.root_place g.def.tree } in
      row_shown g.def.tree.root.table l k ∙ get_root g (its_group g.def.tree.root.table l) through (same_def g.def.tree.root.table l) k

  -- two parts with the same roots are the same
  module _ (a b : TableState) (part_a : IsClosedPart (live_of t) v a) (part_b : IsClosedPart (live_of t) v b) where
    same_if : (u : TableId) (k : Row) → is_one_of (live_of t) u ≡ true → is_some (row_at a u k) ≡ is_some (row_at b u k) → row_at a u k ≡ row_at b u k
    same_if u k on e = by (row_at a u k) refl (row_at b u k) refl e
      where
        by : (x : Option Row) → row_at a u k ≡ x → (y : Option Row) → row_at b u k ≡ y → is_some x ≡ is_some y → x ≡ y
        by None x None y e = refl
        by None x (Some q) y e = Prim.cc
        by (Some p) x None y e = Prim.cc
        by (Some p) x (Some q) y e = sym (part_a.within u k p on x) ∙ part_b.within u k q on y

    some_if : (u : TableId) (k : Row) → is_one_of (live_of t) u ≡ true → ((row : Row) → row_at v u k ≡ Some row → is_some (row_at a u k) ≡ is_some (row_at b u k)) → is_some (row_at a u k) ≡ is_some (row_at b u k)
    some_if u k on same = by (row_at v u k) refl
      where
        none : (s : TableState) → IsClosedPart (live_of t) v s → row_at v u k ≡ None → (o : Option Row) → row_at s u k ≡ o → is_some o ≡ false
        none s part e None is = refl
        none s part e (Some r) is = let wrong : None ≡ Some r = sym e ∙ part.within u k r on is in Prim.cc

        by : (o : Option Row) → row_at v u k ≡ o → is_some (row_at a u k) ≡ is_some (row_at b u k)
        by None e = none a part_a e (row_at a u k) refl ∙ sym (none b part_b e (row_at b u k) refl)
        by (Some r) e = same r e

    pub same_part : (n : ℕ) (u : TableId) (l : LiveTable t.groups u) → l.place ≤ n → ((k : Row) → row_at a l.group.def.tree.root.table k ≡ row_at b l.group.def.tree.root.table k) → (k : Row) → row_at a u k ≡ row_at b u k
    same_part zero u l le roots k = by (in_tree_at l.group.def.tree u l.place l.at)
      where
        by : InTree l.group.def.tree u l.place → row_at a u k ≡ row_at b u k
        by (AtRoot q here) = ap (λ w. row_at a w k) (sym here) ∙ roots k ∙ ap (λ w. row_at b w k) here
        by (AtChild i c q at here) = absurd (Prim.omega arith)
    same_part (suc n) u l le roots k = by (in_tree_at l.group.def.tree u l.place l.at) (λ w m less q. same_part n w m less q)
      where
        by : InTree l.group.def.tree u l.place → ((w : TableId) (m : LiveTable t.groups w) → m.place ≤ n → ((q : Row) → row_at a m.group.def.tree.root.table q ≡ row_at b m.group.def.tree.root.table q) → (q : Row) → row_at a w q ≡ row_at b w q) → row_at a u k ≡ row_at b u k
        by (AtRoot q here) rest = ap (λ w. row_at a w k) (sym here) ∙ roots k ∙ ap (λ w. row_at b w k) here
        by (AtChild i c q at here) rest = same_if u k on (some_if u k on (λ row is.
            part_a.families u one.def one.foreign k row on in_v one.key is
            ∙ ap is_some (rest one.foreign.parent (beside u one.foreign.parent l c.parent at_parent) (let less : c.parent ≤ n = Prim.omega (arith, one.earlier, q, le) in less) roots (key_of one.foreign.columns row))
            ∙ sym (part_b.families u one.def one.foreign k row on in_v one.key is)))
          where
            on : is_one_of (live_of t) u ≡ true
            on = one_live u l.group l.found l.through

            one : SoundChild t.schema l.group.def.tree i c
            one = sound_child t.schema l.group.def.tree i c (its_group u l).sound at

            in_v : slice_get v.schema u.0 ≡ Some one.def
            in_v = sym (same_def u l) ∙ ap (λ (w : TableId). slice_get t.schema w.0) (sym here) ∙ one.defined

            at_parent : place_of l.group.def.tree one.foreign.parent ≡ Some c.parent
            at_parent = ap (place_of l.group.def.tree) (same_id one.foreign.parent one.parent one.refers) ∙ place_there t.schema l.group.def.tree c.parent one.parent (its_group u l).sound one.there

    -- a part whose roots are among another's is below it
    pub below_part : (n : ℕ) (u : TableId) (l : LiveTable t.groups u) → l.place ≤ n → ((k : Row) → is_some (row_at a l.group.def.tree.root.table k) ≡ true → is_some (row_at b l.group.def.tree.root.table k) ≡ true) → (k : Row) → is_some (row_at a u k) ≡ true → is_some (row_at b u k) ≡ true
    below_part zero u l le roots k = by (in_tree_at l.group.def.tree u l.place l.at)
      where
        by : InTree l.group.def.tree u l.place → is_some (row_at a u k) ≡ true → is_some (row_at b u k) ≡ true
        by (AtRoot q here) e = ap (λ w. is_some (row_at b w k)) (sym here) ∙ roots k (ap (λ w. is_some (row_at a w k)) here ∙ e)
        by (AtChild i c q at here) e = absurd (Prim.omega arith)
    below_part (suc n) u l le roots k = by (in_tree_at l.group.def.tree u l.place l.at) (λ w m less r. below_part n w m less r)
      where
        by : InTree l.group.def.tree u l.place → ((w : TableId) (m : LiveTable t.groups w) → m.place ≤ n → ((r : Row) → is_some (row_at a m.group.def.tree.root.table r) ≡ true → is_some (row_at b m.group.def.tree.root.table r) ≡ true) → (r : Row) → is_some (row_at a w r) ≡ true → is_some (row_at b w r) ≡ true)
            → is_some (row_at a u k) ≡ true → is_some (row_at b u k) ≡ true
        by (AtRoot q here) rest e = ap (λ w. is_some (row_at b w k)) (sym here) ∙ roots k (ap (λ w. is_some (row_at a w k)) here ∙ e)
        by (AtChild i c q at here) rest e = of (row_at a u k) refl e
          where
            on : is_one_of (live_of t) u ≡ true
            on = one_live u l.group l.found l.through

            one : SoundChild t.schema l.group.def.tree i c
            one = sound_child t.schema l.group.def.tree i c (its_group u l).sound at

            in_v : slice_get v.schema u.0 ≡ Some one.def
            in_v = sym (same_def u l) ∙ ap (λ (w : TableId). slice_get t.schema w.0) (sym here) ∙ one.defined

            at_parent : place_of l.group.def.tree one.foreign.parent ≡ Some c.parent
            at_parent = ap (place_of l.group.def.tree) (same_id one.foreign.parent one.parent one.refers) ∙ place_there t.schema l.group.def.tree c.parent one.parent (its_group u l).sound one.there

            of : (o : Option Row) → row_at a u k ≡ o → is_some (row_at a u k) ≡ true → is_some (row_at b u k) ≡ true
            of None x h = let wrong : false ≡ true = sym (ap is_some x) ∙ h in Prim.cc
            of (Some row) x h =
                let is = part_a.within u k row on x in
                part_b.families u one.def one.foreign k row on in_v one.key is
                ∙ rest one.foreign.parent (beside u one.foreign.parent l c.parent at_parent) (let less : c.parent ≤ n = Prim.omega (arith, one.earlier, q, le) in less) roots (key_of one.foreign.columns row)
                (sym (part_a.families u one.def one.foreign k row on in_v one.key is) ∙ h)
