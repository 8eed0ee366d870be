-- A store that is made anew of a state shows what its group does of that.
use Rattle.std.proofs.Common.{◌≡◌, ℕ, zero, suc, ◌+◌, Bool, true, false, cond, not, ◌&&◌, ◌||◌, nat_eq, Option, Some, None, is_some, List, [], ◌∷◌, ◌++◌, length, map, slice_get, unwrap_or, refl, sym, ap, subst, ◌∙◌, arith}
use Rattle.std.proofs.lemmas.Bool.{eq-eqb}
use Rattle.std.proofs.lemmas.List.{length-map}
use Rattle.std.specs.Option.{option_map, option_or}
use Rattle.std.specs.FinMap as fm
use Rattle.std.specs.FinMap.{empty}
use Rattle.row_types.specs.Order.{key_order}
use Rattle.row_types.specs.declared.value.Value.{Value}
use Rattle.row_types.proofs.OrderLaws.{key_exact, key_total}
use Rattle.tier_base.specs.declared.number.TableId.{TableId}
use Rattle.table_defs.specs.declared.definition.TableDef.{TableDef}
use Rattle.indexed_rows.specs.Rows.{Table, key_of, put_in}
use Rattle.indexed_rows.proofs.EntryLaws.{at_has}
use Rattle.table_state.specs.Copies.{is_one_of}
use Rattle.table_state.specs.Tables.{TableState, table_at}
use Rattle.instances.specs.declared.tree.Child.{Child}
use Rattle.instances.specs.declared.tree.Tree.{Tree}
use Rattle.instances.specs.Trees.{is_sound, table_of}
use Rattle.instances.specs.Views.{child_rows, is_kept, kept_at, passes, refers_to_one, root_rows, rows_where, selects, with_children}
use Rattle.instances.proofs.Gathering.{get_where}
use Rattle.slot_rows.specs.SlotKeys.{IsKeyedBy}
use Rattle.cache_store.specs.Operating.{change_at}
use Rattle.cache_store.specs.Shown.{shown_of, with_rows}
use Rattle.cache_store.proofs.AboveLaws.{above}
use Rattle.cache_store.proofs.JoinLaws.{get_with_rows}
use Rattle.cache_store.proofs.OwnLaws.{keeps}
use Rattle.cache_store.proofs.ShownLaws.{shown_length}
use Rattle.group_store.specs.Keeping.{IsFor, layer_for}
use Rattle.group_store.specs.Stores.{Kept, put_rows, put_store, put_tables, touched_store}
use Rattle.group_store.specs.Trees.{key_at}
use Rattle.cache_tier.proofs.ShownTables.{defined_in, some_def}
use Rattle.stored_tier.proofs.StoreForms.{key_for, primary}
use Rattle.cache_tier.specs.Commits.{tables_of}
use Rattle.cache_tier.proofs.SoundStates.{IsSoundState}
use Rattle.cache_tier.proofs.ShownTrees.{sound_later}
use Rattle.stored_tier.proofs.GatherLaws.{get_chosen}
use Rattle.stored_tier.proofs.PutLaws.{long_tables}
use Rattle.stored_tier.specs.declared.refreshing.Made.{Made}
use Rattle.stored_tier.specs.Choosing.{chosen}
use Rattle.stored_tier.specs.Filling.{bare_store, comes_anew, is_held, ordered, roots_anew, tables_anew, touched_all}
use Rattle.stored_tier.specs.Lists.{IsHidingFor, is_by_use}
use Rattle.stored_tier.specs.Refreshing.{IsMadeAnew}
use Rattle.cache_tier.specs.Groups.{Group, is_key}
use Rattle.cache_tier.specs.Shown.{exceeds}
use Rattle.evaluator.specs.Cascades.{key_in}
use Rattle.group_engine.specs.Fresh.{IsFreshFor, is_fresh, keys_touched}
use Rattle.group_engine.specs.Gaining.{IsMadeWith}

abbrev Row : Type 0
Row = List Value

-- rows that are put in

change_none : (p : ℕ) (ts : List Table) → change_at p (λ t. t) ts ≡ ts
change_none p [] = refl
change_none zero (t ∷ ts) = refl
change_none (suc p) (t ∷ ts) = ap (λ l. t ∷ l) (change_none p ts)

change_both : (p : ℕ) (f g : Table → Table) (ts : List Table) → change_at p g (change_at p f ts) ≡ change_at p (λ t. g (f t)) ts
change_both p f g [] = refl
change_both zero f g (t ∷ ts) = refl
change_both (suc p) f g (t ∷ ts) = ap (λ l. t ∷ l) (change_both p f g ts)

-- a row with its key
abbrev pub keyed_row : List ℕ → Row → Row × Row
keyed_row places row = (key_of places row, row)

rows_in_one : (place : ℕ) (rows : List Row) (k : Kept) → (put_rows place rows k).tables ≡ change_at place (λ t. with_rows t (map (keyed_row (key_at k.key k.layers place)) rows)) k.tables
rows_in_one place [] k = sym (change_none place k.tables)
rows_in_one place (row ∷ rows) k =
    let places = key_at k.key k.layers place in
    rows_in_one place rows (put_store place row k)
    ∙ change_both place (λ t. put_in t (key_of places row) row) (λ t. with_rows t (map (keyed_row places) rows)) k.tables

-- the tree stays
pub record Form (a b : Kept) : Type 0 where
  pub table : b.table ≡ a.table
  pub key : b.key ≡ a.key
  pub foreign : b.foreign ≡ a.foreign
  pub layers : b.layers ≡ a.layers

form_rows : (place : ℕ) (rows : List Row) (k : Kept) → Form k (put_rows place rows k)
form_rows place [] k = record { table = refl; key = refl; foreign = refl; layers = refl }
form_rows place (row ∷ rows) k = let f = form_rows place rows (put_store place row k) in record { table = f.table; key = f.key; foreign = f.foreign; layers = f.layers }

pub form_tables : (place : ℕ) (tables : List (List Row)) (k : Kept) → Form k (put_tables place tables k)
form_tables place [] k = record { table = refl; key = refl; foreign = refl; layers = refl }
form_tables place (rows ∷ tables) k =
    let f = form_rows place rows k in
    let g = form_tables (suc place) tables (put_rows place rows k) in
    record { table = g.table ∙ f.table; key = g.key ∙ f.key; foreign = g.foreign ∙ f.foreign; layers = g.layers ∙ f.layers }

-- rows that stand under their keys are the entries
entries_by : (places : List ℕ) (es : List (Row × Row)) → ((i : ℕ) (e : Row × Row) → slice_get es i ≡ Some e → key_of places e.1 ≡ e.0) → map (keyed_row places) (map (λ e. e.1) es) ≡ es
entries_by places [] h = refl
entries_by places (e ∷ es) h =
    let first : keyed_row places e.1 ≡ e = ap (λ k. (k, e.1)) (h 0 e refl) in
    let rest = entries_by places es (λ i x at. h (suc i) x at) in
    λ i. first i ∷ rest i

pub keyed_entries : (places : List ℕ) (t : Table) → IsKeyedBy places t → map (keyed_row places) (fm.values t) ≡ fm.entries t
keyed_entries places t keyed = entries_by places (fm.entries t) (λ i e at. keyed e.0 e.1 (at_has t i e at))

-- one table after another
abbrev changed_from : ℕ → List Table → List Table → List Table
changed_from n [] ts = ts
changed_from n (b ∷ bs) ts = changed_from (suc n) bs (change_at n (λ t. with_rows t (fm.entries b)) ts)

shifted : (n : ℕ) (bs : List Table) (t : Table) (ts : List Table) → changed_from (suc n) bs (t ∷ ts) ≡ t ∷ changed_from n bs ts
shifted n [] t ts = refl
shifted n (b ∷ bs) t ts = shifted (suc n) bs t (change_at n (λ t. with_rows t (fm.entries b)) ts)

abbrev AreKeyed : ℕ → List Table → Kept → Type 0
AreKeyed n bs k = (i : ℕ) (b : Table) → slice_get bs i ≡ Some b → IsKeyedBy (key_at k.key k.layers (n + i)) b

tables_in : (n : ℕ) (bs : List Table) (k : Kept) → AreKeyed n bs k → (put_tables n (map fm.values bs) k).tables ≡ changed_from n bs k.tables
tables_in n [] k keyed = refl
tables_in n (b ∷ bs) k keyed =
    let m = put_rows n (fm.values b) k in
    let f = form_rows n (fm.values b) k in
    let z : n + 0 ≡ n = Prim.omega arith in
    let first = subst (λ p. IsKeyedBy (key_at k.key k.layers p) b) z (keyed 0 b refl) in
    tables_in (suc n) bs m (λ i x at. let w : n + suc i ≡ suc n + i = Prim.omega arith in
    subst (λ ls. IsKeyedBy (key_at m.key ls (suc n + i)) x) (sym f.layers) (subst (λ ks. IsKeyedBy (key_at ks k.layers (suc n + i)) x) (sym f.key) (subst (λ p. IsKeyedBy (key_at k.key k.layers p) x) w (keyed (suc i) x at))))
    ∙ ap (changed_from (suc n) bs) (rows_in_one n (fm.values b) k ∙ ap (λ es. change_at n (λ t. with_rows t es) k.tables) (keyed_entries (key_at k.key k.layers n) b first))

-- tables that were empty are those that are put in
pub from_empty : (b : Table) → with_rows empty (fm.entries b) ≡ b
from_empty b = fm.same_map key_total key_exact (with_rows empty (fm.entries b)) b (λ key. get_with_rows (fm.entries b) empty key ∙ ap (λ v. option_or v (fm.find key_order key (fm.entries b))) (fm.get-empty key_order key) ∙ sym (fm.get-entries b key))

abbrev empties : List Child → List Table
empties children = map (λ child. empty) children

all_changed : (children : List Child) (bs : List Table) → length bs ≡ length children → changed_from 0 bs (empties children) ≡ bs
all_changed [] [] e = refl
all_changed [] (b ∷ bs) e = absurd (Prim.omega (arith, e))
all_changed (c ∷ children) [] e = absurd (Prim.omega (arith, e))
all_changed (c ∷ children) (b ∷ bs) e =
    shifted 0 bs (with_rows empty (fm.entries b)) (empties children)
    ∙ (let first = from_empty b in let rest = all_changed children bs (Prim.omega (arith, e)) in λ i. first i ∷ rest i)

-- a schema that goes on

pub get_front : (defs more : List TableDef) (i : ℕ) → is_some (slice_get defs i) ≡ true → slice_get (defs ++ more) i ≡ slice_get defs i
get_front [] more i e = Prim.cc
get_front (d ∷ defs) more zero e = refl
get_front (d ∷ defs) more (suc i) e = get_front defs more i e

module _ (schema more : List TableDef) (tree : Tree) (sound : is_sound schema tree ≡ true) where
  same_def : (place : ℕ) (t : TableId) → table_of tree place ≡ Some t → slice_get (schema ++ more) t.0 ≡ slice_get schema t.0
  same_def place t at = get_front schema more t.0 (defined_in schema tree place t sound at)

  same_layers : (children : List Child) → ((i : ℕ) (c : Child) → slice_get children i ≡ Some c → slice_get (schema ++ more) c.table.0 ≡ slice_get schema c.table.0) → map (layer_for (schema ++ more)) children ≡ map (layer_for schema) children
  same_layers [] same = refl
  same_layers (c ∷ children) same =
      let def = same 0 c refl in
      let rest = same_layers children (λ i x at. same (suc i) x at) in
      λ i. record {
        table = c.table;
        key = unwrap_or (option_map (λ (d : TableDef). d.primary_key) (def i)) [];
        foreign = unwrap_or (option_map (λ (d : TableDef). Rattle.table_defs.specs.Declarations.foreign_places d.foreign_key) (def i)) [];
        parent = c.parent;
      } ∷ rest i

  -- the bare store is the same
  pub bare_later : bare_store (schema ++ more) tree ≡ bare_store schema tree
  bare_later =
      let root = same_def 0 tree.root.table refl in
      let layers = same_layers tree.children (λ i c at. same_def (suc i) c.table (ap (option_map (λ (x : Child). x.table)) at)) in
      λ i. record {
        table = tree.root.table;
        key = unwrap_or (option_map (λ (d : TableDef). d.primary_key) (root i)) [];
        foreign = unwrap_or (option_map (λ (d : TableDef). Rattle.table_defs.specs.Declarations.foreign_places d.foreign_key) (root i)) [];
        layers = layers i;
        tables = empty ∷ map (λ child. empty) tree.children;
        keys = [];
        spare = 0;
      }

-- the rows that are shown stand under their keys
module _ (s : TableState) (tree : Tree) (test : Row → Bool) (is : IsSoundState s) (sound : is_sound s.schema tree ≡ true) where
  abbrev k : Kept
  k = bare_store s.schema tree

  bare_form : IsFor s.schema tree (bare_store s.schema tree)
  bare_form = record { table = refl; key = refl; foreign = refl; layers = refl }

  under : (place : ℕ) (t : TableId) → table_of tree place ≡ Some t → (key row : Row) → fm.get (table_at s t) key ≡ Some row → key_of (key_at k.key k.layers place) row ≡ key
  under place t there key row found =
      let d = some_def (slice_get s.schema t.0) (defined_in s.schema tree place t sound there) in
      ap (λ ps. key_of ps row) (key_for s.schema tree k bare_form place t there ∙ primary s.schema t d.0 d.1) ∙ is.keyed t d.0 d.1 key row found

  in_table : (b : Bool) (v : Option Row) (row : Row) → cond b v None ≡ Some row → v ≡ Some row
  in_table true v row e = e
  in_table false v row e = Prim.cc

  shown_keyed : (place : ℕ) → IsKeyedBy (key_at k.key k.layers place) (kept_at (shown_of s tree test) place)
  shown_keyed zero key row e =
      let R = root_rows s tree.root in
      let first = ap (λ t. fm.get t key) (sym (keeps s tree.children (fm.retain_keys R test ∷ []) 0 (Prim.omega arith))) ∙ e in
      let kept = in_table (test key) (fm.get R key) row (sym (fm.get-retain_keys R test key (λ x tie. ap test (sym (key_exact key x tie)))) ∙ first) in
      let found = in_table (passes (selects tree.root.filter) (fm.get (table_at s tree.root.table) key)) (fm.get (table_at s tree.root.table) key) row (sym (get_where (selects tree.root.filter) (table_at s tree.root.table) key) ∙ kept) in
      under 0 tree.root.table refl key row found
  shown_keyed (suc i) key row e =
      let a = above s tree test i key row e in
      under (suc i) a.child.table (ap (option_map (λ (c : Child). c.table)) a.there) key row a.found

  at_place_of : (bs : List Table) (i : ℕ) (b : Table) → slice_get bs i ≡ Some b → kept_at bs i ≡ b
  at_place_of bs i b e = ap (λ o. unwrap_or o empty) e

  are_keyed : AreKeyed 0 (shown_of s tree test) (bare_store s.schema tree)
  are_keyed i b at =
      let z : 0 + i ≡ i = Prim.omega arith in
      subst (IsKeyedBy (key_at k.key k.layers (0 + i))) (at_place_of (shown_of s tree test) i b at)
      (subst (λ p. IsKeyedBy (key_at k.key k.layers p) (kept_at (shown_of s tree test) i)) (sym z) (shown_keyed i))

  pub filled_here : (put_tables 0 (map fm.values (shown_of s tree test)) (bare_store s.schema tree)).tables ≡ shown_of s tree test
  filled_here =
      tables_in 0 (shown_of s tree test) (bare_store s.schema tree) are_keyed
      ∙ by (shown_of s tree test) (shown_length s tree test)
    where
      by : (bs : List Table) → length bs ≡ 1 + length tree.children → changed_from 0 bs (empty ∷ empties tree.children) ≡ bs
      by [] long = absurd (Prim.omega (arith, long))
      by (b ∷ bs) long =
          shifted 0 bs (with_rows empty (fm.entries b)) (empties tree.children)
          ∙ (let first = from_empty b in let rest = all_changed tree.children bs (Prim.omega (arith, long)) in λ i. first i ∷ rest i)

  -- a root row stands under its key
  pub root_under : (key row : Row) → fm.get (root_rows s tree.root) key ≡ Some row → key_in (slice_get s.schema tree.root.table.0) row ≡ key
  root_under key row e =
      let d = some_def (slice_get s.schema tree.root.table.0) (defined_in s.schema tree 0 tree.root.table sound refl) in
      let found = in_table (passes (selects tree.root.filter) (fm.get (table_at s tree.root.table) key)) (fm.get (table_at s tree.root.table) key) row (sym (get_where (selects tree.root.filter) (table_at s tree.root.table) key) ∙ e) in
      ap (λ o. key_in o row) d.1 ∙ is.keyed tree.root.table d.0 d.1 key row found

-- A copy of the tables of a tree has the same rows of it.

pub first_one : (t : TableId) (tables : List TableId) → is_one_of (t ∷ tables) t ≡ true
first_one t tables = ap (λ (b : Bool). b || is_one_of tables t) (eq-eqb t.0 t.0 refl)

later_one : (u t : TableId) (tables : List TableId) → is_one_of tables t ≡ true → is_one_of (u ∷ tables) t ≡ true
later_one u t tables e = by (nat_eq u.0 t.0)
  where
    by : (b : Bool) → b || is_one_of tables t ≡ true
    by true = refl
    by false = e

module _ (s copy : TableState) (schema : copy.schema ≡ s.schema) where
  child_copied : (parents : Table) (child : Child) → table_at copy child.table ≡ table_at s child.table → child_rows copy parents child ≡ child_rows s parents child
  child_copied parents child rows =
      ap (λ (defs : List TableDef). rows_where (λ (row : List Value). selects child.filter row && refers_to_one parents (slice_get defs child.table.0) row) (table_at copy child.table)) schema
      ∙ ap (rows_where (is_kept s parents child)) rows

  children_copied : (children : List Child) (kept : List Table) → ((t : TableId) → is_one_of (map (λ (child : Child). child.table) children) t ≡ true → table_at copy t ≡ table_at s t) → with_children copy children kept ≡ with_children s children kept
  children_copied [] kept rows = refl
  children_copied (child ∷ children) kept rows =
      ap (λ (t : Table). with_children copy children (kept ++ t ∷ [])) (child_copied (kept_at kept child.parent) child (rows child.table (first_one child.table (map (λ (c : Child). c.table) children))))
      ∙ children_copied children (kept ++ child_rows s (kept_at kept child.parent) child ∷ []) (λ t e. rows t (later_one child.table t (map (λ (c : Child). c.table) children) e))

  -- with what comes of it
  pub anew_copied : (g : Group) (old : Kept) (hidden : Table) → ((t : TableId) → is_one_of (tables_of g.def.tree) t ≡ true → table_at copy t ≡ table_at s t) → tables_anew copy g old hidden ≡ tables_anew s g old hidden
  anew_copied g old hidden rows =
      let tree = g.def.tree in
      ap (λ (t : Table). with_children copy tree.children (chosen (comes_anew g old hidden) t ∷ [])) (rows tree.root.table (first_one tree.root.table (map (λ (c : Child). c.table) tree.children)))
      ∙ children_copied tree.children (roots_anew s g old hidden ∷ []) (λ t e. rows t (later_one tree.root.table t (map (λ (c : Child). c.table) tree.children) e))

-- the root key is that of an instance past the horizon, and of a dynamic group it is one of those that it has
abbrev had : TableState → Group → Kept → Table → Row → Bool
had s g old hidden key = (not g.def.dynamic || is_held old hidden key) && passes (exceeds g) (fm.get (root_rows s g.def.tree.root) key)

-- the roots that come are those of the view that pass
roots_are : (s : TableState) (g : Group) (old : Kept) (hidden : Table) → roots_anew s g old hidden ≡ fm.retain_keys (root_rows s g.def.tree.root) (had s g old hidden)
roots_are s g old hidden = fm.same_map key_total key_exact (roots_anew s g old hidden) (fm.retain_keys (root_rows s g.def.tree.root) (had s g old hidden)) (λ q.
    get_chosen (comes_anew g old hidden) (table_at s g.def.tree.root.table) q ∙ by q (fm.get (table_at s g.def.tree.root.table) q) refl
    ∙ sym (fm.get-retain_keys (root_rows s g.def.tree.root) (had s g old hidden) q (λ x tie. ap (had s g old hidden) (sym (key_exact q x tie)))))
  where
    by : (q : Row) (o : Option Row) → fm.get (table_at s g.def.tree.root.table) q ≡ o → cond (passes (comes_anew g old hidden q) o) o None ≡ cond (had s g old hidden q) (fm.get (root_rows s g.def.tree.root) q) None
    by q None e =
        let none : fm.get (root_rows s g.def.tree.root) q ≡ None = get_where (selects g.def.tree.root.filter) (table_at s g.def.tree.root.table) q ∙ ap (λ o. cond (passes (selects g.def.tree.root.filter) o) o None) e in
        sym (no_row (had s g old hidden q) (fm.get (root_rows s g.def.tree.root) q) none)
      where
        no_row : (b : Bool) (o : Option Row) → o ≡ None → cond b o None ≡ None
        no_row true o e = e
        no_row false o e = refl
    by q (Some row) e =
        let there : fm.get (root_rows s g.def.tree.root) q ≡ cond (selects g.def.tree.root.filter row) (Some row) None = get_where (selects g.def.tree.root.filter) (table_at s g.def.tree.root.table) q ∙ ap (λ o. cond (passes (selects g.def.tree.root.filter) o) o None) e in
        pick (not g.def.dynamic || is_held old hidden q) (selects g.def.tree.root.filter row)
        ∙ ap (λ o. cond ((not g.def.dynamic || is_held old hidden q) && passes (exceeds g) o) o None) (sym there)
      where
        pick : (a b : Bool) → cond (a && (b && exceeds g row)) (Some row) None ≡ cond (a && passes (exceeds g) (cond b (Some row) None)) (cond b (Some row) None) None
        pick true true = refl
        pick true false = refl
        pick false true = refl
        pick false false = refl

pub shown_anew : (s : TableState) (g : Group) (old : Kept) (hidden : Table) → tables_anew s g old hidden ≡ shown_of s g.def.tree (had s g old hidden)
shown_anew s g old hidden = ap (λ t. with_children s g.def.tree.children (t ∷ [])) (roots_are s g old hidden)

-- with those that it gains
module _ (s : TableState) (g : Group) (old : Kept) (hidden wider : Table) (more : List Row) (holds : (q : Row) → is_held old wider q ≡ (is_held old hidden q || is_key more q)) where
  pub shown_gained : shown_of s g.def.tree (had s g old wider) ≡ shown_of s g.def.tree (is_fresh s g old hidden more)
  shown_gained = λ i. shown_of s g.def.tree (λ q. (not g.def.dynamic || holds q i) && passes (exceeds g) (fm.get (root_rows s g.def.tree.root) q))

pub gains_none : (old : Kept) (hidden : Table) (q : Row) → is_held old hidden q ≡ (is_held old hidden q || is_key [] q)
gains_none old hidden q = by (is_held old hidden q)
  where
    by : (b : Bool) → b ≡ (b || false)
    by true = refl
    by false = refl

-- only keys are put in order

touched_form : (keys : List Row) (s : Kept) → Form s (touched_all keys s) × ((touched_all keys s).tables ≡ s.tables) × ((touched_all keys s).keys ≡ keys_touched keys s.keys)
touched_form [] s = (record { table = refl; key = refl; foreign = refl; layers = refl }, refl, refl)
touched_form (key ∷ keys) s =
    let rest = touched_form keys (touched_store key s) in
    (record { table = rest.0.table; key = rest.0.key; foreign = rest.0.foreign; layers = rest.0.layers }, rest.1, rest.2)

ordered_form : (g : Group) (old s : Kept) → Form s (ordered g old s) × ((ordered g old s).tables ≡ s.tables)
ordered_form g old s = by (is_by_use g.def.aging)
  where
    by : (b : Bool) → Form s (cond b (touched_all old.keys s) s) × ((cond b (touched_all old.keys s) s).tables ≡ s.tables)
    by true = let f = touched_form old.keys s in (f.0, f.1)
    by false = (record { table = refl; key = refl; foreign = refl; layers = refl }, refl)

ordered_keys : (g : Group) (old s : Kept) → is_by_use g.def.aging ≡ true → (ordered g old s).keys ≡ keys_touched old.keys s.keys
ordered_keys g old s leaves = ap (λ b. (cond b (touched_all old.keys s) s).keys) leaves ∙ (touched_form old.keys s).2

-- what is made from a copy of a group's tables shows what the group does of the state
pub filled_with : (s copy : TableState) (schema more : List TableDef) (g : Group) (old : Kept) (hidden wider : Table) (gained : List Row) (m : Made) → IsSoundState s → is_sound schema g.def.tree ≡ true → s.schema ≡ schema ++ more → copy.schema ≡ s.schema
    → ((t : TableId) → is_one_of (tables_of g.def.tree) t ≡ true → table_at copy t ≡ table_at s t) → ((q : Row) → is_held old wider q ≡ (is_held old hidden q || is_key gained q)) → IsMadeWith schema copy g old wider gained m → IsFreshFor s g old hidden gained m
filled_with s copy schema more g old hidden wider gained m is sound front same rows holds made =
    let put = put_tables 0 (map fm.values (tables_anew copy g old wider)) (bare_store schema g.def.tree) in
    let used = touched_form gained (ordered g old put) in
    record {
      rows =
          made.store.tables
          ∙ used.1
          ∙ (ordered_form g old put).1
          ∙ ap (λ v. (put_tables 0 (map fm.values v) (bare_store schema g.def.tree)).tables) (anew_copied s copy same g old wider rows ∙ shown_anew s g old wider)
          ∙ ap (λ b. (put_tables 0 (map fm.values (shown_of s g.def.tree (had s g old wider))) b).tables) (sym (bare_later schema more g.def.tree sound) ∙ ap (λ defs. bare_store defs g.def.tree) (sym front))
          ∙ filled_here s g.def.tree (had s g old wider) is (subst (λ defs. is_sound defs g.def.tree ≡ true) (sym front) (sound_later schema more g.def.tree sound))
          ∙ shown_gained s g old hidden wider gained holds;
      before = put.keys;
      order = λ leaves. made.store.keys ∙ used.2 ∙ ap (keys_touched gained) (ordered_keys g old put leaves);
      old = made.old;
      new = made.new;
      bare = made.hiding.none;
    }

-- and has the tables of the tree
pub form_with : (copy : TableState) (schema : List TableDef) (g : Group) (old : Kept) (hidden : Table) (more : List Row) (m : Made) → IsMadeWith schema copy g old hidden more m → IsFor schema g.def.tree m.store
form_with copy schema g old hidden more m made =
    let put = put_tables 0 (map fm.values (tables_anew copy g old hidden)) (bare_store schema g.def.tree) in
    let f = form_tables 0 (map fm.values (tables_anew copy g old hidden)) (bare_store schema g.def.tree) in
    let o = (ordered_form g old put).0 in
    let u = (touched_form more (ordered g old put)).0 in
    let filled = made.store in
    record { table = filled.table ∙ u.table ∙ o.table ∙ f.table; key = filled.key ∙ u.key ∙ o.key ∙ f.key; foreign = filled.foreign ∙ u.foreign ∙ o.foreign ∙ f.foreign; layers = filled.layers ∙ u.layers ∙ o.layers ∙ f.layers }

-- a table for each
pub long_with : (copy : TableState) (schema : List TableDef) (g : Group) (old : Kept) (hidden : Table) (more : List Row) (m : Made) → IsMadeWith schema copy g old hidden more m → length m.store.tables ≡ suc (length m.store.layers)
long_with copy schema g old hidden more m made =
    let put = put_tables 0 (map fm.values (tables_anew copy g old hidden)) (bare_store schema g.def.tree) in
    let form = form_with copy schema g old hidden more m made in
    ap (λ (ts : List Table). length ts) (made.store.tables ∙ (touched_form more (ordered g old put)).1 ∙ (ordered_form g old put).1)
    ∙ long_tables 0 (map fm.values (tables_anew copy g old hidden)) (bare_store schema g.def.tree)
    ∙ ap suc (length-map g.def.tree.children (λ (c : Child). empty) ∙ sym (length-map g.def.tree.children (layer_for schema)) ∙ ap length (sym form.layers))

pub hiding_with : (copy : TableState) (schema : List TableDef) (g : Group) (old : Kept) (hidden : Table) (more : List Row) (m : Made) → IsMadeWith schema copy g old hidden more m → IsHidingFor schema g m.store m.hidden
hiding_with copy schema g old hidden more m made = record { key = made.hiding.key; room = made.hiding.room; none = λ shows. made.hiding.none }

-- the same where nothing is gained

with_none : (schema : List TableDef) (copy : TableState) (g : Group) (old : Kept) (hidden : Table) (m : Made) → IsMadeAnew schema copy g old hidden m → IsMadeWith schema copy g old hidden [] m
with_none schema copy g old hidden m made = record { store = made.store; hiding = made.hiding; old = made.old; new = made.new }

pub filled_from : (s copy : TableState) (schema more : List TableDef) (g : Group) (old : Kept) (hidden : Table) (m : Made) → IsSoundState s → is_sound schema g.def.tree ≡ true → s.schema ≡ schema ++ more → copy.schema ≡ s.schema
    → ((t : TableId) → is_one_of (tables_of g.def.tree) t ≡ true → table_at copy t ≡ table_at s t) → IsMadeAnew schema copy g old hidden m → IsFreshFor s g old hidden [] m
filled_from s copy schema more g old hidden m is sound front same rows made =
    filled_with s copy schema more g old hidden hidden [] m is sound front same rows (gains_none old hidden) (with_none schema copy g old hidden m made)

pub filled_form : (copy : TableState) (schema : List TableDef) (g : Group) (old : Kept) (hidden : Table) (m : Made) → IsMadeAnew schema copy g old hidden m → IsFor schema g.def.tree m.store
filled_form copy schema g old hidden m made = form_with copy schema g old hidden [] m (with_none schema copy g old hidden m made)

pub filled_long : (copy : TableState) (schema : List TableDef) (g : Group) (old : Kept) (hidden : Table) (m : Made) → IsMadeAnew schema copy g old hidden m → length m.store.tables ≡ suc (length m.store.layers)
filled_long copy schema g old hidden m made = long_with copy schema g old hidden [] m (with_none schema copy g old hidden m made)

pub filled_hiding : (copy : TableState) (schema : List TableDef) (g : Group) (old : Kept) (hidden : Table) (m : Made) → IsMadeAnew schema copy g old hidden m → IsHidingFor schema g m.store m.hidden
filled_hiding copy schema g old hidden m made = hiding_with copy schema g old hidden [] m (with_none schema copy g old hidden m made)
