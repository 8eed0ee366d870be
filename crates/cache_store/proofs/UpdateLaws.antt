-- What is shown after an update.
use Rattle.std.proofs.Common.{◌≡◌, ℕ, ◌<◌, suc, Bool, true, false, ◌&&◌, cond, Option, Some, None, is_some, List, inl, inr, length, slice_get, slice_set, unwrap_or, nat_eq, refl, sym, ap, ◌∙◌, arith}
use Rattle.std.proofs.lemmas.Bool.{eq-eqb, eqb-true}
use Rattle.std.specs.Option.{option_and_then, option_map}
use Rattle.std.specs.Ordering.{is_eq}
use Rattle.std.specs.declared.cmp.Ordering.{Ordering}
use Rattle.std.specs.declared.cmp.Ordering.TheVariants.{Less, Equal, Greater}
use Rattle.std.specs.FinMap.{empty, contains_key, get, get-insert, insert}
use Rattle.instances.specs.row_types.specs.declared.value.Value.{Value}
use Rattle.instances.specs.row_types.specs.Order.{key_order}
use Rattle.instances.specs.row_types.proofs.OrderLaws.{key_exact, key_total}
use Rattle.instances.specs.tier_base.specs.declared.number.TableId.{TableId}
use Rattle.instances.specs.table_defs.specs.declared.definition.TableDef.{TableDef}
use Rattle.instances.specs.indexed_rows.specs.Rows.{Table, is_same, key_of, put_over}
use Rattle.instances.specs.table_state.specs.Tables.{TableState, fits_columns, has_parent, is_found, is_there, table_at}
use Rattle.instances.specs.table_state.specs.declared.operation.Op.TheVariants.{Update}
use Rattle.instances.specs.table_state.specs.Operations.{applied, only_if, with_change}
use Rattle.instances.specs.declared.tree.Child.{Child}
use Rattle.instances.specs.declared.tree.Tree.{Tree}
use Rattle.instances.specs.Trees.{table_of}
use Rattle.instances.specs.Roots.{root_at}
use Rattle.instances.specs.Views.{kept_at, view_of}
use Rattle.cache_store.specs.Shown.{has_root, shown_of}
use Rattle.cache_store.specs.Covering.{CoversAll}
use Rattle.cache_store.specs.Growing.{Moves, is_new}
use Rattle.cache_store.specs.Operating.{ParentsFirst, ShowsUpdate, StandsAt, change_at}
use Rattle.cache_store.proofs.CoverLaws.{covers_tables}
use Rattle.cache_store.proofs.MoveLaws.{shows_moved}
use Rattle.cache_store.proofs.InsertLaws.{decided, get_change, get_set, get_set_other, length_change, nat_eq_other, no_table_in, place_in, table_in, tables_of}
use Rattle.cache_store.proofs.JoinLaws.{same_tables}
use Rattle.cache_store.proofs.ShownLaws.{gets_chosen, shown_length}

abbrev Row : Type 0
Row = List Value

-- an update that applied
pub record Updated (s new : TableState) (t : TableId) (key row : Row) : Type 0 where
  pub schema : new.schema ≡ s.schema
  pub here : table_at new t ≡ insert (table_at s t) key row
  pub others : (u : TableId) → (u.0 ≡ t.0 → ⊥) → table_at new u ≡ table_at s u
  pub old : Row
  pub was : get (table_at s t) key ≡ Some old
  pub parent : (def : TableDef) → slice_get s.schema t.0 ≡ Some def → has_parent s def.foreign_key row ≡ true

pub same_is : (a b : Row) → is_same a b ≡ true → a ≡ b
same_is a b e = by (key_order a b) refl e
  where
    by : (o : Ordering) → key_order a b ≡ o → is_eq o ≡ true → a ≡ b
    by Less tie h = cc
    by Equal tie h = key_exact a b tie
    by Greater tie h = cc

pub updated : (s new : TableState) (t : TableId) (def : TableDef) (old row : Row) → applied (Update t old row) s ≡ Some new → slice_get s.schema t.0 ≡ Some def → Updated s new t (key_of def.primary_key row) row
updated s new t def old row is d = by (slice_get s.tables t.0) refl (sym (ap (option_and_then (λ (f : TableDef). option_and_then (λ table. option_map (λ next. record { schema = s.schema; tables = slice_set s.tables t.0 next }) (with_change s old row f table)) (slice_get s.tables t.0))) d) ∙ is)
  where
    parts : (a b c e : Bool) → (a && b && c && e) ≡ true → (b ≡ true) × (c ≡ true) × (e ≡ true)
    parts true true true e h = (refl, refl, h)
    parts true true false e h = cc
    parts true false c e h = cc
    parts false b c e h = cc

    found : (o : Option Row) → is_found old o ≡ true → (r : Row) × (o ≡ Some r)
    found None e = cc
    found (Some r) e = (r, refl)

    at_table : (table : Table) → slice_get s.tables t.0 ≡ Some table → (b : Bool) → (fits_columns def.columns row && is_same (key_of def.primary_key old) (key_of def.primary_key row) && is_there def old table && has_parent s def.foreign_key row) ≡ b
        → option_map (λ next. record { schema = s.schema; tables = slice_set s.tables t.0 next }) (only_if b (insert table (key_of def.primary_key row) row)) ≡ Some new → Updated s new t (key_of def.primary_key row) row
    at_table table m true good e =
        let k = key_of def.primary_key row in
        let same : record { schema = s.schema; tables = slice_set s.tables t.0 (insert table k row) } ≡ new = cc in
        let it : table_at s t ≡ table = ap (λ o. unwrap_or o empty) m in
        let both = parts (fits_columns def.columns row) (is_same (key_of def.primary_key old) k) (is_there def old table) (has_parent s def.foreign_key row) good in
        let keys : key_of def.primary_key old ≡ k = same_is (key_of def.primary_key old) k both.0 in
        let there = found (get table (key_of def.primary_key old)) both.1 in
        record {
          schema = sym (ap (λ x. x.schema) same);
          here = ap (λ x. unwrap_or (slice_get x.tables t.0) empty) (sym same) ∙ ap (λ o. unwrap_or o empty) (get_set s.tables t.0 (insert table k row) table m) ∙ ap (λ x. insert x k row) (sym it);
          others = λ u n. ap (λ x. unwrap_or (slice_get x.tables u.0) empty) (sym same) ∙ ap (λ o. unwrap_or o empty) (get_set_other s.tables t.0 u.0 (insert table k row) n);
          old = there.0;
          was = ap (λ x. get x k) it ∙ ap (get table) (sym keys) ∙ there.1;
          parent = λ f e. let x : Some def ≡ Some f = sym d ∙ e in let y : def ≡ f = cc in ap (λ (z : TableDef). has_parent s z.foreign_key row) (sym y) ∙ both.2;
        }
    at_table table m false bad e = cc

    by : (o : Option Table) → slice_get s.tables t.0 ≡ o → option_and_then (λ table. option_map (λ next. record { schema = s.schema; tables = slice_set s.tables t.0 next }) (with_change s old row def table)) o ≡ Some new → Updated s new t (key_of def.primary_key row) row
    by None m e = cc
    by (Some table) m e = at_table table m (fits_columns def.columns row && is_same (key_of def.primary_key old) (key_of def.primary_key row) && is_there def old table && has_parent s def.foreign_key row) refl e

module _ (s new : TableState) (tree : Tree) (t : TableId) (key row : Row) (at : ℕ) (i : Updated s new t key row) (stands : StandsAt tree t at) (first : ParentsFirst tree) (ws : CoversAll s tree) (wn : CoversAll new tree) where
  seen_is : (x : TableState) → CoversAll x tree → (place : ℕ) (other : Row) → get (kept_at (view_of x tree) place) other ≡ get (kept_at (tables_of x tree) place) other
  seen_is x w place other = ap (λ l. get (kept_at l place) other) (covers_tables x tree w)

  -- of the changed table
  now : (other : Row) → get (table_at new t) other ≡ cond (is_same other key) (Some row) (get (table_at s t) other)
  now other = ap (λ x. get x other) i.here ∙ get-insert key_total (table_at s t) key row other

  of_table : (u : TableId) (other : Row) → u.0 ≡ t.0 → get (table_at new u) other ≡ cond (is_same other key) (Some row) (get (table_at s u) other)
  of_table u other e =
      ap (λ j. get (unwrap_or (slice_get new.tables j) empty) other) e ∙ now other ∙ ap (λ v. cond (is_same other key) (Some row) v) (ap (λ j. get (unwrap_or (slice_get s.tables j) empty) other) (sym e))

  view_at : (place : ℕ) (other : Row) (o : Option TableId) → table_of tree place ≡ o → get (kept_at (tables_of new tree) place) other ≡ cond (is_new at key place other) (Some row) (get (kept_at (tables_of s tree) place) other)
  view_at place other None e =
      let apart : nat_eq at place ≡ false = nat_eq_other at place (λ x. let y : Some t ≡ None = sym stands.there ∙ ap (table_of tree) x ∙ e in cc) in
      ap (λ x. get x other) (no_table_in new tree place e) ∙ sym (ap (λ b. cond (b && is_same other key) (Some row) (get (kept_at (tables_of s tree) place) other)) apart ∙ ap (λ x. get x other) (no_table_in s tree place e))
  view_at place other (Some u) e = elim (decided u.0 t.0) [
    | inl x ↦
        let same : place ≡ at = stands.alone place u e x in
        ap (λ y. get y other) (table_in new tree place u e) ∙ of_table u other x
        ∙ sym (ap (λ b. cond (b && is_same other key) (Some row) (get (kept_at (tables_of s tree) place) other)) (eq-eqb at place (sym same)) ∙ ap (λ v. cond (is_same other key) (Some row) v) (ap (λ y. get y other) (table_in s tree place u e)))
    | inr n ↦
        let apart : nat_eq at place ≡ false = nat_eq_other at place (λ x. let y : Some t ≡ Some u = sym stands.there ∙ ap (table_of tree) x ∙ e in let z : t ≡ u = cc in n (ap (λ w. w.0) (sym z))) in
        ap (λ y. get y other) (table_in new tree place u e) ∙ ap (λ y. get y other) (i.others u n)
        ∙ sym (ap (λ b. cond (b && is_same other key) (Some row) (get (kept_at (tables_of s tree) place) other)) apart ∙ ap (λ y. get y other) (table_in s tree place u e))
  ]

  root_keys : (other : Row) → contains_key (table_at new tree.root.table) other ≡ contains_key (table_at s tree.root.table) other
  root_keys other = elim (decided tree.root.table.0 t.0) [
    | inl e ↦ ap is_some (of_table tree.root.table other e) ∙ by e (is_same other key) refl
    | inr n ↦ ap (λ x. is_some (get x other)) (i.others tree.root.table n)
  ]
    where
      by : tree.root.table.0 ≡ t.0 → (b : Bool) → is_same other key ≡ b → is_some (cond (is_same other key) (Some row) (get (table_at s tree.root.table) other)) ≡ is_some (get (table_at s tree.root.table) other)
      by e true y =
          ap (λ b. is_some (cond b (Some row) (get (table_at s tree.root.table) other))) y
          ∙ sym (ap is_some (ap (λ j. get (unwrap_or (slice_get s.tables j) empty) other) e ∙ ap (get (table_at s t)) (same_is other key y) ∙ i.was))
      by e false y = ap (λ b. is_some (cond b (Some row) (get (table_at s tree.root.table) other))) y

  child_same : (place : ℕ) (child : Child) → slice_get tree.children place ≡ Some child → (other : Row) → is_new at key (suc place) other ≡ false → get (table_at new child.table) other ≡ get (table_at s child.table) other
  child_same place child is other n = elim (decided child.table.0 t.0) [
    | inl e ↦
        let here : suc place ≡ at = stands.alone (suc place) child.table (ap (option_map (λ (c : Child). c.table)) is) e in
        let apart : is_same other key ≡ false = sym (ap (λ b. b && is_same other key) (eq-eqb at (suc place) (sym here))) ∙ n in
        of_table child.table other e ∙ ap (λ b. cond b (Some row) (get (table_at s child.table) other)) apart
    | inr d ↦ ap (λ x. get x other) (i.others child.table d)
  ]

  moves : Moves s new tree at key row
  moves = record {
    schema = i.schema;
    earlier = first;
    roots = root_keys;
    same = child_same;
    view = λ place other. seen_is new wn place other ∙ view_at place other (table_of tree place) refl ∙ ap (λ v. cond (is_new at key place other) (Some row) v) (sym (seen_is s ws place other));
    old = i.old;
    was = seen_is s ws at key ∙ ap (λ x. get x key) (table_in s tree at t stands.there) ∙ i.was;
  }

  module _ (p : Row → Bool) (before : has_root p (root_at s tree at key) ≡ true) (behind : has_root p (root_at new tree at key) ≡ true) where
    shown_before : get (kept_at (shown_of s tree p) at) key ≡ Some i.old
    unfolding moves
    shown_before = gets_chosen s tree p at key ∙ ap (λ b. cond b (get (kept_at (view_of s tree) at) key) None) before ∙ moves.was

    over : (a : Table) (found : Row) → get a key ≡ Some found → (other : Row) → get (put_over a key row) other ≡ cond (is_same other key) (Some row) (get a other)
    over a found e other = ap (λ o. get (cond (is_some o) (insert a key row) a) other) e ∙ get-insert key_total a key row other

    update_shown : shown_of new tree p ≡ change_at at (λ table. put_over table key row) (shown_of s tree p)
    update_shown =
        let old : List Table = shown_of s tree p in
        let within : at < length old = omega (arith, shown_length s tree p, place_in tree at t stands.there) in
        same_tables (shown_of new tree p) (change_at at (λ table. put_over table key row) old) (shown_length new tree p ∙ sym (length_change (λ table. put_over table key row) old at ∙ shown_length s tree p))
        (λ place other. shows_moved s new tree at key row moves p before behind place other
        ∙ sym (ap (λ x. get x other) (get_change (λ table. put_over table key row) old at place within) ∙ parted place other (nat_eq at place) refl))
      where
        parted : (place : ℕ) (other : Row) (b : Bool) → nat_eq at place ≡ b → get (cond (nat_eq at place) (put_over (kept_at (shown_of s tree p) at) key row) (kept_at (shown_of s tree p) place)) other ≡ cond (is_new at key place other) (Some row) (get (kept_at (shown_of s tree p) place) other)
        parted place other true e =
            ap (λ b. get (cond b (put_over (kept_at (shown_of s tree p) at) key row) (kept_at (shown_of s tree p) place)) other) e ∙ over (kept_at (shown_of s tree p) at) i.old shown_before other
            ∙ ap (λ j. cond (is_same other key) (Some row) (get (kept_at (shown_of s tree p) j) other)) (eqb-true at place e) ∙ sym (ap (λ b. cond (b && is_same other key) (Some row) (get (kept_at (shown_of s tree p) place) other)) e)
        parted place other false e =
            ap (λ b. get (cond b (put_over (kept_at (shown_of s tree p) at) key row) (kept_at (shown_of s tree p) place)) other) e ∙ sym (ap (λ b. cond (b && is_same other key) (Some row) (get (kept_at (shown_of s tree p) place) other)) e)

pub shows_update : (s new : TableState) (tree : Tree) → ShowsUpdate s new tree
shows_update s new tree t def old row at p a first before behind = update_shown s new tree t (key_of def.primary_key row) row at (updated s new t def old row a.applies a.defined) a.stands first a.before a.after p before behind
