-- What is shown after a delete: the growth law read backwards.
use Rattle.std.proofs.Common.{◌≡◌, ℕ, ◌<◌, Bool, true, false, ◌&&◌, not, cond, Option, Some, None, List, inl, inr, length, slice_get, slice_set, unwrap_or, nat_eq, refl, sym, ap, ◌∙◌, arith}
use Rattle.std.proofs.lemmas.Bool.{eq-eqb, eqb-true}
use Rattle.std.specs.Option.{option_and_then, option_map}
use Rattle.std.specs.Ordering.{is_eq}
use Rattle.std.specs.declared.cmp.Ordering.{Ordering}
use Rattle.std.specs.declared.cmp.Ordering.TheVariants.{Less, Equal, Greater}
use Rattle.std.specs.FinMap.{empty, get, get-remove, remove}
use Rattle.instances.specs.row_types.specs.declared.value.Value.{Value}
use Rattle.instances.specs.row_types.specs.Order.{key_order}
use Rattle.instances.specs.row_types.proofs.OrderLaws.{key_exact, key_total}
use Rattle.instances.specs.tier_base.specs.declared.number.TableId.{TableId}
use Rattle.instances.specs.table_defs.specs.declared.definition.TableDef.{TableDef}
use Rattle.instances.specs.indexed_rows.specs.Rows.{Table, is_same, key_of}
use Rattle.instances.specs.table_state.specs.Tables.{TableState, has_child, is_found, is_there, table_at}
use Rattle.instances.specs.table_state.specs.declared.operation.Op.TheVariants.{Delete}
use Rattle.instances.specs.table_state.specs.Operations.{applied, only_if, without_row}
use Rattle.instances.specs.declared.tree.Tree.{Tree}
use Rattle.instances.specs.Trees.{table_of}
use Rattle.instances.specs.Roots.{root_at}
use Rattle.instances.specs.Views.{kept_at, view_of}
use Rattle.cache_store.specs.Shown.{has_root, shown_of}
use Rattle.cache_store.specs.Covering.{CoversAll}
use Rattle.cache_store.specs.Growing.{Agree, GainsRow, is_new}
use Rattle.cache_store.specs.Operating.{ShowsDelete, StandsAt, change_at}
use Rattle.cache_store.proofs.CoverLaws.{covers_tables}
use Rattle.cache_store.proofs.GrowthLaws.{shows_more}
use Rattle.cache_store.proofs.InsertLaws.{decided, get_change, get_set, get_set_other, length_change, nat_eq_other, no_table_in, place_in, table_in, tables_of}
use Rattle.cache_store.proofs.JoinLaws.{same_tables}
use Rattle.cache_store.proofs.ShownLaws.{gets_chosen, shown_length}

abbrev Row : Type 0
Row = List Value

-- a delete that applied: the row that stood there is gone
pub record Deleted (s new : TableState) (t : TableId) (key : Row) : Type 0 where
  pub schema : new.schema ≡ s.schema
  pub here : table_at new t ≡ remove (table_at s t) key
  pub others : (u : TableId) → (u.0 ≡ t.0 → ⊥) → table_at new u ≡ table_at s u
  pub row : Row
  pub was : get (table_at s t) key ≡ Some row
  pub childless : has_child s t key ≡ false

pub deleted : (s new : TableState) (t : TableId) (def : TableDef) (old : Row) → applied (Delete t old) s ≡ Some new → slice_get s.schema t.0 ≡ Some def → Deleted s new t (key_of def.primary_key old)
deleted s new t def old is d = by (slice_get s.tables t.0) refl (sym (ap (option_and_then (λ (f : TableDef). option_and_then (λ table. option_map (λ next. record { schema = s.schema; tables = slice_set s.tables t.0 next }) (without_row s t old f table)) (slice_get s.tables t.0))) d) ∙ is)
  where
    found : (o : Option Row) (b : Bool) → (is_found old o && b) ≡ true → (r : Row) × (o ≡ Some r)
    found None b e = cc
    found (Some r) b e = (r, refl)

    none_of : (a b : Bool) → (a && not b) ≡ true → b ≡ false
    none_of true true e = cc
    none_of true false e = refl
    none_of false b e = cc

    at_table : (table : Table) → slice_get s.tables t.0 ≡ Some table → (b : Bool) → (is_there def old table && not (has_child s t (key_of def.primary_key old))) ≡ b
        → option_map (λ next. record { schema = s.schema; tables = slice_set s.tables t.0 next }) (only_if b (remove table (key_of def.primary_key old))) ≡ Some new → Deleted s new t (key_of def.primary_key old)
    at_table table m true good e =
        let k = key_of def.primary_key old in
        let same : record { schema = s.schema; tables = slice_set s.tables t.0 (remove table k) } ≡ new = cc in
        let it : table_at s t ≡ table = ap (λ o. unwrap_or o empty) m in
        let there = found (get table k) (not (has_child s t k)) good in
        record {
          schema = sym (ap (λ x. x.schema) same);
          here = ap (λ x. unwrap_or (slice_get x.tables t.0) empty) (sym same) ∙ ap (λ o. unwrap_or o empty) (get_set s.tables t.0 (remove table k) table m) ∙ ap (λ x. remove x k) (sym it);
          others = λ u n. ap (λ x. unwrap_or (slice_get x.tables u.0) empty) (sym same) ∙ ap (λ o. unwrap_or o empty) (get_set_other s.tables t.0 u.0 (remove table k) n);
          row = there.0;
          was = ap (λ x. get x k) it ∙ there.1;
          childless = none_of (is_there def old table) (has_child s t k) good;
        }
    at_table table m false bad e = cc

    by : (o : Option Table) → slice_get s.tables t.0 ≡ o → option_and_then (λ table. option_map (λ next. record { schema = s.schema; tables = slice_set s.tables t.0 next }) (without_row s t old def table)) o ≡ Some new → Deleted s new t (key_of def.primary_key old)
    by None m e = cc
    by (Some table) m e = at_table table m (is_there def old table && not (has_child s t (key_of def.primary_key old))) refl e

module _ (s new : TableState) (tree : Tree) (t : TableId) (key : Row) (at : ℕ) (i : Deleted s new t key) (stands : StandsAt tree t at) (ws : CoversAll s tree) (wn : CoversAll new tree) where
  seen_is : (x : TableState) → CoversAll x tree → (place : ℕ) (other : Row) → get (kept_at (view_of x tree) place) other ≡ get (kept_at (tables_of x tree) place) other
  seen_is x w place other = ap (λ l. get (kept_at l place) other) (covers_tables x tree w)

  -- of the changed table
  gone : (other : Row) → get (table_at new t) other ≡ cond (is_same other key) None (get (table_at s t) other)
  gone other = ap (λ x. get x other) i.here ∙ get-remove key_total (table_at s t) key other

  before : (other : Row) (o : Ordering) → key_order other key ≡ o → get (table_at s t) other ≡ cond (is_same other key) (Some i.row) (get (table_at new t) other)
  before other Less tie = sym (ap (λ o. cond (is_eq o) (Some i.row) (get (table_at new t) other)) tie ∙ gone other ∙ ap (λ o. cond (is_eq o) None (get (table_at s t) other)) tie)
  before other Greater tie = sym (ap (λ o. cond (is_eq o) (Some i.row) (get (table_at new t) other)) tie ∙ gone other ∙ ap (λ o. cond (is_eq o) None (get (table_at s t) other)) tie)
  before other Equal tie = ap (get (table_at s t)) (key_exact other key tie) ∙ i.was ∙ sym (ap (λ o. cond (is_eq o) (Some i.row) (get (table_at new t) other)) tie)

  stays : (other found : Row) → get (table_at new t) other ≡ Some found → (b : Bool) → is_same other key ≡ b → get (table_at s t) other ≡ Some found
  stays other found is true e = let x : None ≡ Some found = sym (gone other ∙ ap (λ b. cond b None (get (table_at s t) other)) e) ∙ is in cc
  stays other found is false e = sym (gone other ∙ ap (λ b. cond b None (get (table_at s t) other)) e) ∙ is

  more : (u : TableId) (other found : Row) → get (table_at new u) other ≡ Some found → get (table_at s u) other ≡ Some found
  more u other found is = elim (decided u.0 t.0) [
    | inl e ↦ ap (λ j. get (unwrap_or (slice_get s.tables j) empty) other) e ∙ stays other found (ap (λ j. get (unwrap_or (slice_get new.tables j) empty) other) (sym e) ∙ is) (is_same other key) refl
    | inr n ↦ ap (λ x. get x other) (sym (i.others u n)) ∙ is
  ]

  view_at : (place : ℕ) (other : Row) (o : Option TableId) → table_of tree place ≡ o → get (kept_at (tables_of s tree) place) other ≡ cond (is_new at key place other) (Some i.row) (get (kept_at (tables_of new tree) place) other)
  view_at place other None e =
      let apart : nat_eq at place ≡ false = nat_eq_other at place (λ x. let y : Some t ≡ None = sym stands.there ∙ ap (table_of tree) x ∙ e in cc) in
      ap (λ x. get x other) (no_table_in s tree place e) ∙ sym (ap (λ b. cond (b && is_same other key) (Some i.row) (get (kept_at (tables_of new tree) place) other)) apart ∙ ap (λ x. get x other) (no_table_in new tree place e))
  view_at place other (Some u) e = elim (decided u.0 t.0) [
    | inl x ↦
        let same : place ≡ at = stands.alone place u e x in
        ap (λ y. get y other) (table_in s tree place u e) ∙ ap (λ j. get (unwrap_or (slice_get s.tables j) empty) other) x ∙ before other (key_order other key) refl
        ∙ sym (ap (λ b. cond (b && is_same other key) (Some i.row) (get (kept_at (tables_of new tree) place) other)) (eq-eqb at place (sym same))
        ∙ ap (λ v. cond (is_same other key) (Some i.row) v) (ap (λ y. get y other) (table_in new tree place u e) ∙ ap (λ j. get (unwrap_or (slice_get new.tables j) empty) other) x))
    | inr n ↦
        let apart : nat_eq at place ≡ false = nat_eq_other at place (λ x. let y : Some t ≡ Some u = sym stands.there ∙ ap (table_of tree) x ∙ e in let z : t ≡ u = cc in n (ap (λ w. w.0) (sym z))) in
        ap (λ y. get y other) (table_in s tree place u e) ∙ ap (λ y. get y other) (sym (i.others u n))
        ∙ sym (ap (λ b. cond (b && is_same other key) (Some i.row) (get (kept_at (tables_of new tree) place) other)) apart ∙ ap (λ y. get y other) (table_in new tree place u e))
  ]

  -- the state before has one row more than the state behind
  grows : GainsRow new s tree at key i.row
  grows = record {
    schema = sym i.schema;
    more = more;
    view = λ place other. seen_is s ws place other ∙ view_at place other (table_of tree place) refl ∙ ap (λ v. cond (is_new at key place other) (Some i.row) v) (sym (seen_is new wn place other));
  }

  module _ (p q : Row → Bool) (agree : Agree new tree q p) (passes : has_root p (root_at s tree at key) ≡ true) where
    same_none : (b : Bool) → ◌≡◌ {A = Option Row} (cond b None None) None
    same_none true = refl
    same_none false = refl

    not_shown : (other : Row) → is_same other key ≡ true → get (kept_at (shown_of new tree q) at) other ≡ None
    not_shown other e =
        gets_chosen new tree q at other ∙ ap (λ v. cond (has_root q (root_at new tree at other)) v None) (seen_is new wn at other ∙ ap (λ x. get x other) (table_in new tree at t stands.there) ∙ gone other ∙ ap (λ b. cond b None (get (table_at s t) other)) e)
        ∙ same_none (has_root q (root_at new tree at other))

    delete_shown : shown_of new tree q ≡ change_at at (λ table. remove table key) (shown_of s tree p)
    delete_shown =
        let old : List Table = shown_of s tree p in
        let within : at < length old = omega (arith, shown_length s tree p, place_in tree at t stands.there) in
        same_tables (shown_of new tree q) (change_at at (λ table. remove table key) old) (shown_length new tree q ∙ sym (length_change (λ table. remove table key) old at ∙ shown_length s tree p))
        (λ place other. parted place other (nat_eq at place) refl (is_same other key) refl ∙ sym (ap (λ x. get x other) (get_change (λ table. remove table key) old at place within)))
      where
        more_is : (place : ℕ) (other : Row) → get (kept_at (shown_of s tree p) place) other ≡ cond (is_new at key place other) (Some i.row) (get (kept_at (shown_of new tree q) place) other)
        more_is place other = shows_more new s tree at key i.row grows q p agree passes place other

        parted : (place : ℕ) (other : Row) (a : Bool) → nat_eq at place ≡ a → (b : Bool) → is_same other key ≡ b → get (kept_at (shown_of new tree q) place) other ≡ get (cond (nat_eq at place) (remove (kept_at (shown_of s tree p) at) key) (kept_at (shown_of s tree p) place)) other
        parted place other false x b y =
            sym (ap (λ c. get (cond c (remove (kept_at (shown_of s tree p) at) key) (kept_at (shown_of s tree p) place)) other) x ∙ more_is place other ∙ ap (λ c. cond (c && is_same other key) (Some i.row) (get (kept_at (shown_of new tree q) place) other)) x)
        parted place other true x true y =
            ap (λ j. get (kept_at (shown_of new tree q) j) other) (sym (eqb-true at place x)) ∙ not_shown other y
            ∙ sym (ap (λ c. get (cond c (remove (kept_at (shown_of s tree p) at) key) (kept_at (shown_of s tree p) place)) other) x ∙ get-remove key_total (kept_at (shown_of s tree p) at) key other ∙ ap (λ c. cond c None (get (kept_at (shown_of s tree p) at) other)) y)
        parted place other true x false y =
            sym (ap (λ c. get (cond c (remove (kept_at (shown_of s tree p) at) key) (kept_at (shown_of s tree p) place)) other) x ∙ get-remove key_total (kept_at (shown_of s tree p) at) key other ∙ ap (λ c. cond c None (get (kept_at (shown_of s tree p) at) other)) y
            ∙ ap (λ j. get (kept_at (shown_of s tree p) j) other) (eqb-true at place x) ∙ more_is place other
            ∙ ap (λ c. cond (c && is_same other key) (Some i.row) (get (kept_at (shown_of new tree q) place) other)) x ∙ ap (λ c. cond c (Some i.row) (get (kept_at (shown_of new tree q) place) other)) y)

pub shows_delete : (s new : TableState) (tree : Tree) → ShowsDelete s new tree
shows_delete s new tree t def row at p q a agree passes = delete_shown s new tree t (key_of def.primary_key row) at (deleted s new t def row a.applies a.defined) a.stands a.before a.after p q agree passes
