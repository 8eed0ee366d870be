-- What a group gains, where an instance is wanted, by the instances that were told.
use Rattle.std.proofs.Common.{◌≡◌, ◌⊎◌, inl, inr, ℕ, Bool, true, false, not, cond, ◌&&◌, ◌||◌, nat_eq, Option, Some, None, is_some, List, [], ◌∷◌, length, map, slice_get, refl, sym, ap, subst, ◌∙◌, arith}
use Rattle.std.proofs.lemmas.Bool.{eqb-true}
use Rattle.std.specs.FinMap as fm
use Rattle.row_types.specs.Order.{key_order}
use Rattle.row_types.specs.declared.value.Value.{Value}
use Rattle.row_types.proofs.OrderLaws.{key_total}
use Rattle.indexed_rows.specs.Rows.{Table, is_same, put_in}
use Rattle.indexed_rows.proofs.EntryLaws.{same_values}
use Rattle.table_state.specs.Tables.{TableState, table_at}
use Rattle.instances.specs.declared.tree.Tree.{Tree}
use Rattle.instances.specs.Roots.{root_of}
use Rattle.instances.specs.Views.{kept_at, passes, root_rows, selects}
use Rattle.instances.proofs.Gathering.{get_where}
use Rattle.outside.specs.Changes.{is_root, is_wanted}
use Rattle.group_catalog.specs.Catalogs.{groups_in}
use Rattle.group_store.specs.Stores.{Kept}
use Rattle.slot_rows.specs.SlotKeys.{RowsHeld}
use Rattle.cache_tier.specs.Groups.{Group, is_key}
use Rattle.cache_tier.specs.Shown.{exceeds}
use Rattle.cache_tier.specs.Wants.{Want}
use Rattle.stored_tier.specs.Filling.{is_held}
use Rattle.stored_tier.specs.declared.tier.Tier.{Tier as Stored}
use Rattle.changed_sets.specs.Alike.{IsAlike}
use Rattle.changed_sets.specs.Fresh.{gained_at}
use Rattle.changed_sets.specs.Gains.{found_in, found_row, found_under, gained_keys, is_past_row, keys_found, rows_wanted}
use Rattle.changed_sets.proofs.CopyLaws.{alike_root}

abbrev Row : Type 0
Row = List Value

-- These keys are those of the root rows that a row is wanted of, where they are in the view, past the horizon, and the
-- group doesn't have them.
pub record AreGains (state : TableState) (g : Group) (s : Kept) (hidden : Table) (gains : Bool) (wanted : Row → Bool) (more : List Row) : Type 0 where
  pub same : (k : Row) → passes (exceeds g) (fm.get (root_rows state g.def.tree.root) k) ≡ true → is_held s hidden k ≡ false → (gains && wanted k) ≡ is_key more k
  pub told : (k : Row) → is_key more k ≡ true → wanted k ≡ true
  pub unheld : (k : Row) → is_key more k ≡ true → is_held s hidden k ≡ false
  pub past : (k : Row) → is_key more k ≡ true → passes (exceeds g) (fm.get (root_rows state g.def.tree.root) k) ≡ true
  pub few : (more ≡ []) ⊎ ((k : Row) × (more ≡ k ∷ []))

-- ---- the keys of no row, and of one

no_key : fm.keys (fm.empty {X = Row} {R = key_order}) ≡ []
no_key = ap (λ (es : List (Row × Row)). map (λ e. e.0) es) (none (fm.entries (fm.empty {X = Row} {R = key_order})) (sym (fm.len-entries fm.empty) ∙ fm.len-empty key_order Row))
  where
    none : (l : List (Row × Row)) → length l ≡ 0 → l ≡ []
    none [] e = refl
    none (x ∷ l) e = absurd (Prim.omega (arith, e))

abbrev lone : Row → Row → Bool → Table
lone k row there = cond there fm.empty (fm.insert fm.empty k row)

lone_entries : (k row : Row) → fm.entries (put_in fm.empty k row) ≡ (k, row) ∷ []
lone_entries k row =
    ap (λ (b : Bool). fm.entries (lone k row b)) (ap is_some (fm.get-empty {X = Row} key_order k))
    ∙ fm.entries-insert key_total (fm.empty {X = Row} {R = key_order}) k row
    ∙ ap (fm.put key_order k row) (none (fm.entries (fm.empty {X = Row} {R = key_order})) (sym (fm.len-entries fm.empty) ∙ fm.len-empty key_order Row))
  where
    none : (l : List (Row × Row)) → length l ≡ 0 → l ≡ []
    none [] e = refl
    none (x ∷ l) e = absurd (Prim.omega (arith, e))

lone_key : (k row : Row) → fm.keys (put_in fm.empty k row) ≡ k ∷ []
lone_key k row = ap (λ (es : List (Row × Row)). map (λ e. e.0) es) (lone_entries k row)

-- ---- nothing is gained

none_gained : (state : TableState) (g : Group) (s : Kept) (hidden : Table) (gains : Bool) (wanted : Row → Bool) (more : List Row) → more ≡ []
    → ((k : Row) → passes (exceeds g) (fm.get (root_rows state g.def.tree.root) k) ≡ true → is_held s hidden k ≡ false → (gains && wanted k) ≡ false) → AreGains state g s hidden gains wanted more
none_gained state g s hidden gains wanted more none not_wanted = record {
  same = λ k past unheld. not_wanted k past unheld ∙ sym (ap (λ l. is_key l k) none);
  told = λ k e. (let wrong : false ≡ true = sym (ap (λ l. is_key l k) none) ∙ e in cc);
  unheld = λ k e. (let wrong : false ≡ true = sym (ap (λ l. is_key l k) none) ∙ e in cc);
  past = λ k e. (let wrong : false ≡ true = sym (ap (λ l. is_key l k) none) ∙ e in cc);
  few = inl none;
}

-- ---- what is found of a group

module _ (state : TableState) (g : Group) (s : Kept) (hidden : Table) (gains : Bool) (gains_is : gains ≡ true) where
  abbrev T : Table
  T = table_at state g.def.tree.root.table

  -- of a root row in the view
  viewed : (k row : Row) → fm.get (table_at state g.def.tree.root.table) k ≡ Some row → passes (exceeds g) (fm.get (root_rows state g.def.tree.root) k) ≡ is_past_row g row
  viewed k row e =
      ap (passes (exceeds g)) (get_where (selects g.def.tree.root.filter) (table_at state g.def.tree.root.table) k)
      ∙ ap (λ o. passes (exceeds g) (cond (passes (selects g.def.tree.root.filter) o) o None)) e
      ∙ by (selects g.def.tree.root.filter row)
    where
      by : (b : Bool) → passes (exceeds g) (cond b (Some row) None) ≡ (b && exceeds g row)
      by true = refl
      by false = refl

  not_viewed : (k : Row) → fm.get (table_at state g.def.tree.root.table) k ≡ None → passes (exceeds g) (fm.get (root_rows state g.def.tree.root) k) ≡ false
  not_viewed k e =
      ap (passes (exceeds g)) (get_where (selects g.def.tree.root.filter) (table_at state g.def.tree.root.table) k)
      ∙ ap (λ o. passes (exceeds g) (cond (passes (selects g.def.tree.root.filter) o) o None)) e

  -- the wanted root row isn't gained
  left_out : (q : Row) (more : List Row) → more ≡ [] → ((k : Row) → k ≡ q → passes (exceeds g) (fm.get (root_rows state g.def.tree.root) k) ≡ true → is_held s hidden k ≡ false → ⊥) → AreGains state g s hidden gains (λ k. is_same k q || false) more
  left_out q more none out = none_gained state g s hidden gains (λ k. is_same k q || false) more none
      (λ k past unheld. ap (λ b. b && (is_same k q || false)) gains_is ∙ by k past unheld (is_same k q) refl)
    where
      by : (k : Row) → passes (exceeds g) (fm.get (root_rows state g.def.tree.root) k) ≡ true → is_held s hidden k ≡ false → (b : Bool) → is_same k q ≡ b → (is_same k q || false) ≡ false
      by k past unheld true e = absurd (out k (same_values k q e) past unheld)
      by k past unheld false e = ap (λ b. b || false) e

  found_gains : (o : Option Row) → AreGains state g s hidden gains (λ k. is_root k o || false) (fm.keys (found_under g s hidden state o))
  found_gains None = none_gained state g s hidden gains (λ k. false) (fm.keys (found_under g s hidden state None)) no_key (λ k past unheld. ap (λ b. b && false) gains_is)
  found_gains (Some q) = of (fm.get (table_at state g.def.tree.root.table) q) refl
    where
      of : (o : Option Row) → fm.get (table_at state g.def.tree.root.table) q ≡ o → AreGains state g s hidden gains (λ k. is_same k q || false) (fm.keys (found_row g s hidden q (fm.get (table_at state g.def.tree.root.table) q)))
      of None e =
          left_out q (fm.keys (found_row g s hidden q (fm.get (table_at state g.def.tree.root.table) q))) (ap (λ o. fm.keys (found_row g s hidden q o)) e ∙ no_key)
          (λ k same past unheld. (let wrong : true ≡ false = sym past ∙ not_viewed k (ap (fm.get (table_at state g.def.tree.root.table)) same ∙ e) in cc))
      of (Some row) e = pick (is_past_row g row) refl (is_held s hidden q) refl
        where
          keys_are : (a h : Bool) → is_past_row g row ≡ a → is_held s hidden q ≡ h → fm.keys (found_row g s hidden q (fm.get (table_at state g.def.tree.root.table) q)) ≡ fm.keys (cond (a && not h) (put_in fm.empty q row) fm.empty)
          keys_are a h x y =
              ap (λ o. fm.keys (found_row g s hidden q o)) e
              ∙ (λ i. fm.keys (cond (x i && not (y i)) (put_in fm.empty q row) fm.empty))

          pick : (a : Bool) → is_past_row g row ≡ a → (h : Bool) → is_held s hidden q ≡ h → AreGains state g s hidden gains (λ k. is_same k q || false) (fm.keys (found_row g s hidden q (fm.get (table_at state g.def.tree.root.table) q)))
          pick true x false y =
              let keys : fm.keys (found_row g s hidden q (fm.get (table_at state g.def.tree.root.table) q)) ≡ q ∷ [] = keys_are true false x y ∙ lone_key q row in
              record {
                same = λ k past unheld. ap (λ b. b && (is_same k q || false)) gains_is ∙ sym (ap (λ l. is_key l k) keys);
                told = λ k f. sym (ap (λ l. is_key l k) keys) ∙ f;
                unheld = λ k f. ap (is_held s hidden) (one k (sym (ap (λ l. is_key l k) keys) ∙ f)) ∙ y;
                past = λ k f. (
                    let same = one k (sym (ap (λ l. is_key l k) keys) ∙ f) in
                    ap (λ z. passes (exceeds g) (fm.get (root_rows state g.def.tree.root) z)) same ∙ viewed q row e ∙ x);
                few = inr (q, keys);
              }
            where
              one : (k : Row) → (is_same k q || false) ≡ true → k ≡ q
              one k f = by (is_same k q) refl f
                where
                  by : (b : Bool) → is_same k q ≡ b → (b || false) ≡ true → k ≡ q
                  by true u v = same_values k q u
                  by false u v = cc
          pick true x true y =
              left_out q (fm.keys (found_row g s hidden q (fm.get (table_at state g.def.tree.root.table) q))) (keys_are true true x y ∙ no_key)
              (λ k same past unheld. (let wrong : true ≡ false = sym y ∙ ap (is_held s hidden) (sym same) ∙ unheld in cc))
          pick false x h y =
              left_out q (fm.keys (found_row g s hidden q (fm.get (table_at state g.def.tree.root.table) q))) (keys_are false h x y ∙ no_key)
              (λ k same past unheld. (
              let wrong : true ≡ false = sym past ∙ ap (λ z. passes (exceeds g) (fm.get (root_rows state g.def.tree.root) z)) same ∙ viewed q row e ∙ x in
              cc))

-- ---- so it is of the group at a place

gained_here : (place : ℕ) (more : List Row) (k : ℕ) (b : Bool) → nat_eq k place ≡ b → gained_at place more k ≡ cond b more []
gained_here place [] k true e = refl
gained_here place [] k false e = refl
gained_here place (key ∷ more) k b e = ap (λ c. cond c (key ∷ more) []) e

module _ (t : Stored) (place : ℕ) (want : Option Want) (state : TableState) (k : ℕ) (g : Group) (s n : Kept) (x : RowsHeld) (u : Tree) (alike : IsAlike g.def.tree u) (there : slice_get (groups_in t.catalog) k ≡ Some g) (kept : slice_get t.stores.items k ≡ Some n) (same : n.tables ≡ s.tables)
    (held : slice_get t.hidden.items k ≡ Some x) where
  here : (want : Option Want) → nat_eq k place ≡ true → AreGains state g s x.table (nat_eq k place) (is_wanted state u (rows_wanted want)) (gained_keys t place want state)
  here None e = none_gained state g s x.table (nat_eq k place) (λ q. false) [] refl (λ q past unheld. and_false (nat_eq k place))
    where
      and_false : (b : Bool) → (b && false) ≡ false
      and_false true = refl
      and_false false = refl
  here (Some w) e =
      let at : k ≡ place = eqb-true k place e in
      let keys : gained_keys t place (Some w) state ≡ fm.keys (found_in g s x.table w state) =
      ap (λ i. keys_found (slice_get (groups_in t.catalog) i) (slice_get t.stores.items i) (slice_get t.hidden.items i) w state) (sym at)
      ∙ (λ i. keys_found (there i) (kept i) (held i) w state)
      ∙ by_tables (root_of state g.def.tree w.table w.key) in
      subst (AreGains state g s x.table (nat_eq k place) (is_wanted state u (rows_wanted (Some w)))) (sym keys)
      (subst (λ (o : Option Row). AreGains state g s x.table (nat_eq k place) (λ q. is_root q o || false) (fm.keys (found_in g s x.table w state))) (sym (alike_root state g.def.tree u alike w.table w.key))
      (found_gains state g s x.table (nat_eq k place) e (root_of state g.def.tree w.table w.key)))
    where
      -- the room in the store plays no part
      by_row : (q : Row) (o : Option Row) → fm.keys (found_row g n x.table q o) ≡ fm.keys (found_row g s x.table q o)
      by_row q None = refl
      by_row q (Some row) = ap (λ ts. fm.keys (cond (is_past_row g row && not (fm.contains_key (kept_at ts 0) q || fm.contains_key x.table q)) (put_in fm.empty q row) fm.empty)) same

      by_tables : (o : Option Row) → fm.keys (found_under g n x.table state o) ≡ fm.keys (found_under g s x.table state o)
      by_tables None = refl
      by_tables (Some q) = by_row q (fm.get (table_at state g.def.tree.root.table) q)

  pub gains_here : AreGains state g s x.table (nat_eq k place) (is_wanted state u (rows_wanted want)) (gained_at place (gained_keys t place want state) k)
  gains_here = by (nat_eq k place) refl
    where
      by : (b : Bool) → nat_eq k place ≡ b → AreGains state g s x.table (nat_eq k place) (is_wanted state u (rows_wanted want)) (gained_at place (gained_keys t place want state) k)
      by true e = subst (AreGains state g s x.table (nat_eq k place) (is_wanted state u (rows_wanted want))) (sym (gained_here place (gained_keys t place want state) k true e)) (here want e)
      by false e =
          none_gained state g s x.table (nat_eq k place) (is_wanted state u (rows_wanted want)) (gained_at place (gained_keys t place want state) k) (gained_here place (gained_keys t place want state) k false e)
          (λ q past unheld. ap (λ b. b && is_wanted state u (rows_wanted want) q) e)
