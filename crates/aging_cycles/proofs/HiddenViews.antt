-- The rows that a cycle hides are root rows of the group's view.
use Rattle.std.proofs.Common.{◌≡◌, ℕ, ◌⊎◌, inl, inr, Bool, true, false, cond, ◌&&◌, Option, Some, None, List, [], ◌∷◌, slice_get, refl, sym, ap, subst, ◌∙◌}
use Rattle.std.specs.Bool.{MatchBool}
use Rattle.std.specs.FinMap as fm
use Rattle.std.specs.Option.{option_and_then}
use Rattle.row_types.specs.declared.value.Value.{Value}
use Rattle.row_types.specs.Order.{key_order}
use Rattle.row_types.proofs.OrderLaws.{key_total}
use Rattle.indexed_rows.specs.Rows.{Table, is_same}
use Rattle.indexed_rows.proofs.EntryLaws.{same_values}
use Rattle.table_state.specs.Histories.{state_at}
use Rattle.table_state.specs.Tables.{TableState}
use Rattle.instances.specs.Views.{kept_at, passes, root_rows}
use Rattle.order_laws.specs.Commits.{virtual_state}
use Rattle.order_laws.proofs.TruthLaws.{both_true, same_some}
use Rattle.slot_rows.specs.SlotKeys.{RowsHeld}
use Rattle.group_store.specs.Hiding.{hidden_with}
use Rattle.group_store.specs.Stores.{Kept, cut_store}
use Rattle.cache_tier.specs.Groups.{Group, is_read_only}
use Rattle.cache_tier.specs.Shown.{shown_where, shows_root, state_behind}
use Rattle.cache_tier.specs.Worlds.{World}
use Rattle.cache_tier.proofs.ShownTables.{cond_some}
use Rattle.stored_tier.specs.declared.tier.Tier.{Tier as Stored}
use Rattle.stored_tier.specs.Lists.{HidesView, hides_keys, is_by_time, view_roots}
use Rattle.stored_tier.specs.Performing.{StandsFor}
use Rattle.stored_tier.specs.Stored.{HidesRows, IsSound, without_list}
use Rattle.stored_tier.proofs.HiddenRows.{group_behind}
use Rattle.aging_cycles.specs.Cycles.{is_due_at, keys_leaving}
use Rattle.aging_cycles.specs.Running.{HaveRun, RunsAt, StaysAt, behind_cycle, hidden_all}
use Rattle.aging_cycles.proofs.KeyLists.{root_cut}
use Rattle.aging_cycles.proofs.RootRows.{nothing_kept}
use Rattle.aging_cycles.proofs.Shows.{roots_are, store_root}

abbrev Row : Type 0
Row = List Value

-- ---- a row that is hidden was hidden before, or in the store

cond_first : (b : Bool) (o : Option Row) (r : Row) → cond b None o ≡ Some r → o ≡ Some r
cond_first true o r e = cc
cond_first false o r e = e

put_from : (hid : Table) (k row q r : Row) → fm.get (hidden_with (Some row) k hid) q ≡ Some r → (fm.get hid q ≡ Some r) ⊎ ((q ≡ k) × (row ≡ r))
put_from hid k row q r e = by (fm.contains_key hid k) refl
  where
    own : (b : Bool) → is_same q k ≡ b → cond b (Some row) (fm.get hid q) ≡ Some r → (fm.get hid q ≡ Some r) ⊎ ((q ≡ k) × (row ≡ r))
    own true same is = inr (same_values q k same, same_some is)
    own false same is = inl is

    by : (b : Bool) → fm.contains_key hid k ≡ b → (fm.get hid q ≡ Some r) ⊎ ((q ≡ k) × (row ≡ r))
    by true has = inl (sym (ap (λ b. fm.get (cond b hid (fm.insert hid k row)) q) has) ∙ e)
    by false has = own (is_same q k) refl (sym (ap (λ b. fm.get (cond b hid (fm.insert hid k row)) q) has ∙ fm.get-insert key_total hid k row q) ∙ e)

with_from : (K hid : Table) (k q r : Row) (o : Option Row) → fm.get K k ≡ o → fm.get (hidden_with o k hid) q ≡ Some r → (fm.get hid q ≡ Some r) ⊎ (fm.get K q ≡ Some r)
with_from K hid k q r None at e = inl e
with_from K hid k q r (Some row) at e = by (put_from hid k row q r e)
  where
    by : (fm.get hid q ≡ Some r) ⊎ ((q ≡ k) × (row ≡ r)) → (fm.get hid q ≡ Some r) ⊎ (fm.get K q ≡ Some r)
    by (inl before) = inl before
    by (inr (same, is)) = inr (ap (fm.get K) same ∙ at ∙ ap Some is)

hidden_from : (ks : List Row) (s : Kept) (hid : Table) (q r : Row) → fm.get (hidden_all ks s hid) q ≡ Some r → (fm.get hid q ≡ Some r) ⊎ (fm.get (kept_at s.tables 0) q ≡ Some r)
hidden_from [] s hid q r e = inl e
hidden_from (k ∷ ks) s hid q r e = by (hidden_from ks (cut_store 0 k s) (hidden_with (fm.get (kept_at s.tables 0) k) k hid) q r e)
  where
    by : (fm.get (hidden_with (fm.get (kept_at s.tables 0) k) k hid) q ≡ Some r) ⊎ (fm.get (kept_at (cut_store 0 k s).tables 0) q ≡ Some r) → (fm.get hid q ≡ Some r) ⊎ (fm.get (kept_at s.tables 0) q ≡ Some r)
    by (inl one) = with_from (kept_at s.tables 0) hid k q r (fm.get (kept_at s.tables 0) k) refl one
    by (inr cut) = inr (cond_first (is_same q k) (fm.get (kept_at s.tables 0) q) r (sym (root_cut k s q) ∙ cut))

-- ---- a root row of a store is one of the view

pub store_view : (t : Stored) (w : World) (sound : IsSound t) (stands : StandsFor t w) (place : ℕ) (g : Group) (at : slice_get w.tier.groups place ≡ Some g) (store : Kept) (kept : slice_get t.stores.items place ≡ Some store) → is_read_only g ≡ true
    → (q r : Row) → fm.get (kept_at store.tables 0) q ≡ Some r → fm.get (view_roots (option_and_then (state_at w.history) g.position) g.def.tree.root) q ≡ Some r
store_view t w sound stands place g at store kept reads q r e = by (state_behind w.history w.tier.log g) refl
  where
    its : state_behind w.history w.tier.log g ≡ option_and_then (state_at w.history) g.position
    its = ap (λ b. cond b (option_and_then (state_at w.history) g.position) (virtual_state w.history w.tier.log)) reads

    by : (o : Option TableState) → state_behind w.history w.tier.log g ≡ o → fm.get (view_roots (option_and_then (state_at w.history) g.position) g.def.tree.root) q ≡ Some r
    by None is =
        let wrong : None ≡ Some r = sym (fm.get-empty key_order q) ∙ ap (λ (m : Table). fm.get m q) (sym (roots_are t w sound stands place g at store kept ∙ ap (λ o. kept_at (shown_where o g) 0) is ∙ nothing_kept 0)) ∙ e in cc
    by (Some s) is =
        ap (λ o. fm.get (view_roots o g.def.tree.root) q) (sym its ∙ is)
        ∙ cond_some (passes (shows_root s g) (fm.get (root_rows s g.def.tree.root) q)) (fm.get (root_rows s g.def.tree.root) q) r (sym (store_root t w sound stands place g at store kept s is q) ∙ e)

-- ---- behind all cycles

hides_reads : (g : Group) → hides_keys g ≡ true → is_read_only g ≡ true
hides_reads g hides = (both_true (is_read_only g) g.def.dynamic (both_true (is_read_only g && g.def.dynamic) (is_by_time g.def.aging) hides).0).0

pub hides_run : (t new : Stored) (w : World) → IsSound t → HaveRun t new → StandsFor t w → HidesRows new w.history
hides_run t new w sound run stands k g x at hides there = by (is_due_at t k) (run.each k)
  where
    by : (b : Bool) → MatchBool b (RunsAt t new k) (StaysAt t new k) → HidesView w.history g x.table
    by false stays = stands.hides k g x (sym stays.groups ∙ at) hides (sym stays.hidden ∙ there)
    by true ran =
        let same : behind_cycle t.clock.now ran.group ≡ g = same_some (sym ran.group_is ∙ at) in
        let rows : ran.behind ≡ x = same_some (sym ran.behind_is ∙ there) in
        let hiding : hides_keys ran.group ≡ true = ap hides_keys same ∙ hides in
        subst (λ y. HidesView w.history y x.table) same (subst (λ (y : RowsHeld). HidesView w.history ran.group y.table) rows (behind hiding))
      where
        was : (x : Group) × (slice_get w.tier.groups k ≡ Some x) × (without_list x ≡ ran.group)
        was = group_behind t w k ran.group stands ran.there

        behind : hides_keys ran.group ≡ true → HidesView w.history ran.group ran.behind.table
        behind hiding q r e =
            from (hidden_from (keys_leaving t ran.group ran.store) ran.store ran.hidden.table q r (sym (ap (λ (m : Table). fm.get m q) (ran.does.rows ∙ ap (λ b. cond b (hidden_all (keys_leaving t ran.group ran.store) ran.store ran.hidden.table) ran.hidden.table) hiding)) ∙ e))
          where
            from : (fm.get ran.hidden.table q ≡ Some r) ⊎ (fm.get (kept_at ran.store.tables 0) q ≡ Some r) → fm.get (view_roots (option_and_then (state_at w.history) ran.group.position) ran.group.def.tree.root) q ≡ Some r
            from (inl before) = stands.hides k ran.group ran.hidden ran.there hiding ran.hid q r before
            from (inr shown) =
                subst (λ (y : Group). fm.get (view_roots (option_and_then (state_at w.history) y.position) y.def.tree.root) q ≡ Some r) was.2
                (store_view t w sound stands k was.0 was.1 ran.store ran.kept (ap is_read_only was.2 ∙ hides_reads ran.group hiding) q r shown)
