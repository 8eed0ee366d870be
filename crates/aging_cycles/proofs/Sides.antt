-- Sessions write through groups that aren't READONLY: they hold no key of a READONLY group's rows.
use Rattle.std.proofs.Common.{◌≡◌, ℕ, Bool, true, false, ◌||◌, Some, is_some, List, [], ◌∷◌, slice_get, refl, sym, ap, ◌∙◌}
use Rattle.std.specs.List.{list_all, list_any}
use Rattle.row_types.specs.declared.value.Value.{Value}
use Rattle.tier_base.specs.declared.number.TableId.{TableId}
use Rattle.table_state.specs.Copies.{is_one_of}
use Rattle.table_state.specs.declared.operation.Op.{Op}
use Rattle.table_state.specs.Footprints.{footprint_of, is_in}
use Rattle.table_state.specs.Tables.{TableState}
use Rattle.order_laws.specs.Sides.{are_on}
use Rattle.order_laws.proofs.TruthLaws.{both_true, never_both, not_both, same_some}
use Rattle.cache_tier.specs.Groups.{Group, covers, is_read_only, is_writethrough}
use Rattle.cache_tier.specs.Locks.{has_writes_in, instance_rows, tree_tables}
use Rattle.cache_tier.specs.Shown.{all_over, instances_where, root_key, shown_state}
use Rattle.cache_tier.specs.TierStates.{Session}
use Rattle.cache_tier.specs.Worlds.{World}
use Rattle.cache_tier.specs.StandingBetween.{IsCatalogued, Stands, own_writes}
use Rattle.cache_tier.proofs.ChosenGroups.{each_at}
use Rattle.cache_tier.proofs.GroupTables.{IsFound, each_own, live_at, live_table, read_only_not}
use Rattle.cache_tier.proofs.HeldKeys.{held_on}
use Rattle.cache_tier.proofs.HistoryKeeps.{all_through_on}
use Rattle.cache_tier.proofs.SessionLaws.{known}
use Rattle.cache_tier.proofs.ShownTables.{live_of}
use Rattle.cache_tier.proofs.ShownTrees.{place_there}
use Rattle.aging_cycles.proofs.Within.{listed, table_listed}

abbrev Row : Type 0
Row = List Value

module _ (w : World) (x : Stands w) (place : ℕ) (g : Group) (at : slice_get w.tier.groups place ≡ Some g) (reads : is_read_only g ≡ true) where
  -- its tables are of no writethrough group
  not_live : (u : TableId) → covers u g ≡ true → is_one_of (live_of w.tier) u ≡ false
  not_live u c = not_both (is_one_of (live_of w.tier) u) (λ on.
      let l = live_at w.tier.groups u x.catalog.apart (sym (live_table w.tier.groups u) ∙ on) in
      let same : l.group ≡ g = same_some (sym l.found ∙ each_at (IsFound w.tier.groups) w.tier.groups place g (each_own w.tier.groups x.catalog.apart) at u c) in
      never_both (is_read_only g) reads (read_only_not g (ap is_writethrough (sym same) ∙ l.through)))

  -- no row of its instances has a key that a session holds
  none_held : (s : TableState) (test : Row → Bool) (ops : List Op) → are_on (live_of w.tier) ops ≡ true → list_any (λ z. is_in (footprint_of w.tier.schema ops) z) (instance_rows s g test) ≡ false
  none_held s test ops on = not_both (list_any (λ z. is_in (footprint_of w.tier.schema ops) z) (instance_rows s g test)) (λ h.
      let r = listed (λ z. is_in (footprint_of w.tier.schema ops) z) (tree_tables g.def.tree) (instances_where s g.def.tree (λ row. test (root_key s g row))) h in
      let sound = (each_at (IsCatalogued w.tier.schema) w.tier.groups place g x.catalog.each at).sound in
      let c : covers r.table g ≡ true = ap is_some (place_there w.tier.schema g.def.tree r.place r.table sound (sym (table_listed g.def.tree r.place) ∙ r.there)) in
      never_both (is_one_of (live_of w.tier) r.table) (held_on (live_of w.tier) w.tier.schema (known w x).closed_shown ops on (record { table = r.table; key = r.key }) r.passes)
      (not_live r.table c))

  none_in : (test : Row → Bool) (s : Session) → are_on (live_of w.tier) s.own ≡ true → has_writes_in w.history w.tier g test s ≡ false
  none_in test s on = λ i. none_held (shown_state w.history w.tier) test s.own on i || none_held (all_over s.own (shown_state w.history w.tier)) test s.own on i

  none_of : (test : Row → Bool) (sessions : List Session) → list_all (are_on (live_of w.tier)) (own_writes sessions) ≡ true → list_any (has_writes_in w.history w.tier g test) sessions ≡ false
  none_of test [] on = refl
  none_of test (s ∷ sessions) on =
      let (first, rest) = both_true (are_on (live_of w.tier) s.own) (list_all (are_on (live_of w.tier)) (own_writes sessions)) on in
      λ i. none_in test s first i || none_of test sessions rest i

  -- no session writes in its instances
  pub unwritten : (test : Row → Bool) → list_any (has_writes_in w.history w.tier g test) w.tier.sessions ≡ false
  unwritten test = none_of test w.tier.sessions (all_through_on w.tier.groups (own_writes w.tier.sessions) ∙ x.sessions.through)
