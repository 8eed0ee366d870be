-- A refresh of READONLY groups.
use Rattle.std.proofs.Common.{◌≡◌, ℕ, zero, suc, ◌+◌, Bool, true, false, cond, ◌&&◌, Option, Some, None, is_some, List, [], ◌∷◌, length, slice_get, take, unwrap_or, refl, sym, ap, ◌∙◌, arith}
use Rattle.std.specs.List.{filter, find}
use Rattle.std.specs.FinMap as fm
use Rattle.std.specs.FinMap.{empty}
use Rattle.row_types.specs.Order.{key_order}
use Rattle.row_types.proofs.OrderLaws.{key_exact, key_total}
use Rattle.tier_base.specs.declared.number.TableId.{TableId}
use Rattle.table_defs.specs.declared.definition.TableDef.{TableDef}
use Rattle.indexed_rows.specs.Rows.{Table}
use Rattle.table_state.specs.Histories.{state_at}
use Rattle.table_state.specs.Independence.{IsWhole}
use Rattle.table_state.specs.Tables.{TableState, table_at}
use Rattle.instances.specs.Trees.{place_of}
use Rattle.instances.specs.Views.{kept_at, passes, root_rows, rows_where, selects, with_children}
use Rattle.instances.proofs.Gathering.{get_where}
use Rattle.order_laws.specs.Commits.{virtual_state}
use Rattle.order_laws.specs.Effects.{row_at}
use Rattle.order_laws.specs.Sides.{AgreeOn}
use Rattle.order_laws.proofs.TruthLaws.{never_both}
use Rattle.cache_tier.specs.Groups.{Group, covers, group_over, is_explicit, is_key, is_read_only, is_writethrough}
use Rattle.cache_tier.specs.Sets.{Choice, at_position, changed_from, is_in_view, refreshed}
use Rattle.cache_tier.specs.Shown.{exceeds, root_key, shown, shown_in, shown_state, shown_table, shown_where, shows_root, table_of_group}
use Rattle.cache_tier.specs.TierStates.{Tier}
use Rattle.cache_tier.specs.Worlds.{World}
use Rattle.cache_tier.proofs.ApartLaws.{refresh}
use Rattle.cache_tier.specs.StandingBetween.{HasKeys, IsCatalogued, IsReadWithin, Stands, own_writes}
use Rattle.cache_tier.specs.Events.{with_tier}
use Rattle.cache_tier.specs.Refreshing.{MayRefresh, ShowsRefreshed}
use Rattle.cache_tier.proofs.ChosenGroups.{changed_kept, each_at, each_chosen, found_changed, table_unchosen}
use Rattle.cache_tier.proofs.GroupPairs.{IsKept}
use Rattle.cache_tier.proofs.GroupTables.{live_at, live_table, over_is_found, read_only_not}
use Rattle.cache_tier.proofs.HistoryKeeps.{all_through_on, applies_stay}
use Rattle.cache_tier.proofs.KeyListLaws.{key_left}
use Rattle.cache_tier.proofs.PartLaws.{Row}
use Rattle.cache_tier.proofs.Regrouping.{regrouped}
use Rattle.cache_tier.proofs.SessionLaws.{Known, known}
use Rattle.cache_tier.proofs.ShownTables.{from_length, live_of, no_table_shown, table_shown}
use Rattle.cache_tier.proofs.ShownTrees.{front_kept}
use Rattle.cache_tier.proofs.SoundStates.{IsSoundState, sound_history}

-- a row's table is defined
row_defined : (s : TableState) (t : TableId) (k row : Row) → IsWhole s → row_at s t k ≡ Some row → (d : TableDef) × (slice_get s.schema t.0 ≡ Some d)
row_defined s t k row whole e = by (slice_get s.schema t.0) refl
  where
    past : (defs : List TableDef) (tables : List Table) (i : ℕ) → length tables ≡ length defs → slice_get defs i ≡ None → unwrap_or (slice_get tables i) empty ≡ empty
    past [] [] i l n = refl
    past [] (m ∷ tables) i l n = absurd (Prim.omega (arith, l))
    past (d ∷ defs) [] i l n = refl
    past (d ∷ defs) (m ∷ tables) zero l n = Prim.cc
    past (d ∷ defs) (m ∷ tables) (suc i) l n = past defs tables i (Prim.omega (arith, l)) n

    by : (o : Option TableDef) → slice_get s.schema t.0 ≡ o → (d : TableDef) × (slice_get s.schema t.0 ≡ Some d)
    by (Some d) is = (d, is)
    by None is = let wrong : None ≡ Some row = sym (fm.get-empty key_order k) ∙ ap (λ (m : Table). fm.get m k) (sym (past s.schema s.tables t.0 whole is)) ∙ e in Prim.cc

same_where : (p q : Row → Bool) (m : Table) → ((k row : Row) → fm.get m k ≡ Some row → p row ≡ q row) → rows_where p m ≡ rows_where q m
same_where p q m same = fm.same_map key_total key_exact (rows_where p m) (rows_where q m) (λ k. get_where p m k ∙ by k (fm.get m k) refl ∙ sym (get_where q m k))
  where
    by : (k : Row) (o : Option Row) → fm.get m k ≡ o → cond (passes p (fm.get m k)) (fm.get m k) None ≡ cond (passes q (fm.get m k)) (fm.get m k) None
    by k None e = ap (λ (o : Option Row). cond (passes p o) o None) e ∙ sym (ap (λ (o : Option Row). cond (passes q o) o None) e)
    by k (Some r) e = ap (λ (o : Option Row). cond (passes p o) o None) e ∙ ap (λ b. cond b (Some r) None) (same k r e) ∙ sym (ap (λ (o : Option Row). cond (passes q o) o None) e)

-- behind a refresh a group shows of the new state what its keys were before: those that left have no row there
pub refreshed_in : (n : ℕ) (s : TableState) (g : Group) → IsSoundState s → is_read_only g ≡ true → shown_in s (at_position n s g) ≡ shown_in s g
refreshed_in n s g sound reads = ap (λ m. with_children s g.def.tree.children (m ∷ [])) (same_where (shows_root s (at_position n s g)) (shows_root s g) (root_rows s g.def.tree.root) same)
  where
    key_is : (k row : Row) → fm.get (root_rows s g.def.tree.root) k ≡ Some row → root_key s g row ≡ k
    key_is k row e =
        let at : row_at s g.def.tree.root.table k ≡ Some row = Rattle.cache_tier.proofs.ShownTables.cond_some (passes (selects g.def.tree.root.filter) (row_at s g.def.tree.root.table k)) (row_at s g.def.tree.root.table k) row (sym (get_where (selects g.def.tree.root.filter) (table_at s g.def.tree.root.table) k) ∙ e) in
        let (d, d_is) = row_defined s g.def.tree.root.table k row sound.whole at in
        ap (λ o. Rattle.evaluator.specs.Cascades.key_in o row) d_is ∙ sound.keyed g.def.tree.root.table d d_is k row at

    in_view : (k row : Row) → fm.get (root_rows s g.def.tree.root) k ≡ Some row → exceeds g row ≡ true → is_in_view s g k ≡ true
    in_view k row e x =
        ap (λ (m : Table). fm.contains_key m k) (front_kept s g.def.tree.children (rows_where (exceeds g) (root_rows s g.def.tree.root) ∷ []) 0 (Prim.omega arith))
        ∙ ap is_some (get_where (exceeds g) (root_rows s g.def.tree.root) k ∙ ap (λ (o : Option Row). cond (passes (exceeds g) o) o None) e ∙ ap (λ b. cond b (Some row) None) x)

    same : (k row : Row) → fm.get (root_rows s g.def.tree.root) k ≡ Some row → shows_root s (at_position n s g) row ≡ shows_root s g row
    same k row e = by (exceeds g row) refl
      where
        of : (a b x : Bool) → x ≡ false → (a && x) ≡ (b && x)
        of a b x none = and_none a x none ∙ sym (and_none b x none)
          where
            and_none : (c y : Bool) → y ≡ false → (c && y) ≡ false
            and_none true y h = h
            and_none false y h = refl

        tells : (b : Bool) → cond (is_read_only g) (cond (is_explicit g) g.loaded b && exceeds g row) b ≡ (cond (is_explicit g) g.loaded b && exceeds g row)
        tells b = ap (λ c. cond c (cond (is_explicit g) g.loaded b && exceeds g row) b) reads

        by : (b : Bool) → exceeds g row ≡ b → shows_root s (at_position n s g) row ≡ shows_root s g row
        by false x = tells (is_key (filter (is_in_view s g) g.keys) (root_key s g row)) ∙ of (cond (is_explicit g) g.loaded (is_key (filter (is_in_view s g) g.keys) (root_key s g row))) (cond (is_explicit g) g.loaded (is_key g.keys (root_key s g row))) (exceeds g row) x ∙ sym (tells (is_key g.keys (root_key s g row)))
        by true x =
            tells (is_key (filter (is_in_view s g) g.keys) (root_key s g row))
            ∙ ap (λ c. cond (is_explicit g) g.loaded c && exceeds g row) (key_left (is_in_view s g) g.keys (root_key s g row) ∙ ap (λ c. is_key g.keys (root_key s g row) && c) (ap (is_in_view s g) (key_is k row e) ∙ in_view k row e x) ∙ and_true (is_key g.keys (root_key s g row)))
            ∙ sym (tells (is_key g.keys (root_key s g row)))
          where
            and_true : (c : Bool) → (c && true) ≡ c
            and_true true = refl
            and_true false = refl

refresh_keeps : (n : ℕ) (s : TableState) (g : Group) → IsKept g (at_position n s g)
refresh_keeps n s g = record { def = refl; first = refl }

module _ (w : World) (choice : Choice) (n : ℕ) (s : TableState) (x : Stands w) (may : MayRefresh w choice n s) where
  abbrev groups : List Group
  groups = changed_from choice (at_position n s) 0 w.tier.groups

  abbrev after : Tier
  after = record w.tier { groups = changed_from choice (at_position n s) 0 w.tier.groups }

  k : Known w x.flow.stand.over.virtual
  k = known w x

  one_table : (u : TableId) → table_of_group w.history w.tier.log u (group_over groups u) ≡ table_of_group w.history w.tier.log u (group_over w.tier.groups u) → table_at (shown_state w.history after) u ≡ table_at (shown_state w.history w.tier) u
  one_table u e = by (slice_get w.tier.schema u.0) refl
    where
      by : (o : Option TableDef) → slice_get w.tier.schema u.0 ≡ o → table_at (shown_state w.history after) u ≡ table_at (shown_state w.history w.tier) u
      by None d = no_table_shown w.history after u d ∙ sym (no_table_shown w.history w.tier u d)
      by (Some def) d = table_shown w.history after u (ap is_some d) ∙ e ∙ sym (table_shown w.history w.tier u (ap is_some d))

  tables_stay : (u : TableId) → ((place : ℕ) (g : Group) → slice_get w.tier.groups place ≡ Some g → covers u g ≡ true → choice place g ≡ false) → table_at (shown_state w.history after) u ≡ table_at (shown_state w.history w.tier) u
  tables_stay u none = one_table u (table_unchosen choice (at_position n s) (refresh_keeps n s) w.history w.tier.log w.tier.groups u x.catalog.apart none)

  tables_then : (place : ℕ) (g : Group) (u : TableId) (p : ℕ) → slice_get w.tier.groups place ≡ Some g → choice place g ≡ true → place_of g.def.tree u ≡ Some p → table_at (shown_state w.history after) u ≡ kept_at (shown_in s g) p
  tables_then place g u p at chosen e =
      let reads = may.reads place g at chosen in
      let here : 0 + place ≡ place = Prim.omega arith in
      let defined = Rattle.cache_tier.proofs.TableLaws.covered_defined w.tier.schema g u (each_at (IsCatalogued w.tier.schema) w.tier.groups place g x.catalog.each at) (ap is_some e) in
      table_shown w.history after u defined
      ∙ ap (table_of_group w.history w.tier.log u) (over_is_found groups u ∙ found_changed choice (at_position n s) (refresh_keeps n s) 0 w.tier.groups place g u x.catalog.apart at (ap is_some e) ∙ ap (λ m. Some (cond (choice m g) (at_position n s g) g)) here ∙ ap (λ b. Some (cond b (at_position n s g) g)) chosen)
      ∙ ap (λ o. kept_at (shown w.history w.tier.log (at_position n s g)) (unwrap_or o 0)) e
      ∙ ap (λ b. kept_at (shown_where (cond b (state_at w.history n) (virtual_state w.history w.tier.log)) (at_position n s g)) p) reads
      ∙ ap (λ o. kept_at (shown_where o (at_position n s g)) p) may.state
      ∙ ap (λ m. kept_at m p) (refreshed_in n s g (sound_history (take n w.history) s may.state) reads)

  agree : AgreeOn (live_of w.tier) (shown_state w.history w.tier) (shown_state w.history after)
  agree = record {
    schema = refl;
    size = from_length (shown_table w.history after) 0 w.tier.schema ∙ sym (from_length (shown_table w.history w.tier) 0 w.tier.schema);
    rows = λ u on. tables_stay u (λ place g at c. Rattle.order_laws.proofs.TruthLaws.not_both (choice place g) (λ chosen.
        let l = live_at w.tier.groups u x.catalog.apart (sym (live_table w.tier.groups u) ∙ on) in
        let here : find (covers u) w.tier.groups ≡ Some g = each_at (Rattle.cache_tier.proofs.GroupTables.IsFound w.tier.groups) w.tier.groups place g (Rattle.cache_tier.proofs.GroupTables.each_own w.tier.groups x.catalog.apart) at u c in
        let same : l.group ≡ g = Rattle.order_laws.proofs.TruthLaws.same_some (sym l.found ∙ here) in
        never_both (is_read_only g) (may.reads place g at chosen) (read_only_not g (ap is_writethrough (sym same) ∙ l.through))));
  }

  pub groups_refresh_here : ShowsRefreshed choice s w (with_tier (refreshed choice n s w.tier) w)
  groups_refresh_here = record {
    stands = regrouped w x groups (changed_kept choice (at_position n s) (refresh_keeps n s) 0 w.tier.groups)
        (each_chosen choice (at_position n s) (refresh_keeps n s) (HasKeys x.flow.stand.over.virtual) (HasKeys x.flow.stand.over.virtual) 0 w.tier.groups
        (λ i g at keys c. let here : 0 + i ≡ i = Prim.omega arith in record {
          distinct = refresh n s g keys.distinct;
          rooted = λ writes key e. absurd (never_both (is_read_only g) (may.reads i g at (ap (λ m. choice m g) (sym here) ∙ c)) (read_only_not g writes));
        })
        (λ g keys. keys) x.keys)
        (record {
          within = each_chosen choice (at_position n s) (refresh_keeps n s) (IsReadWithin (length w.history)) (IsReadWithin (length w.history)) 0 w.tier.groups (λ i g at p c m e. let same : n ≡ m = Prim.cc in let le = may.within in Prim.omega arith) (λ g p. p) x.read.within;
          one = may.one;
        })
        (record {
          apply = applies_stay (live_of w.tier) (shown_state w.history w.tier) (shown_state w.history after) (own_writes w.tier.sessions) k.closed_shown agree (all_through_on w.tier.groups (own_writes w.tier.sessions) ∙ x.sessions.through) x.sessions.shown.apply;
          apart = x.sessions.shown.apart;
        });
    refreshed = tables_then;
    others = tables_stay;
  }

pub groups_refresh : (w : World) (choice : Choice) (n : ℕ) (s : TableState) → Stands w → MayRefresh w choice n s → ShowsRefreshed choice s w (with_tier (refreshed choice n s w.tier) w)
groups_refresh w choice n s x may = groups_refresh_here w choice n s x may
