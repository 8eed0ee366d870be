-- What UNLOAD makes of a READONLY group that is loaded whole: it shows nothing then, and no session has locks in it.
use Rattle.std.proofs.Common.{◌≡◌, ℕ, zero, suc, ◌+◌, Bool, true, false, cond, not, ◌&&◌, ◌||◌, inl, nat_eq, Option, Some, None, is_some, List, [], ◌∷◌, find, length, slice_get, unwrap_or, refl, sym, ap, subst, ◌∙◌, arith, eqb-true}
use Rattle.std.specs.Option.{option_map}
use Rattle.std.specs.List.{flat_map, list_all, list_any}
use Rattle.std.proofs.lemmas.List.Folds.{list_any-append}
use Rattle.std.specs.FinMap.{empty}
use Rattle.row_types.specs.declared.value.Value.{Value}
use Rattle.tier_base.specs.declared.number.TableId.{TableId}
use Rattle.table_defs.specs.declared.definition.ForeignKey.{ForeignKey}
use Rattle.table_defs.specs.declared.definition.TableDef.{TableDef}
use Rattle.table_state.specs.Copies.{is_one_of}
use Rattle.table_state.specs.declared.footprint.RowKey.{RowKey}
use Rattle.table_state.specs.declared.operation.Op.{Op}
use Rattle.table_state.specs.Footprints.{footprint_of, is_among, is_in, parent_key, referred_by, referred_key, rows_of, same_row_key, written_by}
use Rattle.table_state.specs.Operations.{table_of}
use Rattle.table_state.specs.Tables.{TableState, table_at}
use Rattle.instances.specs.Trees.{place_of}
use Rattle.instances.specs.Views.{kept_at}
use Rattle.order_laws.specs.Commits.{is_op_on}
use Rattle.order_laws.specs.Sides.{AgreeOn, IsClosed, are_on}
use Rattle.order_laws.proofs.SideLaws.{no_keys, no_parents, referred_table, written_table}
use Rattle.order_laws.proofs.TruthLaws.{both_true, never_both, not_both, same_some}
use Rattle.sql_subset.specs.declared.stmt.GroupKind.TheVariants.{AsynchronousWritethrough}
use Rattle.cache_tier.specs.Groups.{Group, covers, group_over, is_explicit, is_key, is_read_only, is_writethrough, without_keys}
use Rattle.cache_tier.specs.Locks.{has_writes_in, instance_lock, instance_rows, locked_by, tree_tables}
use Rattle.cache_tier.specs.Sets.{alone, changed_from}
use Rattle.cache_tier.specs.Shown.{all_over, exceeds, instances_where, root_key, shown, shown_in, shown_state, shown_table, shown_where, shows_root, state_behind, table_of_group}
use Rattle.cache_tier.specs.Standing.{AreDistinct}
use Rattle.cache_tier.specs.TierStates.{Session, Tier, others}
use Rattle.cache_tier.specs.UnloadSteps.{unloaded}
use Rattle.cache_tier.specs.Worlds.{World}
use Rattle.cache_tier.proofs.ApartLaws.{unload}
use Rattle.cache_tier.proofs.PositionLaws.{alone_one, unloaded_weaker}
use Rattle.cache_tier.specs.Dropping.{ShowsWithout}
use Rattle.cache_tier.specs.Events.{with_tier}
use Rattle.cache_tier.specs.StandingBetween.{HasKeys, IsCatalogued, IsReadWithin, Stands, own_writes}
use Rattle.cache_tier.proofs.ChosenGroups.{changed_kept, each_at, each_chosen, found_changed, table_unchosen}
use Rattle.cache_tier.proofs.DefineLaws.{shows_nothing}
use Rattle.cache_tier.proofs.GroupTables.{IsFound, each_own, live_at, live_table, over_is_found, read_only_not}
use Rattle.cache_tier.proofs.HistoryKeeps.{all_through_on, applies_stay}
use Rattle.cache_tier.proofs.LoadLaws.{unload_keeps, unload_keys, unload_stays}
use Rattle.cache_tier.proofs.Regrouping.{regrouped}
use Rattle.cache_tier.proofs.SessionLaws.{Known, known}
use Rattle.cache_tier.proofs.ShownTables.{from_length, live_of, no_table_shown, table_shown}
use Rattle.cache_tier.proofs.ShownTrees.{place_there}
use Rattle.cache_tier.proofs.TableLaws.{covered_defined}
use Rattle.group_engine.proofs.UnloadWithin.{listed, table_listed}

abbrev Row : Type 0
Row = List Value

-- a READONLY group that isn't loaded shows nothing

hidden_by : (s : TableState) (h : Group) → ((row : Row) → shows_root s h row ≡ false) → (p : ℕ) → kept_at (shown_in s h) p ≡ empty
hidden_by s h hides p =
    ap (λ (test : Row → Bool). kept_at (instances_where s h.def.tree test) p) (λ i row. hides row i)
    ∙ shows_nothing s (record h { def = record h.def { kind = AsynchronousWritethrough }; keys = [] }) refl refl p

hidden_in : (s : TableState) (h : Group) → is_read_only h ≡ true → is_explicit h ≡ true → h.loaded ≡ false → (p : ℕ) → kept_at (shown_in s h) p ≡ empty
hidden_in s h reads explicit loaded p = hidden_by s h hides p
  where
    hides : (row : Row) → shows_root s h row ≡ false
    hides row =
        ap (λ b. cond b (cond (is_explicit h) h.loaded (is_key h.keys (root_key s h row)) && exceeds h row) (is_key h.keys (root_key s h row))) reads
        ∙ ap (λ b. cond b h.loaded (is_key h.keys (root_key s h row)) && exceeds h row) explicit
        ∙ ap (λ b. b && exceeds h row) loaded

hidden_where : (o : Option TableState) (h : Group) → is_read_only h ≡ true → is_explicit h ≡ true → h.loaded ≡ false → (p : ℕ) → kept_at (shown_where o h) p ≡ empty
hidden_where None h reads explicit loaded zero = refl
hidden_where None h reads explicit loaded (suc p) = refl
hidden_where (Some s) h reads explicit loaded p = hidden_in s h reads explicit loaded p

-- the group behind UNLOAD

pub unloaded_is : (gone : List Row) (g : Group) → is_explicit g ≡ true → unloaded gone true g ≡ record g { keys = without_keys gone g.keys; loaded = false }
unloaded_is gone g explicit =
    ap (λ b. cond (is_writethrough g || b) (record g { keys = without_keys gone g.keys; loaded = false }) (record g { keys = without_keys gone g.keys })) explicit ∙ by (is_writethrough g)
  where
    by : (b : Bool) → cond (b || true) (record g { keys = without_keys gone g.keys; loaded = false }) (record g { keys = without_keys gone g.keys }) ≡ record g { keys = without_keys gone g.keys; loaded = false }
    by true = refl
    by false = refl

pub explicit_bare : (w : World) (g : Group) (gone : List Row) → is_read_only g ≡ true → is_explicit g ≡ true → (p : ℕ) → kept_at (shown w.history w.tier.log (unloaded gone true g)) p ≡ empty
explicit_bare w g gone reads explicit p =
    ap (λ h. kept_at (shown w.history w.tier.log h) p) (unloaded_is gone g explicit)
    ∙ hidden_where (state_behind w.history w.tier.log (record g { keys = without_keys gone g.keys; loaded = false })) (record g { keys = without_keys gone g.keys; loaded = false }) reads explicit refl p

module _ (w : World) (x : Stands w) (place : ℕ) (g : Group) (at : slice_get w.tier.groups place ≡ Some g) (reads : is_read_only g ≡ true) where
  k : Known w x.flow.stand.over.virtual
  k = known w x

  its : IsCatalogued w.tier.schema g
  its = each_at (IsCatalogued w.tier.schema) w.tier.groups place g x.catalog.each at

  found : (u : TableId) → covers u g ≡ true → find (covers u) w.tier.groups ≡ Some g
  found u c = each_at (IsFound w.tier.groups) w.tier.groups place g (each_own w.tier.groups x.catalog.apart) at u c

  -- its tables are of no writethrough group
  pub not_live : (u : TableId) → covers u g ≡ true → is_one_of (live_of w.tier) u ≡ false
  not_live u c = not_both (is_one_of (live_of w.tier) u) (λ on.
      let l = live_at w.tier.groups u x.catalog.apart (sym (live_table w.tier.groups u) ∙ on) in
      let same : l.group ≡ g = same_some (sym l.found ∙ found u c) in
      never_both (is_read_only g) reads (read_only_not g (ap is_writethrough (sym same) ∙ l.through)))

  -- what is shown behind it
  module _ (gone : List Row) (all : Bool) where
    abbrev f : Group → Group
    f = unloaded gone all

    abbrev groups : List Group
    groups = changed_from (alone place) (unloaded gone all) 0 w.tier.groups

    abbrev after : Tier
    after = record w.tier { groups = changed_from (alone place) (unloaded gone all) 0 w.tier.groups }

    one_table : (u : TableId) → table_of_group w.history w.tier.log u (group_over groups u) ≡ table_of_group w.history w.tier.log u (group_over w.tier.groups u) → table_at (shown_state w.history after) u ≡ table_at (shown_state w.history w.tier) u
    one_table u e = by (slice_get w.tier.schema u.0) refl
      where
        by : (o : Option TableDef) → slice_get w.tier.schema u.0 ≡ o → table_at (shown_state w.history after) u ≡ table_at (shown_state w.history w.tier) u
        by None d = no_table_shown w.history after u d ∙ sym (no_table_shown w.history w.tier u d)
        by (Some def) d = table_shown w.history after u (ap is_some d) ∙ e ∙ sym (table_shown w.history w.tier u (ap is_some d))

    pub tables_stay : (u : TableId) → covers u g ≡ false → table_at (shown_state w.history after) u ≡ table_at (shown_state w.history w.tier) u
    tables_stay u off = one_table u (table_unchosen (alone place) (unloaded gone all) (unload_keeps gone all) w.history w.tier.log w.tier.groups u x.catalog.apart (λ i h there c. not_both (nat_eq i place) (λ e.
        let same : h ≡ g = same_some (sym there ∙ ap (slice_get w.tier.groups) (eqb-true i place e) ∙ at) in
        never_both (covers u g) (ap (covers u) (sym same) ∙ c) off)))

    pub tables_then : (u : TableId) → covers u g ≡ true → table_at (shown_state w.history after) u ≡ kept_at (shown w.history w.tier.log (unloaded gone all g)) (unwrap_or (place_of (unloaded gone all g).def.tree u) 0)
    tables_then u c =
        let here : 0 + place ≡ place = omega arith in
        table_shown w.history after u (covered_defined w.tier.schema g u its c)
        ∙ ap (table_of_group w.history w.tier.log u) (over_is_found groups u ∙ found_changed (alone place) (unloaded gone all) (unload_keeps gone all) 0 w.tier.groups place g u x.catalog.apart at c
        ∙ ap (λ b. Some (cond b (unloaded gone all g) g)) (ap (λ n. nat_eq n place) here ∙ Rattle.std.proofs.Common.eq-eqb place place refl))

    agree : AgreeOn (live_of w.tier) (shown_state w.history w.tier) (shown_state w.history after)
    agree = record {
      schema = refl;
      size = from_length (shown_table w.history after) 0 w.tier.schema ∙ sym (from_length (shown_table w.history w.tier) 0 w.tier.schema);
      rows = λ u on. tables_stay u (not_both (covers u g) (λ c. never_both (is_one_of (live_of w.tier) u) on (not_live u c)));
    }

    keys_one : HasKeys x.flow.stand.over.virtual g → HasKeys x.flow.stand.over.virtual (unloaded gone all g)
    keys_one keys = record {
      distinct = subst AreDistinct (sym (unload_keys gone all g)) (unload gone g.keys keys.distinct);
      rooted = λ writes key e. absurd (never_both (is_read_only g) reads (read_only_not g (sym (Rattle.cache_tier.proofs.GroupPairs.same_kind g (unloaded gone all g) (unload_keeps gone all g)) ∙ writes)));
    }

    pub unload_stands : Stands (with_tier after w)
    unload_stands =
        regrouped w x groups (changed_kept (alone place) (unloaded gone all) (unload_keeps gone all) 0 w.tier.groups)
        (each_chosen (alone place) (unloaded gone all) (unload_keeps gone all) (HasKeys x.flow.stand.over.virtual) (HasKeys x.flow.stand.over.virtual) 0 w.tier.groups (λ i h there p c.
        let here : 0 + i ≡ i = omega arith in
        let same : h ≡ g = same_some (sym there ∙ ap (slice_get w.tier.groups) (eqb-true i place (ap (λ n. nat_eq n place) (sym here) ∙ c)) ∙ at) in
        subst (λ z. HasKeys x.flow.stand.over.virtual (unloaded gone all z)) (sym same) (keys_one (subst (HasKeys x.flow.stand.over.virtual) same p))) (λ h p. p) x.keys)
        (record {
          within = each_chosen (alone place) (unloaded gone all) (unload_keeps gone all) (IsReadWithin (length w.history)) (IsReadWithin (length w.history)) 0 w.tier.groups (λ i h there p c n e. p n (sym (unload_stays gone all h) ∙ e)) (λ h p. p) x.read.within;
          one = alone_one w.tier.groups place (unloaded gone all) (λ h there. inl (unloaded_weaker gone all h)) x.read.one;
        })
        (record {
          apply = applies_stay (live_of w.tier) (shown_state w.history w.tier) (shown_state w.history after) (own_writes w.tier.sessions) k.closed_shown agree (all_through_on w.tier.groups (own_writes w.tier.sessions) ∙ x.sessions.through) x.sessions.shown.apply;
          apart = x.sessions.shown.apart;
        })

    -- where it shows nothing then
    pub unload_shows : ((p : ℕ) → kept_at (shown w.history w.tier.log (unloaded gone all g)) p ≡ empty) → ShowsWithout g w (with_tier after w)
    unload_shows bare = record {
      stands = unload_stands;
      its = λ u c. tables_then u c ∙ bare (unwrap_or (place_of (unloaded gone all g).def.tree u) 0);
      others = tables_stay;
    }

-- keys that sessions hold

same_one : (tables : List TableId) (a b : TableId) → a.0 ≡ b.0 → is_one_of tables a ≡ is_one_of tables b
same_one tables a b e = λ i. list_any (λ (one : TableId). nat_eq one.0 (e i)) tables

module _ (tables : List TableId) (schema : List TableDef) (closed : IsClosed tables schema) where
  written_side : (op : Op) (w : RowKey) → is_among (written_by schema op) w ≡ true → is_one_of tables w.table ≡ is_op_on tables op
  written_side op w e = same_one tables w.table (table_of op) (written_table (table_of op) (slice_get schema (table_of op).0) (rows_of op) w e)

  referred_side : (op : Op) (w : RowKey) → is_among (referred_by schema op) w ≡ true → is_one_of tables w.table ≡ is_op_on tables op
  referred_side op w e = by (slice_get schema (table_of op).0) refl e
    where
      last : (def : TableDef) → slice_get schema (table_of op).0 ≡ Some def → (f : Option ForeignKey) → def.foreign_key ≡ f → is_among (flat_map (parent_key f) (rows_of op)) w ≡ true → is_one_of tables w.table ≡ is_op_on tables op
      last def d None f_is e = absurd (never_both (is_among (flat_map (parent_key None) (rows_of op)) w) e (no_parents (rows_of op) w))
      last def d (Some f) f_is e = same_one tables w.table f.parent (referred_table f (rows_of op) w e) ∙ closed (table_of op) def f d f_is

      by : (d : Option TableDef) → slice_get schema (table_of op).0 ≡ d → is_among (flat_map (referred_key d) (rows_of op)) w ≡ true → is_one_of tables w.table ≡ is_op_on tables op
      by None d e = absurd (never_both (is_among (flat_map (referred_key None) (rows_of op)) w) e (no_keys (rows_of op) w))
      by (Some def) d e = last def d def.foreign_key refl e

  among_side : (f : Op → List RowKey) → ((op : Op) (w : RowKey) → is_among (f op) w ≡ true → is_one_of tables w.table ≡ is_op_on tables op) → (ops : List Op) → are_on tables ops ≡ true
      → (w : RowKey) → is_among (flat_map f ops) w ≡ true → is_one_of tables w.table ≡ true
  among_side f sided [] on w e = cc
  among_side f sided (op ∷ ops) on w e =
      let (first, rest) = both_true (is_op_on tables op) (are_on tables ops) on in
      by (is_among (f op) w) refl (sym (list_any-append (same_row_key w) (f op) (flat_map f ops)) ∙ e) (among_side f sided ops rest w) first
    where
      by : (b : Bool) → is_among (f op) w ≡ b → (b || is_among (flat_map f ops) w) ≡ true → (is_among (flat_map f ops) w ≡ true → is_one_of tables w.table ≡ true) → is_op_on tables op ≡ true → is_one_of tables w.table ≡ true
      by true is e rest first = sided op w is ∙ first
      by false is e rest first = rest e

  -- operations on tables of the one side hold no key of the other
  held_side : (ops : List Op) → are_on tables ops ≡ true → (w : RowKey) → is_one_of tables w.table ≡ false → is_in (footprint_of schema ops) w ≡ false
  held_side ops on w off = λ i.
      not_both (is_among (flat_map (written_by schema) ops) w) (λ e. never_both (is_one_of tables w.table) (among_side (written_by schema) written_side ops on w e) off) i
      || not_both (is_among (flat_map (referred_by schema) ops) w) (λ e. never_both (is_one_of tables w.table) (among_side (referred_by schema) referred_side ops on w e) off) i

module _ (w : World) (x : Stands w) (place : ℕ) (g : Group) (at : slice_get w.tier.groups place ≡ Some g) (reads : is_read_only g ≡ true) where
  -- no row of its instances has a key that a session holds
  none_held : (s : TableState) (test : Row → Bool) (ops : List Op) → are_on (live_of w.tier) ops ≡ true → list_any (λ z. is_in (footprint_of w.tier.schema ops) z) (instance_rows s g test) ≡ false
  none_held s test ops on = not_both (list_any (λ z. is_in (footprint_of w.tier.schema ops) z) (instance_rows s g test)) (λ h.
      let r = listed (λ z. is_in (footprint_of w.tier.schema ops) z) (tree_tables g.def.tree) (instances_where s g.def.tree (λ row. test (root_key s g row))) h in
      let c : covers r.table g ≡ true = ap is_some (place_there w.tier.schema g.def.tree r.place r.table (its w x place g at reads).sound (sym (table_listed g.def.tree r.place) ∙ r.there)) in
      never_both (is_in (footprint_of w.tier.schema ops) (record { table = r.table; key = r.key })) r.passes
      (held_side (live_of w.tier) w.tier.schema (known w x).closed_shown ops on (record { table = r.table; key = r.key }) (not_live w x place g at reads r.table c)))

  none_in : (test : Row → Bool) (s : Session) → are_on (live_of w.tier) s.own ≡ true → has_writes_in w.history w.tier g test s ≡ false
  none_in test s on = λ i. none_held (shown_state w.history w.tier) test s.own on i || none_held (all_over s.own (shown_state w.history w.tier)) test s.own on i

  none_of : (test : Row → Bool) (q : Session → Bool) (sessions : List Session) → list_all (are_on (live_of w.tier)) (own_writes sessions) ≡ true → find (has_writes_in w.history w.tier g test) (Rattle.std.proofs.Common.filter q sessions) ≡ None
  none_of test q [] on = refl
  none_of test q (s ∷ sessions) on =
      let (first, rest) = both_true (are_on (live_of w.tier) s.own) (list_all (are_on (live_of w.tier)) (own_writes sessions)) on in
      by (q s) (none_of test q sessions rest) (none_in test s first)
    where
      by : (b : Bool) → find (has_writes_in w.history w.tier g test) (Rattle.std.proofs.Common.filter q sessions) ≡ None → has_writes_in w.history w.tier g test s ≡ false
          → find (has_writes_in w.history w.tier g test) (cond b (s ∷ Rattle.std.proofs.Common.filter q sessions) (Rattle.std.proofs.Common.filter q sessions)) ≡ None
      by true rest free = ap (λ c. cond c (Some s) (find (has_writes_in w.history w.tier g test) (Rattle.std.proofs.Common.filter q sessions))) free ∙ rest
      by false rest free = rest

  pub unheld : (label : List ℕ) (test : Row → Bool) → instance_lock label w.history w.tier g test ≡ None
  unheld label test =
      ap (option_map locked_by) (none_of test (λ s. not (Rattle.cache_tier.specs.TierStates.is_labelled label s)) w.tier.sessions (all_through_on w.tier.groups (own_writes w.tier.sessions) ∙ x.sessions.through))
