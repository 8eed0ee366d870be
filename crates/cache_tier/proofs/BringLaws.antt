-- A dynamic load: what brings an instance in leaves a tier that stands.
use Rattle.std.proofs.Common.{◌≡◌, ℕ, zero, suc, ◌&&◌, ◌+◌, Bool, true, false, cond, ◌||◌, nat_eq, Option, Some, None, is_some, List, [], ◌∷◌, length, slice_get, refl, sym, ap, subst, ◌∙◌, arith, eqb-true}
use Rattle.std.specs.Option.{option_and_then}
use Rattle.std.specs.List.{find}
use Rattle.std.specs.FinMap as fm
use Rattle.tier_base.specs.declared.number.TableId.{TableId}
use Rattle.table_defs.specs.declared.definition.TableDef.{TableDef}
use Rattle.indexed_rows.specs.Rows.{Table, is_same}
use Rattle.indexed_rows.proofs.EntryLaws.{same_values}
use Rattle.table_state.specs.Histories.{state_of}
use Rattle.table_state.specs.Tables.{TableState, table_at}
use Rattle.instances.specs.Views.{kept_at, passes, root_rows, rows_where, selects}
use Rattle.instances.proofs.Gathering.{get_where}
use Rattle.order_laws.specs.Commits.{applied_sealed, pending}
use Rattle.order_laws.specs.Effects.{row_at}
use Rattle.order_laws.specs.Sides.{AgreeOn}
use Rattle.order_laws.proofs.TruthLaws.{never_both, not_both, same_some}
use Rattle.cache_tier.specs.Bringing.{MayBring, MayJoin}
use Rattle.cache_tier.specs.DynamicLoads.{found_root, state_loaded, with_found, with_found_at}
use Rattle.cache_tier.specs.Events.{with_tier}
use Rattle.cache_tier.specs.Groups.{Group, covers, group_over, is_key, is_read_only, is_writethrough, with_keys}
use Rattle.cache_tier.specs.Loading.{ShowsKeys}
use Rattle.cache_tier.specs.Sets.{OnePosition, alone, at_position, changed, changed_from, is_in_view, of_set, refreshed}
use Rattle.cache_tier.specs.Shown.{exceeds, instance_key, instances_where, root_key, shown_state, shown_table, table_of_group}
use Rattle.cache_tier.specs.Standing.{AreDistinct}
use Rattle.cache_tier.specs.StandingBetween.{HasKeys, IsReadWithin, Stands, own_writes}
use Rattle.cache_tier.specs.TierStates.{Tier}
use Rattle.cache_tier.specs.Wants.{Want}
use Rattle.cache_tier.specs.Worlds.{World}
use Rattle.cache_tier.proofs.ApartLaws.{with_apart}
use Rattle.cache_tier.proofs.ChosenGroups.{changed_kept, each_at, each_chosen, table_unchosen}
use Rattle.cache_tier.proofs.GroupPairs.{IsKept, same_kind}
use Rattle.cache_tier.proofs.GroupTables.{IsFound, LiveTable, each_own, live_at, live_table, read_only_not}
use Rattle.cache_tier.proofs.HistoryKeeps.{all_through_on, applies_stay}
use Rattle.cache_tier.proofs.KeyListLaws.{key_with}
use Rattle.cache_tier.proofs.LoadLaws.{all_greater, grows, part_after, shown_by_keys, stands_then, tables_stay, tables_then}
use Rattle.cache_tier.proofs.PartLaws.{Row}
use Rattle.cache_tier.proofs.PositionLaws.{join_base, join_one, join_step}
use Rattle.cache_tier.proofs.RefreshLaws.{groups_refresh}
use Rattle.cache_tier.proofs.Regrouping.{regrouped}
use Rattle.cache_tier.proofs.SessionLaws.{Known, known}
use Rattle.cache_tier.proofs.SetLaws.{refresh_has_one_position}
use Rattle.cache_tier.proofs.ShownTables.{from_length, live_of, no_table_shown, shown_whole, table_shown}
use Rattle.cache_tier.proofs.ShownTrees.{front_kept}

-- ---- the root that is found

abbrev of_root : TableState → Group → Option Row → List Row
of_root s g None = []
of_root s g (Some key) = cond (is_in_view s g key) (key ∷ []) []

is_found : (s : TableState) (g : Group) (want : Want) → found_root s g want ≡ of_root s g (instance_key s g want.table want.key)
is_found s g want = by (instance_key s g want.table want.key) refl
  where
    by : (o : Option Row) → instance_key s g want.table want.key ≡ o → found_root s g want ≡ of_root s g (instance_key s g want.table want.key)
    by None e = Prim.cc
    by (Some key) e = Prim.cc

one_first : (b : Bool) → (b || false) ≡ true → b ≡ true
one_first true e = refl
one_first false e = e

found_in_view : (s : TableState) (g : Group) (want : Want) (key : Row) → is_key (found_root s g want) key ≡ true → is_in_view s g key ≡ true
found_in_view s g want key e = by (instance_key s g want.table want.key) (sym (ap (λ ks. is_key ks key) (is_found s g want)) ∙ e)
  where
    of : (k : Row) (b : Bool) → is_in_view s g k ≡ b → is_key (cond b (k ∷ []) []) key ≡ true → is_in_view s g key ≡ true
    of k true view e = ap (is_in_view s g) (same_values key k (one_first (is_same key k) e)) ∙ view
    of k false view e = Prim.cc

    by : (o : Option Row) → is_key (of_root s g o) key ≡ true → is_in_view s g key ≡ true
    by None e = Prim.cc
    by (Some k) e = of k (is_in_view s g k) refl e

pub found_distinct : (s : TableState) (g : Group) (want : Want) → AreDistinct (found_root s g want)
found_distinct s g want = subst AreDistinct (sym (is_found s g want)) (by (instance_key s g want.table want.key))
  where
    of : (k : Row) (b : Bool) → AreDistinct (cond b (k ∷ []) [])
    of k true = (refl, tt)
    of k false = tt

    by : (o : Option Row) → AreDistinct (of_root s g o)
    by None = tt
    by (Some k) = of k (is_in_view s g k)

some_cond : (b : Bool) (o : Option Row) → is_some (cond b o None) ≡ true → is_some o ≡ true
some_cond true o e = e
some_cond false o e = Prim.cc

-- a key in the view is that of a root row
viewed_root : (s : TableState) (g : Group) (key : Row) → is_in_view s g key ≡ true → fm.contains_key (table_at s g.def.tree.root.table) key ≡ true
viewed_root s g key e =
    let rows = root_rows s g.def.tree.root in
    let front = front_kept s g.def.tree.children (rows_where (exceeds g) rows ∷ []) 0 (Prim.omega arith) in
    some_cond (passes (selects g.def.tree.root.filter) (row_at s g.def.tree.root.table key)) (row_at s g.def.tree.root.table key)
    (sym (ap is_some (get_where (selects g.def.tree.root.filter) (table_at s g.def.tree.root.table) key))
    ∙ some_cond (passes (exceeds g) (fm.get rows key)) (fm.get rows key)
    (sym (ap is_some (get_where (exceeds g) rows key)) ∙ sym (ap (λ (m : Table). fm.contains_key m key) front) ∙ e))

-- ---- of a writethrough group

pub group_brings : (w : World) (place : ℕ) (g : Group) (want : Want) (s : TableState) → Stands w → MayBring w place g s
    → ShowsKeys g (λ key. is_key g.keys key || is_key (found_root s g want) key) w (with_tier (with_found_at place s want w.tier) w)
group_brings w place g want s x may = record {
  stands = stands_then w x place g may.there may.writes f keeps stays
      (record {
        distinct = with_apart (found_root s g want) g.keys (found_distinct s g want) g_keys.distinct;
        rooted = λ writes key e. has_root key (is_key g.keys key) refl (sym (tests key) ∙ e);
      })
      (all_greater (live_of w.tier) v (shown_state w.history w.tier) (shown_state w.history (record w.tier { groups = changed_from (alone place) f 0 w.tier.groups })) (own_writes w.tier.sessions) kn.closed kn.closed_shown (shown_whole w.history (record w.tier { groups = changed_from (alone place) f 0 w.tier.groups })) kn.sound.linked kn.part
      (part_after w x place g may.there may.writes f keeps stays)
      (grows w x place g may.there may.writes f keeps stays (λ q e. tests q ∙ ap (λ b. b || is_key (found_root s g want) q) e))
      (all_through_on w.tier.groups (own_writes w.tier.sessions) ∙ x.sessions.through) x.sessions.virtual x.sessions.shown.apply);
  its = λ y u p is e. tables_then w x place g may.there may.writes f keeps stays u p e
      ∙ ap (λ m. kept_at m p) (shown_by_keys v g (f g) (λ key. is_key g.keys key || is_key (found_root s g want) key) (keeps g) (read_only_not (f g) (same_kind g (f g) (keeps g) ∙ may.writes)) tests)
      ∙ ap (λ z. kept_at (instances_where z g.def.tree (λ row. is_key g.keys (root_key z g row) || is_key (found_root s g want) (root_key z g row))) p) (same_some (sym kn.v_is ∙ is));
  others = tables_stay w x place g may.there may.writes f keeps stays;
}
  where
    f : Group → Group
    f h = record h { keys = with_keys (found_root s h want) h.keys }

    v : TableState
    v = x.flow.stand.over.virtual

    kn : Known w v
    kn = known w x

    keeps : (h : Group) → IsKept h (f h)
    keeps h = record { def = refl; first = refl }

    stays : (h : Group) → (f h).position ≡ h.position
    stays h = refl

    g_keys : HasKeys v g
    g_keys = each_at (HasKeys v) w.tier.groups place g x.keys may.there

    tests : (q : Row) → is_key (f g).keys q ≡ (is_key g.keys q || is_key (found_root s g want) q)
    tests q = key_with (found_root s g want) g.keys q

    -- nothing is pending, so the virtual state is the backing one
    drained : v ≡ s
    drained =
        let none : pending w.history w.tier.log ≡ [] = x.flow.rest ∙ ap (pending w.history) may.settled in
        same_some (sym kn.v_is ∙ ap (λ xs. option_and_then (applied_sealed xs) (state_of w.history)) none ∙ ap (option_and_then (applied_sealed [])) may.state)

    has_root : (key : Row) (b : Bool) → is_key g.keys key ≡ b → (b || is_key (found_root s g want) key) ≡ true → fm.contains_key (table_at v g.def.tree.root.table) key ≡ true
    has_root key true e h = g_keys.rooted may.writes key e
    has_root key false e h = ap (λ z. fm.contains_key (table_at z g.def.tree.root.table) key) drained ∙ viewed_root s g key (found_in_view s g want key h)

-- ---- of a READONLY group

-- one READONLY group is changed, but for its definition
module _ (w : World) (x : Stands w) (place : ℕ) (g : Group) (at : slice_get w.tier.groups place ≡ Some g) (reads : is_read_only g ≡ true) (f : Group → Group) (keeps : (h : Group) → IsKept h (f h)) (stays : (h : Group) → (f h).position ≡ h.position) where
  abbrev groups : List Group
  groups = changed_from (alone place) f 0 w.tier.groups

  abbrev after : Tier
  after = record w.tier { groups = changed_from (alone place) f 0 w.tier.groups }

  kn : Known w x.flow.stand.over.virtual
  kn = known w x

  one_table : (u : TableId) → table_of_group w.history w.tier.log u (group_over groups u) ≡ table_of_group w.history w.tier.log u (group_over w.tier.groups u) → table_at (shown_state w.history after) u ≡ table_at (shown_state w.history w.tier) u
  one_table u e = by (slice_get w.tier.schema u.0) refl
    where
      by : (o : Option TableDef) → slice_get w.tier.schema u.0 ≡ o → table_at (shown_state w.history after) u ≡ table_at (shown_state w.history w.tier) u
      by None d = no_table_shown w.history after u d ∙ sym (no_table_shown w.history w.tier u d)
      by (Some def) d = table_shown w.history after u (ap is_some d) ∙ e ∙ sym (table_shown w.history w.tier u (ap is_some d))

  same_at : (i : ℕ) (h : Group) → slice_get w.tier.groups i ≡ Some h → nat_eq i place ≡ true → h ≡ g
  same_at i h there e = same_some (sym there ∙ ap (slice_get w.tier.groups) (eqb-true i place e) ∙ at)

  others_stay : (u : TableId) → covers u g ≡ false → table_at (shown_state w.history after) u ≡ table_at (shown_state w.history w.tier) u
  others_stay u off = one_table u (table_unchosen (alone place) f keeps w.history w.tier.log w.tier.groups u x.catalog.apart (λ i h there c. not_both (nat_eq i place) (λ e.
      never_both (covers u g) (ap (covers u) (sym (same_at i h there e)) ∙ c) off)))

  agree : AgreeOn (live_of w.tier) (shown_state w.history w.tier) (shown_state w.history after)
  agree = record {
    schema = refl;
    size = from_length (shown_table w.history after) 0 w.tier.schema ∙ sym (from_length (shown_table w.history w.tier) 0 w.tier.schema);
    rows = λ u on. others_stay u (not_both (covers u g) (λ c.
        let l : LiveTable w.tier.groups u = live_at w.tier.groups u x.catalog.apart (sym (live_table w.tier.groups u) ∙ on) in
        let here : find (covers u) w.tier.groups ≡ Some g = each_at (IsFound w.tier.groups) w.tier.groups place g (each_own w.tier.groups x.catalog.apart) at u c in
        let same : l.group ≡ g = same_some (sym l.found ∙ here) in
        never_both (is_read_only g) reads (read_only_not g (ap is_writethrough (sym same) ∙ l.through))));
  }

  pub read_stands : (AreDistinct g.keys → AreDistinct (f g).keys) → OnePosition groups → Stands (with_tier after w)
  read_stands distinct one = regrouped w x groups (changed_kept (alone place) f keeps 0 w.tier.groups)
      (each_chosen (alone place) f keeps (HasKeys x.flow.stand.over.virtual) (HasKeys x.flow.stand.over.virtual) 0 w.tier.groups
      (λ i h there keys c.
      let here : 0 + i ≡ i = Prim.omega arith in
      let same : h ≡ g = same_at i h there (ap (λ n. nat_eq n place) (sym here) ∙ c) in
      record {
        distinct = subst (λ z. AreDistinct (f z).keys) (sym same) (distinct (subst (λ z. AreDistinct z.keys) same keys.distinct));
        rooted = λ writes key e. absurd (never_both (is_read_only h) (ap is_read_only same ∙ reads) (read_only_not h (sym (same_kind h (f h) (keeps h)) ∙ writes)));
      })
      (λ h keys. keys) x.keys)
      (record {
        within = each_chosen (alone place) f keeps (IsReadWithin (length w.history)) (IsReadWithin (length w.history)) 0 w.tier.groups (λ i h there p c n e. p n (sym (stays h) ∙ e)) (λ h p. p) x.read.within;
        one = one;
      })
      (record {
        apply = applies_stay (live_of w.tier) (shown_state w.history w.tier) (shown_state w.history after) (own_writes w.tier.sessions) kn.closed_shown agree (all_through_on w.tier.groups (own_writes w.tier.sessions) ∙ x.sessions.through) x.sessions.shown.apply;
        apart = x.sessions.shown.apart;
      })

there_changed : (c : ℕ → Group → Bool) (f : Group → Group) (from : ℕ) (groups : List Group) (i : ℕ) (g : Group) → slice_get groups i ≡ Some g → slice_get (changed_from c f from groups) i ≡ Some (cond (c (from + i) g) (f g) g)
there_changed c f from [] i g at = Prim.cc
there_changed c f from (x ∷ groups) zero g at =
    let same : x ≡ g = Prim.cc in
    let here : from ≡ from + 0 = Prim.omega arith in
    λ j. Some (cond (c (here j) (same j)) (f (same j)) (same j))
there_changed c f from (x ∷ groups) (suc i) g at =
    let here : suc from + i ≡ from + suc i = Prim.omega arith in
    there_changed c f (suc from) groups i g at ∙ ap (λ n. Some (cond (c n g) (f g) g)) here

-- its set is refreshed, it is ON from now on, and has the instance
pub group_joins : (w : World) (place : ℕ) (g : Group) (want : Want) (n : ℕ) (s : TableState) → Stands w → MayJoin w place g n s
    → Stands (with_tier (with_found_at place s want (changed (alone place) state_loaded (refreshed (of_set g.def.interval (Some place)) n s w.tier))) w)
group_joins w place g want n s x may = third
  where
    joins : (h : Group) → slice_get w.tier.groups place ≡ Some h → h.def.interval ≡ g.def.interval
    joins h there = ap (λ (y : Group). y.def.interval) (same_some (sym there ∙ may.there))

    in_set_reads : (i : ℕ) (h : Group) → slice_get w.tier.groups i ≡ Some h → of_set g.def.interval (Some place) i h ≡ true → is_read_only h ≡ true
    in_set_reads i h there e = by (is_read_only h) refl e
      where
        by : (b : Bool) → is_read_only h ≡ b → ((b && nat_eq h.def.interval g.def.interval && Rattle.cache_tier.specs.Groups.is_on h.state) || nat_eq place i) ≡ true → b ≡ true
        by true is e = refl
        by false is e =
            let here : place ≡ i = eqb-true place i e in
            let same : h ≡ g = same_some (sym there ∙ ap (slice_get w.tier.groups) (sym here) ∙ may.there) in
            sym is ∙ ap is_read_only same ∙ may.reads

    first : Stands (with_tier (refreshed (of_set g.def.interval (Some place)) n s w.tier) w)
    first = (groups_refresh w (of_set g.def.interval (Some place)) n s x (record {
      state = may.state;
      within = may.within;
      reads = in_set_reads;
      one = refresh_has_one_position g.def.interval (Some place) n s w.tier (λ i h e there. let here : place ≡ i = same_some e in joins h (ap (slice_get w.tier.groups) here ∙ there)) x.read.one;
    })).stands

    one : Group
    one = cond (of_set g.def.interval (Some place) (0 + place) g) (at_position n s g) g

    one_at : slice_get (changed_from (of_set g.def.interval (Some place)) (at_position n s) 0 w.tier.groups) place ≡ Some one
    one_at = there_changed (of_set g.def.interval (Some place)) (at_position n s) 0 w.tier.groups place g may.there

    one_reads : is_read_only one ≡ true
    one_reads = by (of_set g.def.interval (Some place) (0 + place) g)
      where
        by : (b : Bool) → is_read_only (cond b (at_position n s g) g) ≡ true
        by true = may.reads
        by false = may.reads

    second : Stands (with_tier (changed (alone place) state_loaded (refreshed (of_set g.def.interval (Some place)) n s w.tier)) w)
    second =
        read_stands (with_tier (refreshed (of_set g.def.interval (Some place)) n s w.tier) w) first place one one_at one_reads state_loaded (λ h. record { def = refl; first = refl }) (λ h. refl) (λ d. d)
        (join_one g.def.interval place n w.tier.groups joins _
        (join_step g.def.interval place n w.tier.groups joins state_loaded (λ h. refl) (λ h. refl) _
        (join_base g.def.interval place n w.tier.groups joins s)) x.read.one)

    two_at : slice_get (changed_from (alone place) state_loaded 0 (changed_from (of_set g.def.interval (Some place)) (at_position n s) 0 w.tier.groups)) place ≡ Some (cond (nat_eq (0 + place) place) (state_loaded one) one)
    two_at = there_changed (alone place) state_loaded 0 (changed_from (of_set g.def.interval (Some place)) (at_position n s) 0 w.tier.groups) place one one_at

    two_reads : is_read_only (cond (nat_eq (0 + place) place) (state_loaded one) one) ≡ true
    two_reads = by (nat_eq (0 + place) place)
      where
        by : (b : Bool) → is_read_only (cond b (state_loaded one) one) ≡ true
        by true = one_reads
        by false = one_reads

    third : Stands (with_tier (with_found_at place s want (changed (alone place) state_loaded (refreshed (of_set g.def.interval (Some place)) n s w.tier))) w)
    third =
        read_stands (with_tier (changed (alone place) state_loaded (refreshed (of_set g.def.interval (Some place)) n s w.tier)) w) second place
        (cond (nat_eq (0 + place) place) (state_loaded one) one) two_at two_reads (with_found s want) (λ h. record { def = refl; first = refl }) (λ h. refl)
        (λ d. with_apart (found_root s (cond (nat_eq (0 + place) place) (state_loaded one) one) want) (cond (nat_eq (0 + place) place) (state_loaded one) one).keys (found_distinct s (cond (nat_eq (0 + place) place) (state_loaded one) one) want) d)
        (join_one g.def.interval place n w.tier.groups joins _
        (join_step g.def.interval place n w.tier.groups joins (with_found s want) (λ h. refl) (λ h. refl) _
        (join_step g.def.interval place n w.tier.groups joins state_loaded (λ h. refl) (λ h. refl) _
        (join_base g.def.interval place n w.tier.groups joins s))) x.read.one)
