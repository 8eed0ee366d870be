-- The keys of one writethrough group change.
use Rattle.std.proofs.Common.{◌≡◌, ℕ, ◌+◌, Bool, true, false, cond, not, ◌&&◌, ◌||◌, inr, nat_eq, Option, Some, None, is_some, List, [], ◌∷◌, length, slice_get, unwrap_or, refl, sym, ap, subst, ◌∙◌, arith, eqb-true}
use Rattle.std.specs.Option.{option_and_then}
use Rattle.std.specs.List.{find, list_all}
use Rattle.std.specs.FinMap as fm
use Rattle.tier_base.specs.declared.number.TableId.{TableId}
use Rattle.table_defs.specs.declared.definition.TableDef.{TableDef}
use Rattle.indexed_rows.specs.Rows.{Table}
use Rattle.row_types.specs.declared.value.Value.{Value}
use Rattle.table_state.specs.declared.operation.Op.{Op}
use Rattle.table_state.specs.Copies.{is_one_of}
use Rattle.table_state.specs.Footprints.{footprint_of}
use Rattle.table_state.specs.Histories.{state_of}
use Rattle.table_state.specs.Tables.{TableState, table_at}
use Rattle.instances.specs.Trees.{place_of}
use Rattle.instances.specs.Views.{kept_at}
use Rattle.order_laws.specs.Commits.{applied_sealed, pending, virtual_state}
use Rattle.order_laws.specs.Effects.{row_at}
use Rattle.order_laws.specs.Sides.{are_on}
use Rattle.order_laws.specs.Standing.{live_tables}
use Rattle.order_laws.proofs.TruthLaws.{both_true, never_both, not_both, same_some}
use Rattle.order_laws.specs.OpenWrites.{AllApply}
use Rattle.cache_tier.specs.declared.group.GroupDef.{GroupDef}
use Rattle.cache_tier.specs.Groups.{Group, covers, group_over, is_key, is_read_only, is_writethrough, with_keys, without_keys}
use Rattle.cache_tier.specs.Sets.{alone, changed, changed_from}
use Rattle.cache_tier.specs.Shown.{instances_where, root_key, shown, shown_in, shown_state, shown_table, shown_where, table_of_group}
use Rattle.cache_tier.specs.Standing.{AreDistinct}
use Rattle.cache_tier.specs.Targets.{has_flag, with_flag}
use Rattle.cache_tier.specs.TierStates.{Session, Tier}
use Rattle.cache_tier.specs.UnloadSteps.{unloaded}
use Rattle.cache_tier.specs.Worlds.{World}
use Rattle.cache_tier.proofs.ApartLaws.{load, unload}
use Rattle.cache_tier.proofs.PositionLaws.{alone_one, hidden_kind}
use Rattle.cache_tier.specs.StandingBetween.{Each, HasCatalog, HasKeys, IsCatalogued, IsReadWithin, Stands, has_root_row, own_writes}
use Rattle.cache_tier.specs.Events.{with_tier}
use Rattle.cache_tier.specs.Loading.{IsUntouchedBy, MayLoad, MayUnload, ShowsKeys}
use Rattle.cache_tier.proofs.ChosenGroups.{changed_kept, each_at, each_chosen, found_changed, table_unchosen}
use Rattle.cache_tier.proofs.GroupPairs.{IsKept, Pairs, catalogued_kept, own_tables_kept, pairs_each, same_kind, same_live}
use Rattle.cache_tier.proofs.GroupTables.{IsFound, LiveTable, each_own, over_is_found, read_only_not}
use Rattle.cache_tier.proofs.HistoryKeeps.{all_through_on, root_covers}
use Rattle.cache_tier.proofs.KeyListLaws.{key_in_map, key_with, key_without}
use Rattle.cache_tier.proofs.LesserLaws.{AreSameAt, applies_to_lesser}
use Rattle.cache_tier.proofs.PartLaws.{IsBelow, IsClosedPart, Row, applies_to_greater}
use Rattle.cache_tier.proofs.Regrouping.{regrouped}
use Rattle.cache_tier.proofs.SessionLaws.{Known, known}
use Rattle.cache_tier.proofs.ShownTables.{below_part, from_length, live_of, no_table_shown, part_shown, root_shown, shown_whole, table_shown}

-- one group alone
module _ (w : World) (x : Stands w) (place : ℕ) (g : Group) (at : slice_get w.tier.groups place ≡ Some g) (writes : is_writethrough g ≡ true) (f : Group → Group) (keeps : (h : Group) → IsKept h (f h)) (stays : (h : Group) → (f h).position ≡ h.position) where
  abbrev groups : List Group
  groups = changed_from (alone place) f 0 w.tier.groups

  abbrev after : Tier
  after = record w.tier { groups = changed_from (alone place) f 0 w.tier.groups }

  abbrev v : TableState
  v = x.flow.stand.over.virtual

  abbrev shown_before : TableState
  shown_before = shown_state w.history w.tier

  abbrev shown_after : TableState
  shown_after = shown_state w.history after

  pub k : Known w v
  k = known w x

  pub kept : Pairs IsKept w.tier.groups groups
  kept = changed_kept (alone place) f keeps 0 w.tier.groups

  catalog : HasCatalog after
  catalog = record {
    each = pairs_each IsKept (IsCatalogued w.tier.schema) (IsCatalogued w.tier.schema) (λ a b r c. catalogued_kept w.tier.schema a b r c) w.tier.groups groups kept x.catalog.each;
    apart = own_tables_kept w.tier.groups groups kept x.catalog.apart;
  }

  live_same : live_of after ≡ live_of w.tier
  live_same = ap live_tables (same_live w.tier.groups groups kept)

  pub part_after : IsClosedPart (live_of w.tier) v shown_after
  part_after = subst (λ on. IsClosedPart on v shown_after) live_same (part_shown w.history after v k.v_is catalog k.more k.front k.sound)

  pub found_before : (u : TableId) → covers u g ≡ true → find (covers u) w.tier.groups ≡ Some g
  found_before u c = each_at (IsFound w.tier.groups) w.tier.groups place g (each_own w.tier.groups x.catalog.apart) at u c

  found_after : (u : TableId) → covers u g ≡ true → find (covers u) groups ≡ Some (f g)
  found_after u c =
      let here : 0 + place ≡ place = Prim.omega arith in
      found_changed (alone place) f keeps 0 w.tier.groups place g u x.catalog.apart at c
      ∙ ap (λ b. Some (cond b (f g) g)) (ap (λ n. nat_eq n place) here ∙ Rattle.std.proofs.Common.eq-eqb place place refl)

  one_table : (u : TableId) → table_of_group w.history w.tier.log u (group_over groups u) ≡ table_of_group w.history w.tier.log u (group_over w.tier.groups u) → table_at shown_after u ≡ table_at shown_before u
  one_table u e = by (slice_get w.tier.schema u.0) refl
    where
      by : (o : Option TableDef) → slice_get w.tier.schema u.0 ≡ o → table_at shown_after u ≡ table_at shown_before u
      by None d = no_table_shown w.history after u d ∙ sym (no_table_shown w.history w.tier u d)
      by (Some def) d = table_shown w.history after u (ap is_some d) ∙ e ∙ sym (table_shown w.history w.tier u (ap is_some d))

  pub tables_stay : (u : TableId) → covers u g ≡ false → table_at shown_after u ≡ table_at shown_before u
  tables_stay u off = one_table u (table_unchosen (alone place) f keeps w.history w.tier.log w.tier.groups u x.catalog.apart (λ i h there c. not_both (nat_eq i place) (λ e.
      let same : h ≡ g = same_some (sym there ∙ ap (slice_get w.tier.groups) (eqb-true i place e) ∙ at) in
      never_both (covers u g) (ap (covers u) (sym same) ∙ c) off)))

  -- the rows of its tables
  pub tables_then : (u : TableId) (p : ℕ) → place_of g.def.tree u ≡ Some p → table_at shown_after u ≡ kept_at (shown_in v (f g)) p
  tables_then u p e =
      let c : covers u g ≡ true = ap is_some e in
      let defined = Rattle.cache_tier.proofs.TableLaws.covered_defined w.tier.schema g u (each_at (IsCatalogued w.tier.schema) w.tier.groups place g x.catalog.each at) c in
      table_shown w.history after u defined
      ∙ ap (table_of_group w.history w.tier.log u) (over_is_found groups u ∙ found_after u c)
      ∙ ap (λ d. kept_at (shown w.history w.tier.log (f g)) (unwrap_or (place_of d u) 0)) (ap (λ (d : GroupDef). d.tree) (keeps g).def)
      ∙ ap (λ o. kept_at (shown w.history w.tier.log (f g)) (unwrap_or o 0)) e
      ∙ ap (λ b. kept_at (shown_where (cond b (option_and_then (Rattle.table_state.specs.Histories.state_at w.history) (f g).position) (virtual_state w.history w.tier.log)) (f g)) p) (read_only_not (f g) (same_kind g (f g) (keeps g) ∙ writes))
      ∙ ap (λ o. kept_at (shown_where o (f g)) p) k.v_is

  pub root_before : (q : Row) → row_at shown_before g.def.tree.root.table q ≡ cond (is_key g.keys q) (row_at v g.def.tree.root.table q) None
  root_before q = root_shown w.history w.tier v k.v_is x.catalog k.more k.front k.sound g (found_before g.def.tree.root.table (root_covers g)) writes q

  pub root_after : (q : Row) → row_at shown_after g.def.tree.root.table q ≡ cond (is_key (f g).keys q) (row_at v g.def.tree.root.table q) None
  root_after q =
      let roots : (f g).def.tree.root.table ≡ g.def.tree.root.table = ap (λ (d : GroupDef). d.tree.root.table) (keeps g).def in
      subst (λ r. row_at shown_after r q ≡ cond (is_key (f g).keys q) (row_at v r q) None) roots
      (root_shown w.history after v k.v_is catalog k.more k.front k.sound (f g) (ap (λ r. find (covers r) groups) roots ∙ found_after g.def.tree.root.table (root_covers g)) (same_kind g (f g) (keeps g) ∙ writes) q)

  abbrev its_table : (u : TableId) → covers u g ≡ true → LiveTable w.tier.groups u
  its_table u c = let (p, p_is) = Rattle.cache_tier.proofs.GroupTables.some_place (place_of g.def.tree u) c in record { group = g; found = found_before u c; through = writes; place = p; at = p_is }

  fewer_roots : (o p : Bool) (r : Option Row) → (o ≡ true → p ≡ true) → is_some (cond o r None) ≡ true → is_some (cond p r None) ≡ true
  fewer_roots true p r e h = ap (λ b. is_some (cond b r None)) (e refl) ∙ h
  fewer_roots false p r e h = Prim.cc

  pub row_of : (a b : TableState) → IsClosedPart (live_of w.tier) v a → IsClosedPart (live_of w.tier) v b → (u : TableId) (q row : Row) → is_one_of (live_of w.tier) u ≡ true → row_at a u q ≡ Some row → is_some (row_at b u q) ≡ true → row_at b u q ≡ Some row
  row_of a b part_a part_b u q row on e h = by (row_at b u q) refl h
    where
      by : (o : Option Row) → row_at b u q ≡ o → is_some o ≡ true → o ≡ Some row
      by None is h = Prim.cc
      by (Some r) is h = sym (part_b.within u q r on is) ∙ part_a.within u q row on e

  pub grows : ((q : Row) → is_key g.keys q ≡ true → is_key (f g).keys q ≡ true) → IsBelow (live_of w.tier) shown_before shown_after
  grows more u q row on e = by (covers u g) refl
    where
      by : (b : Bool) → covers u g ≡ b → row_at shown_after u q ≡ Some row
      by false c = ap (λ (m : Table). fm.get m q) (tables_stay u c) ∙ e
      by true c =
          let l = its_table u c in
          row_of shown_before shown_after k.part part_after u q row on e
          (below_part w.history w.tier v k.v_is x.catalog k.more k.front k.sound shown_before shown_after k.part part_after (its_table u c).place u (its_table u c) (Prim.omega arith)
          (λ r h. ap is_some (root_after r) ∙ fewer_roots (is_key g.keys r) (is_key (f g).keys r) (row_at v g.def.tree.root.table r) (more r) (sym (ap is_some (root_before r)) ∙ h)) q (ap is_some e))

  pub shrinks : ((q : Row) → is_key (f g).keys q ≡ true → is_key g.keys q ≡ true) → IsBelow (live_of w.tier) shown_after shown_before
  shrinks fewer u q row on e = by (covers u g) refl
    where
      by : (b : Bool) → covers u g ≡ b → row_at shown_before u q ≡ Some row
      by false c = ap (λ (m : Table). fm.get m q) (sym (tables_stay u c)) ∙ e
      by true c =
          row_of shown_after shown_before part_after k.part u q row on e
          (below_part w.history w.tier v k.v_is x.catalog k.more k.front k.sound shown_after shown_before part_after k.part (its_table u c).place u (its_table u c) (Prim.omega arith)
          (λ r h. ap is_some (root_before r) ∙ fewer_roots (is_key (f g).keys r) (is_key g.keys r) (row_at v g.def.tree.root.table r) (fewer r) (sym (ap is_some (root_after r)) ∙ h)) q (ap is_some e))

  -- it stands, where the sessions' writes apply over what is shown then, and the keys have roots
  pub stands_then : HasKeys v (f g) → AllApply shown_after (own_writes w.tier.sessions) → Stands (with_tier after w)
  stands_then keys apply = regrouped w x groups kept
      (each_chosen (alone place) f keeps (HasKeys v) (HasKeys v) 0 w.tier.groups (λ i h there p c.
      let here : 0 + i ≡ i = Prim.omega arith in
      let same : h ≡ g = same_some (sym there ∙ ap (slice_get w.tier.groups) (eqb-true i place (ap (λ n. nat_eq n place) (sym here) ∙ c)) ∙ at) in
      subst (λ z. HasKeys v (f z)) (sym same) keys) (λ h p. p) x.keys)
      (record {
        within = each_chosen (alone place) f keeps (IsReadWithin (length w.history)) (IsReadWithin (length w.history)) 0 w.tier.groups (λ i h there p c n e. p n (sym (stays h) ∙ e)) (λ h p. p) x.read.within;
        one = alone_one w.tier.groups place f (λ h there.
            let same : h ≡ g = same_some (sym there ∙ at) in
            inr (hidden_kind (f h) (read_only_not (f h) (same_kind h (f h) (keeps h) ∙ ap is_writethrough same ∙ writes)))) x.read.one;
      })
      (record { apply = apply; apart = x.sessions.shown.apart })

-- writes of sessions over what is shown before and behind

pub all_greater : (on : List TableId) (v a b : TableState) (owns : List (List Op)) → Rattle.order_laws.specs.Sides.IsClosed on v.schema → Rattle.order_laws.specs.Sides.IsClosed on b.schema → Rattle.table_state.specs.Independence.IsWhole b → Rattle.table_state.specs.Sound.IsLinked v → IsClosedPart on v a → IsClosedPart on v b → IsBelow on a b
    → list_all (are_on on) owns ≡ true → AllApply v owns → AllApply a owns → AllApply b owns
all_greater on v a b [] closed closed_b whole linked part_a part_b below mine all_v all_a = tt
all_greater on v a b (own ∷ owns) closed closed_b whole linked part_a part_b below mine all_v all_a =
    let (first, rest) = both_true (are_on on own) (list_all (are_on on) owns) mine in
    let more = applies_to_greater on own v all_v.0.top a all_a.0.top b closed closed_b whole linked part_a part_b below first all_v.0.leads all_a.0.leads in
    (record { top = more.state; leads = more.leads }, all_greater on v a b owns closed closed_b whole linked part_a part_b below rest all_v.1 all_a.1)

abbrev pub AllSameAt : List TableDef → List (List Op) → TableState → TableState → Type 0
AllSameAt schema owns a b = Each (λ own. AreSameAt (footprint_of schema own) a b) owns

pub all_lesser : (on : List TableId) (v a b : TableState) (owns : List (List Op)) → Rattle.order_laws.specs.Sides.IsClosed on a.schema → b.schema ≡ a.schema → length b.tables ≡ length a.tables → Rattle.table_state.specs.Sound.IsLinked v → IsClosedPart on v a → IsClosedPart on v b
    → list_all (are_on on) owns ≡ true → AllSameAt a.schema owns a b → AllApply v owns → AllApply a owns → AllApply b owns
all_lesser on v a b [] closed schema size linked part_a part_b mine same all_v all_a = tt
all_lesser on v a b (own ∷ owns) closed schema size linked part_a part_b mine same all_v all_a =
    let (first, rest) = both_true (are_on on own) (list_all (are_on on) owns) mine in
    let (top, leads) = applies_to_lesser on own v all_v.0.top a all_a.0.top b closed schema size linked part_a part_b first same.0 all_v.0.leads all_a.0.leads in
    (record { top = top; leads = leads }, all_lesser on v a b owns closed schema size linked part_a part_b rest same.1 all_v.1 all_a.1)

-- flags
flag_keeps : (b : Bool) (flag : Bool) (g : Group) → IsKept g (cond b (record g { loaded = flag }) g)
flag_keeps true flag g = record { def = refl; first = refl }
flag_keeps false flag g = record { def = refl; first = refl }

flag_keys : (b : Bool) (flag : Bool) (g : Group) → (cond b (record g { loaded = flag }) g).keys ≡ g.keys
flag_keys true flag g = refl
flag_keys false flag g = refl

-- what it shows, by its keys
pub shown_by_keys : (v : TableState) (g h : Group) (test : List Value → Bool) → IsKept g h → is_read_only h ≡ false → ((q : List Value) → is_key h.keys q ≡ test q) → shown_in v h ≡ instances_where v g.def.tree (λ row. test (root_key v g row))
shown_by_keys v g h test kept reads same =
    ap (λ (t : List Value → Bool). instances_where v h.def.tree (λ row. cond (is_read_only h) (cond (Rattle.cache_tier.specs.Groups.is_explicit h) h.loaded (t (root_key v h row)) && Rattle.cache_tier.specs.Shown.exceeds h row) (t (root_key v h row)))) (λ i q. same q i)
    ∙ ap (λ b. instances_where v h.def.tree (λ row. cond b (cond (Rattle.cache_tier.specs.Groups.is_explicit h) h.loaded (test (root_key v h row)) && Rattle.cache_tier.specs.Shown.exceeds h row) (test (root_key v h row)))) reads
    ∙ ap (λ (d : GroupDef). instances_where v d.tree (λ row. test (Rattle.evaluator.specs.Cascades.key_in (slice_get v.schema d.tree.root.table.0) row))) kept.def

-- LOAD.
pub group_loads : (w : World) (place : ℕ) (g : Group) (rows : Table) → Stands w → MayLoad w place g rows
    → ShowsKeys g (λ key. is_key g.keys key || fm.contains_key rows key) w (with_tier (changed (alone place) (λ h. with_flag true (record h { keys = with_keys (fm.keys rows) h.keys })) w.tier) w)
group_loads w place g rows x may = record {
  stands = stands_then w x place g may.there may.writes f keeps stays
      (record {
        distinct = subst AreDistinct (sym (keys_are g)) (load rows g.keys g_keys.distinct);
        rooted = λ writes key e.
            ap (λ (d : GroupDef). fm.contains_key (table_at v d.tree.root.table) key) (keeps g).def
            ∙ has_root key (is_key g.keys key) refl (sym (tests key) ∙ e);
      })
      (all_greater (live_of w.tier) v (shown_state w.history w.tier) (shown_state w.history (record w.tier { groups = changed_from (alone place) f 0 w.tier.groups })) (own_writes w.tier.sessions) kn.closed kn.closed_shown (shown_whole w.history (record w.tier { groups = changed_from (alone place) f 0 w.tier.groups })) kn.sound.linked kn.part
      (part_after w x place g may.there may.writes f keeps stays)
      (grows w x place g may.there may.writes f keeps stays (λ q e. tests q ∙ ap (λ b. b || fm.contains_key rows q) e))
      (all_through_on w.tier.groups (own_writes w.tier.sessions) ∙ x.sessions.through) x.sessions.virtual x.sessions.shown.apply);
  its = λ s u p is e. tables_then w x place g may.there may.writes f keeps stays u p e ∙ ap (λ m. kept_at m p) (shown_by_keys v g (f g) (λ key. is_key g.keys key || fm.contains_key rows key) (keeps g) (read_only_not (f g) (same_kind g (f g) (keeps g) ∙ may.writes)) tests)
      ∙ ap (λ z. kept_at (instances_where z g.def.tree (λ row. is_key g.keys (root_key z g row) || fm.contains_key rows (root_key z g row))) p) (same_some (sym kn.v_is ∙ is));
  others = tables_stay w x place g may.there may.writes f keeps stays;
}
  where
    f : Group → Group
    f h = with_flag true (record h { keys = with_keys (fm.keys rows) h.keys })

    v : TableState
    v = x.flow.stand.over.virtual

    kn : Known w v
    kn = known w x

    keeps : (h : Group) → IsKept h (f h)
    keeps h =
        let a = flag_keeps (has_flag (record h { keys = with_keys (fm.keys rows) h.keys })) true (record h { keys = with_keys (fm.keys rows) h.keys }) in
        record { def = a.def; first = a.first }

    stays : (h : Group) → (f h).position ≡ h.position
    stays h = Rattle.cache_tier.proofs.PositionLaws.flag_position true (record h { keys = with_keys (fm.keys rows) h.keys })

    keys_are : (h : Group) → (f h).keys ≡ with_keys (fm.keys rows) h.keys
    keys_are h = flag_keys (has_flag (record h { keys = with_keys (fm.keys rows) h.keys })) true (record h { keys = with_keys (fm.keys rows) h.keys })

    g_keys : HasKeys v g
    g_keys = each_at (HasKeys v) w.tier.groups place g x.keys may.there

    tests : (q : List Value) → is_key (f g).keys q ≡ (is_key g.keys q || fm.contains_key rows q)
    tests q = ap (λ ks. is_key ks q) (keys_are g) ∙ key_with (fm.keys rows) g.keys q ∙ ap (λ b. is_key g.keys q || b) (key_in_map rows q)

    -- nothing is pending, so the virtual state is the backing one
    drained : v ≡ x.flow.stand.over.backing
    drained =
        let none : pending w.history w.tier.log ≡ [] = x.flow.rest ∙ ap (pending w.history) may.settled in
        same_some (sym kn.v_is ∙ ap (λ xs. option_and_then (applied_sealed xs) (state_of w.history)) none ∙ ap (option_and_then (applied_sealed [])) x.flow.stand.over.leaves)

    has_root : (key : List Value) (b : Bool) → is_key g.keys key ≡ b → (b || fm.contains_key rows key) ≡ true → fm.contains_key (table_at v g.def.tree.root.table) key ≡ true
    has_root key true e h = g_keys.rooted may.writes key e
    has_root key false e h = ap (λ z. has_root_row z g key) drained ∙ may.roots x.flow.stand.over.backing x.flow.stand.over.leaves key h

-- keys leave

pub unload_keeps : (gone : List (List Value)) (all : Bool) (h : Group) → IsKept h (unloaded gone all h)
unload_keeps gone all h = by all
  where
    by : (b : Bool) → IsKept h (cond b (with_flag false (record h { keys = without_keys gone h.keys })) (record h { keys = without_keys gone h.keys }))
    by true = let a = flag_keeps (has_flag (record h { keys = without_keys gone h.keys })) false (record h { keys = without_keys gone h.keys }) in record { def = a.def; first = a.first }
    by false = record { def = refl; first = refl }

pub unload_stays : (gone : List (List Value)) (all : Bool) (h : Group) → (unloaded gone all h).position ≡ h.position
unload_stays gone all h = by all
  where
    by : (b : Bool) → (cond b (with_flag false (record h { keys = without_keys gone h.keys })) (record h { keys = without_keys gone h.keys })).position ≡ h.position
    by true = Rattle.cache_tier.proofs.PositionLaws.flag_position false (record h { keys = without_keys gone h.keys })
    by false = refl

pub unload_keys : (gone : List (List Value)) (all : Bool) (h : Group) → (unloaded gone all h).keys ≡ without_keys gone h.keys
unload_keys gone all h = by all
  where
    by : (b : Bool) → (cond b (with_flag false (record h { keys = without_keys gone h.keys })) (record h { keys = without_keys gone h.keys })).keys ≡ without_keys gone h.keys
    by true = flag_keys (has_flag (record h { keys = without_keys gone h.keys })) false (record h { keys = without_keys gone h.keys })
    by false = refl

pub gone_tests : (gone : List (List Value)) (all : Bool) (g : Group) (q : List Value) → is_key (unloaded gone all g).keys q ≡ (is_key g.keys q && not (is_key gone q))
gone_tests gone all g q = ap (λ ks. is_key ks q) (unload_keys gone all g) ∙ key_without gone g.keys q

-- UNLOAD, and aging: keys leave.
pub group_unloads : (w : World) (place : ℕ) (g : Group) (gone : List (List Value)) (all : Bool) → Stands w → MayUnload w place g (with_tier (changed (alone place) (unloaded gone all) w.tier) w)
    → ShowsKeys g (λ key. is_key g.keys key && not (is_key gone key)) w (with_tier (changed (alone place) (unloaded gone all) w.tier) w)
group_unloads w place g gone all x may = record {
  stands = stands_then w x place g may.there may.writes f keeps stays
      (record {
        distinct = subst AreDistinct (sym (keys_are g)) (unload gone g.keys g_keys.distinct);
        rooted = λ writes key e.
            ap (λ (d : GroupDef). fm.contains_key (table_at v d.tree.root.table) key) (keeps g).def
            ∙ g_keys.rooted may.writes key (both_true (is_key g.keys key) (not (is_key gone key)) (sym (tests key) ∙ e)).0;
      })
      (all_lesser (live_of w.tier) v (shown_state w.history w.tier) (shown_state w.history (record w.tier { groups = changed_from (alone place) f 0 w.tier.groups })) (own_writes w.tier.sessions) kn.closed_shown refl
      (from_length (shown_table w.history (record w.tier { groups = changed_from (alone place) f 0 w.tier.groups })) 0 w.tier.schema ∙ sym (from_length (shown_table w.history w.tier) 0 w.tier.schema)) kn.sound.linked kn.part
      (part_after w x place g may.there may.writes f keeps stays)
      (all_through_on w.tier.groups (own_writes w.tier.sessions) ∙ x.sessions.through) (same_at w.tier.sessions may.unheld) x.sessions.virtual x.sessions.shown.apply);
  its = λ s u p is e. tables_then w x place g may.there may.writes f keeps stays u p e ∙ ap (λ m. kept_at m p) (shown_by_keys v g (f g) (λ key. is_key g.keys key && not (is_key gone key)) (keeps g) (read_only_not (f g) (same_kind g (f g) (keeps g) ∙ may.writes)) tests)
      ∙ ap (λ z. kept_at (instances_where z g.def.tree (λ row. is_key g.keys (root_key z g row) && not (is_key gone (root_key z g row)))) p) (same_some (sym kn.v_is ∙ is));
  others = tables_stay w x place g may.there may.writes f keeps stays;
}
  where
    f : Group → Group
    f = unloaded gone all

    v : TableState
    v = x.flow.stand.over.virtual

    kn : Known w v
    kn = known w x

    keeps : (h : Group) → IsKept h (f h)
    keeps = unload_keeps gone all

    stays : (h : Group) → (f h).position ≡ h.position
    stays = unload_stays gone all

    keys_are : (h : Group) → (f h).keys ≡ without_keys gone h.keys
    keys_are = unload_keys gone all

    g_keys : HasKeys v g
    g_keys = each_at (HasKeys v) w.tier.groups place g x.keys may.there

    tests : (q : List Value) → is_key (f g).keys q ≡ (is_key g.keys q && not (is_key gone q))
    tests q = ap (λ ks. is_key ks q) (keys_are g) ∙ key_without gone g.keys q

    same_at : (sessions : List Session) → Each (IsUntouchedBy w (with_tier (record w.tier { groups = changed_from (alone place) f 0 w.tier.groups }) w)) sessions
        → AllSameAt w.tier.schema (own_writes sessions) (shown_state w.history w.tier) (shown_state w.history (record w.tier { groups = changed_from (alone place) f 0 w.tier.groups }))
    same_at [] e = tt
    same_at (s ∷ sessions) e = (λ key h. e.0 key h, same_at sessions e.1)
