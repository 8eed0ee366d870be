-- Keys leave groups: less is shown, and the tier stands where no instance of a writethrough group leaves in which a
-- session has uncommitted writes.
use Rattle.std.proofs.Common.{◌≡◌, ℕ, zero, suc, ◌+◌, ◌≤◌, Bool, true, false, cond, ◌||◌, inl, Option, Some, None, is_some, List, [], ◌∷◌, length, slice_get, map, unwrap_or, refl, sym, ap, subst, ◌∙◌, arith}
use Rattle.std.specs.List.{find, list_all, list_any}
use Rattle.std.specs.FinMap as fm
use Rattle.tier_base.specs.declared.number.TableId.{TableId}
use Rattle.table_defs.specs.declared.definition.TableDef.{TableDef}
use Rattle.indexed_rows.specs.Rows.{Table, key_of}
use Rattle.indexed_rows.proofs.EntryLaws.{same_itself}
use Rattle.table_state.specs.declared.footprint.RowKey.{RowKey}
use Rattle.table_state.specs.Copies.{is_one_of}
use Rattle.table_state.specs.Footprints.{footprint_of}
use Rattle.table_state.specs.Tables.{TableState, table_at}
use Rattle.instances.specs.declared.tree.Child.{Child}
use Rattle.instances.specs.Trees.{place_of}
use Rattle.instances.specs.Views.{kept_at, passes, root_rows, rows_where, selects}
use Rattle.instances.proofs.Gathering.{get_where}
use Rattle.order_laws.specs.Effects.{row_at}
use Rattle.order_laws.specs.Sides.{are_on}
use Rattle.order_laws.specs.Standing.{live_tables}
use Rattle.order_laws.proofs.TruthLaws.{both_true, never_both, same_some}
use Rattle.cache_tier.specs.declared.group.GroupDef.{GroupDef}
use Rattle.cache_tier.specs.Groups.{Group, covers, is_key, is_writethrough}
use Rattle.cache_tier.specs.Locks.{has_writes_in, holds, instance_rows, is_busy, tree_tables}
use Rattle.cache_tier.specs.Shown.{all_over, instances_where, root_key, shown, shown_state, shown_table, table_of_group}
use Rattle.cache_tier.specs.Standing.{AreDistinct}
use Rattle.cache_tier.specs.StandingBetween.{HasCatalog, HasKeys, IsCatalogued, IsReadWithin, Stands, own_writes}
use Rattle.cache_tier.specs.TierStates.{Session, Tier}
use Rattle.cache_tier.specs.Worlds.{World}
use Rattle.cache_tier.specs.Events.{with_tier}
use Rattle.cache_tier.proofs.GroupPairs.{IsKept, Pairs, catalogued_kept, own_tables_kept, pairs_each, pairs_mapped, same_covers, same_kind, same_live}
use Rattle.cache_tier.proofs.GroupTables.{LiveTable, any_found, each_changed, each_found, live_at, live_table, over_is_found, same_found, through_live}
use Rattle.cache_tier.proofs.HeldKeys.{held_on}
use Rattle.cache_tier.proofs.HistoryKeeps.{all_through_on, root_covers}
use Rattle.cache_tier.proofs.LesserLaws.{AreSameAt}
use Rattle.cache_tier.proofs.LoadLaws.{AllSameAt, all_lesser}
use Rattle.cache_tier.proofs.LockLaws.{any_in_children, table_listed}
use Rattle.cache_tier.proofs.PartLaws.{IsClosedPart, Row, some_of}
use Rattle.cache_tier.proofs.PositionLaws.{Weaker, map_one}
use Rattle.cache_tier.proofs.Regrouping.{regrouped}
use Rattle.cache_tier.proofs.SessionLaws.{Known, known}
use Rattle.cache_tier.proofs.ShownTables.{InTree, AtChild, AtRoot, below_part, child_plain, from_length, in_tree_at, live_of, part_shown, root_plain, root_shown, same_id, some_def, table_shown}
use Rattle.cache_tier.proofs.ShownTrees.{SoundChild, at_place, child_kept, front_kept, get_child, place_there, sound_child}
use Rattle.cache_tier.proofs.TableLaws.{covered_defined}

-- the second group has no more keys than the first, and those that have left are of no instance with uncommitted writes
pub record IsLessened (w : World) (g h : Group) : Type 0 where
  pub kept : IsKept g h
  pub weaker : Weaker g h
  pub distinct : AreDistinct g.keys → AreDistinct h.keys
  pub fewer : (k : Row) → is_key h.keys k ≡ true → is_key g.keys k ≡ true
  pub idle : is_writethrough g ≡ true → (k : Row) → is_key g.keys k ≡ true → is_key h.keys k ≡ false → is_busy w.history w.tier g k ≡ false

-- A row that is shown is in the instance of a listed root, and is shown behind it where the root is listed then.
record IsRooted (before after : TableState) (g h : Group) (p : ℕ) (u : TableId) (q : Row) : Type 0 where
  root : Row
  listed : is_key g.keys root ≡ true
  inside : is_some (fm.get (kept_at (instances_where before g.def.tree (λ row. is_key (root ∷ []) (root_key before g row))) p) q) ≡ true
  stays : is_key h.keys root ≡ true → is_some (row_at after u q) ≡ true

fewer_roots : (o p : Bool) (r : Option Row) → (o ≡ true → p ≡ true) → is_some (cond o r None) ≡ true → is_some (cond p r None) ≡ true
fewer_roots true p r e h = ap (λ b. is_some (cond b r None)) (e refl) ∙ h
fewer_roots false p r e h = Prim.cc

cond_of : (b : Bool) (o : Option Row) (row : Row) → cond b o None ≡ Some row → (b ≡ true) × (o ≡ Some row)
cond_of true o row h = (refl, h)
cond_of false o row h = Prim.cc

of_cond : (b : Bool) (row : Row) → is_some (cond b (Some row) None) ≡ b
of_cond true row = refl
of_cond false row = refl

or_both : (a b : Bool) → (a || b) ≡ false → (a ≡ false) × (b ≡ false)
or_both true b e = Prim.cc
or_both false b e = (refl, e)

find_mapped : (f : Group → Group) → ((g : Group) → IsKept g (f g)) → (u : TableId) (groups : List Group) (g : Group) → find (covers u) groups ≡ Some g → find (covers u) (map f groups) ≡ Some (f g)
find_mapped f keeps u [] g e = Prim.cc
find_mapped f keeps u (h ∷ groups) g e = by (covers u h) refl e (find_mapped f keeps u groups g)
  where
    by : (b : Bool) → covers u h ≡ b → cond b (Some h) (find (covers u) groups) ≡ Some g → (find (covers u) groups ≡ Some g → find (covers u) (map f groups) ≡ Some (f g)) → cond (covers u (f h)) (Some (f h)) (find (covers u) (map f groups)) ≡ Some (f g)
    by true c e rest = ap (λ b. cond b (Some (f h)) (find (covers u) (map f groups))) (same_covers h (f h) (keeps h) u ∙ c) ∙ ap (λ z. Some (f z)) (same_some e)
    by false c e rest = ap (λ b. cond b (Some (f h)) (find (covers u) (map f groups))) (same_covers h (f h) (keeps h) u ∙ c) ∙ rest e

module _ (w : World) (x : Stands w) (f : Group → Group) (all : (g : Group) → IsLessened w g (f g)) where
  abbrev groups : List Group
  groups = map f w.tier.groups

  abbrev after : Tier
  after = record w.tier { groups = map f w.tier.groups }

  abbrev v : TableState
  v = x.flow.stand.over.virtual

  abbrev shown_before : TableState
  shown_before = shown_state w.history w.tier

  abbrev shown_after : TableState
  shown_after = shown_state w.history (record w.tier { groups = map f w.tier.groups })

  keeps : (g : Group) → IsKept g (f g)
  keeps g = (all g).kept

  kn : Known w v
  kn = known w x

  kept : Pairs IsKept w.tier.groups groups
  kept = pairs_mapped IsKept f keeps w.tier.groups

  catalog : HasCatalog after
  catalog = record {
    each = pairs_each IsKept (IsCatalogued w.tier.schema) (IsCatalogued w.tier.schema) (λ a b r c. catalogued_kept w.tier.schema a b r c) w.tier.groups groups kept x.catalog.each;
    apart = own_tables_kept w.tier.groups groups kept x.catalog.apart;
  }

  live_same : live_of after ≡ live_of w.tier
  live_same = ap live_tables (same_live w.tier.groups groups kept)

  part_after : IsClosedPart (live_of w.tier) v shown_after
  part_after = subst (λ on. IsClosedPart on v shown_after) live_same (part_shown w.history after v kn.v_is catalog kn.more kn.front kn.sound)

  -- what each group shows then
  pub its_table : (g : Group) (u : TableId) (p : ℕ) → find (covers u) w.tier.groups ≡ Some g → place_of g.def.tree u ≡ Some p → table_at shown_after u ≡ kept_at (shown w.history w.tier.log (f g)) p
  its_table g u p found e =
      let defined = covered_defined w.tier.schema g u (each_found (IsCatalogued w.tier.schema) (covers u) w.tier.groups g x.catalog.each found) (ap is_some e) in
      table_shown w.history after u defined
      ∙ ap (table_of_group w.history w.tier.log u) (over_is_found groups u ∙ find_mapped f keeps u w.tier.groups g found)
      ∙ ap (λ d. kept_at (shown w.history w.tier.log (f g)) (unwrap_or (place_of d u) 0)) (ap (λ (d : GroupDef). d.tree) (keeps g).def)
      ∙ ap (λ o. kept_at (shown w.history w.tier.log (f g)) (unwrap_or o 0)) e

  -- one writethrough group
  module _ (g : Group) (found : find (covers g.def.tree.root.table) w.tier.groups ≡ Some g) (writes : is_writethrough g ≡ true) where
    abbrev root : TableId
    root = g.def.tree.root.table

    abbrev Rooted : ℕ → TableId → Row → Type 0
    Rooted p u q = IsRooted shown_before shown_after g (f g) p u q

    its : IsCatalogued w.tier.schema g
    its = each_found (IsCatalogued w.tier.schema) (covers root) w.tier.groups g x.catalog.each found

    found_at : (u : TableId) → covers u g ≡ true → find (covers u) w.tier.groups ≡ Some g
    found_at u c = same_found w.tier.groups root u g x.catalog.apart found c

    on_live : (u : TableId) → covers u g ≡ true → is_one_of (live_of w.tier) u ≡ true
    on_live u c = live_table w.tier.groups u ∙ through_live w.tier.groups u g (found_at u c) writes

    root_before : (q : Row) → row_at shown_before root q ≡ cond (is_key g.keys q) (row_at v root q) None
    root_before q = root_shown w.history w.tier v kn.v_is x.catalog kn.more kn.front kn.sound g found writes q

    root_after : (q : Row) → row_at shown_after root q ≡ cond (is_key (f g).keys q) (row_at v root q) None
    root_after q =
        let roots : (f g).def.tree.root.table ≡ root = ap (λ (d : GroupDef). d.tree.root.table) (keeps g).def in
        subst (λ r. row_at shown_after r q ≡ cond (is_key (f g).keys q) (row_at v r q) None) roots
        (root_shown w.history after v kn.v_is catalog kn.more kn.front kn.sound (f g) (ap (λ r. find (covers r) groups) roots ∙ find_mapped f keeps root w.tier.groups g found) (same_kind g (f g) (keeps g) ∙ writes) q)

    -- nothing more is shown
    below : (u : TableId) (l : LiveTable w.tier.groups u) → l.group ≡ g → (q : Row) → is_some (row_at shown_after u q) ≡ true → is_some (row_at shown_before u q) ≡ true
    below u l same q e = below_part w.history w.tier v kn.v_is x.catalog kn.more kn.front kn.sound shown_after shown_before part_after kn.part l.place u l (Prim.omega arith) roots q e
      where
        roots : (r : Row) → is_some (row_at shown_after l.group.def.tree.root.table r) ≡ true → is_some (row_at shown_before l.group.def.tree.root.table r) ≡ true
        roots r h =
            let there : l.group.def.tree.root.table ≡ root = ap (λ (y : Group). y.def.tree.root.table) same in
            ap (λ t. is_some (row_at shown_before t r)) there
            ∙ (ap is_some (root_before r)
            ∙ fewer_roots (is_key (f g).keys r) (is_key g.keys r) (row_at v root r) ((all g).fewer r) (sym (ap is_some (root_after r)) ∙ sym (ap (λ t. is_some (row_at shown_after t r)) there) ∙ h))

    at_root : (q row : Row) → row_at shown_before root q ≡ Some row → Rooted 0 root q
    at_root q row e = record { root = q; listed = was.0; inside = inside; stays = λ h. ap is_some (root_after q ∙ (λ i. cond (h i) (was.1 i) None)) }
      where
        test : Row → Bool
        test r = is_key (q ∷ []) (root_key shown_before g r)

        was : (is_key g.keys q ≡ true) × (row_at v root q ≡ Some row)
        was = cond_of (is_key g.keys q) (row_at v root q) row (sym (root_before q) ∙ e)

        d : (def : TableDef) × (slice_get v.schema root.0 ≡ Some def)
        d = some_def (slice_get v.schema root.0) (ap is_some (sym (kn.part.defined root (on_live root (root_covers g)))) ∙ covered_defined w.tier.schema g root its (root_covers g))

        key : root_key shown_before g row ≡ q
        key = ap (λ o. Rattle.evaluator.specs.Cascades.key_in o row) (kn.part.defined root (on_live root (root_covers g)) ∙ d.1) ∙ kn.sound.keyed root d.0 d.1 q row was.1

        rows : fm.get (root_rows shown_before g.def.tree.root) q ≡ Some row
        rows = get_where (selects g.def.tree.root.filter) (table_at shown_before root) q ∙ ap (λ o. cond (passes (selects o) (row_at shown_before root q)) (row_at shown_before root q) None) (root_plain g.def.tree (its.plain writes)) ∙ ap (λ (o : Option Row). cond (passes (selects None) o) o None) e

        passed : test row ≡ true
        passed = ap (is_key (q ∷ [])) key ∙ ap (λ b. b || false) (same_itself q q refl)

        inside : is_some (fm.get (kept_at (instances_where shown_before g.def.tree (λ r. is_key (q ∷ []) (root_key shown_before g r))) 0) q) ≡ true
        inside =
            ap (λ (m : Table). is_some (fm.get m q)) (front_kept shown_before g.def.tree.children (rows_where test (root_rows shown_before g.def.tree.root) ∷ []) 0 (Prim.omega arith))
            ∙ ap is_some (get_where test (root_rows shown_before g.def.tree.root) q ∙ ap (λ (o : Option Row). cond (passes test o) o None) rows ∙ ap (λ b. cond b (Some row) None) passed)

    at_child : (i : ℕ) (c : Child) (q row : Row) → slice_get g.def.tree.children i ≡ Some c → row_at shown_before c.table q ≡ Some row
        → ((u : TableId) (r z : Row) → place_of g.def.tree u ≡ Some c.parent → row_at shown_before u r ≡ Some z → Rooted c.parent u r) → Rooted (suc i) c.table q
    at_child i c q row there e rest = by (row_at shown_before one.foreign.parent pk) refl
      where
        one : SoundChild w.tier.schema g.def.tree i c
        one = sound_child w.tier.schema g.def.tree i c its.sound there

        pk : Row
        pk = key_of one.foreign.columns row

        on : is_one_of (live_of w.tier) c.table ≡ true
        on = on_live c.table (ap is_some one.place)

        in_v : row_at v c.table q ≡ Some row
        in_v = kn.part.within c.table q row on e

        d : slice_get v.schema c.table.0 ≡ Some one.def
        d = sym (kn.part.defined c.table on) ∙ one.defined

        at_parent : place_of g.def.tree one.foreign.parent ≡ Some c.parent
        at_parent = ap (place_of g.def.tree) (same_id one.foreign.parent one.parent one.refers) ∙ place_there w.tier.schema g.def.tree c.parent one.parent its.sound one.there

        behind : is_some (row_at shown_after c.table q) ≡ is_some (row_at shown_after one.foreign.parent pk)
        behind = part_after.families c.table one.def one.foreign q row on d one.key in_v

        inside : Row → List Table
        inside r = instances_where shown_before g.def.tree (λ y. is_key (r ∷ []) (root_key shown_before g y))

        within : (r : Row) → is_some (fm.get (kept_at (inside r) (suc i)) q) ≡ is_some (fm.get (kept_at (inside r) c.parent) pk)
        within r =
            let roots = rows_where (λ y. is_key (r ∷ []) (root_key shown_before g y)) (root_rows shown_before g.def.tree.root) in
            let early : c.parent ≤ i = one.earlier in
            let here : suc i ≡ length (roots ∷ []) + i = Prim.omega arith in
            ap (λ n. is_some (fm.get (kept_at (inside r) n) q)) here
            ∙ ap (λ (m : Table). is_some (fm.get m q)) (child_kept shown_before g.def.tree.children (roots ∷ []) i c there (Prim.omega arith))
            ∙ ap is_some (get_child shown_before (kept_at (inside r) c.parent) c one.def one.foreign (child_plain g.def.tree i c (its.plain writes) there) one.defined one.key q ∙ ap (λ (o : Option Row). cond (passes (λ y. fm.contains_key (kept_at (inside r) c.parent) (key_of one.foreign.columns y)) o) o None) e)
            ∙ of_cond (fm.contains_key (kept_at (inside r) c.parent) pk) row

        by : (o : Option Row) → row_at shown_before one.foreign.parent pk ≡ o → Rooted (suc i) c.table q
        by None h =
            let wrong : true ≡ false = sym (ap is_some e) ∙ kn.part.families c.table one.def one.foreign q row on d one.key in_v ∙ ap is_some h in Prim.cc
        by (Some z) h =
            let up = rest one.foreign.parent pk z at_parent h in
            record { root = up.root; listed = up.listed; inside = within up.root ∙ up.inside; stays = λ e. behind ∙ up.stays e }

    rooted : (n : ℕ) (p : ℕ) (u : TableId) (q row : Row) → p ≤ n → place_of g.def.tree u ≡ Some p → row_at shown_before u q ≡ Some row → Rooted p u q
    rooted zero p u q row le e h = by (in_tree_at g.def.tree u p e)
      where
        by : InTree g.def.tree u p → Rooted p u q
        by (AtRoot z here) = subst (λ m. Rooted m u q) (sym z) (subst (λ t. Rooted 0 t q) here (at_root q row (ap (λ t. row_at shown_before t q) here ∙ h)))
        by (AtChild i c z there here) = absurd (Prim.omega arith)
    rooted (suc n) p u q row le e h = by (in_tree_at g.def.tree u p e) (λ m t r z less. rooted n m t r z less)
      where
        by : InTree g.def.tree u p → ((m : ℕ) (t : TableId) (r z : Row) → m ≤ n → place_of g.def.tree t ≡ Some m → row_at shown_before t r ≡ Some z → Rooted m t r) → Rooted p u q
        by (AtRoot z here) rest = subst (λ m. Rooted m u q) (sym z) (subst (λ t. Rooted 0 t q) here (at_root q row (ap (λ t. row_at shown_before t q) here ∙ h)))
        by (AtChild i c z there here) rest =
            let early : c.parent ≤ i = (sound_child w.tier.schema g.def.tree i c its.sound there).earlier in
            subst (λ m. Rooted m u q) (sym z) (subst (λ t. Rooted (suc i) t q) here (at_child i c q row there (ap (λ t. row_at shown_before t q) here ∙ h) (λ t r y a b. rest c.parent t r y (Prim.omega arith) a b)))

    -- a row that a session holds stays
    module _ (s : Session) (free : (k : Row) → is_key g.keys k ≡ true → is_key (f g).keys k ≡ false → has_writes_in w.history w.tier g (λ other. is_key (k ∷ []) other) s ≡ false) where
      row_stays : (key : RowKey) (p : ℕ) (row : Row) → holds w.tier.schema key s ≡ true → place_of g.def.tree key.table ≡ Some p → row_at shown_before key.table key.key ≡ Some row → is_some (row_at shown_after key.table key.key) ≡ true
      row_stays key p row held e h = by (is_key (f g).keys r.root) refl
        where
          r : IsRooted shown_before shown_after g (f g) p key.table key.key
          r = rooted p p key.table key.key row (Prim.omega arith) e h

          inside : List Table
          inside = instances_where shown_before g.def.tree (λ y. is_key (r.root ∷ []) (root_key shown_before g y))

          by : (b : Bool) → is_key (f g).keys r.root ≡ b → is_some (row_at shown_after key.table key.key) ≡ true
          by true stays = r.stays stays
          by false gone =
              let a = at_place g.def.tree key.table p e in
              let listed : slice_get (tree_tables g.def.tree) p ≡ Some key.table = table_listed g.def.tree p ∙ a.is ∙ ap Some (same_id a.table key.table a.same) in
              let (y, y_is) = some_of (fm.get (kept_at inside p) key.key) r.inside in
              let none = (or_both (list_any (λ z. holds w.tier.schema z s) (instance_rows shown_before g (λ other. is_key (r.root ∷ []) other))) (list_any (λ z. holds w.tier.schema z s) (instance_rows (all_over s.own shown_before) g (λ other. is_key (r.root ∷ []) other))) (free r.root r.listed gone)).0 in
              absurd (never_both (list_any (λ z. holds w.tier.schema z s) (instance_rows shown_before g (λ other. is_key (r.root ∷ []) other))) (any_in_children (λ z. holds w.tier.schema z s) (tree_tables g.def.tree) inside p key.table key.key y listed y_is held) none)

      pub untouched : (key : RowKey) (l : LiveTable w.tier.groups key.table) → l.group ≡ g → holds w.tier.schema key s ≡ true → row_at shown_after key.table key.key ≡ row_at shown_before key.table key.key
      untouched key l same held = by (row_at shown_before key.table key.key) refl
        where
          place : place_of g.def.tree key.table ≡ Some l.place
          place = ap (λ (y : Group). place_of y.def.tree key.table) (sym same) ∙ l.at

          less : (o : Option Row) → row_at shown_after key.table key.key ≡ o → row_at shown_before key.table key.key ≡ None → o ≡ None
          less None e h = refl
          less (Some r) e h = let wrong : true ≡ false = sym (below key.table l same key.key (ap is_some e)) ∙ ap is_some h in Prim.cc

          still : (o : Option Row) → row_at shown_after key.table key.key ≡ o → (row : Row) → row_at shown_before key.table key.key ≡ Some row → o ≡ Some row
          still None e row h = let wrong : true ≡ false = sym (row_stays key l.place row held place h) ∙ ap is_some e in Prim.cc
          still (Some r) e row h = let on = on_live key.table (ap is_some place) in sym (part_after.within key.table key.key r on e) ∙ kn.part.within key.table key.key row on h

          by : (o : Option Row) → row_at shown_before key.table key.key ≡ o → row_at shown_after key.table key.key ≡ row_at shown_before key.table key.key
          by None h = less (row_at shown_after key.table key.key) refl h ∙ sym h
          by (Some row) h = still (row_at shown_after key.table key.key) refl row h ∙ sym h

  -- no session has uncommitted writes in what leaves
  abbrev AreFree : List Session → Type 0
  AreFree sessions = (g : Group) → is_writethrough g ≡ true → (k : Row) → is_key g.keys k ≡ true → is_key (f g).keys k ≡ false → list_any (has_writes_in w.history w.tier g (λ other. is_key (k ∷ []) other)) sessions ≡ false

  one_same : (s : Session) → are_on (live_of w.tier) s.own ≡ true → ((g : Group) → is_writethrough g ≡ true → (k : Row) → is_key g.keys k ≡ true → is_key (f g).keys k ≡ false → has_writes_in w.history w.tier g (λ other. is_key (k ∷ []) other) s ≡ false)
      → AreSameAt (footprint_of w.tier.schema s.own) shown_before shown_after
  one_same s mine free key held =
      let on = held_on (live_of w.tier) w.tier.schema kn.closed_shown s.own mine key held in
      let l = live_at w.tier.groups key.table x.catalog.apart (sym (live_table w.tier.groups key.table) ∙ on) in
      untouched l.group (same_found w.tier.groups key.table l.group.def.tree.root.table l.group x.catalog.apart l.found (root_covers l.group)) l.through s (λ k e n. free l.group l.through k e n) key l refl held

  all_same : (sessions : List Session) → list_all (are_on (live_of w.tier)) (own_writes sessions) ≡ true → AreFree sessions → AllSameAt w.tier.schema (own_writes sessions) shown_before shown_after
  all_same [] mine free = tt
  all_same (s ∷ sessions) mine free =
      let (first, rest) = both_true (are_on (live_of w.tier) s.own) (list_all (are_on (live_of w.tier)) (own_writes sessions)) mine in (
        one_same s first (λ g writes k e n. (or_both (has_writes_in w.history w.tier g (λ other. is_key (k ∷ []) other) s) (list_any (has_writes_in w.history w.tier g (λ other. is_key (k ∷ []) other)) sessions) (free g writes k e n)).0),
        all_same sessions rest (λ g writes k e n. (or_both (has_writes_in w.history w.tier g (λ other. is_key (k ∷ []) other) s) (list_any (has_writes_in w.history w.tier g (λ other. is_key (k ∷ []) other)) sessions) (free g writes k e n)).1),
      )

  keys_less : (g : Group) → HasKeys v g → HasKeys v (f g)
  keys_less g k = record {
    distinct = (all g).distinct k.distinct;
    rooted = λ writes key e. ap (λ (d : GroupDef). fm.contains_key (table_at v d.tree.root.table) key) (keeps g).def ∙ k.rooted (sym (same_kind g (f g) (keeps g)) ∙ writes) key ((all g).fewer key e);
  }

  -- it stands
  pub less_stands : Stands (with_tier after w)
  less_stands = regrouped w x groups kept
      (each_changed (HasKeys v) (HasKeys v) f keys_less w.tier.groups x.keys)
      (record {
        within = each_changed (IsReadWithin (length w.history)) (IsReadWithin (length w.history)) f (λ g inside i e. inside i (sym (all g).weaker.position ∙ e)) w.tier.groups x.read.within;
        one = map_one f (λ g. inl (all g).weaker) w.tier.groups x.read.one;
      })
      (record {
        apply = all_lesser (live_of w.tier) v shown_before shown_after (own_writes w.tier.sessions) kn.closed_shown refl
            (from_length (shown_table w.history after) 0 w.tier.schema ∙ sym (from_length (shown_table w.history w.tier) 0 w.tier.schema)) kn.sound.linked kn.part part_after mine
            (all_same w.tier.sessions mine (λ g writes k e n. sym (any_found (has_writes_in w.history w.tier g (λ other. is_key (k ∷ []) other)) w.tier.sessions) ∙ (all g).idle writes k e n)) x.sessions.virtual x.sessions.shown.apply;
        apart = x.sessions.shown.apart;
      })
    where
      mine : list_all (are_on (live_of w.tier)) (own_writes w.tier.sessions) ≡ true
      mine = all_through_on w.tier.groups (own_writes w.tier.sessions) ∙ x.sessions.through
