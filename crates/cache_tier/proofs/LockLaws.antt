-- Where no lock is met in instances, no key that a session holds is of a row of theirs.
use Rattle.std.proofs.Common.{◌≡◌, ℕ, zero, suc, ◌+◌, ◌≤◌, Bool, true, false, cond, not, ◌&&◌, ◌||◌, Option, Some, None, is_some, List, [], ◌∷◌, length, slice_get, map, refl, sym, ap, subst, ◌∙◌, arith}
use Rattle.std.specs.Option.{option_map}
use Rattle.std.specs.List.{list_any}
use Rattle.std.proofs.lemmas.List.Folds.{list_any-append}
use Rattle.std.specs.FinMap as fm
use Rattle.row_types.specs.Order.{key_order}
use Rattle.tier_base.specs.declared.number.TableId.{TableId}
use Rattle.table_defs.specs.declared.definition.TableDef.{TableDef}
use Rattle.indexed_rows.specs.Rows.{Table, key_of}
use Rattle.indexed_rows.proofs.EntryLaws.{has_at}
use Rattle.row_types.specs.declared.value.Value.{Value}
use Rattle.table_state.specs.declared.footprint.RowKey.{RowKey}
use Rattle.table_state.specs.Tables.{TableState, table_at}
use Rattle.instances.specs.declared.tree.Child.{Child}
use Rattle.instances.specs.declared.tree.Tree.{Tree}
use Rattle.instances.specs.Trees.{place_of, table_of}
use Rattle.instances.specs.Views.{kept_at, passes, root_rows, rows_where, selects}
use Rattle.instances.proofs.Gathering.{get_where}
use Rattle.order_laws.specs.Effects.{row_at}
use Rattle.order_laws.proofs.TruthLaws.{never_both, or_true}
use Rattle.cache_tier.specs.Groups.{Group, covers, is_key, is_writethrough}
use Rattle.cache_tier.specs.Locks.{has_writes_in, holds, instance_rows, keys_in_children, keys_in_table, tree_tables}
use Rattle.cache_tier.specs.Sets.{alone, changed, changed_from}
use Rattle.cache_tier.specs.Shown.{all_over, instances_where, root_key, shown_state}
use Rattle.cache_tier.specs.TierStates.{Session}
use Rattle.cache_tier.specs.UnloadSteps.{unloaded}
use Rattle.cache_tier.specs.Worlds.{World}
use Rattle.cache_tier.specs.StandingBetween.{IsCatalogued, Stands}
use Rattle.cache_tier.specs.Events.{with_tier}
use Rattle.cache_tier.specs.Loading.{IsUntouchedBy}
use Rattle.cache_tier.proofs.ChosenGroups.{each_at}
use Rattle.cache_tier.proofs.GroupTables.{through_live, live_table}
use Rattle.cache_tier.proofs.HistoryKeeps.{root_covers}
use Rattle.cache_tier.proofs.LoadLaws.{found_before, gone_tests, part_after, root_after, root_before, row_of, shrinks, tables_stay, unload_keeps, unload_stays}
use Rattle.cache_tier.proofs.PartLaws.{IsClosedPart, Row}
use Rattle.cache_tier.proofs.SessionLaws.{Known, known}
use Rattle.cache_tier.proofs.ShownTables.{InTree, AtChild, AtRoot, child_plain, in_tree_at, live_of, root_plain, same_id}
use Rattle.cache_tier.proofs.ShownTrees.{SoundChild, at_place, child_kept, front_kept, get_child, place_there, sound_child}

-- keys of instances as a list

any_mapped : {A B : Type 0} (p : B → Bool) (f : A → B) (xs : List A) (i : ℕ) (y : A) → slice_get xs i ≡ Some y → p (f y) ≡ true → list_any p (map f xs) ≡ true
any_mapped p f [] i y at e = Prim.cc
any_mapped p f (z ∷ xs) zero y at e = let same : z ≡ y = Prim.cc in ap (λ b. b || list_any p (map f xs)) (ap (λ q. p (f q)) same ∙ e)
any_mapped p f (z ∷ xs) (suc i) y at e = ap (λ b. p (f z) || b) (any_mapped p f xs i y at e) ∙ or_true (p (f z))

any_in_table : (p : RowKey → Bool) (t : TableId) (m : Table) (q row : Row) → fm.get m q ≡ Some row → p (record { table = t; key = q }) ≡ true → list_any p (keys_in_table t m) ≡ true
any_in_table p t m q row e h = let (i, at) = has_at m q row e in any_mapped p (λ (z : Row × Row). record { table = t; key = z.0 }) (fm.entries m) i (q, row) at h

pub any_in_children : (p : RowKey → Bool) (ts : List TableId) (ms : List Table) (n : ℕ) (t : TableId) (q row : Row) → slice_get ts n ≡ Some t → fm.get (kept_at ms n) q ≡ Some row → p (record { table = t; key = q }) ≡ true → list_any p (keys_in_children ts ms) ≡ true
any_in_children p [] ms n t q row at e h = Prim.cc
any_in_children p (u ∷ ts) [] n t q row at e h = let wrong : None ≡ Some row = sym (fm.get-empty key_order q) ∙ e in Prim.cc
any_in_children p (u ∷ ts) (m ∷ ms) zero t q row at e h =
    let same : u ≡ t = Prim.cc in
    list_any-append p (keys_in_table u m) (keys_in_children ts ms)
    ∙ ap (λ b. b || list_any p (keys_in_children ts ms)) (any_in_table p u m q row e (ap (λ z. p (record { table = z; key = q })) same ∙ h))
any_in_children p (u ∷ ts) (m ∷ ms) (suc n) t q row at e h =
    list_any-append p (keys_in_table u m) (keys_in_children ts ms)
    ∙ ap (λ b. list_any p (keys_in_table u m) || b) (any_in_children p ts ms n t q row at e h) ∙ or_true (list_any p (keys_in_table u m))

get_mapped : (children : List Child) (i : ℕ) → slice_get (map (λ (c : Child). c.table) children) i ≡ option_map (λ (c : Child). c.table) (slice_get children i)
get_mapped [] i = refl
get_mapped (c ∷ children) zero = refl
get_mapped (c ∷ children) (suc i) = get_mapped children i

pub table_listed : (tree : Tree) (p : ℕ) → slice_get (tree_tables tree) p ≡ table_of tree p
table_listed tree zero = refl
table_listed tree (suc i) = get_mapped tree.children i

or_cases : (a b : Bool) → (a || b) ≡ true → a ≡ false → b ≡ true
or_cases true b e h = Prim.cc
or_cases false b e h = e

module _ (w : World) (x : Stands w) (place : ℕ) (g : Group) (at : slice_get w.tier.groups place ≡ Some g) (writes : is_writethrough g ≡ true) (gone : List (List Value)) (all : Bool) (test : List Value → Bool) (tests : (q : List Value) → is_key gone q ≡ test q) where
  abbrev f : Group → Group
  f = unloaded gone all

  abbrev shown_before : TableState
  shown_before = shown_state w.history w.tier

  abbrev shown_after : TableState
  shown_after = shown_state w.history (record w.tier { groups = changed_from (alone place) (unloaded gone all) 0 w.tier.groups })

  abbrev inside : List Table
  inside = instances_where (shown_state w.history w.tier) g.def.tree (λ row. test (root_key (shown_state w.history w.tier) g row))

  its : IsCatalogued w.tier.schema g
  its = each_at (IsCatalogued w.tier.schema) w.tier.groups place g x.catalog.each at

  kn : Known w x.flow.stand.over.virtual
  kn = known w x

  part : IsClosedPart (live_of w.tier) x.flow.stand.over.virtual shown_after
  part = part_after w x place g at writes f (unload_keeps gone all) (unload_stays gone all)

  on_live : (u : TableId) → covers u g ≡ true → Rattle.table_state.specs.Copies.is_one_of (live_of w.tier) u ≡ true
  on_live u c = live_table w.tier.groups u ∙ through_live w.tier.groups u g (found_before w x place g at writes f (unload_keeps gone all) (unload_stays gone all) u c) writes

  -- a row that is shown stays, or is in one of the instances
  abbrev Either : ℕ → TableId → Row → Type 0
  Either p u q = (is_some (row_at shown_after u q) || is_some (fm.get (kept_at inside p) q)) ≡ true

  at_root : (q row : Row) → row_at shown_before g.def.tree.root.table q ≡ Some row → Either 0 g.def.tree.root.table q
  at_root q row e = by (is_key gone q) refl
    where
      root : TableId
      root = g.def.tree.root.table

      cond_of : (b : Bool) (o : Option Row) → cond b o None ≡ Some row → (b ≡ true) × (o ≡ Some row)
      cond_of true o h = (refl, h)
      cond_of false o h = Prim.cc

      was : (is_key g.keys q ≡ true) × (row_at x.flow.stand.over.virtual root q ≡ Some row)
      was = cond_of (is_key g.keys q) (row_at x.flow.stand.over.virtual root q) (sym (root_before w x place g at writes f (unload_keeps gone all) (unload_stays gone all) q) ∙ e)

      by : (b : Bool) → is_key gone q ≡ b → Either 0 root q
      by false h = ap (λ b. b || is_some (fm.get (kept_at inside 0) q))
          (ap is_some (root_after w x place g at writes f (unload_keeps gone all) (unload_stays gone all) q ∙ (λ i. cond ((gone_tests gone all g q ∙ (λ j. was.0 j && not (h j))) i) (was.1 i) None)))
      by true h = ap (λ b. is_some (row_at shown_after root q) || b) has ∙ or_true (is_some (row_at shown_after root q))
        where
          d : (def : TableDef) × (slice_get x.flow.stand.over.virtual.schema root.0 ≡ Some def)
          d = Rattle.cache_tier.proofs.ShownTables.some_def (slice_get x.flow.stand.over.virtual.schema root.0) (ap is_some (sym (kn.part.defined root (on_live root (root_covers g)))) ∙ Rattle.cache_tier.proofs.TableLaws.covered_defined w.tier.schema g root its (root_covers g))

          key : root_key shown_before g row ≡ q
          key = ap (λ o. Rattle.evaluator.specs.Cascades.key_in o row) (kn.part.defined root (on_live root (root_covers g)) ∙ d.1) ∙ kn.sound.keyed root d.0 d.1 q row was.1

          rows : fm.get (root_rows shown_before g.def.tree.root) q ≡ Some row
          rows = get_where (selects g.def.tree.root.filter) (table_at shown_before root) q ∙ ap (λ o. cond (passes (selects o) (row_at shown_before root q)) (row_at shown_before root q) None) (root_plain g.def.tree (its.plain writes)) ∙ ap (λ (o : Option Row). cond (passes (selects None) o) o None) e

          has : is_some (fm.get (kept_at inside 0) q) ≡ true
          has =
              ap (λ (m : Table). is_some (fm.get m q)) (front_kept shown_before g.def.tree.children (rows_where (λ r. test (root_key shown_before g r)) (root_rows shown_before g.def.tree.root) ∷ []) 0 (Prim.omega arith))
              ∙ ap is_some (get_where (λ r. test (root_key shown_before g r)) (root_rows shown_before g.def.tree.root) q ∙ ap (λ (o : Option Row). cond (passes (λ r. test (root_key shown_before g r)) o) o None) rows ∙ ap (λ b. cond b (Some row) None) (ap test key ∙ sym (tests q) ∙ h))

  at_child : (i : ℕ) (c : Child) (q row : Row) → slice_get g.def.tree.children i ≡ Some c → row_at shown_before c.table q ≡ Some row
      → ((u : TableId) (r z : Row) → place_of g.def.tree u ≡ Some c.parent → row_at shown_before u r ≡ Some z → Either c.parent u r) → Either (suc i) c.table q
  at_child i c q row there e rest = by (row_at shown_before one.foreign.parent pk) refl
    where
      one : SoundChild w.tier.schema g.def.tree i c
      one = sound_child w.tier.schema g.def.tree i c its.sound there

      pk : Row
      pk = key_of one.foreign.columns row

      on : Rattle.table_state.specs.Copies.is_one_of (live_of w.tier) c.table ≡ true
      on = on_live c.table (ap is_some one.place)

      in_v : row_at x.flow.stand.over.virtual c.table q ≡ Some row
      in_v = kn.part.within c.table q row on e

      d : slice_get x.flow.stand.over.virtual.schema c.table.0 ≡ Some one.def
      d = sym (kn.part.defined c.table on) ∙ one.defined

      at_parent : place_of g.def.tree one.foreign.parent ≡ Some c.parent
      at_parent = ap (place_of g.def.tree) (same_id one.foreign.parent one.parent one.refers) ∙ place_there w.tier.schema g.def.tree c.parent one.parent its.sound one.there

      after : is_some (row_at shown_after c.table q) ≡ is_some (row_at shown_after one.foreign.parent pk)
      after = part.families c.table one.def one.foreign q row on d one.key in_v

      within : is_some (fm.get (kept_at inside (suc i)) q) ≡ is_some (fm.get (kept_at inside c.parent) pk)
      within =
          let roots = rows_where (λ r. test (root_key shown_before g r)) (root_rows shown_before g.def.tree.root) in
          let early : c.parent ≤ i = one.earlier in
          let here : suc i ≡ length (roots ∷ []) + i = Prim.omega arith in
          ap (λ n. is_some (fm.get (kept_at inside n) q)) here
          ∙ ap (λ (m : Table). is_some (fm.get m q)) (child_kept shown_before g.def.tree.children (roots ∷ []) i c there (Prim.omega arith))
          ∙ ap is_some (get_child shown_before (kept_at inside c.parent) c one.def one.foreign (child_plain g.def.tree i c (its.plain writes) there) one.defined one.key q ∙ ap (λ (o : Option Row). cond (passes (λ r. fm.contains_key (kept_at inside c.parent) (key_of one.foreign.columns r)) o) o None) e)
          ∙ of (fm.contains_key (kept_at inside c.parent) pk)
        where
          of : (b : Bool) → is_some (cond b (Some row) None) ≡ b
          of true = refl
          of false = refl

      by : (o : Option Row) → row_at shown_before one.foreign.parent pk ≡ o → Either (suc i) c.table q
      by None h =
          let wrong : true ≡ false = sym (ap is_some e) ∙ kn.part.families c.table one.def one.foreign q row on d one.key in_v ∙ ap is_some h in Prim.cc
      by (Some z) h = (λ j. after j || within j) ∙ rest one.foreign.parent pk z at_parent h

  either : (n : ℕ) (p : ℕ) (u : TableId) (q row : Row) → p ≤ n → place_of g.def.tree u ≡ Some p → row_at shown_before u q ≡ Some row → Either p u q
  either zero p u q row le e h = by (in_tree_at g.def.tree u p e)
    where
      by : InTree g.def.tree u p → Either p u q
      by (AtRoot z here) = subst (λ m. Either m u q) (sym z) (subst (λ t. Either 0 t q) here (at_root q row (ap (λ t. row_at shown_before t q) here ∙ h)))
      by (AtChild i c z there here) = absurd (Prim.omega arith)
  either (suc n) p u q row le e h = by (in_tree_at g.def.tree u p e) (λ m t r z less. either n m t r z less)
    where
      by : InTree g.def.tree u p → ((m : ℕ) (t : TableId) (r z : Row) → m ≤ n → place_of g.def.tree t ≡ Some m → row_at shown_before t r ≡ Some z → Either m t r) → Either p u q
      by (AtRoot z here) rest = subst (λ m. Either m u q) (sym z) (subst (λ t. Either 0 t q) here (at_root q row (ap (λ t. row_at shown_before t q) here ∙ h)))
      by (AtChild i c z there here) rest =
          let early : c.parent ≤ i = (sound_child w.tier.schema g.def.tree i c its.sound there).earlier in
          subst (λ m. Either m u q) (sym z) (subst (λ t. Either (suc i) t q) here (at_child i c q row there (ap (λ t. row_at shown_before t q) here ∙ h) (λ t r y a b. rest c.parent t r y (Prim.omega arith) a b)))

  pub untouched : (s : Session) → has_writes_in w.history w.tier g test s ≡ false → IsUntouchedBy w (with_tier (changed (alone place) (unloaded gone all) w.tier) w) s
  untouched s free key held = by (covers key.table g) refl
    where
      none : list_any (λ z. holds w.tier.schema z s) (instance_rows shown_before g test) ≡ false
      none = left_false (list_any (λ z. holds w.tier.schema z s) (instance_rows shown_before g test)) (list_any (λ z. holds w.tier.schema z s) (instance_rows (all_over s.own shown_before) g test)) free
        where
          left_false : (a b : Bool) → (a || b) ≡ false → a ≡ false
          left_false true b e = Prim.cc
          left_false false b e = refl

      place_in : (o : Option ℕ) → place_of g.def.tree key.table ≡ o → is_some o ≡ true → (p : ℕ) × (place_of g.def.tree key.table ≡ Some p)
      place_in None e h = Prim.cc
      place_in (Some p) e h = (p, e)

      by : (b : Bool) → covers key.table g ≡ b → row_at shown_after key.table key.key ≡ row_at shown_before key.table key.key
      by false c = ap (λ (m : Table). fm.get m key.key) (tables_stay w x place g at writes f (unload_keeps gone all) (unload_stays gone all) key.table c)
      by true c = of (row_at shown_before key.table key.key) refl
        where
          p : (n : ℕ) × (place_of g.def.tree key.table ≡ Some n)
          p = place_in (place_of g.def.tree key.table) refl c

          less : (o : Option Row) → row_at shown_after key.table key.key ≡ o → row_at shown_before key.table key.key ≡ None → o ≡ None
          less None e h = refl
          less (Some r) e h =
              let wrong : None ≡ Some r = sym h ∙ shrinks w x place g at writes f (unload_keeps gone all) (unload_stays gone all) (λ q a. (Rattle.order_laws.proofs.TruthLaws.both_true (is_key g.keys q) (not (is_key gone q)) (sym (gone_tests gone all g q) ∙ a)).0) key.table key.key r (on_live key.table c) e in Prim.cc

          here : (row : Row) → row_at shown_before key.table key.key ≡ Some row → (b : Bool) → is_some (row_at shown_after key.table key.key) ≡ b → row_at shown_after key.table key.key ≡ Some row
          here row e true h = row_of w x place g at writes f (unload_keeps gone all) (unload_stays gone all) shown_before shown_after kn.part part key.table key.key row (on_live key.table c) e h
          here row e false h =
              let a = at_place g.def.tree key.table p.0 p.1 in
              let listed : slice_get (tree_tables g.def.tree) p.0 ≡ Some key.table = table_listed g.def.tree p.0 ∙ a.is ∙ ap Some (same_id a.table key.table a.same) in
              let there = or_cases (is_some (row_at shown_after key.table key.key)) (is_some (fm.get (kept_at inside p.0) key.key)) (either p.0 p.0 key.table key.key row (Prim.omega arith) p.1 e) h in
              let (r, r_is) = Rattle.cache_tier.proofs.PartLaws.some_of (fm.get (kept_at inside p.0) key.key) there in
              absurd (never_both (list_any (λ z. holds w.tier.schema z s) (instance_rows shown_before g test)) (any_in_children (λ z. holds w.tier.schema z s) (tree_tables g.def.tree) inside p.0 key.table key.key r listed r_is held) none)

          of : (o : Option Row) → row_at shown_before key.table key.key ≡ o → row_at shown_after key.table key.key ≡ row_at shown_before key.table key.key
          of None e = less (row_at shown_after key.table key.key) refl e ∙ sym e
          of (Some row) e = here row e (is_some (row_at shown_after key.table key.key)) refl ∙ sym e
