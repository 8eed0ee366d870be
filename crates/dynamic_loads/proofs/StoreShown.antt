-- A writethrough group's store keeps what the virtual state has of the group's keys.
use Rattle.std.proofs.Common.{◌≡◌, ◌<◌, ◌+◌, ℕ, zero, suc, Bool, true, false, cond, ◌||◌, Option, Some, None, is_some, List, [], ◌∷◌, length, map, slice_get, unwrap_or, arith, refl, sym, ap, subst, ◌∙◌}
use Rattle.std.proofs.lemmas.List.{length-map}
use Rattle.std.specs.Option.{option_map}
use Rattle.std.specs.FinMap as fm
use Rattle.row_types.proofs.OrderLaws.{key_exact, key_total}
use Rattle.tier_base.specs.declared.number.TableId.{TableId}
use Rattle.table_defs.specs.declared.definition.TableDef.{TableDef}
use Rattle.indexed_rows.specs.Rows.{Table, key_of}
use Rattle.table_state.specs.Tables.{TableState, table_at}
use Rattle.evaluator.specs.Cascades.{key_in}
use Rattle.instances.specs.declared.tree.Child.{Child}
use Rattle.instances.specs.declared.tree.Tree.{Tree}
use Rattle.instances.specs.Trees.{place_of, table_of}
use Rattle.instances.specs.Views.{kept_at}
use Rattle.slot_rows.specs.SlotKeys.{IsKeyedBy}
use Rattle.cache_store.specs.Shown.{shown_of, tables_with}
use Rattle.cache_store.proofs.AboveLaws.{above}
use Rattle.cache_store.proofs.ShownLaws.{shown_length}
use Rattle.group_store.specs.Keeping.{IsFor, layer_for}
use Rattle.group_store.specs.Stores.{Kept, put_tables}
use Rattle.group_store.specs.Trees.{key_at}
use Rattle.group_store.proofs.FormLaws.{key_for, primary}
use Rattle.order_laws.proofs.TableLaws.{get_same}
use Rattle.cache_tier.specs.Groups.{Group, is_key, is_writethrough}
use Rattle.cache_tier.specs.Shown.{root_key, shown_in, shown_state}
use Rattle.cache_tier.specs.Worlds.{World}
use Rattle.cache_tier.specs.StandingBetween.{IsCatalogued}
use Rattle.cache_tier.proofs.ChosenGroups.{each_at}
use Rattle.cache_tier.proofs.GroupTables.{IsFound, LiveTable, each_own, read_only_not}
use Rattle.cache_tier.proofs.SessionLaws.{Known, known}
use Rattle.cache_tier.proofs.ShownTables.{defined_in, root_plain, row_shown, some_def}
use Rattle.cache_tier.proofs.ShownTrees.{place_there}
use Rattle.stored_tier.specs.declared.tier.Tier.{Tier as Stored}
use Rattle.stored_tier.specs.Performing.{StandsFor}
use Rattle.stored_tier.specs.Stored.{IsSound}
use Rattle.stored_tier.proofs.PutLaws.{AreKeyed, shown_with, tables_put}
use Rattle.stored_tier.proofs.StoreRows.{form_here, kept_is_shown}
use Rattle.dynamic_loads.proofs.RootRows.{HasRoots, Row, Test, root_of_shown, shown_by_keys}

-- lists of tables that are the same at each place

same_kept : (xs ys : List Table) → length xs ≡ length ys → ((i : ℕ) → i < length xs → kept_at xs i ≡ kept_at ys i) → xs ≡ ys
same_kept [] [] e same = refl
same_kept [] (y ∷ ys) e same = absurd (omega (arith, e))
same_kept (x ∷ xs) [] e same = absurd (omega (arith, e))
same_kept (x ∷ xs) (y ∷ ys) e same =
    let first : x ≡ y = same 0 (omega arith) in
    let rest : xs ≡ ys = same_kept xs ys (omega (arith, e)) (λ i lt. same (suc i) (omega (arith, lt))) in
    λ i. first i ∷ rest i

-- the table at a place of a tree
table_there : (tree : Tree) (i : ℕ) → i < suc (length tree.children) → (u : TableId) × (table_of tree i ≡ Some u)
table_there tree zero lt = (tree.root.table, refl)
table_there tree (suc i) lt = by (slice_get tree.children i) refl
  where
    none_past : (cs : List Child) (j : ℕ) → j < length cs → slice_get cs j ≡ None → ⊥
    none_past [] j lt e = omega (arith, lt)
    none_past (c ∷ cs) zero lt e = cc
    none_past (c ∷ cs) (suc j) lt e = none_past cs j (omega (arith, lt)) e

    by : (o : Option Child) → slice_get tree.children i ≡ o → (u : TableId) × (table_of tree (suc i) ≡ Some u)
    by None e = absurd (none_past tree.children i (omega (arith, lt)) e)
    by (Some c) e = (c.table, ap (option_map (λ (d : Child). d.table)) e)

module _ (t : Stored) (w : World) (sound : IsSound t) (stands : StandsFor t w) (place : ℕ) (g : Group) (at : slice_get w.tier.groups place ≡ Some g) (writes : is_writethrough g ≡ true) (store : Kept) (kept : slice_get t.stores.items place ≡ Some store) where
  abbrev pub virtual : TableState
  virtual = stands.stands.flow.stand.over.virtual

  abbrev tree : Tree
  tree = g.def.tree

  abbrev pub roots : Table
  roots = table_at virtual tree.root.table

  known_here : Known w virtual
  known_here = known w stands.stands

  pub catalogued : IsCatalogued w.tier.schema g
  catalogued = each_at (IsCatalogued w.tier.schema) w.tier.groups place g stands.stands.catalog.each at

  plain : tree.root.filter ≡ None
  plain = root_plain tree (catalogued.plain writes)

  pub form : IsFor t.schema tree store
  form = form_here t w sound stands place g store at kept

  defined : (i : ℕ) (u : TableId) → table_of tree i ≡ Some u → (d : TableDef) × (slice_get w.tier.schema u.0 ≡ Some d)
  defined i u is = some_def (slice_get w.tier.schema u.0) (defined_in w.tier.schema tree i u catalogued.sound is)

  -- the virtual state has the tier's definitions
  defined_later : (u : TableId) (d : TableDef) → slice_get w.tier.schema u.0 ≡ Some d → slice_get virtual.schema u.0 ≡ Some d
  defined_later u d is = ap (λ s. slice_get s u.0) known_here.front ∙ get_same w.tier.schema known_here.more u.0 (ap is_some is) ∙ is

  pub its_roots : HasRoots virtual g roots
  its_roots = record { plain = plain; rows = refl; keyed = keyed }
    where
      keyed : (k r : Row) → fm.get roots k ≡ Some r → root_key virtual g r ≡ k
      keyed k r e =
          let (d, d_is) = defined 0 tree.root.table refl in
          let there : slice_get virtual.schema tree.root.table.0 ≡ Some d = defined_later tree.root.table d d_is in
          ap (λ o. key_in o r) there ∙ known_here.sound.keyed tree.root.table d there k r e

  -- what is shown of its tables
  abbrev its_table : (u : TableId) (p : ℕ) → place_of tree u ≡ Some p → LiveTable w.tier.groups u
  its_table u p e = record { group = g; found = each_at (IsFound w.tier.groups) w.tier.groups place g (each_own w.tier.groups stands.stands.catalog.apart) at u (ap is_some e); through = writes; place = p; at = e }

  shown_there : (u : TableId) (p : ℕ) → place_of tree u ≡ Some p → table_at (shown_state w.history w.tier) u ≡ kept_at (shown_in virtual g) p
  shown_there u p e = fm.same_map key_total key_exact (table_at (shown_state w.history w.tier) u) (kept_at (shown_in virtual g) p)
      (row_shown w.history w.tier virtual known_here.v_is stands.stands.catalog known_here.more known_here.front known_here.sound u (its_table u p e))

  shown_as : shown_in virtual g ≡ shown_of virtual tree (is_key g.keys)
  shown_as = shown_by_keys virtual g roots its_roots (read_only_not g writes)

  -- the store has the instances of the group's keys
  pub store_shown : store.tables ≡ shown_of virtual tree (is_key g.keys)
  store_shown = same_kept store.tables (shown_of virtual tree (is_key g.keys)) (let more = shown_length virtual tree (is_key g.keys) in omega (arith, long, more)) one
    where
      long : length store.tables ≡ suc (length tree.children)
      long = sound.whole place store kept ∙ ap suc (ap length form.layers ∙ length-map tree.children (layer_for t.schema))

      one : (i : ℕ) → i < length store.tables → kept_at store.tables i ≡ kept_at (shown_of virtual tree (is_key g.keys)) i
      one i lt =
          let (u, is) = table_there tree i (omega (arith, lt, long)) in
          let there : place_of tree u ≡ Some i = place_there w.tier.schema tree i u catalogued.sound is in
          kept_is_shown t w sound stands place g store u i at kept there
          ∙ shown_there u i there
          ∙ ap (λ ts. kept_at ts i) shown_as

  -- rows stand under the keys of the store
  under : (i : ℕ) (u : TableId) → table_of tree i ≡ Some u → (key row : Row) → fm.get (table_at virtual u) key ≡ Some row → key_of (key_at store.key store.layers i) row ≡ key
  under i u is key row found =
      let (d, d_is) = defined i u is in
      let stored : slice_get t.schema u.0 ≡ Some d = ap (λ defs. slice_get defs u.0) (sym stands.stored.schema) ∙ d_is in
      ap (λ ps. key_of ps row) (key_for t.schema tree store form i u is ∙ primary t.schema u d stored)
      ∙ known_here.sound.keyed u d (defined_later u d d_is) key row found

  -- so do the roots
  pub roots_keyed : IsKeyedBy store.key roots
  roots_keyed key row found = under 0 tree.root.table refl key row found

  in_table : (b : Bool) (o : Option Row) (row : Row) → cond b o None ≡ Some row → o ≡ Some row
  in_table true o row e = e
  in_table false o row e = cc

  module _ (q : Test) where
    shown_keyed : (i : ℕ) → IsKeyedBy (key_at store.key store.layers i) (kept_at (shown_of virtual tree q) i)
    shown_keyed zero key row e = under 0 tree.root.table refl key row (in_table (q key) (fm.get roots key) row (sym (root_of_shown virtual g roots its_roots q key) ∙ e))
    shown_keyed (suc i) key row e =
        let a = above virtual tree q i key row e in
        under (suc i) a.child.table (ap (option_map (λ (d : Child). d.table)) a.there) key row a.found

    at_place_of : (bs : List Table) (i : ℕ) (b : Table) → slice_get bs i ≡ Some b → kept_at bs i ≡ b
    at_place_of bs i b e = ap (λ o. unwrap_or o fm.empty) e

    are_keyed : AreKeyed 0 (shown_of virtual tree q) store
    are_keyed i b there =
        let z : i ≡ 0 + i = omega arith in
        subst (λ p. IsKeyedBy (key_at store.key store.layers p) b) z (subst (IsKeyedBy (key_at store.key store.layers i)) (at_place_of (shown_of virtual tree q) i b there) (shown_keyed i))

    -- with the instances of more keys
    pub put_shown : (put_tables 0 (map fm.values (shown_of virtual tree q)) store).tables ≡ shown_of virtual tree (λ k. is_key g.keys k || q k)
    put_shown =
        tables_put (shown_of virtual tree q) store are_keyed (ap length store_shown ∙ shown_length virtual tree (is_key g.keys) ∙ sym (shown_length virtual tree q))
        ∙ ap (λ ts. tables_with ts (shown_of virtual tree q)) store_shown
        ∙ shown_with virtual tree (is_key g.keys) q
