-- Instances that leave a writethrough group: what is stored and shown then.
use Rattle.std.proofs.Common.{◌≡◌, ◌<◌, ℕ, zero, suc, Bool, true, false, not, cond, ◌&&◌, ◌||◌, Option, Some, None, is_some, List, [], ◌∷◌, ◌++◌, filter, length, slice_get, unwrap_or, arith, refl, sym, ap, ◌∙◌}
use Rattle.std.proofs.lemmas.List.{length-map}
use Rattle.std.specs.Option.{option_map}
use Rattle.std.specs.FinMap as fm
use Rattle.row_types.specs.declared.value.Value.{Value}
use Rattle.tier_base.specs.declared.number.TableId.{TableId}
use Rattle.table_defs.specs.declared.definition.TableDef.{TableDef}
use Rattle.indexed_rows.specs.Rows.{Table, is_same, key_of}
use Rattle.table_state.specs.Tables.{TableState, table_at}
use Rattle.evaluator.specs.Cascades.{key_in}
use Rattle.evaluator.specs.Writes.{selects}
use Rattle.instances.specs.declared.tree.Child.{Child}
use Rattle.instances.specs.declared.tree.Tree.{Tree}
use Rattle.instances.specs.Trees.{place_of, table_of}
use Rattle.instances.specs.Views.{kept_at, refers_to_one, rows_where, with_children}
use Rattle.instances.specs.Views as views
use Rattle.cache_store.specs.Shown.{shown_of}
use Rattle.cache_store.proofs.ShownLaws.{shown_length}
use Rattle.group_catalog.specs.declared.which.ResolvedWhich.{ResolvedWhich}
use Rattle.group_store.specs.Keeping.{IsFor, KeepsOthers, KeepsShown, layer_for, primary_of}
use Rattle.group_store.specs.Stores.{Kept, SameButSpare, cut_store}
use Rattle.order_laws.specs.Commits.{virtual_state}
use Rattle.order_laws.proofs.TableLaws.{get_same}
use Rattle.cache_tier.specs.Groups.{Group, is_key, is_writethrough}
use Rattle.cache_tier.specs.Shown.{instances_where, no_rows, root_key, shown, shown_roots}
use Rattle.cache_tier.specs.Targets.{Target}
use Rattle.cache_tier.specs.UnloadSteps.{matching_shown}
use Rattle.cache_tier.specs.Worlds.{World}
use Rattle.cache_tier.specs.StandingBetween.{IsCatalogued}
use Rattle.cache_tier.proofs.ChosenGroups.{each_at}
use Rattle.cache_tier.proofs.GroupTables.{read_only_not}
use Rattle.cache_tier.proofs.SessionLaws.{Known, known}
use Rattle.cache_tier.proofs.ShownTables.{cond_some, defined_in, root_plain, some_def}
use Rattle.cache_tier.proofs.ShownTrees.{place_there}
use Rattle.stored_tier.specs.declared.tier.Tier.{Tier as Stored}
use Rattle.stored_tier.specs.Choosing.{chosen, matches_at}
use Rattle.stored_tier.specs.Performing.{StandsFor}
use Rattle.stored_tier.specs.Stored.{IsSound}
use Rattle.group_engine.specs.Taking.{IsOfTarget}
use Rattle.changed_sets.specs.OfAgingCycles.Running.{cut_all}
use Rattle.group_engine.specs.Unloading.{leaving}
use Rattle.group_engine.proofs.GroupRows.{shown_of_place}
use Rattle.group_engine.proofs.LoadLaws.{same_kept}
use Rattle.group_engine.proofs.MatchedRoots.{leaving_is, leaving_long, shown_matching}
use Rattle.group_engine.proofs.MatchLaws.{HasRoots, instances_of_keys, root_of_shown, shown_alike, shown_by_keys}
use Rattle.stored_tier.proofs.StoreRows.{form_here, kept_is_shown}

abbrev Row : Type 0
Row = List Value

abbrev Test : Type 0
Test = Row → Bool

-- one root after another

abbrev after : Test → List Row → Test
after p [] = p
after p (r ∷ ks) = after (λ k. p k && not (is_same k r)) ks

and_true : (a : Bool) → a ≡ (a && true)
and_true true = refl
and_true false = refl

both_not : (p s r : Bool) → ((p && not s) && not r) ≡ (p && not (s || r))
both_not true true r = refl
both_not true false r = refl
both_not false s r = refl

after_is : (p : Test) (ks : List Row) (k : Row) → after p ks k ≡ (p k && not (is_key ks k))
after_is p [] k = and_true (p k)
after_is p (r ∷ ks) k = after_is (λ q. p q && not (is_same q r)) ks k ∙ both_not (p k) (is_same k r) (is_key ks k)

cut_kept : (state : TableState) (tree : Tree) → KeepsOthers state tree → (ks : List Row) (p : Test) (s : Kept) → KeepsShown state tree p s → KeepsShown state tree (after p ks) (cut_all ks s)
cut_kept state tree law [] p s keeps = keeps
cut_kept state tree law (r ∷ ks) p s keeps = cut_kept state tree law ks (λ k. p k && not (is_same k r)) (cut_store 0 r s) (law p r s keeps)

-- a state with other definitions of other tables

same_children : (a b : TableState) (children : List Child) (kept : List Table) → a.tables ≡ b.tables → ((i : ℕ) (c : Child) → slice_get children i ≡ Some c → slice_get a.schema c.table.0 ≡ slice_get b.schema c.table.0)
    → with_children a children kept ≡ with_children b children kept
same_children a b [] kept tables look = refl
same_children a b (c ∷ children) kept tables look =
    let here : views.child_rows a (kept_at kept c.parent) c ≡ views.child_rows b (kept_at kept c.parent) c =
    λ i. rows_where (λ row. views.selects c.filter row && refers_to_one (kept_at kept c.parent) (look 0 c refl i) row) (unwrap_or (slice_get (tables i) c.table.0) fm.empty) in
    ap (λ (m : Table). with_children a children (kept ++ m ∷ [])) here
    ∙ same_children a b children (kept ++ views.child_rows b (kept_at kept c.parent) c ∷ []) tables (λ i d at. look (suc i) d at)

-- What is known of a writethrough group in a world, and of its store.
module _ (t : Stored) (w : World) (sound : IsSound t) (stands : StandsFor t w) (place : ℕ) (g : Group) (at : slice_get w.tier.groups place ≡ Some g) (writes : is_writethrough g ≡ true) (store : Kept) (kept : slice_get t.stores.items place ≡ Some store) where
  abbrev pub v : TableState
  v = stands.stands.flow.stand.over.virtual

  abbrev pub tree : Tree
  tree = g.def.tree

  abbrev pub R : Table
  R = table_at v tree.root.table

  abbrev pub S : Table
  S = kept_at store.tables 0

  abbrev pub columns : List ℕ
  columns = primary_of t.schema tree.root.table

  is_known : Known w v
  is_known = known w stands.stands

  catalogued : IsCatalogued w.tier.schema g
  catalogued = each_at (IsCatalogued w.tier.schema) w.tier.groups place g stands.stands.catalog.each at

  defined : (i : ℕ) (u : TableId) → table_of tree i ≡ Some u → (d : TableDef) × (slice_get w.tier.schema u.0 ≡ Some d)
  defined i u is = some_def (slice_get w.tier.schema u.0) (defined_in w.tier.schema tree i u catalogued.sound is)

  defined_later : (u : TableId) (d : TableDef) → slice_get w.tier.schema u.0 ≡ Some d → slice_get v.schema u.0 ≡ Some d
  defined_later u d is = ap (λ s. slice_get s u.0) is_known.front ∙ get_same w.tier.schema is_known.more u.0 (ap is_some is) ∙ is

  root_def : TableDef
  root_def = (defined 0 tree.root.table refl).0

  root_def_is : slice_get w.tier.schema tree.root.table.0 ≡ Some (defined 0 tree.root.table refl).0
  root_def_is = (defined 0 tree.root.table refl).1

  root_keyed : (k r : Row) → fm.get R k ≡ Some r → key_of (defined 0 tree.root.table refl).0.primary_key r ≡ k
  root_keyed k r e = is_known.sound.keyed tree.root.table (defined 0 tree.root.table refl).0 (defined_later tree.root.table (defined 0 tree.root.table refl).0 root_def_is) k r e

  pub roots : HasRoots v g R
  roots = record {
    plain = root_plain tree (catalogued.plain writes);
    rows = refl;
    keyed = λ k r e. ap (λ o. key_in o r) (defined_later tree.root.table (defined 0 tree.root.table refl).0 root_def_is) ∙ root_keyed k r e;
  }

  shown_is : shown w.history w.tier.log g ≡ shown_of v tree (is_key g.keys)
  shown_is =
      ap (λ b. Rattle.cache_tier.specs.Shown.shown_where (cond b (Rattle.std.specs.Option.option_and_then (Rattle.table_state.specs.Histories.state_at w.history) g.position) (virtual_state w.history w.tier.log)) g) (read_only_not g writes)
      ∙ ap (λ o. Rattle.cache_tier.specs.Shown.shown_where o g) is_known.v_is
      ∙ shown_by_keys v g R roots (read_only_not g writes)

  pub store_shown : store.tables ≡ shown_of v tree (is_key g.keys)
  store_shown = same_kept store.tables (shown_of v tree (is_key g.keys)) (let more = shown_length v tree (is_key g.keys) in omega (arith, long, more)) one
    where
      form : IsFor t.schema tree store
      form = form_here t w sound stands place g store at kept

      long : length store.tables ≡ suc (length tree.children)
      long = sound.whole place store kept ∙ ap suc (ap length form.layers ∙ length-map tree.children (layer_for t.schema))

      there : (i : ℕ) → i < suc (length tree.children) → (u : TableId) × (table_of tree i ≡ Some u)
      there zero lt = (tree.root.table, refl)
      there (suc i) lt = child i (slice_get tree.children i) refl (omega (arith, lt))
        where
          none_past : (cs : List Child) (j : ℕ) → j < length cs → slice_get cs j ≡ None → ⊥
          none_past [] j lt e = omega (arith, lt)
          none_past (c ∷ cs) zero lt e = cc
          none_past (c ∷ cs) (suc j) lt e = none_past cs j (omega (arith, lt)) e

          child : (j : ℕ) (o : Option Child) → slice_get tree.children j ≡ o → j < length tree.children → (u : TableId) × (table_of tree (suc j) ≡ Some u)
          child j None e lt = absurd (none_past tree.children j lt e)
          child j (Some c) e lt = (c.table, ap (option_map (λ (d : Child). d.table)) e)

      one : (i : ℕ) → i < length store.tables → kept_at store.tables i ≡ kept_at (shown_of v tree (is_key g.keys)) i
      one i lt =
          let u = there i (omega (arith, lt, long)) in
          let here : place_of tree u.0 ≡ Some i = place_there w.tier.schema tree i u.0 catalogued.sound u.1 in
          kept_is_shown t w sound stands place g store u.0 i at kept here
          ∙ shown_of_place w.history w.tier place g u.0 i stands.stands.catalog at here
          ∙ ap (λ ts. kept_at ts i) shown_is

  pub roots_shown : S ≡ shown_roots w.history w.tier.log g
  roots_shown = ap (λ ts. kept_at ts 0) (store_shown ∙ sym shown_is)

  -- each row of the store's root is one of the virtual state
  in_virtual : (k r : Row) → fm.get S k ≡ Some r → fm.get R k ≡ Some r
  in_virtual k r e = cond_some (is_key g.keys k) (fm.get R k) r (sym (ap (λ ts. fm.get (kept_at ts 0) k) store_shown ∙ root_of_shown v g R roots (is_key g.keys) k) ∙ e)

  columns_are : columns ≡ (defined 0 tree.root.table refl).0.primary_key
  columns_are = ap (λ o. unwrap_or (option_map (λ (d : TableDef). d.primary_key) o) []) (ap (λ defs. slice_get defs tree.root.table.0) (sym stands.stored.schema) ∙ root_def_is)

  keyed : (k r : Row) → fm.get S k ≡ Some r → key_of columns r ≡ k
  keyed k r e = ap (λ cs. key_of cs r) columns_are ∙ root_keyed k r (in_virtual k r e)

  -- what matches
  module _ (x : Target) (which : ResolvedWhich) (its : x.group ≡ g) (of : IsOfTarget x place which) where
    no_rows_key : (k r : Row) → fm.get S k ≡ Some r → root_key (no_rows w.tier) x.group r ≡ k
    no_rows_key k r e = ap (λ (y : Group). root_key (no_rows w.tier) y r) its ∙ ap (λ o. key_in o r) root_def_is ∙ root_keyed k r (in_virtual k r e)

    here : S ≡ shown_roots w.history w.tier.log x.group
    here = roots_shown ∙ ap (λ (y : Group). shown_roots w.history w.tier.log y) (sym its)

    pub matching_is : matching_shown w x ≡ chosen (matches_at which) S
    matching_is = shown_matching w x place which of S columns here no_rows_key keyed

    pub keys_are : (k : Row) → is_key (leaving which columns S) k ≡ fm.contains_key (matching_shown w x) k
    keys_are = leaving_is w x place which of S columns here no_rows_key keyed

    pub count_is : length (leaving which columns S) ≡ fm.len (matching_shown w x)
    count_is = leaving_long w x place which of S columns here no_rows_key keyed

    -- the store has what is shown of the keys that stay
    pub left_shown : KeepsOthers (record v { schema = t.schema }) tree → (left : Kept) → SameButSpare (cut_all (leaving which columns S) store) left
        → left.tables ≡ instances_where v tree (λ row. is_key g.keys (root_key v g row) && not (fm.contains_key (matching_shown w x) (root_key v g row)))
    left_shown law left same =
        let keeps = cut_kept (record v { schema = t.schema }) tree law (leaving which columns S) (is_key g.keys) store
        (record { form = form_here t w sound stands place g store at kept; tables = store_shown ∙ sym (known_same (is_key g.keys)) }) in
        same.tables ∙ keeps.tables ∙ known_same (after (is_key g.keys) (leaving which columns S))
        ∙ shown_alike v g R roots (after (is_key g.keys) (leaving which columns S)) (λ k. is_key g.keys k && not (fm.contains_key (matching_shown w x) k)) (λ k r e.
        after_is (is_key g.keys) (leaving which columns S) k ∙ ap (λ b. is_key g.keys k && not b) (keys_are k))
        ∙ sym (instances_of_keys v g R roots (λ k. is_key g.keys k && not (fm.contains_key (matching_shown w x) k)))
      where
        look : (i : ℕ) (c : Child) → slice_get tree.children i ≡ Some c → slice_get t.schema c.table.0 ≡ slice_get v.schema c.table.0
        look i c e =
            let d = defined (suc i) c.table (ap (option_map (λ (y : Child). y.table)) e) in
            ap (λ defs. slice_get defs c.table.0) (sym stands.stored.schema) ∙ d.1 ∙ sym (defined_later c.table d.0 d.1)

        known_same : (p : Test) → shown_of (record v { schema = t.schema }) tree p ≡ shown_of v tree p
        known_same p = same_children (record v { schema = t.schema }) v tree.children (fm.retain_keys (views.root_rows v tree.root) p ∷ []) refl look
