-- What a store keeps of its group, and what is shown of the group behind instances that leave.
use Rattle.std.proofs.Common.{◌≡◌, ◌<◌, ◌≤◌, ℕ, zero, suc, ◌⊎◌, inl, inr, Bool, true, false, not, cond, ◌&&◌, Option, Some, None, is_some, List, [], ◌∷◌, length, slice_get, unwrap_or, refl, sym, ap, ◌∙◌, arith}
use Rattle.std.proofs.lemmas.Bool.{cases_lt}
use Rattle.std.proofs.lemmas.List.{length-map}
use Rattle.std.specs.Option.{option_map}
use Rattle.std.specs.FinMap as fm
use Rattle.row_types.specs.declared.value.Value.{Value}
use Rattle.row_types.specs.Order.{key_order}
use Rattle.tier_base.specs.declared.number.TableId.{TableId}
use Rattle.indexed_rows.specs.Rows.{Table, key_of}
use Rattle.table_defs.specs.declared.definition.TableDef.{TableDef}
use Rattle.evaluator.specs.Cascades.{key_in}
use Rattle.table_state.specs.Tables.{TableState, table_at}
use Rattle.instances.specs.declared.tree.Child.{Child}
use Rattle.instances.specs.Trees.{place_of}
use Rattle.instances.specs.Views.{kept_at, passes, root_rows, selects, with_children}
use Rattle.instances.proofs.Gathering.{get_where}
use Rattle.cache_store.specs.Shown.{shown_of}
use Rattle.cache_store.proofs.ShownLaws.{shown_length}
use Rattle.group_store.specs.Keeping.{IsFor, KeepsShown, layer_for, primary_of}
use Rattle.group_store.specs.Stores.{Kept, SameButSpare}
use Rattle.cache_tier.specs.declared.group.GroupDef.{GroupDef}
use Rattle.cache_tier.specs.Groups.{Group, is_key}
use Rattle.cache_tier.specs.Shown.{instances_where, no_rows, root_key, shown, shown_in, shown_where, shows_root, state_behind}
use Rattle.cache_tier.specs.Worlds.{World}
use Rattle.cache_tier.specs.StandingBetween.{IsCatalogued}
use Rattle.cache_tier.proofs.ChosenGroups.{each_at}
use Rattle.cache_tier.proofs.HistoryKeeps.{root_covers}
use Rattle.cache_tier.proofs.ShownTables.{cond_some}
use Rattle.cache_tier.proofs.ShownTrees.{place_there, sound_child}
use Rattle.stored_tier.specs.declared.tier.Tier.{Tier as Stored}
use Rattle.stored_tier.specs.Performing.{StandsFor}
use Rattle.stored_tier.specs.Stored.{IsSound}
use Rattle.stored_tier.proofs.StoreRows.{form_here, kept_is_shown}
use Rattle.aging_cycles.specs.Running.{cut_all}
use Rattle.aging_cycles.proofs.ShownPlaces.{shown_of_place}
use Rattle.aging_cycles.proofs.Behind.{IsBehind, behind, defined}
use Rattle.aging_cycles.proofs.RootRows.{Drops, after, after_is, children_alike, cut_kept, cut_nothing, nothing_kept, retain_alike, root_shown, same_kept, table_there}

abbrev Row : Type 0
Row = List Value

module _ (t : Stored) (w : World) (sound : IsSound t) (stands : StandsFor t w) (place : ℕ) (g : Group) (at : slice_get w.tier.groups place ≡ Some g) (store : Kept) (kept : slice_get t.stores.items place ≡ Some store) where
  catalogued : IsCatalogued w.tier.schema g
  catalogued = each_at (IsCatalogued w.tier.schema) w.tier.groups place g stands.stands.catalog.each at

  pub form : IsFor t.schema g.def.tree store
  form = form_here t w sound stands place g store at kept

  -- the store keeps what is shown
  pub its : (u : TableId) (p : ℕ) → place_of g.def.tree u ≡ Some p → kept_at store.tables p ≡ kept_at (shown w.history w.tier.log g) p
  its u p there = kept_is_shown t w sound stands place g store u p at kept there ∙ shown_of_place w.history w.tier place g u p stands.stands.catalog at there

  long : length store.tables ≡ suc (length g.def.tree.children)
  long = sound.whole place store kept ∙ ap suc (ap length form.layers ∙ length-map g.def.tree.children (layer_for t.schema))

  -- place by place
  its_at : (i : ℕ) → i < length store.tables → kept_at store.tables i ≡ kept_at (shown w.history w.tier.log g) i
  its_at i lt =
      let u = table_there g.def.tree i (omega (arith, lt, long)) in
      its u.0 i (place_there w.tier.schema g.def.tree i u.0 catalogued.sound u.1)

  pub roots_are : kept_at store.tables 0 ≡ kept_at (shown w.history w.tier.log g) 0
  roots_are = its_at 0 (omega (arith, long))

  -- over the state that it is a cache of
  module _ (s : TableState) (is : state_behind w.history w.tier.log g ≡ Some s) where
    abbrev R : Table
    R = root_rows s g.def.tree.root

    abbrev P : Row → Bool
    P = λ k. passes (shows_root s g) (fm.get (root_rows s g.def.tree.root) k)

    abbrev over : TableState
    over = record s { schema = t.schema }

    pub about : IsBehind w.tier.schema g s
    about = behind w stands.stands place g at s is

    shown_is : shown w.history w.tier.log g ≡ shown_of s g.def.tree P
    shown_is = ap (λ o. shown_where o g) is

    look : (i : ℕ) (c : Child) → slice_get g.def.tree.children i ≡ Some c → (slice_get t.schema c.table.0 ≡ slice_get s.schema c.table.0) ⊎ (table_at s c.table ≡ fm.empty)
    look i c there = by (about.known c.table (ap is_some (sound_child w.tier.schema g.def.tree i c catalogued.sound there).place))
      where
        by : (slice_get s.schema c.table.0 ≡ slice_get w.tier.schema c.table.0) ⊎ (table_at s c.table ≡ fm.empty) → (slice_get t.schema c.table.0 ≡ slice_get s.schema c.table.0) ⊎ (table_at s c.table ≡ fm.empty)
        by (inl same) = inl (ap (λ defs. slice_get defs c.table.0) (sym stands.stored.schema) ∙ sym same)
        by (inr none) = inr none

    over_same : (f : Row → Bool) → shown_of (record s { schema = t.schema }) g.def.tree f ≡ shown_of s g.def.tree f
    over_same f = children_alike (record s { schema = t.schema }) s g.def.tree.children (fm.retain_keys (root_rows s g.def.tree.root) f ∷ []) (λ i c there. refl) look

    pub store_shown : store.tables ≡ shown_of s g.def.tree P
    store_shown = same_kept store.tables (shown_of s g.def.tree P) (let more = shown_length s g.def.tree P in omega (arith, long, more)) (λ i lt. its_at i lt ∙ ap (λ ts. kept_at ts i) shown_is)

    -- the root rows of the store
    pub store_root : (k : Row) → fm.get (kept_at store.tables 0) k ≡ cond (P k) (fm.get (root_rows s g.def.tree.root) k) None
    store_root k = ap (λ ts. fm.get (kept_at ts 0) k) store_shown ∙ root_shown s g.def.tree P k

    keeps : KeepsShown (record s { schema = t.schema }) g.def.tree P store
    keeps = record { form = form; tables = store_shown ∙ sym (over_same P) }

    left_shown : Drops → (ks : List Row) (left : Kept) → SameButSpare (cut_all ks store) left → left.tables ≡ shown_of s g.def.tree (after P ks)
    left_shown drops ks left gone = gone.tables ∙ (cut_kept drops (record s { schema = t.schema }) g.def.tree ks P store keeps).tables ∙ over_same (after P ks)

    -- a group that shows of each root row what is left
    pub left_in : Drops → (h : Group) (ks : List Row) (left : Kept) → SameButSpare (cut_all ks store) left → h.def ≡ g.def
        → ((k r : Row) → fm.get (root_rows s g.def.tree.root) k ≡ Some r → (shows_root s g r && not (is_key ks k)) ≡ shows_root s h r)
        → left.tables ≡ shown_in s h
    left_in drops h ks left gone def fits =
        left_shown drops ks left gone
        ∙ ap (λ m. with_children s g.def.tree.children (m ∷ [])) (retain_alike (root_rows s g.def.tree.root) (after P ks) (λ k. passes (shows_root s h) (fm.get (root_rows s g.def.tree.root) k)) alike)
        ∙ sym (ap (λ (d : GroupDef). instances_where s d.tree (shows_root s h)) def)
      where
        alike : (k r : Row) → fm.get (root_rows s g.def.tree.root) k ≡ Some r → after P ks k ≡ passes (shows_root s h) (fm.get (root_rows s g.def.tree.root) k)
        alike k r e =
            after_is P ks k
            ∙ ap (λ (o : Option Row). passes (shows_root s g) o && not (is_key ks k)) e
            ∙ fits k r e
            ∙ sym (ap (passes (shows_root s h)) e)

    -- the key of a root row
    pub root_is : (k r : Row) → fm.get (root_rows s g.def.tree.root) k ≡ Some r → root_key s g r ≡ k
    root_is k r e = about.rooted k r (cond_some (passes (selects g.def.tree.root.filter) (fm.get (table_at s g.def.tree.root.table) k)) (fm.get (table_at s g.def.tree.root.table) k) r
        (sym (get_where (selects g.def.tree.root.filter) (table_at s g.def.tree.root.table) k) ∙ e))

  -- whatever state it is, or none
  pub left_shows : Drops → (h : Group) (ks : List Row) (left : Kept) → SameButSpare (cut_all ks store) left → h.def ≡ g.def → state_behind w.history w.tier.log h ≡ state_behind w.history w.tier.log g
      → ((s : TableState) → state_behind w.history w.tier.log g ≡ Some s → (k r : Row) → fm.get (root_rows s g.def.tree.root) k ≡ Some r → (shows_root s g r && not (is_key ks k)) ≡ shows_root s h r)
      → (p : ℕ) → kept_at left.tables p ≡ kept_at (shown w.history w.tier.log h) p
  left_shows drops h ks left gone def same fits p = by (state_behind w.history w.tier.log g) refl
    where
      empty_at : state_behind w.history w.tier.log g ≡ None → (q : ℕ) → kept_at store.tables q ≡ fm.empty
      empty_at none q = of q (cases_lt q (length store.tables))
        where
          past : (ts : List Table) (i : ℕ) → length ts ≤ i → kept_at ts i ≡ fm.empty
          past [] i le = nothing_kept i
          past (m ∷ ts) zero le = absurd (omega (arith, le))
          past (m ∷ ts) (suc i) le = past ts i (omega (arith, le))

          of : (i : ℕ) → (i < length store.tables) ⊎ (length store.tables ≤ i) → kept_at store.tables i ≡ fm.empty
          of i (inl lt) = its_at i lt ∙ ap (λ o. kept_at (shown_where o g) i) none ∙ nothing_kept i
          of i (inr le) = past store.tables i le

      by : (o : Option TableState) → state_behind w.history w.tier.log g ≡ o → kept_at left.tables p ≡ kept_at (shown w.history w.tier.log h) p
      by None e =
          ap (λ ts. kept_at ts p) gone.tables ∙ cut_nothing ks store (empty_at e) p
          ∙ sym (ap (λ o. kept_at (shown_where o h) p) (same ∙ e) ∙ nothing_kept p)
      by (Some s) e =
          ap (λ ts. kept_at ts p) (left_in s e drops h ks left gone def (fits s e))
          ∙ sym (ap (λ o. kept_at (shown_where o h) p) (same ∙ e))

  -- root rows by the columns of their key
  key_is : (row : Row) → key_of store.key row ≡ key_in (slice_get w.tier.schema g.def.tree.root.table.0) row
  key_is row =
      let d = defined w stands.stands place g at g.def.tree.root.table (root_covers g) in
      ap (λ ks. key_of ks row) (form.key ∙ ap (λ defs. primary_of defs g.def.tree.root.table) (sym stands.stored.schema) ∙ ap (λ z. unwrap_or (option_map (λ (def : TableDef). def.primary_key) z) []) d.1)
      ∙ sym (ap (λ z. key_in z row) d.1)

  -- they stand under their keys
  pub keyed : (q r : Row) → fm.get (kept_at store.tables 0) q ≡ Some r → key_of store.key r ≡ q
  keyed q r e = by (state_behind w.history w.tier.log g) refl
    where
      of : (s : TableState) (is : state_behind w.history w.tier.log g ≡ Some s) (o : Option Row) → fm.get (root_rows s g.def.tree.root) q ≡ o → key_of store.key r ≡ q
      of s is None there =
          let wrong : None ≡ Some r = sym (store_root s is q ∙ ap (λ (o : Option Row). cond (passes (shows_root s g) o) o None) there) ∙ e in cc
      of s is (Some row) there =
          let shown_so : cond (shows_root s g row) (Some row) None ≡ Some r = sym (store_root s is q ∙ ap (λ (o : Option Row). cond (passes (shows_root s g) o) o None) there) ∙ e in
          let same : row ≡ r = chosen_row (shows_root s g row) row shown_so in
          ap (key_of store.key) (sym same) ∙ key_is row ∙ ap (λ o. key_in o row) (sym (known_root row there)) ∙ root_is s is q row there
        where
          chosen_row : (b : Bool) (x : Row) → cond b (Some x) None ≡ Some r → x ≡ r
          chosen_row true x y = cc
          chosen_row false x y = cc

          table_row : (x : Row) → fm.get (root_rows s g.def.tree.root) q ≡ Some x → fm.get (table_at s g.def.tree.root.table) q ≡ Some x
          table_row x y = cond_some (passes (selects g.def.tree.root.filter) (fm.get (table_at s g.def.tree.root.table) q)) (fm.get (table_at s g.def.tree.root.table) q) x
              (sym (get_where (selects g.def.tree.root.filter) (table_at s g.def.tree.root.table) q) ∙ y)

          known_root : (x : Row) → fm.get (root_rows s g.def.tree.root) q ≡ Some x → slice_get s.schema g.def.tree.root.table.0 ≡ slice_get w.tier.schema g.def.tree.root.table.0
          known_root x y = pick ((about s is).known g.def.tree.root.table (root_covers g))
            where
              pick : (slice_get s.schema g.def.tree.root.table.0 ≡ slice_get w.tier.schema g.def.tree.root.table.0) ⊎ (table_at s g.def.tree.root.table ≡ fm.empty) → slice_get s.schema g.def.tree.root.table.0 ≡ slice_get w.tier.schema g.def.tree.root.table.0
              pick (inl same) = same
              pick (inr none) = let wrong : None ≡ Some x = sym (fm.get-empty key_order q) ∙ ap (λ (m : Table). fm.get m q) (sym none) ∙ table_row x y in cc

      by : (o : Option TableState) → state_behind w.history w.tier.log g ≡ o → key_of store.key r ≡ q
      by None is =
          let wrong : None ≡ Some r = sym (fm.get-empty key_order q) ∙ ap (λ (m : Table). fm.get m q) (sym (roots_are ∙ ap (λ o. kept_at (shown_where o g) 0) is ∙ nothing_kept 0)) ∙ e in cc
      by (Some s) is = of s is (fm.get (root_rows s g.def.tree.root) q) refl

  -- by the definitions alone
  pub keyed_alone : (q r : Row) → fm.get (kept_at store.tables 0) q ≡ Some r → root_key (no_rows w.tier) g r ≡ q
  keyed_alone q r e = sym (key_is r) ∙ keyed q r e
