-- What a group shows behind what was told of its tree.
use Rattle.std.proofs.Common.{◌≡◌, ◌≤◌, ◌⊎◌, inl, inr, ℕ, zero, suc, Bool, true, false, not, cond, ◌&&◌, ◌||◌, nat_eq, Option, Some, None, is_some, List, [], ◌∷◌, ◌++◌, length, map, slice_get, take, drop, unwrap_or, refl, sym, ap, subst, ◌∙◌}
use Rattle.std.proofs.lemmas.List.{take-append-le}
use Rattle.std.proofs.lemmas.List.Folds.{list_any-append}
use Rattle.std.specs.List.{flat_map}
use Rattle.std.specs.Option.{option_and_then, option_map}
use Rattle.std.specs.FinMap as fm
use Rattle.row_types.specs.declared.value.Value.{Value}
use Rattle.tier_base.specs.declared.number.Position.{Position}
use Rattle.tier_base.specs.declared.number.TableId.{TableId}
use Rattle.table_defs.specs.declared.definition.TableDef.{TableDef}
use Rattle.table_defs.specs.Declarations.{foreign_places}
use Rattle.indexed_rows.specs.Rows.{Table, is_same}
use Rattle.table_state.specs.declared.footprint.RowKey.{RowKey}
use Rattle.table_state.specs.declared.history.Entry.{Entry}
use Rattle.table_state.specs.Copies.{is_one_of}
use Rattle.table_state.specs.Histories.{state_at, state_from, state_of}
use Rattle.table_state.specs.Tables.{TableState, table_at}
use Rattle.table_state.proofs.HistoryLaws.{state_of-append}
use Rattle.change_log.specs.Logs.{Each, IsChangeOf, IsChanged}
use Rattle.change_log.specs.declared.log.RowChange.{RowChange}
use Rattle.instances.specs.declared.tree.Child.{Child}
use Rattle.instances.specs.declared.tree.Tree.{Tree}
use Rattle.instances.specs.Trees.{is_sound}
use Rattle.instances.specs.Views.{instance_of, kept_at, passes, root_rows}
use Rattle.outside.specs.Changes.{AllTouched, AreTouched, IsChangesOf, has_changed, is_wanted, tree_tables}
use Rattle.outside.specs.Laws.{is_told}
use Rattle.outside.specs.Reaching.{instance_under}
use Rattle.outside.specs.declared.changes.Changes.{Changes}
use Rattle.outside.specs.declared.changes.Touched.{Touched}
use Rattle.outside.specs.declared.site.Instance.{Instance}
use Rattle.outside.proofs.RowLaws.{is_same_self}
use Rattle.outside.proofs.StayLaws.{same_instance}
use Rattle.order_laws.proofs.CountLaws.{get_front}
use Rattle.order_laws.proofs.TruthLaws.{both_true, or_true}
use Rattle.order_laws.specs.Commits.{virtual_state}
use Rattle.group_store.specs.Keeping.{IsFor, KeepsOthers, KeepsShown, layer_for, primary_of}
use Rattle.group_store.specs.Shown.{foreign_key_of}
use Rattle.group_store.specs.Stores.{HasRootKeys, Kept}
use Rattle.group_store.proofs.FormLaws.{defined}
use Rattle.slot_rows.specs.SlotKeys.{RowsHeld}
use Rattle.cache_store.specs.Shown.{shown_of}
use Rattle.cache_tier.specs.Groups.{Group, is_explicit, is_key, is_read_only}
use Rattle.cache_tier.specs.Shown.{exceeds, root_key, shows_root, state_behind}
use Rattle.cache_tier.specs.Worlds.{World}
use Rattle.cache_tier.specs.StandingBetween.{IsCatalogued, IsReadWithin}
use Rattle.cache_tier.proofs.ChosenGroups.{each_at}
use Rattle.cache_tier.proofs.ShownTrees.{sound_child, sound_later}
use Rattle.stored_tier.specs.declared.tier.Tier.{Tier as Stored}
use Rattle.stored_tier.specs.Filling.{is_held}
use Rattle.stored_tier.specs.Performing.{StandsFor}
use Rattle.stored_tier.specs.Stored.{IsSound, without_list}
use Rattle.stored_tier.proofs.ListLaws.{stored_keys}
use Rattle.aging_cycles.proofs.Behind.{IsBehind}
use Rattle.aging_cycles.proofs.RootRows.{children_alike}
use Rattle.aging_cycles.proofs.Shows as shows
use Rattle.changed_sets.specs.Alike.{IsAlike}
use Rattle.changed_sets.specs.Fresh.{is_fresh, keys_touched}
use Rattle.changed_sets.specs.Told.{TellsTree}
use Rattle.changed_sets.specs.Turning.{cut_of, is_shown_told, turn_of, turned}
use Rattle.changed_sets.proofs.CopyLaws.{alike_instance, alike_sound}
use Rattle.changed_sets.proofs.GainLaws.{AreGains}
use Rattle.changed_sets.proofs.KeyTurns.{keys_in_order}
use Rattle.changed_sets.proofs.LeftLaws.{first_shown, instance_root}
use Rattle.changed_sets.proofs.ReadLaws.{ReadsState}
use Rattle.changed_sets.proofs.ToldLaws.{shows_changed, stays_there}

abbrev Row : Type 0
Row = List Value

-- ---- of what was told

any_tree : (trees : List Tree) (i : ℕ) (tree : Tree) (t : TableId) → slice_get trees i ≡ Some tree → is_one_of (tree_tables tree) t ≡ true → is_one_of (flat_map tree_tables trees) t ≡ true
any_tree [] i tree t at e = cc
any_tree (x ∷ trees) zero tree t at e =
    let same : x ≡ tree = cc in
    list_any-append (λ (one : TableId). nat_eq one.0 t.0) (tree_tables x) (flat_map tree_tables trees)
    ∙ ap (λ b. b || is_one_of (flat_map tree_tables trees) t) (ap (λ (y : Tree). is_one_of (tree_tables y) t) same ∙ e)
any_tree (x ∷ trees) (suc i) tree t at e =
    list_any-append (λ (one : TableId). nat_eq one.0 t.0) (tree_tables x) (flat_map tree_tables trees)
    ∙ ap (λ b. is_one_of (tree_tables x) t || b) (any_tree trees i tree t at e) ∙ or_true (is_one_of (tree_tables x) t)

of_tree : (s : TableState) (log : List RowChange) (wants : List RowKey) (trees : List Tree) (lists : List (List Touched)) (i : ℕ) (tree : Tree) (touched : List Touched)
    → AllTouched s log wants trees lists → slice_get trees i ≡ Some tree → slice_get lists i ≡ Some touched → AreTouched s log wants tree touched
of_tree s log wants [] lists i tree touched all a b = cc
of_tree s log wants (x ∷ trees) [] i tree touched all a b = cc
of_tree s log wants (x ∷ trees) (l ∷ lists) zero tree touched all a b =
    let same : x ≡ tree = cc in
    let same_list : l ≡ touched = cc in
    subst (AreTouched s log wants tree) same_list (subst (λ (y : Tree). AreTouched s log wants y l) same all.0)
of_tree s log wants (x ∷ trees) (l ∷ lists) (suc i) tree touched all a b = of_tree s log wants trees lists i tree touched all.1 a b

told_at : (touched : List Touched) (j : ℕ) (t : Touched) (root : Row) → slice_get touched j ≡ Some t → t.instance.root ≡ root → is_told touched root ≡ true
told_at [] j t root at is = cc
told_at (x ∷ touched) zero t root at is =
    let same : x ≡ t = cc in
    ap (λ c. c || is_told touched root) (ap (λ (y : Touched). is_same root y.instance.root) same ∙ ap (is_same root) is ∙ is_same_self root)
told_at (x ∷ touched) (suc j) t root at is = ap (λ b. is_same root x.instance.root || b) (told_at touched j t root at is) ∙ or_true (is_same root x.instance.root)

not_changed : (s : TableState) (log : List RowChange) (wants : List RowKey) (tree : Tree) (touched : List Touched) (root : Row) → AreTouched s log wants tree touched → is_told touched root ≡ false → has_changed s tree log root ≡ false
not_changed s log wants tree touched root are left = by (has_changed s tree log root) refl
  where
    by : (x : Bool) → has_changed s tree log root ≡ x → x ≡ false
    by false e = refl
    by true e =
        let found = are.whole root (ap (λ y. y || is_wanted s tree wants root) e) in
        let told : is_told touched root ≡ true = told_at touched found.0 found.1 root found.2 found.3 in
        cc

-- what is wanted is told
wanted_told : (s : TableState) (log : List RowChange) (wants : List RowKey) (tree : Tree) (touched : List Touched) (root : Row) → AreTouched s log wants tree touched → is_wanted s tree wants root ≡ true → is_told touched root ≡ true
wanted_told s log wants tree touched root are e =
    let found = are.whole root (ap (λ y. has_changed s tree log root || y) e ∙ or_true (has_changed s tree log root)) in
    told_at touched found.0 found.1 root found.2 found.3

-- the definitions of a state play no part in what changed since
over_rows : (tables : List TableId) (from to : TableState) (defs : List TableDef) (log : List RowChange) → IsChanged tables from to log → IsChanged tables (record from { schema = defs }) to log
over_rows tables from to defs log is = record { sound = each log is.sound; once = is.once; whole = is.whole }
  where
    each : (l : List RowChange) → Each (λ change. (is_one_of tables change.table ≡ true) × IsChangeOf from to change) l → Each (λ change. (is_one_of tables change.table ≡ true) × IsChangeOf (record from { schema = defs }) to change) l
    each [] e = tt
    each (change ∷ l) e = ((e.0.0, record { old = e.0.1.old; new = e.0.1.new; differs = e.0.1.differs }), each l e.1)

-- ---- more definitions

more_primary : (schema more : List TableDef) (u : TableId) (d : TableDef) → slice_get schema u.0 ≡ Some d → primary_of (schema ++ more) u ≡ primary_of schema u
more_primary schema more u d e = ap (λ o. unwrap_or (option_map (λ (x : TableDef). x.primary_key) o) []) (get_front schema more u.0 d e ∙ sym e)

more_foreign : (schema more : List TableDef) (u : TableId) (d : TableDef) → slice_get schema u.0 ≡ Some d → foreign_key_of (schema ++ more) u ≡ foreign_key_of schema u
more_foreign schema more u d e = ap (λ o. unwrap_or (option_map (λ (x : TableDef). foreign_places x.foreign_key) o) []) (get_front schema more u.0 d e ∙ sym e)

more_layers : (schema more : List TableDef) (children : List Child) → ((i : ℕ) (c : Child) → slice_get children i ≡ Some c → (d : TableDef) × (slice_get schema c.table.0 ≡ Some d)) → map (layer_for (schema ++ more)) children ≡ map (layer_for schema) children
more_layers schema more [] there = refl
more_layers schema more (c ∷ children) there =
    let d = there 0 c refl in
    let primary = more_primary schema more c.table d.0 d.1 in
    let foreign = more_foreign schema more c.table d.0 d.1 in
    let rest = more_layers schema more children (λ i x at. there (suc i) x at) in
    λ i. record { table = c.table; key = primary i; foreign = foreign i; parent = c.parent } ∷ rest i

later_for : (schema more : List TableDef) (tree : Tree) (s : Kept) → is_sound schema tree ≡ true → IsFor schema tree s → IsFor (schema ++ more) tree s
later_for schema more tree s sound form =
    let root = defined schema tree sound 0 tree.root.table refl in
    record {
      table = form.table;
      key = form.key ∙ sym (more_primary schema more tree.root.table root.0 root.1);
      foreign = form.foreign ∙ sym (more_foreign schema more tree.root.table root.0 root.1);
      layers = form.layers ∙ sym (more_layers schema more tree.children (λ i c at. defined schema tree sound (suc i) c.table (ap (option_map (λ (x : Child). x.table)) at)));
    }

-- a front of a history leaves a state
front_state : (history : List Entry) (n : ℕ) (b : TableState) → state_of history ≡ Some b → (s : TableState) × (state_at history n ≡ Some s)
front_state history n b leaves = by (state_of (take n history)) refl
  where
    parts : {X : Type 0} (xs : List X) (n : ℕ) → take n xs ++ drop n xs ≡ xs
    parts [] zero = refl
    parts [] (suc n) = refl
    parts (x ∷ xs) zero = refl
    parts (x ∷ xs) (suc n) = ap (λ ys. x ∷ ys) (parts xs n)

    by : (o : Option TableState) → state_of (take n history) ≡ o → (s : TableState) × (state_at history n ≡ Some s)
    by (Some s) e = (s, e)
    by None e =
        let none : state_of history ≡ None = sym (ap state_of (parts history n)) ∙ state_of-append (take n history) (drop n history) ∙ ap (option_and_then (state_from (drop n history))) e in
        let wrong : None ≡ Some b = sym none ∙ leaves in
        cc

-- an instance of these rows
abbrev with_rows : Row → List Table → Instance
with_rows root rows = record { root = root; rows = rows }

-- ---- the group

module _ (drops : (state : TableState) (tree : Tree) → KeepsOthers state tree) (t : Stored) (w mid : World) (sound : IsSound t) (stands : StandsFor t w) (since : Position) (copies : List Tree) (wants : List RowKey) (changes : Changes) (reads : ReadsState t w mid since copies wants changes) where
  abbrev to : TableState
  to = reads.state

  module _ (k : ℕ) (h : Group) (h_at : slice_get w.tier.groups k ≡ Some h) (readonly : is_read_only h ≡ true) (pos : h.position ≡ Some since.0) (s : Kept) (kept : slice_get t.stores.items k ≡ Some s) (x : RowsHeld) (held : slice_get t.hidden.items k ≡ Some x)
      (u : Tree) (i : ℕ) (u_at : slice_get copies i ≡ Some u) (alike : IsAlike h.def.tree u) (told : List Touched) (told_is : slice_get changes.touched i ≡ Some told) (full : (h.def.dynamic || h.loaded) ≡ true) (has : HasRootKeys s)
      (gains : Bool) (more : List Row) (gained : AreGains reads.state (without_list h) s x.table gains (is_wanted reads.state u wants) more) where
    abbrev tree : Tree
    tree = h.def.tree

    was : (from : TableState) × (state_at w.history since.0 ≡ Some from)
    was = front_state w.history since.0 stands.stands.flow.stand.over.backing stands.stands.flow.stand.over.leaves

    abbrev from : TableState
    from = was.0

    -- the same rows under the definitions of the second state
    abbrev old : TableState
    old = record was.0 { schema = reads.state.schema }

    behind_is : state_behind w.history w.tier.log h ≡ Some was.0
    behind_is = ap (λ b. cond b (option_and_then (state_at w.history) h.position) (virtual_state w.history w.tier.log)) readonly ∙ ap (option_and_then (state_at w.history)) pos ∙ was.1

    abbrev shown_before : Row → Bool
    shown_before = λ q. passes (shows_root was.0 h) (fm.get (root_rows was.0 h.def.tree.root) q)

    about : IsBehind w.tier.schema h was.0
    about = shows.about t w sound stands k h h_at s kept was.0 behind_is

    store_shown : s.tables ≡ shown_of was.0 h.def.tree shown_before
    store_shown = shows.store_shown t w sound stands k h h_at s kept was.0 behind_is

    within : since.0 ≤ length w.history
    within = each_at (IsReadWithin (length w.history)) w.tier.groups k h stands.stands.read.within h_at since.0 pos

    at_middle : state_at reads.middle since.0 ≡ Some was.0
    at_middle = ap (λ l. state_at l since.0) reads.longer ∙ ap state_of (take-append-le since.0 w.history reads.before within) ∙ was.1

    both : IsChangesOf was.0 reads.state copies wants changes
    both = reads.tells.between was.0 reads.state at_middle reads.leaves

    are : AreTouched reads.state changes.log wants u told
    are = of_tree reads.state changes.log wants copies changes.touched i u told both.touched u_at told_is

    catalogued : IsCatalogued w.tier.schema h
    catalogued = each_at (IsCatalogued w.tier.schema) w.tier.groups k h stands.stands.catalog.each h_at

    sound_before : is_sound t.schema h.def.tree ≡ true
    sound_before = ap (λ d. is_sound d h.def.tree) (sym stands.stored.schema) ∙ catalogued.sound

    sound_now : is_sound reads.state.schema h.def.tree ≡ true
    sound_now = ap (λ d. is_sound d h.def.tree) reads.front ∙ sound_later t.schema reads.more h.def.tree sound_before

    form_now : IsFor reads.state.schema h.def.tree s
    form_now = subst (λ d. IsFor d h.def.tree s) (sym reads.front) (later_for t.schema reads.more h.def.tree s sound_before (shows.form t w sound stands k h h_at s kept))

    same_def : (c : Child) (j : ℕ) → slice_get h.def.tree.children j ≡ Some c → slice_get reads.state.schema c.table.0 ≡ slice_get w.tier.schema c.table.0
    same_def c j at =
        let d = defined t.schema h.def.tree sound_before (suc j) c.table (ap (option_map (λ (y : Child). y.table)) at) in
        ap (λ l. slice_get l c.table.0) reads.front ∙ get_front t.schema reads.more c.table.0 d.0 d.1 ∙ sym d.1 ∙ ap (λ l. slice_get l c.table.0) (sym stands.stored.schema)

    over_same : shown_of old h.def.tree shown_before ≡ shown_of was.0 h.def.tree shown_before
    over_same = children_alike old was.0 h.def.tree.children (fm.retain_keys (root_rows was.0 h.def.tree.root) shown_before ∷ []) (λ j c at. refl) look
      where
        look : (j : ℕ) (c : Child) → slice_get h.def.tree.children j ≡ Some c → (slice_get reads.state.schema c.table.0 ≡ slice_get was.0.schema c.table.0) ⊎ (table_at was.0 c.table ≡ fm.empty)
        look j c at = by (about.known c.table (ap is_some (sound_child w.tier.schema h.def.tree j c catalogued.sound at).place))
          where
            by : (slice_get was.0.schema c.table.0 ≡ slice_get w.tier.schema c.table.0) ⊎ (table_at was.0 c.table ≡ fm.empty) → (slice_get reads.state.schema c.table.0 ≡ slice_get was.0.schema c.table.0) ⊎ (table_at was.0 c.table ≡ fm.empty)
            by (inl same) = inl (same_def c j at ∙ sym same)
            by (inr none) = inr none

    kept_before : KeepsShown old h.def.tree shown_before s
    kept_before = record { form = form_now; tables = store_shown ∙ sym over_same }

    stays : (root : Row) → is_told told root ≡ false → instance_of reads.state h.def.tree root ≡ instance_of old h.def.tree root
    stays root left =
        sym (alike_instance reads.state h.def.tree u root alike)
        ∙ same_instance old reads.state u (flat_map tree_tables copies) changes.log root (alike_sound reads.state.schema h.def.tree u alike ∙ sound_now) (λ y d e. e) (λ y covered. any_tree copies i u y u_at covered)
        (over_rows (flat_map tree_tables copies) was.0 reads.state reads.state.schema changes.log both.log) (not_changed reads.state changes.log wants u told root are left)
        ∙ alike_instance old h.def.tree u root alike

    told_now : (j : ℕ) (y : Touched) → slice_get told j ≡ Some y → y.instance ≡ instance_under reads.state h.def.tree y.instance.root
    told_now j y at =
        ap (λ (z : Touched). z.instance) (are.sound j y at).1
        ∙ ap (with_rows y.instance.root) (alike_instance reads.state h.def.tree u y.instance.root alike)

    tells : TellsTree old reads.state h.def.tree told
    tells = record { now = told_now; once = are.once; stays = stays }

    abbrev shown_then : Row → Bool
    shown_then = is_fresh reads.state (without_list h) s x.table more

    abbrev shows_told : Touched → Bool
    shows_told = is_shown_told (without_list h) s x.table gains

    abbrev past : Row → Bool
    past = λ root. passes (exceeds h) (fm.get (root_rows reads.state h.def.tree.root) root)

    or_false : (a : Bool) → (a || false) ≡ a
    or_false true = refl
    or_false false = refl

    and_none : (a : Bool) → (a && false) ≡ false
    and_none true = refl
    and_none false = refl

    -- of a root row in the view, past the horizon, that the group doesn't have
    same_gains : (root : Row) → ((not h.def.dynamic || (is_held s x.table root || (gains && is_wanted reads.state u wants root))) && past root) ≡ ((not h.def.dynamic || (is_held s x.table root || is_key more root)) && past root)
    same_gains root = by (is_held s x.table root) refl (past root) refl
      where
        by : (a : Bool) → is_held s x.table root ≡ a → (b : Bool) → past root ≡ b → ((not h.def.dynamic || (is_held s x.table root || (gains && is_wanted reads.state u wants root))) && past root) ≡ ((not h.def.dynamic || (is_held s x.table root || is_key more root)) && past root)
        by true e b f =
            ap (λ c. (not h.def.dynamic || (c || (gains && is_wanted reads.state u wants root))) && past root) e
            ∙ sym (ap (λ c. (not h.def.dynamic || (c || is_key more root)) && past root) e)
        by false e true f = ap (λ c. (not h.def.dynamic || (is_held s x.table root || c)) && past root) (gained.same root f e)
        by false e false f =
            ap (λ c. (not h.def.dynamic || (is_held s x.table root || (gains && is_wanted reads.state u wants root))) && c) f
            ∙ and_none (not h.def.dynamic || (is_held s x.table root || (gains && is_wanted reads.state u wants root)))
            ∙ sym (ap (λ c. (not h.def.dynamic || (is_held s x.table root || is_key more root)) && c) f ∙ and_none (not h.def.dynamic || (is_held s x.table root || is_key more root)))

    chosen : (j : ℕ) (y : Touched) → slice_get told j ≡ Some y → shows_told y ≡ shown_then y.instance.root
    chosen j y at =
        ap (λ (z : Instance). (not h.def.dynamic || (is_held s x.table y.instance.root || (gains && y.wanted))) && passes (exceeds h) (fm.get (kept_at z.rows 0) y.instance.root)) (told_now j y at)
        ∙ ap (λ o. (not h.def.dynamic || (is_held s x.table y.instance.root || (gains && y.wanted))) && passes (exceeds h) o) (instance_root reads.state h.def.tree y.instance.root)
        ∙ ap (λ (z : Touched). (not h.def.dynamic || (is_held s x.table y.instance.root || (gains && z.wanted))) && past y.instance.root) (are.sound j y at).1
        ∙ same_gains y.instance.root

    same_root : (root : Row) → is_told told root ≡ false → fm.get (root_rows reads.state h.def.tree.root) root ≡ fm.get (root_rows was.0 h.def.tree.root) root
    same_root root left = sym (instance_root reads.state h.def.tree root) ∙ ap (λ ts. fm.get (kept_at ts 0) root) (stays root left) ∙ instance_root old h.def.tree root

    others : (root : Row) → is_told told root ≡ false → shown_then root ≡ shown_before root
    others root left =
        ap (λ b. (not h.def.dynamic || (is_held s x.table root || b)) && past root) (none_gained (is_key more root) refl)
        ∙ ap (λ o. (not h.def.dynamic || (is_held s x.table root || false)) && passes (exceeds h) o) (same_root root left)
        ∙ by (fm.get (root_rows was.0 h.def.tree.root) root) refl
      where
        and_false : (a : Bool) → (a && false) ≡ false
        and_false true = refl
        and_false false = refl

        none_gained : (b : Bool) → is_key more root ≡ b → is_key more root ≡ false
        none_gained true e = let wrong : true ≡ false = sym (wanted_told reads.state changes.log wants u told root are (gained.told root e)) ∙ left in cc
        none_gained false e = e

        listed : h.def.dynamic ≡ true → is_key h.keys root ≡ is_held s x.table root
        listed dynamic = stored_keys t w.tier k h s x sound stands.stored h_at kept held has dynamic root

        root_is : (row : Row) → fm.get (root_rows was.0 h.def.tree.root) root ≡ Some row → root_key was.0 h row ≡ root
        root_is row e = shows.root_is t w sound stands k h h_at s kept was.0 behind_is root row e

        held_now : (d : Bool) → h.def.dynamic ≡ d → (row : Row) → fm.get (root_rows was.0 h.def.tree.root) root ≡ Some row → (not d || (is_held s x.table root || false)) ≡ cond (not d) h.loaded (is_key h.keys (root_key was.0 h row))
        held_now true e row at = or_false (is_held s x.table root) ∙ sym (listed e) ∙ ap (is_key h.keys) (sym (root_is row at))
        held_now false e row at = sym (ap (λ d. d || h.loaded) (sym e) ∙ full)

        by : (o : Option Row) → fm.get (root_rows was.0 h.def.tree.root) root ≡ o → ((not h.def.dynamic || (is_held s x.table root || false)) && passes (exceeds h) o) ≡ passes (shows_root was.0 h) o
        by None e = and_false (not h.def.dynamic || (is_held s x.table root || false))
        by (Some row) e =
            ap (λ b. b && exceeds h row) (held_now h.def.dynamic refl row e)
            ∙ sym (ap (λ b. cond b (cond (is_explicit h) h.loaded (is_key h.keys (root_key was.0 h row)) && exceeds h row) (is_key h.keys (root_key was.0 h row))) readonly)

    pub group_shown : (turned (map (cut_of shows_told) told) (map (turn_of shows_told) told) s).tables ≡ shown_of reads.state h.def.tree shown_then
    group_shown = (shows_changed drops old reads.state h.def.tree told shows_told shown_before shown_then s reads.sound.keyed sound_now form_now tells (record { chosen = chosen; others = others }) kept_before).tables

    -- ---- and its keys are in the order of last use

    -- a root row that is there is one that is shown then
    record IsShown (root : Row) : Type 0 where
      shown : shown_then root ≡ true
      row : Row
      there : fm.get (root_rows reads.state h.def.tree.root) root ≡ Some row

    module _ (m : Kept) (tables : m.tables ≡ shown_of reads.state h.def.tree shown_then) (dynamic : h.def.dynamic ≡ true) (none : x.table ≡ fm.empty) where
      looked : (q : Row) → fm.contains_key (kept_at m.tables 0) q ≡ is_some (cond (shown_then q) (fm.get (root_rows reads.state h.def.tree.root) q) None)
      looked q = ap (λ ts. fm.contains_key (kept_at ts 0) q) tables ∙ ap is_some (first_shown reads.state h.def.tree shown_then q)

      is_shown : (q : Row) → fm.contains_key (kept_at m.tables 0) q ≡ true → IsShown q
      is_shown q e = by (shown_then q) refl (fm.get (root_rows reads.state h.def.tree.root) q) refl (sym (looked q) ∙ e)
        where
          by : (b : Bool) → shown_then q ≡ b → (o : Option Row) → fm.get (root_rows reads.state h.def.tree.root) q ≡ o → is_some (cond b o None) ≡ true → IsShown q
          by true f (Some row) g there = record { shown = f; row = row; there = g }
          by true f None g there = cc
          by false f o g there = cc

      gained_then : (q : Row) → fm.contains_key (kept_at m.tables 0) q ≡ true → fm.contains_key (kept_at s.tables 0) q ≡ false → is_key more q ≡ true
      gained_then q e absent =
          let not_held : is_held s x.table q ≡ false = (λ i. absent i || fm.contains_key (none i) q) ∙ ap is_some (fm.get-empty {X = Row} Rattle.row_types.specs.Order.key_order q) in
          sym (ap (λ b. b || is_key more q) not_held)
          ∙ sym (ap (λ d. not d || (is_held s x.table q || is_key more q)) dynamic)
          ∙ (both_true (not h.def.dynamic || (is_held s x.table q || is_key more q)) (past q) (is_shown q e).shown).0

      comes_then : (q : Row) → is_key more q ≡ true → fm.contains_key (kept_at m.tables 0) q ≡ true
      comes_then q e =
          let there = gained.past q e in
          let shown : shown_then q ≡ true =
          (λ i. (not h.def.dynamic || (is_held s x.table q || e i)) && there i)
          ∙ ap (λ b. (not h.def.dynamic || b) && true) (or_true (is_held s x.table q)) ∙ ap (λ b. b && true) (or_true (not h.def.dynamic)) in
          looked q ∙ ap (λ b. is_some (cond b (fm.get (root_rows reads.state h.def.tree.root) q) None)) shown
          ∙ by (fm.get (root_rows reads.state h.def.tree.root) q) there
        where
          by : (o : Option Row) → passes (exceeds h) o ≡ true → is_some o ≡ true
          by None f = cc
          by (Some row) f = refl

      pub group_order : m.keys ≡ (turned (map (cut_of shows_told) told) (map (turn_of shows_told) told) s).keys → HasRootKeys m → m.keys ≡ keys_touched more (keys_touched s.keys m.keys)
      group_order keys_are new =
          keys_in_order (map (cut_of shows_told) told) (map (turn_of shows_told) told) s m has new keys_are more
          (λ q e was_there. (
          let now = is_shown q e in
          stays_there drops old reads.state h.def.tree told shows_told shown_before shown_then s reads.sound.keyed sound_now form_now tells (record { chosen = chosen; others = others }) kept_before q now.row now.shown now.there was_there))
          gained_then comes_then (λ q e. unheld q (fm.contains_key (kept_at s.tables 0) q) (gained.unheld q e)) gained.few
        where
          unheld : (q : Row) (a : Bool) → (a || fm.contains_key x.table q) ≡ false → a ≡ false
          unheld q true f = f
          unheld q false f = refl
