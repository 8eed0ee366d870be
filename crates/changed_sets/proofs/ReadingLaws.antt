-- What was read shows the instances of its state.
use Rattle.std.proofs.Common.{◌≡◌, ◌+◌, ℕ, zero, suc, Bool, true, false, cond, ◌&&◌, Option, Some, None, List, [], ◌∷◌, length, map, nat_eq, slice_get, refl, sym, ap, subst, ◌∙◌, arith}
use Rattle.std.proofs.lemmas.List.{length-map}
use Rattle.std.specs.FinMap as fm
use Rattle.row_types.specs.declared.value.Value.{Value}
use Rattle.tier_base.specs.declared.number.Position.{Position}
use Rattle.table_defs.specs.declared.definition.TableDef.{TableDef}
use Rattle.table_state.specs.Tables.{TableState}
use Rattle.table_state.specs.declared.footprint.RowKey.{RowKey}
use Rattle.evaluator.specs.Cascades.{key_in}
use Rattle.instances.specs.declared.tree.Tree.{Tree}
use Rattle.instances.specs.Trees.{is_sound}
use Rattle.instances.specs.Views.{kept_at, passes, selects}
use Rattle.instances.proofs.Gathering.{get_where}
use Rattle.outside.specs.Changes.{is_wanted}
use Rattle.outside.specs.declared.changes.Changes.{Changes}
use Rattle.outside.specs.declared.changes.Touched.{Touched}
use Rattle.group_catalog.specs.Catalogs.{groups_in}
use Rattle.group_store.specs.Keeping.{KeepsOthers, layer_for}
use Rattle.group_store.specs.Stores.{Kept, SameButSpare}
use Rattle.group_store.proofs.FormLaws.{defined}
use Rattle.slot_rows.specs.SlotKeys.{RowsHeld}
use Rattle.cache_tier.specs.Groups.{Group, is_read_only}
use Rattle.cache_tier.specs.Wants.{Want}
use Rattle.cache_tier.specs.declared.group.AgingRule.{AgingRule}
use Rattle.cache_tier.specs.declared.group.AgingRule.TheVariants.{ByTime, LastUse}
use Rattle.cache_tier.specs.Sets.{Choice}
use Rattle.cache_tier.specs.StandingBetween.{IsCatalogued}
use Rattle.cache_tier.specs.Worlds.{World}
use Rattle.cache_tier.proofs.ChosenGroups.{each_at}
use Rattle.cache_tier.proofs.ShownTrees.{sound_later}
use Rattle.stored_tier.specs.declared.refreshing.Made.{Made}
use Rattle.stored_tier.specs.declared.tier.Tier.{Tier as Stored}
use Rattle.stored_tier.specs.Filling.{HidesNone}
use Rattle.stored_tier.specs.Performing.{StandsFor}
use Rattle.stored_tier.specs.Refreshing.{is_filled}
use Rattle.stored_tier.specs.Stored.{IsSound, without_list}
use Rattle.stored_tier.specs.Lists.{is_by_time, is_by_use}
use Rattle.stored_tier.proofs.ListLaws.{hidden_kept, hiding_there}
use Rattle.stored_tier.proofs.StoreRows.{form_at}
use Rattle.changed_sets.specs.Alike.{AllAlike}
use Rattle.changed_sets.specs.Fresh.{HasOwnKeys, IsFreshFor, IsViewed, gained_at, keys_touched}
use Rattle.changed_sets.specs.Gains.{AreGainedBy, gained_keys, rows_wanted}
use Rattle.changed_sets.specs.Preparing.{ArePatches, IsPrepared, count_before}
use Rattle.changed_sets.specs.Reading.{HaveRoom}
use Rattle.changed_sets.specs.Showing.{AllCame, AreReady, CameOf, IsRoomier, Pairs}
use Rattle.changed_sets.specs.Since.{asked_since, trees_of}
use Rattle.changed_sets.specs.Turning.{AreUnder, FitTurns, IsPatchFor, IsTurned, count_cuts, count_turns, cut_of, is_shown_told, turn_of, turned}
use Rattle.changed_sets.specs.declared.turns.Patch.{Patch}
use Rattle.changed_sets.proofs.AskedLaws.{GoesSince, asked_law}
use Rattle.changed_sets.proofs.GainLaws.{AreGains, gains_here}
use Rattle.changed_sets.proofs.GroupLaws.{group_order, group_shown}
use Rattle.changed_sets.proofs.ReadLaws.{ReadsState, unmapped}
use Rattle.changed_sets.proofs.TreeSteps.{copy_of}
use Rattle.changed_sets.proofs.TurnSteps.{same_turned, whole}

abbrev Row : Type 0
Row = List Value

in_table : (b : Bool) (v : Option Row) (row : Row) → cond b v None ≡ Some row → v ≡ Some row
in_table true v row e = e
in_table false v row e = cc

pairs_there : (xs ys : List Kept) (k : ℕ) (y : Kept) → Pairs SameButSpare xs ys → slice_get ys k ≡ Some y → (x : Kept) × (slice_get xs k ≡ Some x) × SameButSpare x y
pairs_there [] [] k y p at = cc
pairs_there [] (z ∷ ys) k y p at = absurd p
pairs_there (x ∷ xs) [] k y p at = absurd p
pairs_there (x ∷ xs) (z ∷ ys) zero y p at = let same : z ≡ y = cc in (x, refl, subst (SameButSpare x) same p.0)
pairs_there (x ∷ xs) (z ∷ ys) (suc k) y p at = pairs_there xs ys k y p.1 at

there_too : {A B : Type 0} (xs : List A) (ys : List B) (k : ℕ) (a : A) → length ys ≡ length xs → slice_get xs k ≡ Some a → (b : B) × (slice_get ys k ≡ Some b)
there_too [] ys k a long at = cc
there_too (x ∷ xs) [] k a long at = absurd (omega (arith, long))
there_too (x ∷ xs) (y ∷ ys) zero a long at = (y, refl)
there_too (x ∷ xs) (y ∷ ys) (suc k) a long at = there_too xs ys k a (omega (arith, long)) at

module _ (drops : (state : TableState) (tree : Tree) → KeepsOthers state tree) (t : Stored) (w mid : World) (sound : IsSound t) (stands : StandsFor t w) (since : Position) (copies : List Tree) (wants : List RowKey) (changes : Changes) (reads : ReadsState t w mid since copies wants changes)
    (chosen : Choice) (asks : asked_since chosen (groups_in t.catalog) ≡ Some since.0) (alike : AllAlike (trees_of (is_filled chosen None) 0 (groups_in t.catalog)) copies)
    (patches : List (Option Patch)) (place : ℕ) (want : Option Want) (asked : wants ≡ rows_wanted want) (are : ArePatches t (is_filled chosen None) place changes.touched patches)
    (new : Stored) (room : Pairs SameButSpare t.stores.items new.stores.items) (made : List (Option Made)) (came : AllCame patches new.stores.items made) where
  -- the tier with more room
  abbrev roomy : Stored
  roomy = record t { stores = new.stores }

  -- what the group at a place gains, and what each does
  abbrev all_more : List Row
  all_more = gained_keys (record t { stores = new.stores }) place want reads.state

  abbrev more_of : ℕ → List Row
  more_of k = gained_at place (gained_keys (record t { stores = new.stores }) place want reads.state) k

  abbrev filled : Choice
  filled = is_filled chosen None

  abstract_group : (k : ℕ) (g : Group) → slice_get (groups_in t.catalog) k ≡ Some g → (h : Group) × (slice_get w.tier.groups k ≡ Some h) × (without_list h ≡ g)
  abstract_group k g at = unmapped w.tier.groups k g (ap (λ l. slice_get l k) stands.stored.groups ∙ at)

  own_keys : (k : ℕ) (g : Group) → slice_get (groups_in t.catalog) k ≡ Some g → HasOwnKeys reads.state g
  own_keys k g at key row e =
      let a = abstract_group k g at in
      let tree_sound : is_sound t.schema g.def.tree ≡ true =
      ap (λ (y : Group). is_sound t.schema y.def.tree) (sym a.2) ∙ ap (λ d. is_sound d a.0.def.tree) (sym stands.stored.schema) ∙ (each_at (IsCatalogued w.tier.schema) w.tier.groups k a.0 stands.stands.catalog.each a.1).sound in
      let now_sound : is_sound reads.state.schema g.def.tree ≡ true = ap (λ d. is_sound d g.def.tree) reads.front ∙ sound_later t.schema reads.more g.def.tree tree_sound in
      let d = defined reads.state.schema g.def.tree now_sound 0 g.def.tree.root.table refl in
      let found = in_table (passes (selects g.def.tree.root.filter) (fm.get (Rattle.table_state.specs.Tables.table_at reads.state g.def.tree.root.table) key)) (fm.get (Rattle.table_state.specs.Tables.table_at reads.state g.def.tree.root.table) key) row
      (sym (get_where (selects g.def.tree.root.filter) (Rattle.table_state.specs.Tables.table_at reads.state g.def.tree.root.table) key) ∙ e) in
      ap (λ o. key_in o row) d.1 ∙ reads.sound.keyed g.def.tree.root.table d.0 d.1 key row found

  -- one that keeps rows
  module _ (k : ℕ) (g : Group) (s n : Kept) (x : RowsHeld) (p : Patch) (m : Made) (at : slice_get (groups_in t.catalog) k ≡ Some g) (kept : slice_get t.stores.items k ≡ Some s) (roomier : slice_get new.stores.items k ≡ Some n) (same : SameButSpare s n) (held : slice_get t.hidden.items k ≡ Some x)
      (f : is_filled chosen None k g ≡ true) (told : List Touched) (told_is : slice_get changes.touched (count_before (is_filled chosen None) k (groups_in t.catalog)) ≡ Some told) (patch : IsPatchFor t.schema g s x.table (nat_eq k place) told p) (is : IsTurned p n m.store) (hid : m.hidden ≡ p.hidden) where
    goes : GoesSince since.0 g
    goes = asked_law chosen (groups_in t.catalog) since.0 asks k g at f

    -- where instances leave by last use, none is hidden
    none_hidden : is_by_use g.def.aging ≡ true → x.table ≡ fm.empty
    none_hidden leaves =
        (hiding_there t.schema (groups_in t.catalog) t.stores.items t.hidden.items k g s x sound.hiding at kept held).none
        (ap (λ b. (is_read_only g && g.def.dynamic) && b) (by g.def.aging leaves) ∙ and_none (is_read_only g && g.def.dynamic))
      where
        and_none : (a : Bool) → (a && false) ≡ false
        and_none true = refl
        and_none false = refl

        by : (o : Option AgingRule) → is_by_use o ≡ true → is_by_time o ≡ false
        by None e = refl
        by (Some LastUse) e = refl
        by (Some (ByTime rule)) e = cc

    fresh_with : (h : Group) → slice_get w.tier.groups k ≡ Some h → without_list h ≡ g → IsFreshFor reads.state g (record s { spare = n.spare }) x.table (more_of k) m
    fresh_with h h_at seen =
        let c = copy_of (is_filled chosen None) (groups_in t.catalog) copies k g alike at f in
        let goes_h : GoesSince since.0 (without_list h) = subst (GoesSince since.0) (sym seen) goes in
        let alike_h = subst (λ (y : Group). Rattle.changed_sets.specs.Alike.IsAlike y.def.tree c.0) (sym seen) c.2 in
        let patch_h = subst (λ (y : Group). IsPatchFor t.schema y s x.table (nat_eq k place) told p) (sym seen) patch in
        let gains : AreGains reads.state g s x.table (nat_eq k place) (is_wanted reads.state c.0 wants) (more_of k) =
        subst (λ l. AreGains reads.state g s x.table (nat_eq k place) (is_wanted reads.state c.0 l) (more_of k)) (sym asked)
        (gains_here (record t { stores = new.stores }) place want reads.state k g s n x c.0 c.2 at roomier same.tables held) in
        let gains_h = subst (λ (y : Group). AreGains reads.state y s x.table (nat_eq k place) (is_wanted reads.state c.0 wants) (more_of k)) (sym seen) gains in
        let turned_is : turned p.cuts p.turns s ≡ turned (map (cut_of (is_shown_told (without_list h) s x.table (nat_eq k place))) told) (map (turn_of (is_shown_told (without_list h) s x.table (nat_eq k place))) told) s =
        (λ i. turned (patch_h.cuts.are i) (patch_h.turns.are i) s) in
        let shown = group_shown drops t w mid sound stands since copies wants changes reads k h h_at goes_h.reads goes_h.there s kept x held c.0 (count_before (is_filled chosen None) k (groups_in t.catalog)) c.1 alike_h told told_is goes_h.full patch.keyed (nat_eq k place) (more_of k) gains_h in
        let rows = is.store.tables ∙ (same_turned p.cuts p.turns s n same).tables ∙ ap (λ (y : Kept). y.tables) turned_is ∙ shown in
        subst (λ (y : Group). IsFreshFor reads.state y (record s { spare = n.spare }) x.table (more_of k) m) seen (record {
          rows = rows;
          before = m.store.keys;
          order = λ leaves. order h seen leaves h.def.dynamic refl goes_h (λ dynamic none.
              group_order drops t w mid sound stands since copies wants changes reads k h h_at goes_h.reads goes_h.there s kept x held c.0 (count_before (is_filled chosen None) k (groups_in t.catalog)) c.1 alike_h told told_is goes_h.full patch.keyed (nat_eq k place) (more_of k) gains_h
              m.store rows dynamic none (is.store.keys ∙ (same_turned p.cuts p.turns s n same).keys ∙ ap (λ (y : Kept). y.keys) turned_is) is.keyed);
          old = record { are = patch.keyed.are; once = patch.keyed.once };
          new = is.keyed;
          bare = ap (λ (y : RowsHeld). y.table) hid ∙ patch.hiding.none;
        })
      where
        order : (h : Group) → without_list h ≡ g → is_by_use h.def.aging ≡ true → (d : Bool) → h.def.dynamic ≡ d → GoesSince since.0 (without_list h) → (h.def.dynamic ≡ true → x.table ≡ fm.empty → m.store.keys ≡ keys_touched (more_of k) (keys_touched s.keys m.store.keys))
            → m.store.keys ≡ keys_touched (more_of k) (keys_touched s.keys m.store.keys)
        order h seen leaves true e goes_h stays = stays e (none_hidden (ap (λ (y : Group). is_by_use y.def.aging) (sym seen) ∙ leaves))
        order h seen leaves false e goes_h stays = let wrong : true ≡ false = sym leaves ∙ goes_h.unused e in cc

    fresh_one : IsFreshFor reads.state g n x.table (more_of k) m
    fresh_one =
        let a = abstract_group k g at in
        subst (λ y. IsFreshFor reads.state g y x.table (more_of k) m) (whole s n same) (fresh_with a.0 a.1 a.2)

  views : (k : ℕ) (g : Group) (n : Kept) (x : RowsHeld) (o : Option Made) → slice_get (groups_in t.catalog) k ≡ Some g → slice_get new.stores.items k ≡ Some n → slice_get t.hidden.items k ≡ Some x → slice_get made k ≡ Some o → IsViewed (is_filled chosen None k g) reads.state g n x.table (more_of k) o
  views k g n x o at kept held made_o =
      let old = pairs_there t.stores.items new.stores.items k n room kept in
      let patch = there_too (groups_in t.catalog) patches k g are.long at in
      by (is_filled chosen None k g) refl patch.0 (slice_get changes.touched (count_before (is_filled chosen None) k (groups_in t.catalog))) refl o old.0 old.1 old.2
      (are.each k g patch.0 at patch.1 g old.0 x at old.1 held) (came.each k patch.0 n o patch.1 kept made_o)
    where
      by : (b : Bool) → is_filled chosen None k g ≡ b → (q : Option Patch) (r : Option (List Touched)) → slice_get changes.touched (count_before (is_filled chosen None) k (groups_in t.catalog)) ≡ r → (o : Option Made) (s : Kept) → slice_get t.stores.items k ≡ Some s → SameButSpare s n
          → IsPrepared (is_filled chosen None k g) t.schema g s x.table (nat_eq k place) (slice_get changes.touched (count_before (is_filled chosen None) k (groups_in t.catalog))) q → CameOf q n o → IsViewed (is_filled chosen None k g) reads.state g n x.table (more_of k) o
      by false f q r told o s was same is c =
          let none : q ≡ None = subst (λ b. IsPrepared b t.schema g s x.table (nat_eq k place) (slice_get changes.touched (count_before (is_filled chosen None) k (groups_in t.catalog))) q) f is in
          let out : o ≡ None = subst (λ y. CameOf y n o) none c in
          subst (λ b. IsViewed b reads.state g n x.table (more_of k) o) (sym f) out
      by true f None r told o s was same is c = absurd (subst (λ b. IsPrepared b t.schema g s x.table (nat_eq k place) (slice_get changes.touched (count_before (is_filled chosen None) k (groups_in t.catalog))) None) f is)
      by true f (Some p) None told o s was same is c =
          absurd (subst (λ l. IsPrepared true t.schema g s x.table (nat_eq k place) l (Some p)) told (subst (λ b. IsPrepared b t.schema g s x.table (nat_eq k place) (slice_get changes.touched (count_before (is_filled chosen None) k (groups_in t.catalog))) (Some p)) f is))
      by true f (Some p) (Some l) told None s was same is c = absurd c
      by true f (Some p) (Some l) told (Some m) s was same is c =
          let patch = subst (λ y. IsPrepared true t.schema g s x.table (nat_eq k place) y (Some p)) told (subst (λ b. IsPrepared b t.schema g s x.table (nat_eq k place) (slice_get changes.touched (count_before (is_filled chosen None) k (groups_in t.catalog))) (Some p)) f is) in
          subst (λ b. IsViewed b reads.state g n x.table (more_of k) (Some m)) (sym f) (fresh_one k g s n x p m at was kept same held f l told patch c.0 c.1)

-- so it is in the tier with more room
pub all_fresh : (drops : (state : TableState) (tree : Tree) → KeepsOthers state tree) (t new : Stored) (w mid : World) (sound : IsSound t) (stands : StandsFor t w) (since : Position) (copies : List Tree) (wants : List RowKey) (changes : Changes) (reads : ReadsState t w mid since copies wants changes)
    (chosen : Choice) → asked_since chosen (groups_in t.catalog) ≡ Some since.0 → AllAlike (trees_of (is_filled chosen None) 0 (groups_in t.catalog)) copies → (patches : List (Option Patch)) (place : ℕ) (want : Option Want) → wants ≡ rows_wanted want → ArePatches t (is_filled chosen None) place changes.touched patches
    → IsRoomier t new → (made : List (Option Made)) → AllCame patches new.stores.items made → AreGainedBy new mid (is_filled chosen None) place want changes.position.0 made
all_fresh drops t new w mid sound stands since copies wants changes reads chosen asks alike patches place want asked are room made came =
    subst (λ y. AreGainedBy y mid (is_filled chosen None) place want changes.position.0 made) (sym room.rest) (record {
      more = gained_keys (record t { stores = new.stores }) place want reads.state;
      gained = record {
        state = reads.state;
        there = reads.there;
        within = reads.within;
        keyed = λ k g at. own_keys drops t w mid sound stands since copies wants changes reads chosen asks alike patches place want asked are new room.stores made came k g at;
        views = λ k g n x o at kept held made_o. views drops t w mid sound stands since copies wants changes reads chosen asks alike patches place want asked are new room.stores made came k g n x o at kept held made_o;
      };
      are = refl;
    })

-- ---- and all is ready for its showing

prepared_some : (b : Bool) (schema : List TableDef) (g : Group) (s : Kept) (hidden : Rattle.indexed_rows.specs.Rows.Table) (gains : Bool) (o : Option (List Touched)) (p : Patch) → IsPrepared b schema g s hidden gains o (Some p) → (told : List Touched) × IsPatchFor schema g s hidden gains told p
prepared_some true schema g s hidden gains None p is = absurd is
prepared_some true schema g s hidden gains (Some told) p is = (told, is)
prepared_some false schema g s hidden gains o p is = cc

module _ (t new : Stored) (sound : IsSound t) (filled : Choice) (place : ℕ) (touched : List (List Touched)) (patches : List (Option Patch)) (are : ArePatches t filled place touched patches) (room : IsRoomier t new) (have : HaveRoom patches new.stores.items) where
  patch_of : (k : ℕ) (g : Group) (p : Patch) (s : Kept) → slice_get (groups_in t.catalog) k ≡ Some g → slice_get patches k ≡ Some (Some p) → slice_get t.stores.items k ≡ Some s
      → (x : RowsHeld) × (told : List Touched) × IsPatchFor t.schema g s x.table (nat_eq k place) told p
  patch_of k g p s at is was =
      let x = hidden_kept t k g sound at in
      let one = prepared_some (filled k g) t.schema g s x.0.table (nat_eq k place) (slice_get touched (count_before filled k (groups_in t.catalog))) p (are.each k g (Some p) at is g s x.0 at was x.1) in
      (x.0, one.0, one.1)

  pub all_ready : AreReady new patches
  all_ready = subst (λ y. AreReady y patches) (sym room.rest) (record {
    long = are.long;
    ready = λ k p n is kept.
        let g = there_too patches (groups_in t.catalog) k (Some p) (sym are.long) is in
        let old = pairs_there t.stores.items new.stores.items k n room.stores kept in
        let patch = patch_of k g.0 p old.0 g.1 is old.1 in
        let form = form_at t.schema (groups_in t.catalog) t.stores.items k g.0 old.0 sound.kept g.1 old.1 in
        let long : length n.layers ≡ length g.0.def.tree.children = ap length old.2.layers ∙ ap length form.layers ∙ length-map g.0.def.tree.children (layer_for t.schema) in
        record {
          room = have k p n is kept;
          under = subst (λ columns. AreUnder columns p.cuts) (sym old.2.key) patch.2.cuts.under;
          fits = subst (λ m. FitTurns (m + 1) p.turns) (sym long) patch.2.turns.fit;
        };
    hiding = λ k g p n at is kept.
        let old = pairs_there t.stores.items new.stores.items k n room.stores kept in
        let patch = patch_of k g p old.0 at is old.1 in
        subst (λ m. HidesNone t.schema g (m + (count_cuts p.cuts + count_turns p.turns)) p.hidden) (sym (ap (λ ts. fm.len (kept_at ts 0)) old.2.tables)) patch.2.hiding;
  })
