-- A tier for which a world stands is, behind its cycles, one for which it stands behind aging.
use Rattle.std.proofs.Common.{◌≡◌, ℕ, zero, suc, Bool, true, false, cond, ◌&&◌, Option, Some, None, List, [], ◌∷◌, length, map, slice_get, refl, sym, ap, subst, ◌∙◌, arith}
use Rattle.std.proofs.lemmas.List.{length-map}
use Rattle.std.specs.Bool.{MatchBool}
use Rattle.std.specs.FinMap.{empty}
use Rattle.row_types.specs.declared.value.Value.{Value}
use Rattle.indexed_rows.proofs.MapLaws.{slice_get_map}
use Rattle.table_state.specs.declared.history.Entry.{Entry}
use Rattle.instances.specs.Views.{kept_at}
use Rattle.order_laws.proofs.TruthLaws.{same_some}
use Rattle.open_sessions.specs.Opening.{seen_all}
use Rattle.slot_rows.specs.SlotKeys.{RowsHeld}
use Rattle.tier_statements.specs.Seen.{session_seen}
use Rattle.group_store.specs.Stores.{Kept}
use Rattle.group_catalog.specs.Catalogs.{groups_in}
use Rattle.cache_tier.specs.declared.group.AgingRule.{AgingRule}
use Rattle.cache_tier.specs.declared.group.AgingRule.TheVariants.{ByTime, LastUse}
use Rattle.cache_tier.specs.declared.group.TimeRule.{TimeRule}
use Rattle.cache_tier.specs.Aging.{after_aging, aged, aged_rule, expired, is_aged_by, is_aging_due, leaving, with_horizon}
use Rattle.cache_tier.specs.Groups.{Group, definitions_of, has_list, is_read_only, without_keys}
use Rattle.cache_tier.specs.Locks.{is_busy}
use Rattle.cache_tier.specs.Shown.{shows_root}
use Rattle.cache_tier.specs.TierStates.{Settings, Tier}
use Rattle.cache_tier.specs.Worlds.{World}
use Rattle.cache_tier.specs.Events.{with_tier}
use Rattle.cache_tier.specs.StandingBetween.{Stands}
use Rattle.cache_tier.proofs.AgingLaws.{aging_stands}
use Rattle.stored_tier.specs.declared.tier.Tier.{Tier as Stored}
use Rattle.stored_tier.specs.Lists.{AreListed, HasKeysOf, IsHidingFor, IsListed, hides_keys, is_by_use}
use Rattle.stored_tier.specs.Performing.{StandsFor}
use Rattle.stored_tier.specs.Stored.{AreKept, IsSound, IsStoredAs, KeepsTime, ShowsRows, pace_of, without_list}
use Rattle.stored_tier.proofs.StoreChanges.{kept_defined}
use Rattle.stored_tier.proofs.StoreRows.{shows_kept, store_here}
use Rattle.aging_cycles.specs.Ages.{Ages}
use Rattle.aging_cycles.specs.Busy.{is_busy_in, owns_of}
use Rattle.aging_cycles.specs.Cycles.{horizon_behind, is_due, is_due_at, is_due_by, is_due_in, keys_leaving, leaving_by}
use Rattle.aging_cycles.specs.Running.{HasLeft, HaveRun, RunsAt, StaysAt}
use Rattle.aging_cycles.proofs.HiddenViews.{hides_run}
use Rattle.aging_cycles.proofs.LeavingKeys.{leaving_is}
use Rattle.aging_cycles.proofs.Places.{PlaceAged, time_read, time_write, use_listed, use_unlisted, was_true}
use Rattle.aging_cycles.proofs.RootRows.{Drops}
use Rattle.aging_cycles.proofs.ShownPlaces.{shown_of_place}
use Rattle.aging_cycles.proofs.Shows.{left_shows}
use Rattle.aging_cycles.proofs.SoundRun.{cycle_runs, hiding_at, hiding_long, kept_long, kept_then, nothing_left}

abbrev Row : Type 0
Row = List Value

-- a group with its list and without

pub get_mapped : {X Y : Type 0} (f : X → Y) (xs : List X) (k : ℕ) (y : Y) → slice_get (map f xs) k ≡ Some y → (x : X) × (slice_get xs k ≡ Some x) × (y ≡ f x)
get_mapped f [] k y at = cc
get_mapped f (x ∷ xs) zero y at = (x, refl, (let z : f x ≡ y = cc in sym z))
get_mapped f (x ∷ xs) (suc k) y at = get_mapped f xs k y at

pub same_lists : {X : Type 0} (xs ys : List X) → length xs ≡ length ys → ((k : ℕ) (x : X) → slice_get xs k ≡ Some x → slice_get ys k ≡ Some x) → xs ≡ ys
same_lists [] [] long all = refl
same_lists [] (y ∷ ys) long all = absurd (omega (arith, long))
same_lists (x ∷ xs) [] long all = absurd (omega (arith, long))
same_lists (x ∷ xs) (y ∷ ys) long all =
    let first : Some y ≡ Some x = all 0 x refl in
    let same : x ≡ y = same_some (sym first) in
    let rest : xs ≡ ys = same_lists xs ys (omega (arith, long)) (λ k z at. all (suc k) z at) in
    λ i. same i ∷ rest i

listed_of : (groups : List Group) (stores : List Kept) (hidden : List RowsHeld) → length stores ≡ length groups → length hidden ≡ length groups
    → ((k : ℕ) (g : Group) (s : Kept) (h : RowsHeld) → slice_get groups k ≡ Some g → slice_get stores k ≡ Some s → slice_get hidden k ≡ Some h → IsListed g s h.table) → AreListed groups stores hidden
listed_of [] stores hidden long wide all = tt
listed_of (g ∷ groups) [] hidden long wide all = absurd (omega (arith, long))
listed_of (g ∷ groups) (s ∷ stores) [] long wide all = absurd (omega (arith, wide))
listed_of (g ∷ groups) (s ∷ stores) (h ∷ hidden) long wide all =
    (all 0 g s h refl refl refl, listed_of groups stores hidden (omega (arith, long)) (omega (arith, wide)) (λ k x y z a b c. all (suc k) x y z a b c))

listed_at : (groups : List Group) (stores : List Kept) (hidden : List RowsHeld) (k : ℕ) (g : Group) (s : Kept) (h : RowsHeld) → AreListed groups stores hidden → slice_get groups k ≡ Some g → slice_get stores k ≡ Some s → slice_get hidden k ≡ Some h → IsListed g s h.table
listed_at [] stores hidden k g s h are at kept hid = cc
listed_at (x ∷ groups) [] hidden k g s h are at kept hid = absurd are
listed_at (x ∷ groups) (y ∷ stores) [] k g s h are at kept hid = absurd are
listed_at (x ∷ groups) (y ∷ stores) (z ∷ hidden) zero g s h are at kept hid =
    let one : x ≡ g = cc in
    let other : y ≡ s = cc in
    let third : z ≡ h = cc in
    subst (λ a. IsListed a s h.table) one (subst (λ b. IsListed x b h.table) other (subst (λ (c : RowsHeld). IsListed x y c.table) third are.0))
listed_at (x ∷ groups) (y ∷ stores) (z ∷ hidden) (suc k) g s h are at kept hid = listed_at groups stores hidden k g s h are.1 at kept hid

-- when a cycle is due

due_by : (settings : Settings) (now : ℕ) (g : Group) (o : Option AgingRule) → is_due_by (pace_of settings) now g.aged o ≡ is_aged_by settings now g o
due_by settings now g None = refl
due_by settings now g (Some LastUse) = refl
due_by settings now g (Some (ByTime rule)) = refl

due_is : (t : Stored) (w : World) → StandsFor t w → (g : Group) → is_due t.clock.pace t.clock.now (without_list g) ≡ is_aging_due w.tier g
due_is t w stands g =
    (λ i. is_due (sym stands.stored.time.due i) (sym stands.stored.time.moment i) (without_list g))
    ∙ due_by w.tier.settings w.tier.now g g.def.aging

defs_unlisted : (groups : List Group) → definitions_of (map without_list groups) ≡ definitions_of groups
defs_unlisted [] = refl
defs_unlisted (g ∷ groups) = ap (λ ds. g.def ∷ ds) (defs_unlisted groups)

-- what is seen of a group behind its cycle

seen_aged : (history : List Entry) (t : Tier) (g : Group) (o : Option AgingRule) → without_list (record (aged_rule history t o g) { aged = t.now }) ≡ record (without_list g) { horizon = horizon_behind t.now o g.horizon; aged = t.now }
seen_aged history t g None = refl
seen_aged history t g (Some LastUse) = refl
seen_aged history t g (Some (ByTime rule)) = by (is_read_only (with_horizon t.now rule g))
  where
    by : (b : Bool) → without_list (record (cond b (with_horizon t.now rule g) (record (with_horizon t.now rule g) { keys = without_keys (expired history t (with_horizon t.now rule g)) (with_horizon t.now rule g).keys })) { aged = t.now })
        ≡ record (without_list g) { horizon = horizon_behind t.now (Some (ByTime rule)) g.horizon; aged = t.now }
    by true = refl
    by false = refl

-- the group at a place, whether its cycle has run or not
pub record PlaceStands (w : World) (new : Stored) (k : ℕ) (g h : Group) : Type 0 where
  pub left : Kept
  pub behind : RowsHeld
  pub group_is : slice_get (groups_in new.catalog) k ≡ Some (without_list h)
  pub left_is : slice_get new.stores.items k ≡ Some left
  pub behind_is : slice_get new.hidden.items k ≡ Some behind
  pub is : PlaceAged w g h left behind.table

module _ (drops : Drops) (t new : Stored) (w : World) (sound : IsSound t) (run : HaveRun t new) (stands : StandsFor t w) where
  abbrev turn : Group → Group
  turn = λ g. cond (is_aging_due w.tier g) (aged w.history w.tier g) g

  abbrev after : Tier
  after = after_aging w.history w.tier

  -- what is known of a place
  module _ (k : ℕ) (g : Group) (at : slice_get w.tier.groups k ≡ Some g) where
    seen_at : slice_get (groups_in t.catalog) k ≡ Some (without_list g)
    seen_at = ap (λ gs. slice_get gs k) (sym stands.stored.groups) ∙ slice_get_map without_list w.tier.groups k g at

    kept : slice_get t.stores.items k ≡ Some (store_here t w sound stands k g at).store
    kept = (store_here t w sound stands k g at).kept

    abbrev hides : (h : RowsHeld) × (slice_get t.hidden.items k ≡ Some h) × IsHidingFor t.schema (without_list g) (store_here t w sound stands k g at).store h
    hides = hiding_at t.schema (groups_in t.catalog) t.stores.items t.hidden.items k (without_list g) (store_here t w sound stands k g at).store sound.hiding seen_at kept

    abbrev hidden : RowsHeld
    hidden = hides.0

    listed : IsListed g (store_here t w sound stands k g at).store hidden.table
    listed = listed_at w.tier.groups t.stores.items t.hidden.items k g (store_here t w sound stands k g at).store hidden stands.stored.lists at kept hides.1

    -- it isn't due
    still : is_aging_due w.tier g ≡ false → StaysAt t new k → PlaceStands w new k g (turn g)
    still idle stays = subst (PlaceStands w new k g) (sym (ap (λ b. cond b (aged w.history w.tier g) g) idle)) (record {
      left = (store_here t w sound stands k g at).store;
      behind = hidden;
      group_is = stays.groups ∙ seen_at;
      left_is = stays.stores ∙ kept;
      behind_is = stays.hidden ∙ hides.1;
      is = record {
        shows = left_shows t w sound stands k g at (store_here t w sound stands k g at).store kept drops g [] (store_here t w sound stands k g at).store (nothing_left g (store_here t w sound stands k g at).store hidden).gone refl refl (λ s is q r e. and_true (shows_root s g r));
        lists = listed;
      };
    })
      where
        and_true : (b : Bool) → (b && true) ≡ b
        and_true true = refl
        and_true false = refl

    -- the keys that leave, by what the world has
    keys_are : (o : Option AgingRule) → g.def.aging ≡ o → keys_leaving t (without_list g) (store_here t w sound stands k g at).store
        ≡ leaving_by (pace_of w.tier.settings) w.tier.now (is_busy w.history w.tier g) (without_list g) (store_here t w sound stands k g at).store o
    keys_are o e =
        (λ i. leaving_by (sym stands.stored.time.due i) (sym stands.stored.time.moment i) (is_busy_in t.schema (owns_of t.sessions) (without_list g) (store_here t w sound stands k g at).store) (without_list g) (store_here t w sound stands k g at).store (e i))
        ∙ leaving_is t w sound stands k g at (store_here t w sound stands k g at).store kept hidden.table listed (pace_of w.tier.settings) w.tier.now o e

    -- it is due, and has run
    runs : is_aging_due w.tier g ≡ true → (left : Kept) (behind : RowsHeld) → HasLeft (without_list g) (keys_leaving t (without_list g) (store_here t w sound stands k g at).store) (store_here t w sound stands k g at).store left hidden behind
        → PlaceAged w g (aged w.history w.tier g) left behind.table
    runs due left behind does = by g.def.aging refl
      where
        nothing : hides_keys g ≡ false → hidden.table ≡ empty
        nothing hidesnt = hides.2.none hidesnt

        same_keys : (has_list g && is_by_use g.def.aging) ≡ true → (store_here t w sound stands k g at).store.keys ≡ g.keys
        same_keys chosen = sym (was_true (has_list g && is_by_use g.def.aging) (g.keys ≡ (store_here t w sound stands k g at).store.keys) (MatchBool g.def.dynamic (HasKeysOf g.keys (store_here t w sound stands k g at).store hidden.table) (Unit {0})) chosen listed)

        used : (b : Bool) → has_list g ≡ b → g.def.aging ≡ Some LastUse → PlaceAged w g (record (aged_rule w.history w.tier (Some LastUse) g) { aged = w.tier.now }) left behind.table
        used true has e =
            use_listed t w sound stands k g at (store_here t w sound stands k g at).store kept hidden.table listed nothing (keys_leaving t (without_list g) (store_here t w sound stands k g at).store) left does.gone behind.table does.rows e w.tier.settings.lru_high w.tier.settings.lru_low drops has
            (keys_are (Some LastUse) e ∙ ap (λ b. cond b (leaving w.tier.settings.lru_high w.tier.settings.lru_low (is_busy w.history w.tier g) (store_here t w sound stands k g at).store.keys) []) has
            ∙ ap (leaving w.tier.settings.lru_high w.tier.settings.lru_low (is_busy w.history w.tier g)) (same_keys (λ i. has i && is_by_use (e i))))
        used false has e =
            use_unlisted t w sound stands k g at (store_here t w sound stands k g at).store kept hidden.table listed nothing (keys_leaving t (without_list g) (store_here t w sound stands k g at).store) left does.gone behind.table does.rows e w.tier.settings.lru_high w.tier.settings.lru_low drops has
            (keys_are (Some LastUse) e ∙ ap (λ b. cond b (leaving w.tier.settings.lru_high w.tier.settings.lru_low (is_busy w.history w.tier g) (store_here t w sound stands k g at).store.keys) []) has)

        timed : (rule : TimeRule) → g.def.aging ≡ Some (ByTime rule) → (b : Bool) → is_read_only g ≡ b
            → PlaceAged w g (record (cond b (with_horizon w.tier.now rule g) (record (with_horizon w.tier.now rule g) { keys = without_keys (expired w.history w.tier (with_horizon w.tier.now rule g)) g.keys })) { aged = w.tier.now }) left behind.table
        timed rule e true reads = time_read t w sound stands k g at (store_here t w sound stands k g at).store kept hidden.table listed nothing (keys_leaving t (without_list g) (store_here t w sound stands k g at).store) left does.gone behind.table does.rows rule e (keys_are (Some (ByTime rule)) e) drops reads
        timed rule e false reads = time_write t w sound stands k g at (store_here t w sound stands k g at).store kept hidden.table listed nothing (keys_leaving t (without_list g) (store_here t w sound stands k g at).store) left does.gone behind.table does.rows rule e (keys_are (Some (ByTime rule)) e) drops reads

        by : (o : Option AgingRule) → g.def.aging ≡ o → PlaceAged w g (record (aged_rule w.history w.tier o g) { aged = w.tier.now }) left behind.table
        by None e = let never : false ≡ true = sym (ap (is_aged_by w.tier.settings w.tier.now g) e) ∙ due in cc
        by (Some LastUse) e = used (has_list g) refl e
        by (Some (ByTime rule)) e = timed rule e (is_read_only g) refl

    pub place_stands : PlaceStands w new k g (turn g)
    place_stands = by (is_due_at t k) refl (run.each k)
      where
        its : is_due_at t k ≡ is_aging_due w.tier g
        its = ap (is_due_in t) seen_at ∙ due_is t w stands g

        by : (b : Bool) → is_due_at t k ≡ b → MatchBool b (RunsAt t new k) (StaysAt t new k) → PlaceStands w new k g (turn g)
        by false idle stays = still (sym its ∙ idle) stays
        by true due ran =
            let yes : is_aging_due w.tier g ≡ true = sym its ∙ due in
            let r = cycle_runs t new k (without_list g) (store_here t w sound stands k g at).store hidden seen_at kept hides.1 ran in
            subst (PlaceStands w new k g) (sym (ap (λ b. cond b (aged w.history w.tier g) g) yes)) (record {
              left = r.left;
              behind = r.behind;
              group_is = r.group_is
                  ∙ (λ i. Some (record (without_list g) { horizon = horizon_behind (sym stands.stored.time.moment i) g.def.aging g.horizon; aged = sym stands.stored.time.moment i }))
                  ∙ sym (ap Some (seen_aged w.history w.tier g g.def.aging));
              left_is = r.left_is;
              behind_is = r.behind_is;
              is = runs yes r.left r.behind r.does;
            })

  stand_then : Stands (with_tier after w)
  stand_then = aging_stands w stands.stands

  long_after : length after.groups ≡ length w.tier.groups
  long_after = length-map w.tier.groups turn

  long_seen : length (groups_in t.catalog) ≡ length w.tier.groups
  long_seen = sym (ap length stands.stored.groups) ∙ length-map w.tier.groups without_list

  -- a group behind aging, and the one that it was
  was : (k : ℕ) (h : Group) → slice_get after.groups k ≡ Some h → (g : Group) × (slice_get w.tier.groups k ≡ Some g) × PlaceStands w new k g h
  was k h at =
      let m = get_mapped turn w.tier.groups k h at in
      (m.0, m.1, subst (PlaceStands w new k m.0) (sym m.2) (place_stands k m.0 m.1))

  groups_then : map without_list after.groups ≡ groups_in new.catalog
  groups_then = same_lists (map without_list after.groups) (groups_in new.catalog)
      (length-map after.groups without_list ∙ long_after ∙ sym long_seen ∙ sym run.form.groups)
      (λ k x at.
      let m = get_mapped without_list after.groups k x at in
      (was k m.0 m.1).2.group_is ∙ ap Some (sym m.2))

  lists_then : AreListed after.groups new.stores.items new.hidden.items
  lists_then = listed_of after.groups new.stores.items new.hidden.items
      (run.form.stores ∙ kept_long t.schema (groups_in t.catalog) t.stores.items sound.kept ∙ long_seen ∙ sym long_after)
      (run.form.hidden ∙ hiding_long t.schema (groups_in t.catalog) t.stores.items t.hidden.items sound.hiding ∙ long_seen ∙ sym long_after)
      (λ k g s h at kept hid.
      let b = (was k g at).2 in
      let same : b.left ≡ s = same_some (sym b.left_is ∙ kept) in
      let other : b.behind ≡ h = same_some (sym b.behind_is ∙ hid) in
      subst (λ y. IsListed g y h.table) same (subst (λ (z : RowsHeld). IsListed g b.left z.table) other b.is.lists))

  stored_then : IsStoredAs new after
  stored_then = record {
    schema = stands.stored.schema ∙ sym run.form.beside.schema;
    stale = stands.stored.stale ∙ sym run.form.beside.stale;
    groups = groups_then;
    lists = lists_then;
    sessions = stands.stored.sessions ∙ ap (λ y. map session_seen (seen_all y)) (sym run.form.beside.sessions);
    unsettled = stands.stored.unsettled ∙ ap (λ u. u.items) (sym run.form.beside.unsettled);
    next = stands.stored.next ∙ sym run.form.beside.next;
    doubt = stands.stored.doubt;
    time = subst (λ c. KeepsTime c w.tier.now w.tier.added w.tier.round w.tier.sets w.tier.settings) (sym run.form.beside.clock) stands.stored.time;
  }

  kept_after : AreKept new.schema after.groups new.stores.items
  kept_after = subst (λ d. AreKept d after.groups new.stores.items) (sym run.form.beside.schema)
      (kept_defined t.schema (groups_in new.catalog) after.groups new.stores.items (sym (defs_unlisted after.groups) ∙ ap definitions_of groups_then) (kept_then t new sound run))

  shows_then : ShowsRows new (with_tier after w)
  shows_then = shows_kept new (with_tier after w) (stands.stored.schema ∙ sym run.form.beside.schema) kept_after (λ k h s u p at kept place.
      let b = (was k h at).2 in
      let same : b.left ≡ s = same_some (sym b.left_is ∙ kept) in
      ap (λ (y : Kept). kept_at y.tables p) (sym same) ∙ b.is.shows p
      ∙ sym (shown_of_place w.history after k h u p stand_then.catalog at place))

  pub stands_behind : StandsFor new (with_tier after w)
  stands_behind = record {
    stored = stored_then;
    shows = shows_then;
    hides = hides_run t new w sound run stands;
    stands = stand_then;
    waits = stands.waits;
  }

pub ages_run : Drops → (t new : Stored) → IsSound t → HaveRun t new → Ages t new
ages_run drops t new sound run w stands = stands_behind drops t new w sound run stands
