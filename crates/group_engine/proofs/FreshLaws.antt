-- Behind a refresh the stored tier stands for the refreshed one.
use Rattle.std.proofs.Common.{◌≡◌, ℕ, Bool, true, false, cond, ◌&&◌, ◌||◌, nat_eq, Option, Some, None, List, [], length, map, slice_get, refl, sym, ap, subst, ◌∙◌}
use Rattle.std.proofs.lemmas.Bool.{eqb-true}
use Rattle.std.specs.Option.{option_map}
use Rattle.std.specs.FinMap.{empty}
use Rattle.row_types.specs.declared.value.Value.{Value}
use Rattle.indexed_rows.specs.Rows.{Table}
use Rattle.table_state.specs.Tables.{TableState}
use Rattle.instances.specs.Trees.{is_place, place_of}
use Rattle.instances.specs.Views.{kept_at}
use Rattle.group_catalog.specs.Catalogs.{groups_in}
use Rattle.group_store.specs.Stores.{HasRootKeys, Kept}
use Rattle.slot_rows.specs.SlotKeys.{RowsHeld}
use Rattle.cache_tier.specs.Groups.{Group, is_key, is_read_only}
use Rattle.cache_tier.specs.Sets.{Choice, OnePosition, alone, at_position, changed, changed_from, refreshed}
use Rattle.cache_tier.specs.Shown.{shown}
use Rattle.cache_tier.specs.StandingBetween.{HasKeys}
use Rattle.order_laws.proofs.TruthLaws.{both_true}
use Rattle.cache_tier.proofs.ChosenGroups.{each_at}
use Rattle.cache_tier.specs.TierStates.{Tier}
use Rattle.cache_tier.specs.Worlds.{World}
use Rattle.stored_tier.specs.declared.tier.Tier.{Tier as Stored}
use Rattle.stored_tier.specs.declared.refreshing.Made.{Made}
use Rattle.stored_tier.specs.Filling.{is_held}
use Rattle.stored_tier.specs.Lists.{AreHiding, AreListed, HidesView, IsListed, hides_keys, is_by_time}
use Rattle.stored_tier.proofs.FillSteps.{mapped_at}
use Rattle.stored_tier.proofs.HiddenRows.{nothing_hidden, unmapped, view_same}
use Rattle.stored_tier.proofs.ListLaws.{all_listed, hides_same, hiding_long, hiding_same, hiding_there, kept_long, keys_held, listed_there}
use Rattle.group_engine.specs.Fresh.{AreFresh, AreGained, HasOwnKeys, IsViewed, gained_at}
use Rattle.stored_tier.specs.Performing.{StandsFor}
use Rattle.stored_tier.specs.Refreshing.{exchanged, is_filled, made_hidden, made_stores, positioned}
use Rattle.stored_tier.specs.Stored.{AreKept, HidesRows, IsStoredAs, without_list}
use Rattle.group_engine.proofs.GroupRows.{AllBecome, Becomes, same_there, stands_after, there_too}
use Rattle.group_engine.proofs.ShownStores.{EachShows, all_shown, each_shows}
use Rattle.group_engine.proofs.ChangedLists.{changed_at, changed_long, changed_mapped, exchanged_long, exchanged_there, mapped_long, mapped_there}
use Rattle.group_engine.proofs.FreshGroup.{Changes, GainChanges, GainsOnly, changes_none, gained_here, gains_nothing, hidden_or, store_or, last, last_is, one_becomes, one_shows, one_listed}

abbrev Row : Type 0
Row = List Value

-- what isn't touched
pub record IsBeside (t t' : Stored) : Type 0 where
  pub schema : t'.schema ≡ t.schema
  pub stale : t'.stale ≡ t.stale
  pub sessions : t'.sessions ≡ t.sessions
  pub unsettled : t'.unsettled ≡ t.unsettled
  pub writers : t'.writers ≡ t.writers
  pub next : t'.next ≡ t.next
  pub clock : t'.clock ≡ t.clock

-- the groups behind a refresh, and the change of one of them
abbrev pub groups_behind : Choice → ℕ → (Group → Group) → ℕ → TableState → List Group → List Group
groups_behind chosen place change n state groups = changed_from (alone place) change 0 (changed_from chosen (at_position n state) 0 groups)

abbrev pub tier_behind : Choice → ℕ → (Group → Group) → ℕ → TableState → Tier → Tier
tier_behind chosen place change n state a = changed (alone place) change (refreshed chosen n state a)

-- The stores, the hidden rows and the groups behind it are these.
pub record IsRefreshed (t t' : Stored) (chosen : Choice) (place : ℕ) (change : Group → Group) (n : ℕ) (made : List (Option Made)) : Type 0 where
  pub beside : IsBeside t t'
  pub groups : groups_in t'.catalog ≡ changed_from (alone place) change 0 (changed_from chosen (positioned n) 0 (groups_in t.catalog))
  pub stores : t'.stores.items ≡ exchanged t.stores.items (made_stores made)
  pub hidden : t'.hidden.items ≡ exchanged t.hidden.items (made_hidden made)
  pub was : AreKept t.schema (groups_in t.catalog) t.stores.items
  pub hid : AreHiding t.schema (groups_in t.catalog) t.stores.items t.hidden.items
  pub kept : AreKept t'.schema (groups_in t'.catalog) t'.stores.items
  pub long : length made ≡ length (groups_in t.catalog)

module _ (t t' : Stored) (mid : World) (flag : Bool) (place : ℕ) (chosen : Choice) (loads : Option ℕ) (more : List Row) (change seen : Group → Group) (ch : GainChanges flag place chosen loads more change) (n : ℕ) (made : List (Option Made))
    (x : StandsFor t mid) (fresh : AreGained t mid (is_filled chosen loads) place more n made) (is : IsRefreshed t t' chosen place seen n made)
    (gains : (g : Group) → slice_get mid.tier.groups place ≡ Some g → GainsOnly fresh.state g more)
    (reads : (k : ℕ) (g : Group) → slice_get mid.tier.groups k ≡ Some g → chosen k g ≡ true → is_read_only g ≡ true)
    (mapped : (g : Group) → without_list (change g) ≡ seen (without_list g)) where
  abbrev gs : List Group
  gs = mid.tier.groups

  abbrev final : List Group
  final = groups_behind chosen place change n fresh.state mid.tier.groups

  abbrev one : ℕ → Group → Group
  one = last mid.history mid.tier.log (length mid.history) n fresh.state fresh.there fresh.within flag place chosen loads more change ch

  final_there : (k : ℕ) (g : Group) → slice_get gs k ≡ Some g → slice_get final k ≡ Some (one k g)
  final_there k g at = changed_at (alone place) change (changed_from chosen (at_position n fresh.state) 0 gs) k (cond (chosen k g) (at_position n fresh.state g) g) (changed_at chosen (at_position n fresh.state) gs k g at)

  final_long : length final ≡ length gs
  final_long = changed_long (alone place) change 0 (changed_from chosen (at_position n fresh.state) 0 gs) ∙ changed_long chosen (at_position n fresh.state) 0 gs

  in_catalog : (k : ℕ) (g : Group) → slice_get gs k ≡ Some g → slice_get (groups_in t.catalog) k ≡ Some (without_list g)
  in_catalog k g at = ap (λ l. slice_get l k) (sym x.stored.groups) ∙ mapped_there gs k g at

  gains_at : (k : ℕ) (g : Group) → slice_get gs k ≡ Some g → GainsOnly fresh.state g (gained_at place more k)
  gains_at k g at = by (nat_eq k place) refl
    where
      by : (b : Bool) → nat_eq k place ≡ b → GainsOnly fresh.state g (gained_at place more k)
      by true e = subst (GainsOnly fresh.state g) (sym (gained_here place more k true e)) (gains g (ap (slice_get gs) (sym (eqb-true k place e)) ∙ at))
      by false e = subst (GainsOnly fresh.state g) (sym (gained_here place more k false e)) (gains_nothing fresh.state g)

  become : AllBecome mid final
  become = record {
    long = final_long;
    one = λ k g h at there.
        let same : h ≡ one k g = same_there final k h (one k g) there (final_there k g at) in
        subst (Becomes mid g) (sym same)
        (one_becomes mid.history mid.tier.log (length mid.history) n fresh.state fresh.there fresh.within flag place chosen loads more change ch k g (reads k g at) (gains_at k g at) mid refl refl refl);
  }

  groups_then : map without_list final ≡ groups_in t'.catalog
  groups_then =
      changed_mapped (alone place) change seen 0 (changed_from chosen (at_position n fresh.state) 0 gs) (λ k g. refl) mapped
      ∙ ap (changed_from (alone place) seen 0) (changed_mapped chosen (at_position n fresh.state) (positioned n) 0 gs ch.unlisted (λ g. refl) ∙ ap (changed_from chosen (positioned n) 0) x.stored.groups)
      ∙ sym is.groups

  shows_before : EachShows mid.history mid.tier.log gs t.stores.items
  shows_before = each_shows t.schema mid.history mid.tier t.stores.items x.stored.schema x.stands.catalog (subst (λ l. AreKept t.schema l t.stores.items) (sym x.stored.groups) is.was) x.shows

  -- what is stored of a group
  record IsStored (k : ℕ) (g : Group) : Type 0 where
    store : Kept
    rows : RowsHeld
    new : Option Made
    store_at : slice_get t.stores.items k ≡ Some store
    rows_at : slice_get t.hidden.items k ≡ Some rows
    new_at : slice_get made k ≡ Some new
    store_then : slice_get t'.stores.items k ≡ Some (store_or new store)
    rows_then : slice_get t'.hidden.items k ≡ Some (hidden_or new rows)
    keyed : HasOwnKeys fresh.state g
    viewed : IsViewed (is_filled chosen loads k g) fresh.state g store rows.table (gained_at place more k) new
    listed : IsListed g store rows.table
    held : g.def.dynamic ≡ true → HasRootKeys store → (q : Row) → is_key g.keys q ≡ is_held store rows.table q

  stored_there : (k : ℕ) (g : Group) → slice_get gs k ≡ Some g → IsStored k g
  stored_there k g at =
      let stores_long : length t.stores.items ≡ length (groups_in t.catalog) = kept_long t.schema (groups_in t.catalog) t.stores.items is.was in
      let rows_long : length t.hidden.items ≡ length (groups_in t.catalog) = hiding_long t.schema (groups_in t.catalog) t.stores.items t.hidden.items is.hid in
      let (s, s_at) = there_too (groups_in t.catalog) t.stores.items k (without_list g) stores_long (in_catalog k g at) in
      let (r, r_at) = there_too (groups_in t.catalog) t.hidden.items k (without_list g) rows_long (in_catalog k g at) in
      let (o, o_at) = there_too (groups_in t.catalog) made k (without_list g) is.long (in_catalog k g at) in
      let listed = listed_there gs t.stores.items t.hidden.items k g s r x.stored.lists at s_at r_at in
      let hiding = hiding_same t.schema (without_list g) g s r refl (hiding_there t.schema (groups_in t.catalog) t.stores.items t.hidden.items k (without_list g) s r is.hid (in_catalog k g at) s_at r_at) in
      record {
        store = s;
        rows = r;
        new = o;
        store_at = s_at;
        rows_at = r_at;
        new_at = o_at;
        store_then = ap (λ l. slice_get l k) is.stores ∙ exchanged_there t.stores.items (made_stores made) k s (option_map (λ (m : Made). m.store) o) s_at (mapped_at (option_map (λ (m : Made). m.store)) made k o o_at);
        rows_then = ap (λ l. slice_get l k) is.hidden ∙ exchanged_there t.hidden.items (made_hidden made) k r (option_map (λ (m : Made). m.hidden) o) r_at (mapped_at (option_map (λ (m : Made). m.hidden)) made k o o_at);
        keyed = fresh.keyed k (without_list g) (in_catalog k g at);
        viewed = subst (λ b. IsViewed (b && (g.def.dynamic || (g.loaded || is_place k loads))) fresh.state g s r.table (gained_at place more k) o) (ch.unlisted k g) (views_of (is_filled chosen loads k (without_list g)) o s r.table (gained_at place more k) (fresh.views k (without_list g) s r o (in_catalog k g at) s_at r_at o_at));
        listed = listed;
        held = λ dynamic has q. keys_held t.schema g s r listed hiding has dynamic q;
      }
    where
      views_of : (b : Bool) (o : Option Made) (s : Kept) (r : Table) (l : List Row) → IsViewed b fresh.state (without_list g) s r l o → IsViewed b fresh.state g s r l o
      views_of true None s r l v = v
      views_of true (Some m) s r l v = record { rows = v.rows; before = v.before; order = v.order; old = v.old; new = v.new; bare = v.bare }
      views_of false o s r l v = v

  shows_then : EachShows mid.history mid.tier.log final t'.stores.items
  shows_then k h s' u p at there spot =
      let (g, was) = there_too final gs k h (sym final_long) at in
      let same : h ≡ one k g = same_there final k h (one k g) at (final_there k g was) in
      let here = stored_there k g was in
      let store : s' ≡ store_or here.new here.store = same_there t'.stores.items k s' (store_or here.new here.store) there here.store_then in
      let kept_def = (become.one k g h was at).kept.def in
      let spot_before : place_of g.def.tree u ≡ Some p = ap (λ (d : Rattle.cache_tier.specs.declared.group.GroupDef.GroupDef). place_of d.tree u) (sym kept_def) ∙ spot in
      ap (λ (y : Kept). kept_at y.tables p) store
      ∙ one_shows mid.history mid.tier.log (length mid.history) n fresh.state fresh.there fresh.within flag place chosen loads more change ch k g (reads k g was) (gains_at k g was) here.store here.rows here.new here.keyed here.viewed p here.held (shows_before k g here.store u p was here.store_at spot_before)
      ∙ ap (λ (y : Group). kept_at (shown mid.history mid.tier.log y) p) (sym same)

  lists_then : AreListed final t'.stores.items t'.hidden.items
  lists_then = all_listed final t'.stores.items t'.hidden.items
      (ap length is.stores ∙ exchanged_long t.stores.items (made_stores made) ∙ kept_long t.schema (groups_in t.catalog) t.stores.items is.was ∙ catalog_long)
      (ap length is.hidden ∙ exchanged_long t.hidden.items (made_hidden made) ∙ hiding_long t.schema (groups_in t.catalog) t.stores.items t.hidden.items is.hid ∙ catalog_long)
      (λ k h s' r' at there held_there.
      let (g, was) = there_too final gs k h (sym final_long) at in
      let same : h ≡ one k g = same_there final k h (one k g) at (final_there k g was) in
      let here = stored_there k g was in
      let store : s' ≡ store_or here.new here.store = same_there t'.stores.items k s' (store_or here.new here.store) there here.store_then in
      let rows : r' ≡ hidden_or here.new here.rows = same_there t'.hidden.items k r' (hidden_or here.new here.rows) held_there here.rows_then in
      let distinct = (each_at (HasKeys x.stands.flow.stand.over.virtual) gs k g x.stands.keys was).distinct in
      subst (λ y. IsListed y s' r'.table) (sym same)
      (subst (λ y. IsListed (one k g) y r'.table) (sym store)
      (subst (λ (y : RowsHeld). IsListed (one k g) (store_or here.new here.store) y.table) (sym rows)
      (one_listed mid.history mid.tier.log (length mid.history) n fresh.state fresh.there fresh.within flag place chosen loads more change ch k g (reads k g was) (gains_at k g was) here.store here.rows here.new here.keyed here.viewed distinct here.held here.listed))))
    where
      catalog_long : length (groups_in t.catalog) ≡ length final
      catalog_long = ap length (sym x.stored.groups) ∙ mapped_long gs ∙ sym final_long

  stored_then : IsStoredAs t' (tier_behind chosen place change n fresh.state mid.tier)
  stored_then = record {
    schema = x.stored.schema ∙ sym is.beside.schema;
    stale = x.stored.stale ∙ sym is.beside.stale;
    groups = groups_then;
    lists = lists_then;
    sessions = x.stored.sessions ∙ ap (λ ss. map Rattle.tier_statements.specs.Seen.session_seen (Rattle.open_sessions.specs.Opening.seen_all ss)) (sym is.beside.sessions);
    unsettled = x.stored.unsettled ∙ ap (λ q. q.items) (sym is.beside.unsettled);
    next = x.stored.next ∙ sym is.beside.next;
    doubt = x.stored.doubt;
    time = subst (λ c. Rattle.stored_tier.specs.Stored.KeepsTime c mid.tier.now mid.tier.added mid.tier.round mid.tier.sets mid.tier.settings) (sym is.beside.clock) x.stored.time;
  }

  -- what is made anew hides nothing, and another group keeps its view
  hides_then : HidesRows t' mid.history
  hides_then k y x' at hides there =
      let (h, h_at, seen) = unmapped without_list final k y (ap (λ l. slice_get l k) groups_then ∙ at) in
      let (g, was) = there_too final gs k h (sym final_long) h_at in
      let here = stored_there k g was in
      let rows : x' ≡ hidden_or here.new here.rows = same_there t'.hidden.items k x' (hidden_or here.new here.rows) there here.rows_then in
      subst (λ z. HidesView mid.history z x'.table) seen
      (subst (λ (r : RowsHeld). HidesView mid.history (without_list h) r.table) (sym rows)
      (by h g was here (same_there final k h (one k g) h_at (final_there k g was)) (become.one k g h was h_at).kept.def (ap hides_keys seen ∙ hides) (chosen k g) refl))
    where
      none_made : (g : Group) (s : Kept) (old : Table) (more : List Row) (r : RowsHeld) (o : Option Made) → IsViewed true fresh.state g s old more o → (hidden_or o r).table ≡ empty
      none_made g s old more r None v = absurd v
      none_made g s old more r (Some m) v = v.bare

      by : (h g : Group) (was : slice_get gs k ≡ Some g) (here : IsStored k g) → h ≡ one k g → h.def ≡ g.def → hides_keys h ≡ true → (b : Bool) → chosen k g ≡ b → HidesView mid.history (without_list h) (hidden_or here.new here.rows).table
      by h g was here same def hiding true c =
          let hides_g : hides_keys g ≡ true = sym (hides_same g h def) ∙ hiding in
          let dynamic : g.def.dynamic ≡ true = (both_true (is_read_only g) g.def.dynamic (both_true (is_read_only g && g.def.dynamic) (is_by_time g.def.aging) hides_g).0).1 in
          let filled : is_filled chosen loads k g ≡ true = λ i. c i && (dynamic i || (g.loaded || is_place k loads)) in
          nothing_hidden mid.history (without_list h) (hidden_or here.new here.rows).table
          (none_made g here.store here.rows.table (gained_at place more k) here.rows here.new (subst (λ b. IsViewed b fresh.state g here.store here.rows.table (gained_at place more k) here.new) filled here.viewed))
      by h g was here same def hiding false c =
          let hides_g : hides_keys g ≡ true = sym (hides_same g h def) ∙ hiding in
          let off : is_filled chosen loads k g ≡ false = ap (λ b. b && (g.def.dynamic || (g.loaded || is_place k loads))) c in
          let none : here.new ≡ None = subst (λ b. IsViewed b fresh.state g here.store here.rows.table (gained_at place more k) here.new) off here.viewed in
          let position : h.position ≡ g.position =
          ap (λ (z : Group). z.position) (same ∙ last_is mid.history mid.tier.log (length mid.history) n fresh.state fresh.there fresh.within flag place chosen loads more change ch k g (reads k g was) (gains_at k g was))
          ∙ ap (λ b. (cond b (at_position n fresh.state g) g).position) c in
          subst (λ o. HidesView mid.history (without_list h) (hidden_or o here.rows).table) (sym none)
          (view_same mid.history (without_list g) (without_list h) here.rows.table (record { def = def; position = position }) (x.hides k (without_list g) here.rows (in_catalog k g was) hides_g here.rows_at))

  behind_here : OnePosition final → StandsFor t' (record mid { tier = tier_behind chosen place change n fresh.state mid.tier })
  behind_here position = record {
    stored = stored_then;
    shows = all_shown t'.schema mid.history (tier_behind chosen place change n fresh.state mid.tier) t'.stores.items (x.stored.schema ∙ sym is.beside.schema)
        (subst (λ l. AreKept t'.schema l t'.stores.items) (sym groups_then) is.kept) shows_then;
    hides = hides_then;
    stands = stands_after mid x.stands final become position;
    waits = x.waits;
  }

  -- so it is of the world that the refresh leads to
  pub gained_behind : ((s : TableState) → OnePosition (groups_behind chosen place change n s mid.tier.groups)) → StandsFor t' (record mid { tier = tier_behind chosen place change n (Rattle.cache_tier.specs.Reading.backing_at mid n) mid.tier })
  gained_behind positions =
      subst (λ s. StandsFor t' (record mid { tier = tier_behind chosen place change n s mid.tier })) (sym (ap Rattle.cache_tier.specs.Reading.state_or_none fresh.there)) (behind_here (positions fresh.state))

-- the same where none is gained
pub stands_behind : (t t' : Stored) (mid : World) (flag : Bool) (place : ℕ) (chosen : Choice) (loads : Option ℕ) (change : Group → Group) → Changes flag place chosen loads change → (n : ℕ) (made : List (Option Made)) → StandsFor t mid → AreFresh t mid (is_filled chosen loads) n made
    → IsRefreshed t t' chosen place change n made → ((k : ℕ) (g : Group) → slice_get mid.tier.groups k ≡ Some g → chosen k g ≡ true → is_read_only g ≡ true) → ((g : Group) → without_list (change g) ≡ change (without_list g))
    → ((s : TableState) → OnePosition (groups_behind chosen place change n s mid.tier.groups)) → StandsFor t' (record mid { tier = tier_behind chosen place change n (Rattle.cache_tier.specs.Reading.backing_at mid n) mid.tier })
stands_behind t t' mid flag place chosen loads change ch n made x fresh is reads mapped positions =
    gained_behind t t' mid flag place chosen loads [] change change (changes_none flag place chosen loads change ch) n made x
    (record { state = fresh.state; there = fresh.there; within = fresh.within; keyed = fresh.keyed; views = fresh.views }) is (λ g at. gains_nothing fresh.state g) reads mapped positions
