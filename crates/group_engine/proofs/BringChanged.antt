-- A READONLY group is refreshed with its set by what changed, and gains the instance that a statement wants.
use Rattle.std.proofs.Common.{◌≡◌, ℕ, Bool, true, false, ◌&&◌, ◌||◌, Option, Some, None, List, slice_get, refl, sym, ap, subst, ◌∙◌, eqb-true}
use Rattle.std.specs.Prelude.{Ok}
use Rattle.std.specs.FinMap as fm
use Rattle.row_types.specs.declared.value.Value.{Value}
use Rattle.indexed_rows.specs.Rows.{Table}
use Rattle.instances.specs.Trees.{is_place}
use Rattle.outside.specs.Holding.{Held}
use Rattle.outside.specs.Sites.{SiteState}
use Rattle.propagators.specs.Certainty.{KeepsCertain}
use Rattle.tier_journal.specs.KeptOver.{DiskIsCaused, KeepsOver}
use Rattle.tier_journal.specs.declared.journal.TierJournal.{TierJournal}
use Rattle.sql_subset.specs.declared.stmt.RefreshState.TheVariants.{On}
use Rattle.slot_rows.specs.SlotKeys.{RowsHeld}
use Rattle.group_catalog.specs.Catalogs.{groups_in}
use Rattle.group_store.specs.Stores.{HasRootKeys, Kept}
use Rattle.cache_tier.specs.declared.reply.Reply.{Reply}
use Rattle.cache_tier.specs.Groups.{Group, is_read_only}
use Rattle.cache_tier.specs.Sets.{Choice, of_set}
use Rattle.cache_tier.specs.Targets.{load_entries}
use Rattle.cache_tier.specs.Wants.{Want}
use Rattle.cache_tier.specs.Worlds.{World}
use Rattle.changed_sets.specs.Gains.{AreGainedBy, keys_found}
use Rattle.stored_tier.specs.declared.refreshing.Made.{Made}
use Rattle.stored_tier.specs.declared.tier.Tier.{Tier as Stored}
use Rattle.stored_tier.specs.Performing.{IsPerformedOver}
use Rattle.stored_tier.specs.Refreshing.{is_filled}
use Rattle.stored_tier.specs.Stored.{IsSound, IsStoredAs, without_list}
use Rattle.stored_tier.proofs.ListLaws.{group_kept, hidden_kept, store_kept}
use Rattle.group_engine.specs.declared.ready.Ready.{Ready}
use Rattle.group_engine.specs.Bringing.{BringsNoted, FindsRoot, found_in}
use Rattle.group_engine.specs.Fresh.{AreGained, IsRead, IsViewed, gained_at}
use Rattle.group_engine.specs.Loaded.{IsDynamicAt}
use Rattle.group_engine.specs.Ready.{IsReadyFor, WritesReady, is_full_ready}
use Rattle.group_engine.proofs.BringBehind.{done_behind}
use Rattle.group_engine.proofs.FreshLaws.{IsRefreshed}
use Rattle.group_engine.proofs.GroupRows.{same_there, there_too}
use Rattle.group_engine.proofs.WholeLaws.{chosen_there, loads_group}

abbrev Row : Type 0
Row = List Value

-- a dynamic group keeps rows, loaded or not
same_filled : (chosen : Choice) (place k : ℕ) (g : Group) → (is_place k (Some place) ≡ true → g.def.dynamic ≡ true) → is_filled chosen None k g ≡ is_filled chosen (Some place) k g
same_filled chosen place k g dynamic = by (chosen k g) g.def.dynamic g.loaded (is_place k (Some place)) dynamic
  where
    never : {P : Type 0} → (false ≡ true) → P
    never e = absurd (subst (λ (b : Bool). if_false b) e tt)
      where
        if_false : Bool → Type 0
        if_false false = Unit {0}
        if_false true = ⊥

    by : (c d l e : Bool) → (e ≡ true → d ≡ true) → (c && (d || (l || false))) ≡ (c && (d || (l || e)))
    by c true l e f = refl
    by c false true e f = refl
    by c false false false f = refl
    by c false false true f = never (f refl)

-- a store that is wanted was one with root keys
keyed_view : (b : Bool) (state : Rattle.table_state.specs.Tables.TableState) (g : Group) (s : Kept) (h : Table) (more : List Row) (o : Option Made) → b ≡ true → IsViewed b state g s h more o → HasRootKeys s
keyed_view true state g s h more None e v = absurd v
keyed_view true state g s h more (Some m) e v = v.old
keyed_view false state g s h more o e v = Prim.cc

module _ {D : Type 0} (state : D → SiteState) (possible : D → ℕ → Held → Type 0) (old : Stored) (k : Option TierJournal) (d d' : D) (place interval : ℕ) (want : Want) (g : Group) (reads : is_read_only g ≡ true) (interval_is : g.def.interval ≡ interval)
    (sound : IsSound old) (dynamic_at : IsDynamicAt (groups_in old.catalog) place) (n : ℕ) (w : World) (r : IsRead old (state d') (Ok n) w) (certain : KeepsCertain state possible d d') (keeps : KeepsOver state possible d k w) (there : slice_get w.tier.groups place ≡ Some g)
    (new : Stored) (made : List (Option Made)) (x : AreGainedBy old r.world (is_filled (of_set interval (Some place)) None) place (Some want) n made) (is : IsRefreshed old new (of_set interval (Some place)) place loads_group n made) where
  seen_at : slice_get (groups_in old.catalog) place ≡ Some (without_list g)
  seen_at = group_kept old w.tier place g (subst (IsStoredAs old) r.tier r.stands.stored) there

  store : (s : Kept) × (slice_get old.stores.items place ≡ Some s)
  store = store_kept old place (without_list g) sound seen_at

  hides : (h : RowsHeld) × (slice_get old.hidden.items place ≡ Some h)
  hides = hidden_kept old place (without_list g) sound seen_at

  picks : (y : Group) → of_set interval (Some place) place y ≡ true
  picks y = ap (λ i. of_set i (Some place) place y) (sym interval_is) ∙ chosen_there (record g { state = On }) place y

  abbrev rows : Table
  rows = found_in (without_list g) store.0 hides.0.table want x.gained.state

  keys_are : x.more ≡ fm.keys rows
  keys_are = x.are ∙ (λ i. keys_found (seen_at i) (store.1 i) (hides.1 i) want x.gained.state)

  filled_same : (i : ℕ) (y : Group) → slice_get (groups_in old.catalog) i ≡ Some y → is_filled (of_set interval (Some place)) None i y ≡ is_filled (of_set interval (Some place)) (Some place) i y
  filled_same i y at = same_filled (of_set interval (Some place)) place i y (λ e. dynamic_at y (ap (slice_get (groups_in old.catalog)) (eqb-true place i e) ∙ at))

  fresh : AreGained old r.world (is_filled (of_set interval (Some place)) (Some place)) place (fm.keys rows) n made
  fresh = record {
    state = x.gained.state;
    there = x.gained.there;
    within = x.gained.within;
    keyed = x.gained.keyed;
    views = λ i y s h o at kept held m.
        subst (λ l. IsViewed (is_filled (of_set interval (Some place)) (Some place) i y) x.gained.state y s h.table (gained_at place l i) o) keys_are
        (subst (λ b. IsViewed b x.gained.state y s h.table (gained_at place x.more i) o) (filled_same i y at) (x.gained.views i y s h o at kept held m));
  }

  found : FindsRoot old place want fresh.state rows
  unfolding fresh
  found y s h here =
      let o = there_too (groups_in old.catalog) made place y is.long here.there in
      let filled : is_filled (of_set interval (Some place)) None place y ≡ true = λ i. picks y i && (dynamic_at y here.there i || (y.loaded || false)) in
      let same_group : without_list g ≡ y = same_there (groups_in old.catalog) place (without_list g) y seen_at here.there in
      let same_store : store.0 ≡ s = same_there old.stores.items place store.0 s store.1 here.kept in
      let same_hides : hides.0 ≡ h = same_there old.hidden.items place hides.0 h hides.1 here.held in (
        keyed_view (is_filled (of_set interval (Some place)) None place y) x.gained.state y s h.table (gained_at place x.more place) o.0 filled (x.gained.views place y s h o.0 here.there here.kept here.held o.1),
        λ i. found_in (same_group i) (same_store i) (same_hides i).table want x.gained.state,
      )

  -- the instance comes, and the record of the STATE is flushed
  pub changed_done : (k' : Option TierJournal) (last : D) (ready : Ready) → IsReadyFor r.world.tier.schema k ready (load_entries g) → is_full_ready ready ≡ false → (stop : Option Reply) → WritesReady state possible k k' d' last ready stop → DiskIsCaused k (state d') (state last) stop
      → IsPerformedOver state possible new k' last stop (λ w'. BringsNoted place g want w w' stop)
  changed_done = done_behind state possible old k d d' place interval want g reads interval_is sound dynamic_at n w r certain keeps there new made rows fresh found is
