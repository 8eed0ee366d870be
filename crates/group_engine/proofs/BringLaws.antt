-- A READONLY group is refreshed with its set, and gains the instance that a statement wants.
use Rattle.std.proofs.Common.{◌≡◌, ◌≤◌, ℕ, true, false, Option, Some, None, List, map, slice_get, refl, sym, ap, ◌∙◌}
use Rattle.std.specs.Prelude.{Ok, Err}
use Rattle.std.specs.FinMap as fm
use Rattle.tier_base.specs.declared.code.Code.TheVariants as code
use Rattle.tier_base.specs.declared.number.TableId.{TableId}
use Rattle.tier_base.specs.declared.limit.Limit.TheVariants as limit
use Rattle.row_types.specs.declared.value.Value.{Value}
use Rattle.sql_subset.specs.declared.stmt.RefreshState.TheVariants.{On}
use Rattle.indexed_rows.specs.Rows.{Table}
use Rattle.table_state.specs.Tables.{table_at}
use Rattle.instances.specs.declared.tree.Child.{Child}
use Rattle.instances.specs.Roots.{root_of}
use Rattle.outside.specs.Calls as site
use Rattle.outside.specs.Console.{TakesSnapshot}
use Rattle.outside.specs.Holding.{Held}
use Rattle.outside.specs.Sites.{SiteState}
use Rattle.outside.specs.declared.fault.BankError.{BankError}
use Rattle.outside.specs.declared.fault.BankError.TheVariants.{Memory}
use Rattle.outside.specs.declared.site.Snapshot.{Snapshot}
use Rattle.propagators.specs.Certainty.{KeepsCertain}
use Rattle.tier_journal.specs.KeptOver.{DiskIsCaused, KeepsOver}
use Rattle.tier_journal.specs.declared.journal.TierJournal.{TierJournal}
use Rattle.tier_journal.proofs.WayLaws.{kept_unless}
use Rattle.slot_rows.specs.SlotKeys.{RowsHeld}
use Rattle.group_catalog.specs.Catalogs.{groups_in}
use Rattle.group_store.specs.Stores.{Kept}
use Rattle.cache_tier.specs.declared.reply.Last.TheVariants.{No}
use Rattle.cache_tier.specs.declared.reply.Reply.{Reply}
use Rattle.cache_tier.specs.Groups.{Group, is_read_only}
use Rattle.cache_tier.specs.Reading.{TellsPosition}
use Rattle.cache_tier.specs.Rules.{past}
use Rattle.cache_tier.specs.Sets.{of_set}
use Rattle.cache_tier.specs.Targets.{load_entries}
use Rattle.cache_tier.specs.TierStates.{Tier}
use Rattle.cache_tier.specs.Wants.{Want}
use Rattle.cache_tier.specs.Worlds.{BankCall, IsUnshared, World, bank_fault, faulty, only}
use Rattle.stored_tier.specs.declared.refreshing.Made.{Made}
use Rattle.stored_tier.specs.declared.tier.Tier.{Tier as Stored}
use Rattle.stored_tier.specs.Performing.{IsPerformedOver, StandsFor}
use Rattle.stored_tier.specs.Refreshing.{is_filled}
use Rattle.stored_tier.specs.Sites.{IsAt}
use Rattle.stored_tier.specs.Stored.{IsSound}
use Rattle.stored_tier.proofs.ListLaws.{hiding_there}
use Rattle.stored_tier.proofs.OverLaws.{keeps_called}
use Rattle.group_engine.specs.declared.ready.Ready.{Ready}
use Rattle.group_engine.specs.Bringing.{BringsNoted, FindsRoot, IsBrought, found_in, found_row, found_under}
use Rattle.group_engine.proofs.BringBehind.{done_behind, full_behind, wanting_behind}
use Rattle.group_engine.specs.Fresh.{AreGained, IsRead}
use Rattle.group_engine.specs.Gaining.{IsStoredAt}
use Rattle.group_engine.specs.Loaded.{IsDynamicAt}
use Rattle.group_engine.specs.Ready.{IsReadyFor, WritesReady, is_full_ready}
use Rattle.group_engine.proofs.BringRoots.{found_from, root_copied}
use Rattle.group_engine.proofs.FillLaws.{first_one}
use Rattle.group_engine.proofs.FreshLaws.{IsRefreshed}
use Rattle.group_engine.proofs.ReadLaws.{ReadsState, gained_read, read_here, reads_state}
use Rattle.group_engine.proofs.TakenLaws.{no_call}
use Rattle.group_engine.proofs.WholeLaws.{chosen_there, loads_group}

abbrev Row : Type 0
Row = List Value

-- The snapshot came.
module _ {D : Type 0} (state : D → SiteState) (possible : D → ℕ → Held → Type 0) (old : Stored) (k : Option TierJournal) (d d' : D) (place interval : ℕ) (want : Want) (g : Group) (reads : is_read_only g ≡ true) (interval_is : g.def.interval ≡ interval)
    (sound : IsSound old) (dynamic_at : IsDynamicAt (groups_in old.catalog) place) (asked : List TableId) (read : asked ≡ Rattle.stored_tier.specs.Refreshing.tables_read (of_set interval (Some place)) 0 (groups_in old.catalog)) (snapshot : Snapshot)
    (told : site.Told (state d).held (state d').held (site.BankCall (state d).shared (TakesSnapshot asked (Ok snapshot)))) (faults : (state d).bank_faults ≤ (state d').bank_faults) (moment : (state d).moment ≤ (state d').moment) (shares : (state d').shared ≡ (state d).shared)
    (certain : KeepsCertain state possible d d') (w : World) (at : IsAt (state d) w) (stands : StandsFor old w) (apart : IsUnshared w) (keeps : KeepsOver state possible d k w) (there : slice_get w.tier.groups place ≡ Some g) where
  pub r : IsRead old (state d') (Ok snapshot.position.0) w
  r = read_here old (state d) (state d') asked snapshot (of_set interval (Some place)) read told faults moment shares w at stands apart

  rs : ReadsState old r.world (of_set interval (Some place)) snapshot
  unfolding r
  rs = reads_state old (state d) (state d') asked snapshot (of_set interval (Some place)) read told faults moment shares w at stands apart

  -- the group joins the set
  picks : (y : Group) → of_set interval (Some place) place y ≡ true
  picks y = ap (λ i. of_set i (Some place) place y) (sym interval_is) ∙ chosen_there (record g { state = On }) place y

  root_table : (y : Group) → slice_get (groups_in old.catalog) place ≡ Some y → table_at snapshot.tables y.def.tree.root.table ≡ table_at rs.state y.def.tree.root.table
  root_table y y_at = rs.copied place y y_at (picks y) y.def.tree.root.table (first_one y.def.tree.root.table (map (λ (c : Child). c.table) y.def.tree.children))

  root_same : (y : Group) → slice_get (groups_in old.catalog) place ≡ Some y → root_of snapshot.tables y.def.tree want.table want.key ≡ root_of rs.state y.def.tree want.table want.key
  root_same y y_at = root_copied rs.state snapshot.tables rs.schema y.def.tree (rs.copied place y y_at (picks y)) want.table want.key

  -- memory was wanting for what was read
  pub bring_wanting : (reply : Reply) → reply ≡ faulty code.Memory → IsPerformedOver state possible old k d' (Some reply) (λ w'. BringsNoted place g want w w' (Some reply))
  bring_wanting = wanting_behind state possible old k d d' place interval want g reads interval_is sound dynamic_at snapshot.position.0 w r certain keeps there

  -- 119 of the journal
  pub bring_full : (ready : Ready) → IsReadyFor r.world.tier.schema k ready (load_entries g) → is_full_ready ready ≡ true → (reply : Reply) → reply ≡ only (No (past limit.JournalSlot)) → IsPerformedOver state possible old k d' (Some reply) (λ w'. BringsNoted place g want w w' (Some reply))
  bring_full = full_behind state possible old k d d' place interval want g reads interval_is sound dynamic_at snapshot.position.0 w r certain keeps there

  -- the instance comes
  module _ (new : Stored) (made : List (Option Made)) (b : IsBrought old place want (is_filled (of_set interval (Some place)) (Some place)) snapshot.tables made) (is : IsRefreshed old new (of_set interval (Some place)) place loads_group snapshot.position.0 made) where
    from_snapshot : (y : Group) (s : Kept) (h : RowsHeld) → IsStoredAt old place y s h → (q row : Row) → fm.get b.rows q ≡ Some row → fm.get (table_at snapshot.tables y.def.tree.root.table) q ≡ Some row
    from_snapshot y s h here q row e = found_from y s h.table want snapshot.tables q row (ap (λ (m : Table). fm.get m q) (sym (b.found y s h here).1) ∙ e)

    fresh : AreGained old r.world (is_filled (of_set interval (Some place)) (Some place)) place (fm.keys b.rows) snapshot.position.0 made
    unfolding r
    fresh = gained_read old (state d) (state d') asked snapshot (of_set interval (Some place)) read told faults moment shares w at stands apart (Some place) made place b.rows b.made
        (λ y y_at. picks y) from_snapshot (λ y s h here. (hiding_there old.schema (groups_in old.catalog) old.stores.items old.hidden.items place y s h sound.hiding here.there here.kept here.held).key)

    same_state : fresh.state ≡ rs.state
    same_state = let both : Some fresh.state ≡ Some rs.state = sym fresh.there ∙ rs.there in Prim.cc

    found_here : FindsRoot old place want fresh.state b.rows
    found_here y s h here =
        let f = b.found y s h here in (
          f.0,
          f.1
              ∙ ap (found_under y s h.table snapshot.tables) (root_same y here.there)
              ∙ by (root_of rs.state y.def.tree want.table want.key)
              ∙ ap (λ z. found_in y s h.table want z) (sym same_state),
        )
      where
        by : (o : Option Row) → found_under y s h.table snapshot.tables o ≡ found_under y s h.table rs.state o
        by None = refl
        by (Some key) = ap (λ (m : Table). found_row y s h.table key (fm.get m key)) (root_table y here.there)

    pub bring_done : (k' : Option TierJournal) (last : D) (ready : Ready) → IsReadyFor r.world.tier.schema k ready (load_entries g) → is_full_ready ready ≡ false → (stop : Option Reply) → WritesReady state possible k k' d' last ready stop → DiskIsCaused k (state d') (state last) stop
        → IsPerformedOver state possible new k' last stop (λ w'. BringsNoted place g want w w' stop)
    bring_done = done_behind state possible old k d d' place interval want g reads interval_is sound dynamic_at snapshot.position.0 w r certain keeps there new made b.rows fresh found_here is

-- the call failed, or wasn't made

failing : (place : ℕ) (g : Group) (want : Want) (w mid : World) (e : BankError) (reply : Reply) → BankCall (TellsPosition (Err e)) w mid → mid.tier ≡ w.tier → reply ≡ bank_fault e → BringsNoted place g want w mid (Some reply)
failing place g want w mid e reply call tier is = record { result = Err e; mid = mid; call = call; tier = tier; goes_on = (refl, ap (λ y. Some y) is) }

module _ {D : Type 0} (state : D → SiteState) (possible : D → ℕ → Held → Type 0) (t : Stored) (k : Option TierJournal) (place : ℕ) (g : Group) (want : Want) where
  pub bring_uncalled : (d : D) (w : World) → IsAt (state d) w → StandsFor t w → KeepsOver state possible d k w → (reply : Reply) → reply ≡ faulty code.Memory → IsPerformedOver state possible t k d (Some reply) (λ w'. BringsNoted place g want w w' (Some reply))
  bring_uncalled d w at stands keeps reply is = record {
    world = w;
    at = at;
    is = failing place g want w w Memory reply (no_call w) refl is;
    stands = λ whole. stands;
    keeps = kept_unless keeps;
  }

  pub bring_failed : (d d' : D) (e : BankError) (reply : Reply) → reply ≡ bank_fault e → KeepsCertain state possible d d' → (w : World) → KeepsOver state possible d k w → IsRead t (state d') (Err e) w → IsPerformedOver state possible t k d' (Some reply) (λ w'. BringsNoted place g want w w' (Some reply))
  bring_failed d d' e reply is certain w keeps r = record {
    world = r.world;
    at = r.at;
    is = failing place g want w r.world e reply r.call r.tier is;
    stands = λ whole. r.stands;
    keeps = kept_unless (keeps_called state possible k d d' w r.world keeps certain r.call.journal (ap (λ (t : Tier). t.schema) r.tier) r.at);
  }
