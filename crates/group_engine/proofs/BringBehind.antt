-- A READONLY group is refreshed with its set, whose rows were read, and gains the instance that a statement wants.
use Rattle.std.proofs.Common.{◌≡◌, ℕ, Bool, true, false, cond, not, ◌&&◌, ◌||◌, Option, Some, None, List, [], ◌∷◌, ◌++◌, filter, slice_get, refl, sym, ap, subst, ◌∙◌, inl, inr}
use Rattle.std.specs.Prelude.{Ok}
use Rattle.std.specs.FinMap as fm
use Rattle.tier_base.specs.declared.code.Code.TheVariants as code
use Rattle.tier_base.specs.declared.limit.Limit.TheVariants as limit
use Rattle.row_types.specs.declared.value.Value.{Value}
use Rattle.sql_subset.specs.declared.stmt.RefreshState.TheVariants.{On}
use Rattle.indexed_rows.specs.Rows.{Table}
use Rattle.table_state.specs.Tables.{TableState}
use Rattle.outside.specs.Calls as site
use Rattle.outside.specs.Holding.{Held}
use Rattle.outside.specs.Sites.{SiteState}
use Rattle.outside.specs.declared.fault.BankError.TheVariants.{Memory}
use Rattle.propagators.specs.Certainty.{KeepsCertain}
use Rattle.tier_journal.specs.KeptOver.{DiskIsCaused, KeepsOver, is_broken, over_disk}
use Rattle.tier_journal.specs.declared.journal.TierJournal.{TierJournal}
use Rattle.tier_journal.proofs.WayLaws.{kept_unless}
use Rattle.order_laws.proofs.TruthLaws.{both_true, never_both}
use Rattle.slot_rows.specs.SlotKeys.{RowsHeld}
use Rattle.group_catalog.specs.Catalogs.{groups_in}
use Rattle.group_store.specs.Stores.{Kept}
use Rattle.cache_tier.specs.declared.reply.Last.TheVariants.{No}
use Rattle.cache_tier.specs.declared.reply.Reply.{Reply}
use Rattle.cache_tier.specs.DynamicLoads.{found_root, joined_tier, state_entries, state_loaded, with_found}
use Rattle.cache_tier.specs.Events.{with_tier}
use Rattle.cache_tier.specs.Groups.{Group, is_key, is_paused, is_read_only, with_keys}
use Rattle.cache_tier.specs.Journals.{SetsState}
use Rattle.cache_tier.specs.JournalSteps.{FlushesSome}
use Rattle.cache_tier.specs.Reading.{backing_at, state_or_none}
use Rattle.cache_tier.specs.Rules.{past}
use Rattle.cache_tier.specs.Sets.{OnePosition, alone, at_position, changed_from, is_in_view, of_set}
use Rattle.cache_tier.specs.Targets.{has_flag, load_entries}
use Rattle.cache_tier.specs.TierStates.{Tier}
use Rattle.cache_tier.specs.Wants.{Want}
use Rattle.cache_tier.specs.Worlds.{Becomes, ThenStage, World, faulty, only}
use Rattle.cache_tier.proofs.KeyListLaws.{key_left}
use Rattle.stored_tier.specs.declared.refreshing.Made.{Made}
use Rattle.stored_tier.specs.declared.tier.Tier.{Tier as Stored}
use Rattle.stored_tier.specs.Filling.{is_held}
use Rattle.stored_tier.specs.Performing.{IsPerformedOver, StandsFor}
use Rattle.stored_tier.specs.Refreshing.{is_filled}
use Rattle.stored_tier.specs.Stored.{IsSound, IsStoredAs, without_list}
use Rattle.stored_tier.proofs.ListLaws.{group_kept, hidden_kept, store_kept, stored_keys}
use Rattle.stored_tier.proofs.OverLaws.{at_written, keeps_called, keeps_tier, stands_written}
use Rattle.group_engine.specs.declared.ready.Ready.{Ready}
use Rattle.group_engine.specs.Bringing.{BringsNoted, FindsRoot, found_in}
use Rattle.group_engine.specs.Fresh.{AreGained, IsRead}
use Rattle.group_engine.specs.Gaining.{IsStoredAt}
use Rattle.group_engine.specs.Loaded.{IsDynamicAt}
use Rattle.group_engine.specs.Ready.{IsReadyFor, WritesReady, is_full_ready}
use Rattle.group_engine.proofs.BringRoots.{found_keys, found_past, found_same}
use Rattle.group_engine.proofs.ChangedLists.{changed_at}
use Rattle.group_engine.proofs.DynamicLaws.{grown_flagged, grown_joined, grown_mapped, grows, joined_reads, rows_apart}
use Rattle.group_engine.proofs.FreshGroup.{GainChanges, GainsOnly}
use Rattle.group_engine.proofs.FreshLaws.{IsRefreshed, gained_behind, groups_behind, tier_behind}
use Rattle.group_engine.proofs.FreshLists.{filter_same, more_is, more_keys}
use Rattle.group_engine.proofs.GroupRows.{same_there}
use Rattle.group_engine.proofs.ReadyLaws.{breaks, full_ready, full_stage}
use Rattle.group_engine.proofs.WholeLaws.{alone_two, chosen_there, loads_group}

abbrev Row : Type 0
Row = List Value

-- the flag of a dynamic READONLY group isn't kept

no_flag : (g : Group) → is_read_only g ≡ true → g.def.dynamic ≡ true → has_flag g ≡ false
no_flag g reads dynamic = λ i. not (reads i) || not (dynamic i)

pub state_alone : (g : Group) → is_read_only g ≡ true → g.def.dynamic ≡ true → load_entries g ≡ state_entries g
state_alone g reads dynamic = ap (λ b. state_entries g ++ cond (b && not g.loaded) (Rattle.cache_tier.specs.Journals.SetsLoaded g.def.name true ∷ []) []) (no_flag g reads dynamic) ∙ by (is_read_only g && is_paused g.state)
  where
    by : (b : Bool) → cond b (SetsState g.def.name On ∷ []) [] ++ [] ≡ cond b (SetsState g.def.name On ∷ []) []
    by true = refl
    by false = refl

-- what is made ready, flushed, and then done

module _ {D : Type 0} (state : D → SiteState) (possible : D → ℕ → Held → Type 0) where
  pub record Flushes (old : Option TierJournal) (new : Option TierJournal) (d d' : D) (ready : Ready) (stop : Option Reply) : Type 0 where
    pub writes : WritesReady state possible old new d d' ready stop
    pub cause : DiskIsCaused old (state d) (state d') stop

-- The set was read.
module _ {D : Type 0} (state : D → SiteState) (possible : D → ℕ → Held → Type 0) (old : Stored) (k : Option TierJournal) (d d' : D) (place interval : ℕ) (want : Want) (g : Group) (reads : is_read_only g ≡ true) (interval_is : g.def.interval ≡ interval)
    (sound : IsSound old) (dynamic_at : IsDynamicAt (groups_in old.catalog) place) (n : ℕ) (w : World) (r : IsRead old (state d') (Ok n) w) (certain : KeepsCertain state possible d d') (keeps : KeepsOver state possible d k w) (there : slice_get w.tier.groups place ≡ Some g) where
  stored_here : IsStoredAs old w.tier
  stored_here = subst (IsStoredAs old) r.tier r.stands.stored

  seen_at : slice_get (groups_in old.catalog) place ≡ Some (without_list g)
  seen_at = group_kept old w.tier place g stored_here there

  dynamic : g.def.dynamic ≡ true
  dynamic = dynamic_at (without_list g) seen_at

  store : (s : Kept) × (slice_get old.stores.items place ≡ Some s)
  store = store_kept old place (without_list g) sound seen_at

  hides : (h : RowsHeld) × (slice_get old.hidden.items place ≡ Some h)
  hides = hidden_kept old place (without_list g) sound seen_at

  stored_at : IsStoredAt old place (without_list g) store.0 hides.0
  stored_at = record { there = seen_at; kept = store.1; held = hides.1 }

  -- the group joins the set
  picks : (y : Group) → of_set interval (Some place) place y ≡ true
  picks y = ap (λ i. of_set i (Some place) place y) (sym interval_is) ∙ chosen_there (record g { state = On }) place y

  keeps_mid : KeepsOver state possible d' k r.world
  keeps_mid = keeps_called state possible k d d' w r.world keeps certain r.call.journal (ap (λ (t : Tier). t.schema) r.tier) r.at

  -- a reply behind the call
  told_so : (w' : World) (stop : Option Reply) → ThenStage (FlushesSome (state_entries g)) (Becomes (joined_tier place g want n)) r.world w' stop → BringsNoted place g want w w' stop
  told_so w' stop is = record { result = Ok n; mid = r.world; call = r.call; tier = r.tier; goes_on = inl is }

  -- memory was wanting for what was read
  pub wanting_behind : (reply : Reply) → reply ≡ faulty code.Memory → IsPerformedOver state possible old k d' (Some reply) (λ w'. BringsNoted place g want w w' (Some reply))
  wanting_behind reply is = record {
    world = r.world;
    at = r.at;
    is = record { result = Ok n; mid = r.world; call = r.call; tier = r.tier; goes_on = inr (refl, ap (λ y. Some y) is) };
    stands = λ whole. r.stands;
    keeps = kept_unless keeps_mid;
  }

  -- 119 of the journal
  pub full_behind : (ready : Ready) → IsReadyFor r.world.tier.schema k ready (load_entries g) → is_full_ready ready ≡ true → (reply : Reply) → reply ≡ only (No (past limit.JournalSlot)) → IsPerformedOver state possible old k d' (Some reply) (λ w'. BringsNoted place g want w w' (Some reply))
  full_behind ready of_ready full reply is = record {
    world = r.world;
    at = r.at;
    is = told_so r.world (Some reply) (record {
      mid = r.world;
      stop = Some (only (No (past limit.JournalSlot)));
      first = full_stage state possible k d' r.world ready (state_entries g) keeps_mid (subst (IsReadyFor r.world.tier.schema k ready) (state_alone g reads dynamic) of_ready) full;
      next = (refl, ap (λ y. Some y) is);
    });
    stands = λ whole. r.stands;
    keeps = kept_unless keeps_mid;
  }

  -- the instance comes
  module _ (new : Stored) (made : List (Option Made)) (rows : Table) (fresh : AreGained old r.world (is_filled (of_set interval (Some place)) (Some place)) place (fm.keys rows) n made) (found : FindsRoot old place want fresh.state rows)
      (is : IsRefreshed old new (of_set interval (Some place)) place loads_group n made) where
    backing_is : backing_at r.world n ≡ fresh.state
    backing_is = ap state_or_none fresh.there

    held : (q : Row) → is_key g.keys q ≡ is_held store.0 hides.0.table q
    held = stored_keys old w.tier place g store.0 hides.0 sound stored_here there store.1 hides.1 (found (without_list g) store.0 hides.0 stored_at).0 dynamic

    rows_are : rows ≡ found_in g store.0 hides.0.table want fresh.state
    rows_are = (found (without_list g) store.0 hides.0 stored_at).1

    keys_are : fm.keys rows ≡ filter (λ q. not (is_key g.keys q)) (found_root fresh.state g want)
    keys_are = ap fm.keys rows_are ∙ found_keys fresh.state g store.0 hides.0.table held want

    both : (q : Row) → is_key (fm.keys rows) q ≡ true → (is_key (found_root fresh.state g want) q ≡ true) × (not (is_key g.keys q) ≡ true)
    both q e = both_true (is_key (found_root fresh.state g want) q) (not (is_key g.keys q)) (sym (key_left (λ y. not (is_key g.keys y)) (found_root fresh.state g want) q) ∙ ap (λ l. is_key l q) (sym keys_are) ∙ e)

    gains : GainsOnly fresh.state g (fm.keys rows)
    gains = record {
      apart = rows_apart rows;
      unheld = λ q e. turned (is_key g.keys q) (both q e).1;
      past = λ q e. found_past fresh.state g want q (both q e).0;
    }
      where
        turned : (c : Bool) → not c ≡ true → c ≡ false
        turned true e = Prim.cc
        turned false e = refl

    there_mid : slice_get r.world.tier.groups place ≡ Some g
    there_mid = ap (λ (t : Tier). slice_get t.groups place) r.tier ∙ there

    group_is : (y : Group) → slice_get r.world.tier.groups place ≡ Some y → g ≡ y
    group_is y y_at = same_there r.world.tier.groups place g y there_mid y_at

    changes : GainChanges true place (of_set interval (Some place)) (Some place) (fm.keys rows) (grows (fm.keys rows))
    changes = record {
      flagged = grown_flagged (fm.keys rows);
      loads_is = refl;
      chosen_is = λ y e. picks y;
      unlisted = λ i y. refl;
      gaining = λ y e. absurd (never_both (of_set interval (Some place) place y) (picks y) e);
    }

    stands_last : StandsFor new (record r.world { tier = tier_behind (of_set interval (Some place)) place (grows (fm.keys rows)) n (backing_at r.world n) r.world.tier })
    stands_last = gained_behind old new r.world true place (of_set interval (Some place)) (Some place) (fm.keys rows) (grows (fm.keys rows)) loads_group changes n made r.stands fresh is
        (λ y y_at. subst (λ z. GainsOnly fresh.state z (fm.keys rows)) (group_is y y_at) gains)
        (λ i y y_at c. joined_reads r.world.tier.groups place g there_mid reads i y y_at (ap (λ j. of_set j (Some place) i y) interval_is ∙ c))
        (grown_mapped (fm.keys rows))
        (λ s. subst (λ j. OnePosition (groups_behind (of_set j (Some place)) place (grows (fm.keys rows)) n s r.world.tier.groups)) interval_is (grown_joined (fm.keys rows) r.world.tier.groups place n g s there_mid r.stands.stands.read.one))

    -- its list
    keys_so : (s : TableState) → s ≡ fresh.state → more_keys (filter (is_in_view s g) g.keys) (fm.keys rows) ≡ with_keys (found_root s g want) (filter (is_in_view s g) g.keys)
    keys_so s e = subst (λ z. more_keys (filter (is_in_view z g) g.keys) (fm.keys rows) ≡ with_keys (found_root z g want) (filter (is_in_view z g) g.keys)) (sym e)
        (more_is (filter (is_in_view fresh.state g) g.keys) (fm.keys rows)
        ∙ ap (λ l. filter (is_in_view fresh.state g) g.keys ++ l)
        (keys_are
        ∙ filter_same (λ q. not (is_key g.keys q)) (λ q. not (is_key (filter (is_in_view fresh.state g) g.keys) q)) (found_root fresh.state g want) (λ q f.
        ap not (sym (key_left (is_in_view fresh.state g) g.keys q ∙ ap (λ c. is_key g.keys q && c) (found_past fresh.state g want q f) ∙ and_true (is_key g.keys q))))))
      where
        and_true : (c : Bool) → (c && true) ≡ c
        and_true true = refl
        and_true false = refl

    abbrev S : TableState
    S = backing_at r.world n

    abbrev P : Group
    P = at_position n (backing_at r.world n) g

    abbrev grown : Group
    grown = record (at_position n (backing_at r.world n) g) { keys = more_keys (filter (is_in_view (backing_at r.world n) g) g.keys) (fm.keys rows) }

    grown_is : with_found (backing_at r.world n) want (state_loaded (at_position n (backing_at r.world n) g)) ≡ grows (fm.keys rows) (at_position n (backing_at r.world n) g)
    grown_is =
        ap (λ l. record (state_loaded (at_position n (backing_at r.world n) g)) { keys = with_keys l (filter (is_in_view (backing_at r.world n) g) g.keys) }) (found_same (backing_at r.world n) g (state_loaded (at_position n (backing_at r.world n) g)) want refl refl)
        ∙ ap (λ l. record (state_loaded (at_position n (backing_at r.world n) g)) { keys = l }) (sym (keys_so (backing_at r.world n) backing_is))
        ∙ sym (ap (λ c. cond c (record (state_loaded grown) { loaded = true }) (state_loaded grown)) (no_flag grown reads dynamic))

    tier_is : tier_behind (of_set interval (Some place)) place (grows (fm.keys rows)) n (backing_at r.world n) r.world.tier ≡ joined_tier place g want n r.world
    tier_is =
        ap (λ gs. record r.world.tier { groups = gs })
        (sym (alone_two place (with_found (backing_at r.world n) want) state_loaded (grows (fm.keys rows)) (changed_from (of_set interval (Some place)) (at_position n (backing_at r.world n)) 0 r.world.tier.groups) one))
        ∙ ap (λ j. record r.world.tier { groups = changed_from (alone place) (with_found (backing_at r.world n) want) 0 (changed_from (alone place) state_loaded 0 (changed_from (of_set j (Some place)) (at_position n (backing_at r.world n)) 0 r.world.tier.groups)) }) (sym interval_is)
      where
        picked : (y : Group) → slice_get (changed_from (of_set interval (Some place)) (at_position n (backing_at r.world n)) 0 r.world.tier.groups) place ≡ Some y → at_position n (backing_at r.world n) g ≡ y
        picked y y_at =
            sym (ap (λ c. cond c (at_position n (backing_at r.world n) g) g) (picks g))
            ∙ same_there (changed_from (of_set interval (Some place)) (at_position n (backing_at r.world n)) 0 r.world.tier.groups) place (cond (of_set interval (Some place) place g) (at_position n (backing_at r.world n) g) g) y
            (changed_at (of_set interval (Some place)) (at_position n (backing_at r.world n)) r.world.tier.groups place g there_mid) y_at

        one : (y : Group) → slice_get (changed_from (of_set interval (Some place)) (at_position n (backing_at r.world n)) 0 r.world.tier.groups) place ≡ Some y → with_found (backing_at r.world n) want (state_loaded y) ≡ grows (fm.keys rows) y
        one y y_at = subst (λ z. with_found (backing_at r.world n) want (state_loaded z) ≡ grows (fm.keys rows) z) (picked y y_at) grown_is

    stands_joined : StandsFor new (with_tier (joined_tier place g want n r.world) r.world)
    stands_joined = subst (λ (t : Tier). StandsFor new (with_tier t r.world)) tier_is stands_last

    -- behind the flush of its record
    module _ (k' : Option TierJournal) (last : D) (ready : Ready) (of_ready : IsReadyFor r.world.tier.schema k ready (load_entries g)) (fits : is_full_ready ready ≡ false) where
      of_state : IsReadyFor r.world.tier.schema k ready (state_entries g)
      of_state = subst (IsReadyFor r.world.tier.schema k ready) (state_alone g reads dynamic) of_ready

      flushed : Flushes state possible k k' d' last ready None → IsPerformedOver state possible new k' last None (λ w'. BringsNoted place g want w w' None)
      flushed f =
          let x = f.writes r.world (state_entries g) r.at.moment keeps_mid of_state in
          let w1 : World = over_disk x.journal x.faults (state last).moment r.world in
          let at1 = at_written state possible k' d' last r.world None (FlushesSome (state_entries g)) r.at x f.cause.bank f.cause.shared in
          record {
            world = with_tier (joined_tier place g want n r.world) w1;
            at = record { there = at1.there; told = at1.told; history = at1.history; faults = at1.faults; moment = at1.moment; shared = at1.shared };
            is = told_so (with_tier (joined_tier place g want n r.world) w1) None (record { mid = w1; stop = None; first = x.is; next = (refl, refl) });
            stands = λ whole. stands_written new (with_tier (joined_tier place g want n r.world) r.world) x.journal x.faults (state last).moment stands_joined;
            keeps = kept_unless (keeps_tier state possible last k' w1 (joined_tier place g want n r.world) refl (x.keeps.over refl));
          }

      failed : (fault : Reply) → Flushes state possible k k' d' last ready (Some fault) → IsPerformedOver state possible new k' last (Some fault) (λ w'. BringsNoted place g want w w' (Some fault))
      failed fault f =
          let x = f.writes r.world (state_entries g) r.at.moment keeps_mid of_state in
          let w1 : World = over_disk x.journal x.faults (state last).moment r.world in
          let broken = breaks state possible r.world w1 (state_entries g) fault (λ some. full_ready state possible k d' r.world ready (state_entries g) keeps_mid of_state some ∙ fits) x.is in
          record {
            world = w1;
            at = at_written state possible k' d' last r.world (Some fault) (FlushesSome (state_entries g)) r.at x f.cause.bank f.cause.shared;
            is = told_so w1 (Some fault) (record { mid = w1; stop = Some fault; first = x.is; next = (refl, refl) });
            stands = λ whole. absurd (never_both (is_broken (Some fault)) broken whole);
            keeps = x.keeps;
          }

      pub done_behind : (stop : Option Reply) → WritesReady state possible k k' d' last ready stop → DiskIsCaused k (state d') (state last) stop → IsPerformedOver state possible new k' last stop (λ w'. BringsNoted place g want w w' stop)
      done_behind None writes cause = flushed (record { writes = writes; cause = cause })
      done_behind (Some fault) writes cause = failed fault (record { writes = writes; cause = cause })
