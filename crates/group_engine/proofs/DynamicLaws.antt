-- A dynamic READONLY group that is loaded or refreshed, with its set or alone.
use Rattle.std.proofs.Common.{◌≡◌, ◌≤◌, ℕ, Bool, true, false, cond, not, ◌&&◌, ◌||◌, nat_eq, Option, Some, None, List, [], ◌∷◌, ◌++◌, filter, length, map, slice_get, refl, sym, ap, subst, ◌∙◌, inl, inr, arith}
use Rattle.std.proofs.lemmas.Bool.{eq-eqb, eqb-true}
use Rattle.std.specs.Prelude.{Ok, Err}
use Rattle.std.specs.FinMap as fm
use Rattle.std.specs.Option.{option_map}
use Rattle.tier_base.specs.declared.code.Code.TheVariants as code
use Rattle.tier_base.specs.declared.number.TableId.{TableId}
use Rattle.tier_base.specs.declared.limit.Limit.TheVariants as limit
use Rattle.row_types.specs.declared.rule.Rule.{Rule}
use Rattle.row_types.specs.declared.value.Value.{Value}
use Rattle.row_types.specs.Order.{key_order}
use Rattle.sql_subset.specs.declared.stmt.RefreshState.{RefreshState}
use Rattle.sql_subset.specs.declared.stmt.RefreshState.TheVariants.{On, Off, Paused}
use Rattle.indexed_rows.specs.Rows.{Table}
use Rattle.table_state.specs.Tables.{TableState, table_at}
use Rattle.instances.specs.declared.tree.Child.{Child}
use Rattle.outside.specs.Calls as site
use Rattle.outside.specs.Console.{TakesSnapshot}
use Rattle.outside.specs.Holding.{Held}
use Rattle.outside.specs.Sites.{SiteState}
use Rattle.outside.specs.declared.fault.BankError.{BankError}
use Rattle.outside.specs.declared.fault.BankError.TheVariants.{Memory}
use Rattle.outside.specs.declared.site.Snapshot.{Snapshot}
use Rattle.propagators.specs.Certainty.{KeepsCertain}
use Rattle.tier_journal.specs.KeptOver.{KeepsOver}
use Rattle.tier_journal.specs.declared.journal.TierJournal.{TierJournal}
use Rattle.tier_journal.proofs.WayLaws.{kept_unless}
use Rattle.order_laws.proofs.TruthLaws.{both_true, never_both}
use Rattle.slot_rows.specs.SlotKeys.{RowsHeld}
use Rattle.group_catalog.specs.Catalogs.{groups_in}
use Rattle.group_catalog.specs.declared.which.ResolvedWhich.{ResolvedWhich}
use Rattle.group_store.specs.Stores.{HasRootKeys, Kept}
use Rattle.cache_tier.specs.declared.reply.Last.TheVariants.{Done, No}
use Rattle.cache_tier.specs.declared.reply.Reply.{Reply}
use Rattle.cache_tier.specs.Conditions.{overflow_fault}
use Rattle.cache_tier.specs.DynamicLoads.{state_loaded}
use Rattle.cache_tier.specs.Events.{with_tier}
use Rattle.cache_tier.specs.Groups.{Group, is_explicit, is_key, is_on, is_read_only, with_keys}
use Rattle.cache_tier.specs.LoadSteps.{gained_answer, gains}
use Rattle.cache_tier.specs.Reading.{Answers, TellsPosition, backing_at, state_or_none}
use Rattle.cache_tier.specs.RefreshSteps.{held_answer}
use Rattle.cache_tier.specs.Rules.{broken_if, past, plain}
use Rattle.cache_tier.specs.Sets.{Choice, OnePosition, alone, at_position, changed, changed_from, is_in_set, is_in_view, loaded_state, loaded_with, of_set, refreshed}
use Rattle.cache_tier.specs.Standing.{AreDistinct}
use Rattle.cache_tier.specs.Targets.{Settles, Target, has_flag, held_roots, load_entries, matching_past, new_keys, view_roots, with_flag}
use Rattle.cache_tier.specs.TierStates.{Tier}
use Rattle.cache_tier.specs.Worlds.{Answer, BankCall, IsUnshared, Unless, World, bank_fault, faulty, only}
use Rattle.cache_tier.proofs.ApartLaws as apart_laws
use Rattle.cache_tier.proofs.KeyListLaws.{key_left}
use Rattle.cache_tier.proofs.PositionLaws.{alone_twice, hidden_state, join_base, join_one, join_step}
use Rattle.stored_tier.specs.declared.tier.Tier.{Tier as Stored}
use Rattle.stored_tier.specs.Filling.{is_held}
use Rattle.stored_tier.specs.Performing.{IsPerformedOver, StandsFor}
use Rattle.stored_tier.specs.Refreshing.{is_filled, positioned}
use Rattle.stored_tier.specs.Sites.{IsAt}
use Rattle.stored_tier.specs.Stored.{IsSound, without_list}
use Rattle.stored_tier.proofs.ListLaws.{group_kept, hidden_kept, hiding_there, store_kept, stored_keys}
use Rattle.stored_tier.proofs.OverLaws.{keeps_called}
use Rattle.stored_tier.proofs.RefreshSteps.{changed_now, same_by_place}
use Rattle.group_engine.specs.declared.gaining.Gained.{Gained}
use Rattle.group_engine.specs.declared.ready.Ready.{Ready}
use Rattle.group_engine.specs.Fresh.{AreGained, IsRead}
use Rattle.group_engine.specs.Gaining.{IsGained, IsStoredAt, TellsOverflow, any_bad, gained_of, is_bad, is_taken, overflows_past, taken_in}
use Rattle.group_engine.specs.Loaded.{IsDynamicAt}
use Rattle.group_engine.specs.Ready.{AnswersBehind, IgnoresDisk, IsReadyFor, is_full_ready}
use Rattle.group_engine.specs.Taking.{IsOfTarget, ReadsDynamic}
use Rattle.group_engine.proofs.ChangedLists.{changed_at}
use Rattle.group_engine.proofs.DynamicRoots.{held_are, keys_long, load_judged, matching_in_view, new_keys_are, refresh_judged, taken_row}
use Rattle.group_engine.proofs.FillLaws.{first_one}
use Rattle.group_engine.proofs.FreshGroup.{GainChanges, GainsOnly, IsGrown, gains_nothing}
use Rattle.group_engine.proofs.FreshLaws.{IsRefreshed, gained_behind, groups_behind, tier_behind}
use Rattle.group_engine.proofs.FreshLists.{filter_same, filter_true, more_is, more_keys}
use Rattle.group_engine.proofs.ReadLaws.{ReadsState, gained_read, read_here, reads_state}
use Rattle.group_engine.proofs.ReadyLaws.{full_then}
use Rattle.group_engine.proofs.TakenLaws.{no_call}
use Rattle.group_engine.proofs.WholeLaws.{chosen_there, flag_defined, flag_keeps, flag_state, loads_flagged, loads_group, unlisted_with}

abbrev Row : Type 0
Row = List Value

-- the group with more keys
abbrev fuller : List Row → Group → Group
fuller more g = record g { keys = more_keys g.keys more }

-- what becomes of the group: it gains keys, its STATE changes
abbrev pub grows : List Row → Group → Group
grows more g = loads_group (record g { keys = more_keys g.keys more })

pub grown_flagged : (more : List Row) (g : Group) → (true ≡ true → is_read_only g ≡ true) → IsGrown (is_explicit g) more g (grows more g)
grown_flagged more g reads = record { is = (loads_flagged (record g { keys = more_keys g.keys more }) reads).is }

pub grown_mapped : (more : List Row) (g : Group) → without_list (grows more g) ≡ loads_group (without_list g)
grown_mapped more g = by (has_flag g)
  where
    by : (b : Bool) → without_list (cond b (record (state_loaded (record g { keys = more_keys g.keys more })) { loaded = true }) (state_loaded (record g { keys = more_keys g.keys more }))) ≡ cond b (record (state_loaded (without_list g)) { loaded = true }) (state_loaded (without_list g))
    by true = refl
    by false = refl

-- the positions behind it, where it joins its set
pub grown_joined : (more : List Row) (groups : List Group) (place n : ℕ) (g : Group) (s : TableState) → slice_get groups place ≡ Some g → OnePosition groups → OnePosition (groups_behind (of_set g.def.interval (Some place)) place (grows more) n s groups)
grown_joined more groups place n g s at one = join_one g.def.interval place n groups joins _
    (join_step g.def.interval place n groups joins (grows more) (λ x. flag_keeps (has_flag x) (state_loaded (fuller more x))) (λ x. flag_defined (has_flag x) (state_loaded (fuller more x))) _ (join_base g.def.interval place n groups joins s)) one
  where
    joins : (x : Group) → slice_get groups place ≡ Some x → x.def.interval ≡ g.def.interval
    joins x there = let both : Some x ≡ Some g = sym there ∙ at in let same : x ≡ g = cc in ap (λ (y : Group). y.def.interval) same

-- or is refreshed alone
grown_positions : (more : List Row) (groups : List Group) (place n : ℕ) (g : Group) (s : TableState) → slice_get groups place ≡ Some g → OnePosition groups → OnePosition (groups_behind (loaded_with g place) place (grows more) n s groups)
grown_positions more groups place n g s at one = by g.state refl
  where
    join : OnePosition (changed_from (alone place) (grows more) 0 (changed_from (of_set g.def.interval (Some place)) (at_position n s) 0 groups))
    join = grown_joined more groups place n g s at one

    by : (st : RefreshState) → g.state ≡ st → OnePosition (changed_from (alone place) (grows more) 0 (changed_from (loaded_with (record g { state = st }) place) (at_position n s) 0 groups))
    by On e = join
    by Paused e = join
    by Off e = alone_twice groups place (at_position n s) (grows more)
        (λ x there.
        let both : Some x ≡ Some g = sym there ∙ at in
        let same : x ≡ g = cc in
        hidden_state (grows more (at_position n s x))
        (ap is_on (flag_state (has_flag x) (state_loaded (fuller more (at_position n s x))))
        ∙ ap (λ (y : RefreshState). is_on (loaded_state y)) (ap (λ (y : Group). y.state) same ∙ e))) one

-- only READONLY groups are refreshed
pub joined_reads : (groups : List Group) (place : ℕ) (g : Group) → slice_get groups place ≡ Some g → is_read_only g ≡ true → (k : ℕ) (x : Group) → slice_get groups k ≡ Some x → of_set g.def.interval (Some place) k x ≡ true → is_read_only x ≡ true
joined_reads groups place g at reads k x at_k e = of (is_in_set g.def.interval x) refl e
  where
    at_place : nat_eq k place ≡ true → is_read_only x ≡ true
    at_place f =
        let both : Some x ≡ Some g = sym at_k ∙ ap (slice_get groups) (eqb-true k place f) ∙ at in
        let same : x ≡ g = cc in ap is_read_only same ∙ reads

    of : (b : Bool) → is_in_set g.def.interval x ≡ b → (b || nat_eq place k) ≡ true → is_read_only x ≡ true
    of true h f = (both_true (is_read_only x) (nat_eq x.def.interval g.def.interval) (both_true (is_read_only x && nat_eq x.def.interval g.def.interval) (is_on x.state) h).0).0
    of false h f = at_place (eq-eqb k place (sym (eqb-true place k f)))

read_with : (groups : List Group) (place : ℕ) (g : Group) → slice_get groups place ≡ Some g → is_read_only g ≡ true → (k : ℕ) (x : Group) → slice_get groups k ≡ Some x → loaded_with g place k x ≡ true → is_read_only x ≡ true
read_with groups place g at reads k x at_k c = by g.state c
  where
    at_place : nat_eq k place ≡ true → is_read_only x ≡ true
    at_place e =
        let both : Some x ≡ Some g = sym at_k ∙ ap (slice_get groups) (eqb-true k place e) ∙ at in
        let same : x ≡ g = cc in ap is_read_only same ∙ reads

    in_set : of_set g.def.interval (Some place) k x ≡ true → is_read_only x ≡ true
    in_set e = joined_reads groups place g at reads k x at_k e

    by : (st : RefreshState) → loaded_with (record g { state = st }) place k x ≡ true → is_read_only x ≡ true
    by On e = in_set e
    by Paused e = in_set e
    by Off e = at_place e

-- the group at a place is changed otherwise
pub alone_same : (place : ℕ) (f h : Group → Group) (groups : List Group) → ((g : Group) → slice_get groups place ≡ Some g → f g ≡ h g) → changed_from (alone place) f 0 groups ≡ changed_from (alone place) h 0 groups
alone_same place f h groups same =
    same_by_place (changed_from (alone place) f 0 groups) (changed_from (alone place) h 0 groups)
    (λ k. changed_now (alone place) f groups k ∙ by k (slice_get groups k) refl ∙ sym (changed_now (alone place) h groups k))
  where
    by : (k : ℕ) (o : Option Group) → slice_get groups k ≡ o → option_map (λ g. cond (alone place k g) (f g) g) (slice_get groups k) ≡ option_map (λ g. cond (alone place k g) (h g) g) (slice_get groups k)
    by k None e = ap (option_map (λ g. cond (alone place k g) (f g) g)) e ∙ sym (ap (option_map (λ g. cond (alone place k g) (h g) g)) e)
    by k (Some g) e = ap (option_map (λ x. cond (alone place k x) (f x) x)) e ∙ of (nat_eq k place) refl ∙ sym (ap (option_map (λ x. cond (alone place k x) (h x) x)) e)
      where
        of : (t : Bool) → nat_eq k place ≡ t → Some (cond (nat_eq k place) (f g) g) ≡ Some (cond (nat_eq k place) (h g) g)
        of true at = ap (λ t. Some (cond t (f g) g)) at ∙ ap (λ x. Some x) (same g (ap (slice_get groups) (sym (eqb-true k place at)) ∙ e)) ∙ sym (ap (λ t. Some (cond t (h g) g)) at)
        of false at = ap (λ t. Some (cond t (f g) g)) at ∙ sym (ap (λ t. Some (cond t (h g) g)) at)

-- the keys of rows, each once
pub rows_apart : (m : Table) → AreDistinct (fm.keys m)
rows_apart m = subst AreDistinct (filter_true (fm.keys m)) (apart_laws.load m [] tt)

empty_keys : fm.keys (fm.empty {X = Row} {R = key_order}) ≡ []
empty_keys = none (fm.keys (fm.empty {X = Row} {R = key_order})) (keys_long fm.empty ∙ fm.len-empty key_order Row)
  where
    none : (l : List Row) → length l ≡ 0 → l ≡ []
    none [] e = refl
    none (x ∷ l) e = absurd (omega (arith, e))

-- the judged rows
abbrev judged_with : Bool → TableState → Target → Table
judged_with refreshes s x = cond refreshes (held_roots x (view_roots s x)) (view_roots s x)

abbrev answer_with : Bool → Target → ℕ → World → Answer
answer_with true x n = held_answer x n
answer_with false x n = gained_answer x n

-- The snapshot came.
module _ {D : Type 0} (state : D → SiteState) (possible : D → ℕ → Held → Type 0) (old : Stored) (k : Option TierJournal) (d d' : D) (place : ℕ) (which : ResolvedWhich) (refreshes : Bool) (x : Target) (of : IsOfTarget x place which) (reads : is_read_only x.group ≡ true) (chosen : Choice) (chosen_is : chosen ≡ loaded_with x.group place)
    (sound : IsSound old) (dynamic_at : IsDynamicAt (groups_in old.catalog) place) (asked : List TableId) (read : asked ≡ Rattle.stored_tier.specs.Refreshing.tables_read chosen 0 (groups_in old.catalog)) (snapshot : Snapshot)
    (told : site.Told (state d).held (state d').held (site.BankCall (state d).shared (TakesSnapshot asked (Ok snapshot)))) (faults : (state d).bank_faults ≤ (state d').bank_faults) (moment : (state d).moment ≤ (state d').moment) (shares : (state d').shared ≡ (state d).shared)
    (certain : KeepsCertain state possible d d') (w : World) (at : IsAt (state d) w) (stands : StandsFor old w) (apart : IsUnshared w) (keeps : KeepsOver state possible d k w) (there : slice_get w.tier.groups place ≡ Some x.group) where
  abbrev n : ℕ
  n = snapshot.position.0

  abbrev seen : Group
  seen = without_list x.group

  seen_at : slice_get (groups_in old.catalog) place ≡ Some (without_list x.group)
  seen_at = group_kept old w.tier place x.group stands.stored there

  dynamic : x.group.def.dynamic ≡ true
  dynamic = dynamic_at (without_list x.group) seen_at

  store : (s : Kept) × (slice_get old.stores.items place ≡ Some s)
  store = store_kept old place (without_list x.group) sound seen_at

  hides : (h : RowsHeld) × (slice_get old.hidden.items place ≡ Some h)
  hides = hidden_kept old place (without_list x.group) sound seen_at

  stored_at : IsStoredAt old place (without_list x.group) store.0 hides.0
  stored_at = record { there = seen_at; kept = store.1; held = hides.1 }

  pub r : IsRead old (state d') (Ok snapshot.position.0) w
  r = read_here old (state d) (state d') asked snapshot chosen read told faults moment shares w at stands apart

  rs : ReadsState old r.world chosen snapshot
  unfolding r
  rs = reads_state old (state d) (state d') asked snapshot chosen read told faults moment shares w at stands apart

  keyed : Rattle.group_engine.specs.Fresh.HasOwnKeys rs.state x.group
  keyed = rs.keyed place (without_list x.group) seen_at

  picks : (y : Group) → chosen place y ≡ true
  picks y = ap (λ (c : Choice). c place y) chosen_is ∙ chosen_there x.group place y

  root_copied : table_at snapshot.tables x.group.def.tree.root.table ≡ table_at rs.state x.group.def.tree.root.table
  root_copied = rs.copied place (without_list x.group) seen_at (picks (without_list x.group)) x.group.def.tree.root.table (first_one x.group.def.tree.root.table (map (λ (c : Child). c.table) x.group.def.tree.children))

  backing_is : backing_at r.world n ≡ rs.state
  backing_is = ap state_or_none rs.there

  -- a journal is kept over the call
  keeps_mid : KeepsOver state possible d' k r.world
  keeps_mid = keeps_called state possible k d d' w r.world keeps certain r.call.journal (ap (λ (t : Tier). t.schema) r.tier) r.at

  -- memory was wanting for what was read
  wanted : (b : Bool) → ReadsDynamic b x w r.world (faulty code.Memory)
  wanted false = record { result = Ok n; mid = r.world; call = r.call; tier = r.tier; goes_on = inr (refl, refl) }
  wanted true = record { result = Ok n; mid = r.world; call = r.call; tier = r.tier; goes_on = inr (refl, refl) }

  left_so : (reply : Reply) → ReadsDynamic refreshes x w r.world reply → IsPerformedOver state possible old k d' (Some reply) (λ w'. ReadsDynamic refreshes x w w' reply)
  left_so reply is = record { world = r.world; at = r.at; is = is; stands = λ whole. r.stands; keeps = kept_unless keeps_mid }

  pub dynamic_wanting : IsPerformedOver state possible old k d' (Some (faulty code.Memory)) (λ w'. ReadsDynamic refreshes x w w' (faulty code.Memory))
  dynamic_wanting = left_so (faulty code.Memory) (wanted refreshes)

  -- its instances are those of its store and the hidden ones
  module _ (roots : HasRootKeys store.0) where
    held : (q : Row) → is_key x.group.keys q ≡ is_held store.0 hides.0.table q
    held = stored_keys old w.tier place x.group store.0 hides.0 sound stands.stored there store.1 hides.1 roots dynamic

    judged_is : (b : Bool) → overflow_fault x.filter (judged_with b (backing_at r.world n) x) ≡ broken_if (overflows_past b which (without_list x.group) store.0 hides.0.table snapshot.tables) (plain code.Overflow)
    judged_is true =
        ap (λ s. overflow_fault x.filter (held_roots x (view_roots s x))) backing_is
        ∙ ap (λ o. broken_if o (plain code.Overflow)) (refresh_judged rs.state x store.0 hides.0.table keyed held which of.filter ∙ ap (any_bad (is_bad true which x.group store.0 hides.0.table)) (sym root_copied))
    judged_is false =
        ap (λ s. overflow_fault x.filter (view_roots s x)) backing_is
        ∙ ap (λ o. broken_if o (plain code.Overflow)) (load_judged rs.state x store.0 hides.0.table keyed held which of.filter ∙ ap (any_bad (is_bad false which x.group store.0 hides.0.table)) (sym root_copied))

    went_on : (b : Bool) → overflows_past b which (without_list x.group) store.0 hides.0.table snapshot.tables ≡ false → (w' : World) (reply : Reply) → Settles x (answer_with b x n) r.world w' reply → ReadsDynamic b x w w' reply
    went_on true fits w' reply is = record {
      result = Ok n;
      mid = r.world;
      call = r.call;
      tier = r.tier;
      goes_on = inl (subst (λ f. Unless f (Settles x (held_answer x n)) r.world w' reply) (sym (judged_is true ∙ ap (λ o. broken_if o (plain code.Overflow)) fits)) is);
    }
    went_on false fits w' reply is = record {
      result = Ok n;
      mid = r.world;
      call = r.call;
      tier = r.tier;
      goes_on = inl (subst (λ f. Unless f (Settles x (gained_answer x n)) r.world w' reply) (sym (judged_is false ∙ ap (λ o. broken_if o (plain code.Overflow)) fits)) is);
    }

    overflowed : (b : Bool) → overflows_past b which (without_list x.group) store.0 hides.0.table snapshot.tables ≡ true → (rule : Rule) → rule ≡ plain code.Overflow → ReadsDynamic b x w r.world (only (No rule))
    overflowed true over rule is = record {
      result = Ok n;
      mid = r.world;
      call = r.call;
      tier = r.tier;
      goes_on = inl (subst (λ f. Unless f (Settles x (held_answer x n)) r.world r.world (only (No rule))) (sym (judged_is true ∙ ap (λ o. broken_if o (plain code.Overflow)) over)) (refl, ap (λ y. only (No y)) is));
    }
    overflowed false over rule is = record {
      result = Ok n;
      mid = r.world;
      call = r.call;
      tier = r.tier;
      goes_on = inl (subst (λ f. Unless f (Settles x (gained_answer x n)) r.world r.world (only (No rule))) (sym (judged_is false ∙ ap (λ o. broken_if o (plain code.Overflow)) over)) (refl, ap (λ y. only (No y)) is));
    }

  -- 120
  pub dynamic_over : TellsOverflow old place which refreshes snapshot.tables true → (rule : Rule) → rule ≡ plain code.Overflow → IsPerformedOver state possible old k d' (Some (only (No rule))) (λ w'. ReadsDynamic refreshes x w w' (only (No rule)))
  dynamic_over tells rule is =
      let so = tells (without_list x.group) store.0 hides.0 stored_at in
      left_so (only (No rule)) (overflowed so.0 refreshes (sym so.1) rule is)

  -- 119 of the journal
  pub dynamic_full : TellsOverflow old place which refreshes snapshot.tables false → (ready : Ready) → IsReadyFor r.world.tier.schema k ready (load_entries x.group) → is_full_ready ready ≡ true → (reply : Reply) → reply ≡ only (No (past limit.JournalSlot))
      → IsPerformedOver state possible old k d' (Some reply) (λ w'. ReadsDynamic refreshes x w w' reply)
  dynamic_full tells ready of_ready full reply is =
      let so = tells (without_list x.group) store.0 hides.0 stored_at in
      left_so reply (went_on so.0 refreshes (sym so.1) r.world reply (full_then state possible k d' r.world ready (load_entries x.group) (Answers (answer_with refreshes x n)) reply keeps_mid of_ready full is))

  -- it is loaded, or refreshed
  module _ (tells : TellsOverflow old place which refreshes snapshot.tables false) (new : Stored) (gained : Gained) (g : IsGained old place which refreshes (is_filled chosen (Some place)) snapshot.tables gained) (is : IsRefreshed old new chosen place loads_group n gained.made.items) where
    roots : HasRootKeys store.0
    roots = (tells (without_list x.group) store.0 hides.0 stored_at).0

    abbrev more : List Row
    more = fm.keys (gained_of refreshes g.rows)

    rows_are : g.rows ≡ taken_in refreshes which x.group store.0 hides.0.table rs.state
    rows_are =
        g.taken (without_list x.group) store.0 hides.0 stored_at
        ∙ ap (Rattle.stored_tier.specs.Choosing.chosen (is_taken refreshes which x.group store.0 hides.0.table)) root_copied

    from_snapshot : (y : Group) (s : Kept) (h : RowsHeld) → IsStoredAt old place y s h → (q row : Row) → fm.get (gained_of refreshes g.rows) q ≡ Some row → fm.get (table_at snapshot.tables y.def.tree.root.table) q ≡ Some row
    from_snapshot y s h here q row e = by refreshes refl e
      where
        taken : (b : Bool) → refreshes ≡ b → fm.get g.rows q ≡ Some row → fm.get (table_at snapshot.tables y.def.tree.root.table) q ≡ Some row
        taken b same found = taken_row (is_taken refreshes which y s h.table) (table_at snapshot.tables y.def.tree.root.table) q row (ap (λ (m : Table). fm.get m q) (sym (g.taken y s h here)) ∙ found)

        by : (b : Bool) → refreshes ≡ b → fm.get (cond b fm.empty g.rows) q ≡ Some row → fm.get (table_at snapshot.tables y.def.tree.root.table) q ≡ Some row
        by true same found = let none : None ≡ Some row = sym (fm.get-empty key_order q) ∙ found in cc
        by false same found = taken false same found

    fresh : AreGained old r.world (is_filled chosen (Some place)) place (fm.keys (gained_of refreshes g.rows)) snapshot.position.0 gained.made.items
    unfolding r
    fresh = gained_read old (state d) (state d') asked snapshot chosen read told faults moment shares w at stands apart (Some place) gained.made.items place (gained_of refreshes g.rows) g.made
        (λ y y_at. picks y) from_snapshot (λ y s h here. (hiding_there old.schema (groups_in old.catalog) old.stores.items old.hidden.items place y s h sound.hiding here.there here.kept here.held).key)

    same_state : fresh.state ≡ rs.state
    same_state = let both : Some fresh.state ≡ Some rs.state = sym fresh.there ∙ rs.there in cc

    -- what LOAD gains
    gains_of : (b : Bool) → refreshes ≡ b → GainsOnly rs.state x.group (fm.keys (cond b fm.empty g.rows))
    gains_of true kind = subst (GainsOnly rs.state x.group) (sym empty_keys) (gains_nothing rs.state x.group)
    gains_of false kind = record {
      apart = rows_apart g.rows;
      unheld = λ q e. turned (is_key x.group.keys q) (both_true (is_key (fm.keys (matching_past rs.state x)) q) (not (is_key x.group.keys q)) (sym (key_left (λ y. not (is_key x.group.keys y)) (fm.keys (matching_past rs.state x)) q) ∙ ap (λ l. is_key l q) (sym new_is) ∙ e)).1;
      past = λ q e. matching_in_view rs.state x store.0 hides.0.table keyed (held roots) place which of q (both_true (is_key (fm.keys (matching_past rs.state x)) q) (not (is_key x.group.keys q)) (sym (key_left (λ y. not (is_key x.group.keys y)) (fm.keys (matching_past rs.state x)) q) ∙ ap (λ l. is_key l q) (sym new_is) ∙ e)).0;
    }
      where
        turned : (b : Bool) → not b ≡ true → b ≡ false
        turned true e = cc
        turned false e = refl

        new_is : fm.keys g.rows ≡ new_keys x (matching_past rs.state x)
        new_is = ap fm.keys (rows_are ∙ ap (λ b. taken_in b which x.group store.0 hides.0.table rs.state) kind) ∙ sym (new_keys_are rs.state x store.0 hides.0.table keyed (held roots) place which of)

    group_is : (y : Group) → slice_get r.world.tier.groups place ≡ Some y → y ≡ x.group
    group_is y y_at = let both : Some y ≡ Some x.group = sym y_at ∙ ap (λ (t : Tier). slice_get t.groups place) r.tier ∙ there in cc

    there_mid : slice_get r.world.tier.groups place ≡ Some x.group
    there_mid = ap (λ (t : Tier). slice_get t.groups place) r.tier ∙ there

    changes : GainChanges true place chosen (Some place) (fm.keys (gained_of refreshes g.rows)) (grows (fm.keys (gained_of refreshes g.rows)))
    changes = record {
      flagged = grown_flagged (fm.keys (gained_of refreshes g.rows));
      loads_is = refl;
      chosen_is = λ y e. picks y;
      unlisted = λ i y. ap (λ (c : Choice). c i (without_list y)) chosen_is ∙ unlisted_with x.group place i y ∙ sym (ap (λ (c : Choice). c i y) chosen_is);
      gaining = λ y e. absurd (never_both (chosen place y) (picks y) e);
    }

    stands_last : StandsFor new (record r.world { tier = tier_behind chosen place (grows (fm.keys (gained_of refreshes g.rows))) n (backing_at r.world n) r.world.tier })
    stands_last = gained_behind old new r.world true place chosen (Some place) (fm.keys (gained_of refreshes g.rows)) (grows (fm.keys (gained_of refreshes g.rows))) loads_group changes n gained.made.items r.stands fresh is
        (λ y y_at. subst (λ s. GainsOnly s y (fm.keys (gained_of refreshes g.rows))) (sym same_state) (subst (λ z. GainsOnly rs.state z (fm.keys (gained_of refreshes g.rows))) (sym (group_is y y_at)) (gains_of refreshes refl)))
        (λ i y y_at c. read_with r.world.tier.groups place x.group there_mid reads i y y_at (ap (λ (p : Choice). p i y) (sym chosen_is) ∙ c))
        (grown_mapped (fm.keys (gained_of refreshes g.rows)))
        (λ s. subst (λ c. OnePosition (groups_behind c place (grows (fm.keys (gained_of refreshes g.rows))) n s r.world.tier.groups)) (sym chosen_is) (grown_positions (fm.keys (gained_of refreshes g.rows)) r.world.tier.groups place n x.group s there_mid r.stands.stands.read.one))

    -- the group that gains keys, and what LOAD says of it
    gained_keys : refreshes ≡ false → more_keys (filter (is_in_view rs.state x.group) x.group.keys) (fm.keys (gained_of refreshes g.rows)) ≡ with_keys (fm.keys (matching_past rs.state x)) (filter (is_in_view rs.state x.group) x.group.keys)
    gained_keys kind =
        more_is (filter (is_in_view rs.state x.group) x.group.keys) (fm.keys (gained_of refreshes g.rows))
        ∙ ap (λ l. filter (is_in_view rs.state x.group) x.group.keys ++ l)
        (ap (λ b. fm.keys (cond b fm.empty g.rows)) kind
        ∙ ap fm.keys (rows_are ∙ ap (λ b. taken_in b which x.group store.0 hides.0.table rs.state) kind)
        ∙ sym (new_keys_are rs.state x store.0 hides.0.table keyed (held roots) place which of)
        ∙ filter_same (λ q. not (is_key x.group.keys q)) (λ q. not (is_key (filter (is_in_view rs.state x.group) x.group.keys) q)) (fm.keys (matching_past rs.state x)) (λ q e.
        ap not (sym (key_left (is_in_view rs.state x.group) x.group.keys q ∙ ap (λ b. is_key x.group.keys q && b) (matching_in_view rs.state x store.0 hides.0.table keyed (held roots) place which of q e) ∙ and_true (is_key x.group.keys q)))))
      where
        and_true : (b : Bool) → (b && true) ≡ b
        and_true true = refl
        and_true false = refl

    tier_is : (b : Bool) → refreshes ≡ b → tier_behind chosen place (grows (fm.keys (gained_of refreshes g.rows))) n (backing_at r.world n) r.world.tier ≡ (answer_with b x n r.world).0
    tier_is true kind =
        (λ i. tier_behind (chosen_is i) place (grows (fm.keys (cond (kind i) fm.empty g.rows))) n (backing_at r.world n) r.world.tier)
        ∙ (λ i. tier_behind (loaded_with x.group place) place (grows (empty_keys i)) n (backing_at r.world n) r.world.tier)
        ∙ ap (λ p. tier_behind (loaded_with x.group p) p loads_group n (backing_at r.world n) r.world.tier) (sym of.place)
    tier_is false kind =
        (λ i. tier_behind (chosen_is i) place (grows (fm.keys (gained_of refreshes g.rows))) n (backing_at r.world n) r.world.tier)
        ∙ ap (λ gs. record r.world.tier { groups = gs })
        (alone_same place (grows (fm.keys (gained_of refreshes g.rows))) (λ y. with_flag true (state_loaded (gains (fm.keys (matching_past (backing_at r.world n) x)) (backing_at r.world n) y))) (changed_from (loaded_with x.group place) (at_position n (backing_at r.world n)) 0 r.world.tier.groups) (λ y y_at. one y y_at))
        ∙ ap (λ p. changed (alone p) (λ y. with_flag true (state_loaded (gains (fm.keys (matching_past (backing_at r.world n) x)) (backing_at r.world n) y))) (refreshed (loaded_with x.group p) n (backing_at r.world n) r.world.tier)) (sym of.place)
      where
        keys_so : more_keys (filter (is_in_view (backing_at r.world n) x.group) x.group.keys) (fm.keys (gained_of refreshes g.rows)) ≡ with_keys (fm.keys (matching_past (backing_at r.world n) x)) (filter (is_in_view (backing_at r.world n) x.group) x.group.keys)
        keys_so = subst (λ s. more_keys (filter (is_in_view s x.group) x.group.keys) (fm.keys (gained_of refreshes g.rows)) ≡ with_keys (fm.keys (matching_past s x)) (filter (is_in_view s x.group) x.group.keys)) (sym backing_is) (gained_keys kind)

        picked : (y : Group) → slice_get (changed_from (loaded_with x.group place) (at_position n (backing_at r.world n)) 0 r.world.tier.groups) place ≡ Some y → y ≡ at_position n (backing_at r.world n) x.group
        picked y y_at =
            let both : Some y ≡ Some (cond (loaded_with x.group place place x.group) (at_position n (backing_at r.world n) x.group) x.group) = sym y_at ∙ changed_at (loaded_with x.group place) (at_position n (backing_at r.world n)) r.world.tier.groups place x.group there_mid in
            let same : y ≡ cond (loaded_with x.group place place x.group) (at_position n (backing_at r.world n) x.group) x.group = cc in
            same ∙ ap (λ b. cond b (at_position n (backing_at r.world n) x.group) x.group) (chosen_there x.group place x.group)

        one : (y : Group) → slice_get (changed_from (loaded_with x.group place) (at_position n (backing_at r.world n)) 0 r.world.tier.groups) place ≡ Some y → grows (fm.keys (gained_of refreshes g.rows)) y ≡ with_flag true (state_loaded (gains (fm.keys (matching_past (backing_at r.world n) x)) (backing_at r.world n) y))
        one y y_at =
            ap (grows (fm.keys (gained_of refreshes g.rows))) (picked y y_at)
            ∙ ap (λ l. loads_group (record (at_position n (backing_at r.world n) x.group) { keys = l })) keys_so
            ∙ ap (λ z. with_flag true (state_loaded (gains (fm.keys (matching_past (backing_at r.world n) x)) (backing_at r.world n) z))) (sym (picked y y_at))

    -- what is told
    told_is : (b : Bool) → refreshes ≡ b → only (Done gained.count) ≡ (answer_with b x n r.world).1
    told_is true kind =
        ap (λ m. only (Done m)) g.count
        ∙ ap (λ m. only (Done (fm.len m))) (rows_are ∙ ap (λ b. taken_in b which x.group store.0 hides.0.table rs.state) kind ∙ sym (held_are rs.state x store.0 hides.0.table keyed (held roots) place which of))
        ∙ ap (λ s. only (Done (fm.len (held_roots x (matching_past s x))))) (sym backing_is)
    told_is false kind =
        ap (λ m. only (Done m)) (g.count ∙ sym (keys_long g.rows))
        ∙ ap (λ l. only (Done (length l))) (ap fm.keys (rows_are ∙ ap (λ b. taken_in b which x.group store.0 hides.0.table rs.state) kind) ∙ sym (new_keys_are rs.state x store.0 hides.0.table keyed (held roots) place which of))
        ∙ ap (λ s. only (Done (length (new_keys x (matching_past s x))))) (sym backing_is)

    ignores : (b : Bool) → IgnoresDisk (answer_with b x n) r.world
    ignores true = λ j faults moment. refl
    ignores false = λ j faults moment. refl

    pub dynamic_done : (k' : Option TierJournal) (last : D) (ready : Ready) → IsReadyFor r.world.tier.schema k ready (load_entries x.group) → (told_reply reply : Reply) → told_reply ≡ only (Done gained.count) → AnswersBehind state possible k k' d' last ready told_reply reply
        → IsPerformedOver state possible new k' last (Some reply) (λ w'. ReadsDynamic refreshes x w w' reply)
    dynamic_done k' last ready of_ready told_reply reply said answers =
        let p = answers new r.world (load_entries x.group) (answer_with refreshes x n) r.at keeps_mid of_ready
        (subst (λ (t : Tier). StandsFor new (with_tier t r.world)) (tier_is refreshes refl) stands_last) (ap (λ (t : Tier). t.schema) (sym (tier_is refreshes refl))) (ignores refreshes) (said ∙ told_is refreshes refl) in
        record { world = p.world; at = p.at; is = went_on roots refreshes (sym (tells (without_list x.group) store.0 hides.0 stored_at).1) p.world reply p.is; stands = p.stands; keeps = p.keeps }

-- the call failed, or wasn't made

failing : (b : Bool) (x : Target) (w mid : World) (e : BankError) (reply : Reply) → BankCall (TellsPosition (Err e)) w mid → mid.tier ≡ w.tier → reply ≡ bank_fault e → ReadsDynamic b x w mid reply
failing b x w mid e reply call tier is = record { result = Err e; mid = mid; call = call; tier = tier; goes_on = (refl, is) }

pub dynamic_uncalled : {D : Type 0} (state : D → SiteState) (possible : D → ℕ → Held → Type 0) (t : Stored) (k : Option TierJournal) (d : D) (refreshes : Bool) (x : Target) (w : World) → IsAt (state d) w → StandsFor t w → KeepsOver state possible d k w
    → IsPerformedOver state possible t k d (Some (faulty code.Memory)) (λ w'. ReadsDynamic refreshes x w w' (faulty code.Memory))
dynamic_uncalled state possible t k d refreshes x w at stands keeps = record {
  world = w;
  at = at;
  is = failing refreshes x w w Memory (faulty code.Memory) (no_call w) refl refl;
  stands = λ whole. stands;
  keeps = kept_unless keeps;
}

pub dynamic_failed : {D : Type 0} (state : D → SiteState) (possible : D → ℕ → Held → Type 0) (t : Stored) (k : Option TierJournal) (d d' : D) (refreshes : Bool) (x : Target) (e : BankError) (reply : Reply) → reply ≡ bank_fault e → KeepsCertain state possible d d' → (w : World) → KeepsOver state possible d k w → IsRead t (state d') (Err e) w
    → IsPerformedOver state possible t k d' (Some reply) (λ w'. ReadsDynamic refreshes x w w' reply)
dynamic_failed state possible t k d d' refreshes x e reply is certain w keeps r = record {
  world = r.world;
  at = r.at;
  is = failing refreshes x w r.world e reply r.call r.tier is;
  stands = λ whole. r.stands;
  keeps = kept_unless (keeps_called state possible k d d' w r.world keeps certain r.call.journal (ap (λ (t : Tier). t.schema) r.tier) r.at);
}

-- STATE alone changes of a dynamic READONLY group
pub stated_once : (groups : List Group) (place n : ℕ) (chosen : Choice) (st : RefreshState) → IsDynamicAt groups place → Rattle.stored_tier.specs.Refreshing.IsStateAt groups place st → ((g : Group) → slice_get groups place ≡ Some g → is_read_only g ≡ true)
    → changed_from (alone place) (λ h. record h { state = st }) 0 (changed_from chosen (positioned n) 0 groups) ≡ changed_from (alone place) loads_group 0 (changed_from chosen (positioned n) 0 groups)
stated_once groups place n chosen st dynamic_there state reads_there = alone_same place (λ h. record h { state = st }) loads_group (changed_from chosen (positioned n) 0 groups) (λ h at. by h (slice_get groups place) refl (sym (changed_now chosen (positioned n) groups place) ∙ at))
  where
    by : (h : Group) (o : Option Group) → slice_get groups place ≡ o → option_map (λ g. cond (chosen place g) (positioned n g) g) (slice_get groups place) ≡ Some h → record h { state = st } ≡ loads_group h
    by h None e at = let wrong : None ≡ Some h = ap (option_map (λ g. cond (chosen place g) (positioned n g) g)) (sym e) ∙ at in cc
    by h (Some g) e at =
        let both : Some (cond (chosen place g) (positioned n g) g) ≡ Some h = ap (option_map (λ x. cond (chosen place x) (positioned n x) x)) (sym e) ∙ at in
        let is : cond (chosen place g) (positioned n g) g ≡ h = cc in
        let none : has_flag h ≡ false = ap has_flag (sym is) ∙ kept (chosen place g) g ∙ (λ i. not (reads_there g e i) || not (dynamic_there g e i)) in
        sym (ap (λ b. cond b (record (state_loaded h) { loaded = true }) (state_loaded h)) none
        ∙ ap (λ x. record h { state = x }) (ap (λ (y : Group). loaded_state y.state) (sym is) ∙ same (chosen place g) g ∙ sym (state g e)))
      where
        kept : (b : Bool) (x : Group) → has_flag (cond b (positioned n x) x) ≡ has_flag x
        kept true x = refl
        kept false x = refl

        same : (b : Bool) (x : Group) → loaded_state (cond b (positioned n x) x).state ≡ loaded_state x.state
        same true x = refl
        same false x = refl
