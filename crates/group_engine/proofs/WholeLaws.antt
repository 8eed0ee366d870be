-- A READONLY group that is loaded with its set, or alone.
use Rattle.std.proofs.Common.{◌≡◌, ℕ, Bool, true, false, cond, not, ◌&&◌, ◌||◌, nat_eq, Option, Some, None, List, map, slice_get, refl, sym, ap, subst, ◌∙◌, inl, inr, ⊎_elim}
use Rattle.std.specs.Prelude.{Result, Ok, Err}
use Rattle.std.specs.Bool.{MatchBool}
use Rattle.std.specs.Option.{option_map}
use Rattle.std.proofs.lemmas.Bool.{eq-eqb, eqb-true}
use Rattle.std.specs.FinMap.{len}
use Rattle.sql_subset.specs.declared.stmt.RefreshState.{RefreshState}
use Rattle.sql_subset.specs.declared.stmt.RefreshState.TheVariants.{On, Off, Paused}
use Rattle.table_state.specs.Tables.{TableState}
use Rattle.outside.specs.declared.fault.BankError.{BankError}
use Rattle.group_catalog.specs.Catalogs.{groups_in}
use Rattle.stored_tier.specs.declared.refreshing.Made.{Made}
use Rattle.cache_tier.specs.declared.reply.Reply.{Reply}
use Rattle.cache_tier.specs.declared.reply.Last.TheVariants.{Done, No}
use Rattle.cache_tier.specs.Rules.{past}
use Rattle.tier_base.specs.declared.limit.Limit.TheVariants as limit
use Rattle.cache_tier.specs.Groups.{Group, is_explicit, is_on, is_read_only, is_writethrough}
use Rattle.cache_tier.specs.DynamicLoads.{state_loaded}
use Rattle.cache_tier.specs.Reading.{Answers, FollowsAt, backing_at}
use Rattle.cache_tier.specs.Sets.{Choice, OnePosition, alone, at_position, changed_from, loaded_state, loaded_with, of_set, is_in_set, set_tried}
use Rattle.cache_tier.specs.Targets.{Settles, Target, has_flag, load_entries, shown_count, whole_answer, with_flag}
use Rattle.cache_tier.specs.TierStates.{Tier, refresh_tried}
use Rattle.cache_tier.specs.Worlds.{BankCall, World, bank_fault, only}
use Rattle.cache_tier.proofs.PositionLaws.{alone_twice, hidden_state, join_base, join_one, join_step}
use Rattle.order_laws.proofs.TruthLaws.{both_true, or_true}
use Rattle.instances.specs.Trees.{place_of}
use Rattle.stored_tier.specs.declared.tier.Tier.{Tier as Stored}
use Rattle.group_engine.specs.Fresh.{AreFresh, IsRead}
use Rattle.group_engine.specs.Loaded.{IsExplicitAt, IsReadyToLoad, ReadsWhole, whole_target}
use Rattle.group_engine.specs.declared.ready.Ready.{Ready}
use Rattle.group_engine.specs.Ready.{AnswersBehind, IsReadyFor, is_full_ready}
use Rattle.group_engine.proofs.ReadyLaws.{full_then}
use Rattle.table_defs.specs.declared.definition.TableDef.{TableDef}
use Rattle.outside.specs.Holding.{Held}
use Rattle.tier_journal.specs.KeptOver.{KeepsOver}
use Rattle.propagators.specs.Certainty.{KeepsCertain}
use Rattle.tier_journal.specs.declared.journal.TierJournal.{TierJournal}
use Rattle.tier_journal.proofs.WayLaws.{kept_unless}
use Rattle.stored_tier.proofs.OverLaws.{keeps_called}
use Rattle.stored_tier.specs.Performing.{IsPerformedOver, StandsFor}
use Rattle.stored_tier.specs.Refreshing.{IsStateAt, is_filled, is_off, positioned, roots_kept}
use Rattle.stored_tier.specs.Sites.{IsAt}
use Rattle.outside.specs.Sites.{SiteState}
use Rattle.stored_tier.specs.Stored.{AreKept, IsSound, without_list}
use Rattle.stored_tier.proofs.ListLaws.{kept_long}
use Rattle.group_engine.proofs.ChangedLists.{changed_at, mapped_there}
use Rattle.group_engine.proofs.FreshGroup.{Changes, IsFlagged}
use Rattle.group_engine.proofs.FreshLaws.{IsRefreshed, groups_behind, stands_behind, tier_behind}
use Rattle.stored_tier.proofs.RefreshSteps.{same_by_place, changed_now}
use Rattle.group_engine.proofs.GroupRows.{same_there, there_too}
use Rattle.group_engine.proofs.ShownStores.{each_shows}

-- the group at the place is changed twice, as once
pub alone_two : (place : ℕ) (a b f : Group → Group) (groups : List Group) → ((g : Group) → slice_get groups place ≡ Some g → a (b g) ≡ f g) → changed_from (alone place) a 0 (changed_from (alone place) b 0 groups) ≡ changed_from (alone place) f 0 groups
alone_two place a b f groups same =
    same_by_place (changed_from (alone place) a 0 (changed_from (alone place) b 0 groups)) (changed_from (alone place) f 0 groups)
    (λ k. changed_now (alone place) a (changed_from (alone place) b 0 groups) k ∙ ap (option_map (λ g. cond (alone place k g) (a g) g)) (changed_now (alone place) b groups k) ∙ by k (slice_get groups k) refl ∙ sym (changed_now (alone place) f groups k))
  where
    by : (k : ℕ) (o : Option Group) → slice_get groups k ≡ o → option_map (λ g. cond (alone place k g) (a g) g) (option_map (λ g. cond (alone place k g) (b g) g) (slice_get groups k)) ≡ option_map (λ g. cond (alone place k g) (f g) g) (slice_get groups k)
    by k None e = ap (λ o. option_map (λ g. cond (alone place k g) (a g) g) (option_map (λ g. cond (alone place k g) (b g) g) o)) e ∙ sym (ap (option_map (λ g. cond (alone place k g) (f g) g)) e)
    by k (Some g) e =
        ap (λ o. option_map (λ x. cond (alone place k x) (a x) x) (option_map (λ x. cond (alone place k x) (b x) x) o)) e
        ∙ of (nat_eq k place) refl
        ∙ sym (ap (option_map (λ x. cond (alone place k x) (f x) x)) e)
      where
        of : (t : Bool) → nat_eq k place ≡ t → Some (cond (nat_eq k place) (a (cond (nat_eq k place) (b g) g)) (cond (nat_eq k place) (b g) g)) ≡ Some (cond (nat_eq k place) (f g) g)
        of true h =
            ap (λ t. Some (cond t (a (cond t (b g) g)) (cond t (b g) g))) h
            ∙ ap (λ x. Some x) (same g (ap (slice_get groups) (sym (eqb-true k place h)) ∙ e))
            ∙ sym (ap (λ t. Some (cond t (f g) g)) h)
        of false h = ap (λ t. Some (cond t (a (cond t (b g) g)) (cond t (b g) g))) h ∙ sym (ap (λ t. Some (cond t (f g) g)) h)

-- what becomes of the group
abbrev pub loads_group : Group → Group
loads_group g = with_flag true (state_loaded g)

flag_there : (g : Group) → is_explicit g ≡ true → has_flag g ≡ true
flag_there g e = ap (λ b. is_writethrough g || b) e ∙ or_true (is_writethrough g)

loads_is : (g : Group) → is_explicit g ≡ true → loads_group g ≡ record g { state = loaded_state g.state; loaded = true }
loads_is g e = ap (λ b. cond b (record (state_loaded g) { loaded = true }) (state_loaded g)) (flag_there g e)

pub loads_mapped : (g : Group) → without_list (loads_group g) ≡ loads_group (without_list g)
loads_mapped g = by (has_flag g)
  where
    by : (b : Bool) → without_list (cond b (record (state_loaded g) { loaded = true }) (state_loaded g)) ≡ cond b (record (state_loaded (without_list g)) { loaded = true }) (state_loaded (without_list g))
    by true = refl
    by false = refl

pub loads_flagged : (g : Group) → (true ≡ true → is_read_only g ≡ true) → IsFlagged (is_explicit g) g (loads_group g)
loads_flagged g reads = by (is_explicit g) refl
  where
    or_none : (b : Bool) → b ≡ (b || false)
    or_none true = refl
    or_none false = refl

    by : (b : Bool) → is_explicit g ≡ b → IsFlagged b g (loads_group g)
    by true e =
        let is = loads_is g e in
        let state = ap (λ (x : Group). x.state) is in
        record { is = is ∙ (λ i. record g { state = sym state i; loaded = sym (or_true g.loaded) i }) }
    by false e =
        let none : has_flag g ≡ false = λ i. not (reads refl i) || e i in
        let is : loads_group g ≡ state_loaded g = ap (λ b. cond b (record (state_loaded g) { loaded = true }) (state_loaded g)) none in
        let state = ap (λ (x : Group). x.state) is in
        record { is = is ∙ (λ i. record g { state = sym state i; loaded = or_none g.loaded i }) }

pub flag_keeps : (b : Bool) (g : Group) → (cond b (record g { loaded = true }) g).position ≡ g.position
flag_keeps true g = refl
flag_keeps false g = refl

pub flag_defined : (b : Bool) (g : Group) → (cond b (record g { loaded = true }) g).def.interval ≡ g.def.interval
flag_defined true g = refl
flag_defined false g = refl

pub flag_state : (b : Bool) (g : Group) → (cond b (record g { loaded = true }) g).state ≡ g.state
flag_state true g = refl
flag_state false g = refl

pub chosen_there : (g : Group) (place : ℕ) (x : Group) → loaded_with g place place x ≡ true
chosen_there g place x = by g.state
  where
    here : nat_eq place place ≡ true
    here = eq-eqb place place refl

    by : (st : RefreshState) → loaded_with (record g { state = st }) place place x ≡ true
    by On = ap (λ b. is_in_set g.def.interval x || b) here ∙ or_true (is_in_set g.def.interval x)
    by Paused = ap (λ b. is_in_set g.def.interval x || b) here ∙ or_true (is_in_set g.def.interval x)
    by Off = here

pub unlisted_with : (g : Group) (place k : ℕ) (x : Group) → loaded_with g place k (without_list x) ≡ loaded_with g place k x
unlisted_with g place k x = by g.state
  where
    by : (st : RefreshState) → loaded_with (record g { state = st }) place k (without_list x) ≡ loaded_with (record g { state = st }) place k x
    by On = refl
    by Paused = refl
    by Off = refl

-- the positions behind it
pub loaded_positions : (groups : List Group) (place n : ℕ) (g : Group) (s : TableState) → slice_get groups place ≡ Some g → OnePosition groups → OnePosition (groups_behind (loaded_with g place) place loads_group n s groups)
loaded_positions groups place n g s at one = by g.state refl
  where
    joins : (x : Group) → slice_get groups place ≡ Some x → x.def.interval ≡ g.def.interval
    joins x there = let both : Some x ≡ Some g = sym there ∙ at in let same : x ≡ g = cc in ap (λ (y : Group). y.def.interval) same

    join : OnePosition (changed_from (alone place) loads_group 0 (changed_from (of_set g.def.interval (Some place)) (at_position n s) 0 groups))
    join = join_one g.def.interval place n groups joins _
        (join_step g.def.interval place n groups joins loads_group (λ x. flag_keeps (has_flag x) (state_loaded x)) (λ x. flag_defined (has_flag x) (state_loaded x)) _ (join_base g.def.interval place n groups joins s)) one

    by : (st : RefreshState) → g.state ≡ st → OnePosition (changed_from (alone place) loads_group 0 (changed_from (loaded_with (record g { state = st }) place) (at_position n s) 0 groups))
    by On e = join
    by Paused e = join
    by Off e = alone_twice groups place (at_position n s) loads_group
        (λ x there.
        let both : Some x ≡ Some g = sym there ∙ at in
        let same : x ≡ g = cc in
        hidden_state (loads_group (at_position n s x))
        (ap is_on (flag_state (has_flag x) (state_loaded (at_position n s x)))
        ∙ ap (λ (y : RefreshState). is_on (loaded_state y)) (ap (λ (y : Group). y.state) same ∙ e))) one

-- STATE and the loaded flag, one after the other
pub loaded_once : (groups : List Group) (place n : ℕ) (chosen : Choice) (st : RefreshState) → IsExplicitAt groups place → IsStateAt groups place st
    → changed_from (alone place) (λ h. record h { state = st }) 0 (changed_from (alone place) (λ h. record h { loaded = true }) 0 (changed_from chosen (positioned n) 0 groups)) ≡ changed_from (alone place) loads_group 0 (changed_from chosen (positioned n) 0 groups)
loaded_once groups place n chosen st explicit_there state = alone_two place (λ h. record h { state = st }) (λ h. record h { loaded = true }) loads_group (changed_from chosen (positioned n) 0 groups) (λ h at. by h (slice_get groups place) refl (sym (changed_now chosen (positioned n) groups place) ∙ at))
  where
    by : (h : Group) (o : Option Group) → slice_get groups place ≡ o → option_map (λ g. cond (chosen place g) (positioned n g) g) (slice_get groups place) ≡ Some h → record h { loaded = true; state = st } ≡ loads_group h
    by h None e at = let wrong : None ≡ Some h = ap (option_map (λ g. cond (chosen place g) (positioned n g) g)) (sym e) ∙ at in cc
    by h (Some g) e at =
        let both : Some (cond (chosen place g) (positioned n g) g) ≡ Some h = ap (option_map (λ x. cond (chosen place x) (positioned n x) x)) (sym e) ∙ at in
        let is : cond (chosen place g) (positioned n g) g ≡ h = cc in
        let explicit : is_explicit g ≡ true = explicit_there g e in
        sym (loads_is h (ap is_explicit (sym is) ∙ kept (chosen place g) g ∙ explicit) ∙ ap (λ x. record h { state = x; loaded = true }) (ap (λ (y : Group). loaded_state y.state) (sym is) ∙ same (chosen place g) g ∙ sym (state g e)))
      where
        kept : (b : Bool) (x : Group) → is_explicit (cond b (positioned n x) x) ≡ is_explicit x
        kept true x = refl
        kept false x = refl

        same : (b : Bool) (x : Group) → loaded_state (cond b (positioned n x) x).state ≡ loaded_state x.state
        same true x = refl
        same false x = refl

module _ (t new : Stored) (behind : SiteState) (w : World) (place n : ℕ) (g : Group) (chosen : Choice) (made : List (Option Made)) (at : slice_get w.tier.groups place ≡ Some g) (reads : is_read_only g ≡ true) (chosen_is : chosen ≡ loaded_with g place)
    (r : IsRead t behind (Ok n) w) (fresh : AreFresh t r.world (is_filled chosen (Some place)) n made) (is : IsRefreshed t new chosen place loads_group n made) (told : Reply) (told_is : told ≡ only (Done (roots_kept (slice_get new.stores.items place)))) (sound : IsSound new) where
  there : slice_get r.world.tier.groups place ≡ Some g
  there = ap (λ (x : Tier). slice_get x.groups place) r.tier ∙ at

  changes : Changes true place chosen (Some place) loads_group
  changes = record {
    flagged = loads_flagged;
    loads_is = refl;
    chosen_is = λ x e. ap (λ (c : Choice). c place x) chosen_is ∙ chosen_there g place x;
    unlisted = λ k x. ap (λ (c : Choice). c k (without_list x)) chosen_is ∙ unlisted_with g place k x ∙ sym (ap (λ (c : Choice). c k x) chosen_is);
  }

  only_read : (k : ℕ) (x : Group) → slice_get r.world.tier.groups k ≡ Some x → chosen k x ≡ true → is_read_only x ≡ true
  only_read k x at_k c = by g.state refl (ap (λ (d : Choice). d k x) (sym chosen_is) ∙ c)
    where
      at_place : nat_eq k place ≡ true → is_read_only x ≡ true
      at_place e =
          let both : Some x ≡ Some g = sym at_k ∙ ap (slice_get r.world.tier.groups) (eqb-true k place e) ∙ there in
          let same : x ≡ g = cc in ap is_read_only same ∙ reads

      turned : nat_eq place k ≡ true → nat_eq k place ≡ true
      turned e = eq-eqb k place (sym (eqb-true place k e))

      in_set : (is_in_set g.def.interval x || nat_eq place k) ≡ true → is_read_only x ≡ true
      in_set e = of (is_in_set g.def.interval x) refl e
        where
          of : (b : Bool) → is_in_set g.def.interval x ≡ b → (b || nat_eq place k) ≡ true → is_read_only x ≡ true
          of true h e = (both_true (is_read_only x) (nat_eq x.def.interval g.def.interval) (both_true (is_read_only x && nat_eq x.def.interval g.def.interval) (is_on x.state) h).0).0
          of false h e = at_place (turned e)

      by : (st : RefreshState) → g.state ≡ st → loaded_with (record g { state = st }) place k x ≡ true → is_read_only x ≡ true
      by On h e = in_set e
      by Paused h e = in_set e
      by Off h e = at_place e

  pub stands_last : StandsFor new (record r.world { tier = tier_behind chosen place loads_group n (backing_at r.world n) r.world.tier })
  stands_last = stands_behind t new r.world true place chosen (Some place) loads_group changes n made r.stands fresh is only_read loads_mapped
      (λ s. subst (λ c. OnePosition (groups_behind c place loads_group n s r.world.tier.groups)) (sym chosen_is) (loaded_positions r.world.tier.groups place n g s there r.stands.stands.read.one))

  abbrev tier_then : Tier
  tier_then = tier_behind chosen place loads_group n (backing_at r.world n) r.world.tier

  -- how many instances it shows
  count_is : roots_kept (slice_get new.stores.items place) ≡ shown_count (whole_target place g) r.world.history (tier_behind chosen place loads_group n (backing_at r.world n) r.world.tier)
  count_is =
      let picked : Group = cond (chosen place g) (at_position n (backing_at r.world n) g) g in
      let one : slice_get (changed_from chosen (at_position n (backing_at r.world n)) 0 r.world.tier.groups) place ≡ Some (cond (chosen place g) (at_position n (backing_at r.world n) g) g) = changed_at chosen (at_position n (backing_at r.world n)) r.world.tier.groups place g there in
      let two : slice_get (tier_behind chosen place loads_group n (backing_at r.world n) r.world.tier).groups place ≡ Some (cond (nat_eq place place) (loads_group (cond (chosen place g) (at_position n (backing_at r.world n) g) g)) (cond (chosen place g) (at_position n (backing_at r.world n) g) g)) =
      changed_at (alone place) loads_group (changed_from chosen (at_position n (backing_at r.world n)) 0 r.world.tier.groups) place (cond (chosen place g) (at_position n (backing_at r.world n) g) g) one in
      of (cond (nat_eq place place) (loads_group (cond (chosen place g) (at_position n (backing_at r.world n) g) g)) (cond (chosen place g) (at_position n (backing_at r.world n) g) g)) two
    where
      kept : AreKept new.schema (map without_list (tier_behind chosen place loads_group n (backing_at r.world n) r.world.tier).groups) new.stores.items
      kept = subst (λ l. AreKept new.schema l new.stores.items) (sym stands_last.stored.groups) sound.kept

      of : (h : Group) → slice_get (tier_behind chosen place loads_group n (backing_at r.world n) r.world.tier).groups place ≡ Some h → roots_kept (slice_get new.stores.items place) ≡ shown_count (whole_target place g) r.world.history (tier_behind chosen place loads_group n (backing_at r.world n) r.world.tier)
      of h h_at =
          let long = kept_long new.schema (map without_list (tier_behind chosen place loads_group n (backing_at r.world n) r.world.tier).groups) new.stores.items kept in
          let (s, s_at) = there_too (map without_list (tier_behind chosen place loads_group n (backing_at r.world n) r.world.tier).groups) new.stores.items place (without_list h) long (mapped_there (tier_behind chosen place loads_group n (backing_at r.world n) r.world.tier).groups place h h_at) in
          let root : place_of h.def.tree h.def.tree.root.table ≡ Some 0 = ap (λ b. cond b (Some 0) (option_map Rattle.std.proofs.Common.suc (Rattle.std.proofs.Common.position (λ c. Rattle.instances.specs.Trees.same_table c.table h.def.tree.root.table) h.def.tree.children))) (eq-eqb h.def.tree.root.table.0 h.def.tree.root.table.0 refl) in
          ap roots_kept s_at
          ∙ ap len (each_shows new.schema r.world.history (tier_behind chosen place loads_group n (backing_at r.world n) r.world.tier) new.stores.items stands_last.stored.schema stands_last.stands.catalog kept stands_last.shows place h s h.def.tree.root.table 0 h_at s_at root)
          ∙ ap (counted r.world.history r.world.tier.log) (sym h_at)
        where
          counted : List Rattle.table_state.specs.declared.history.Entry.Entry → List Rattle.table_state.specs.declared.history.Sealed.Sealed → Option Group → ℕ
          counted history log None = 0
          counted history log (Some x) = Rattle.cache_tier.specs.Shown.instances_of history log x

  module _ {D : Type 0} (state : D → SiteState) (possible : D → ℕ → Held → Type 0) (k k' : Option TierJournal) (mid d' : D) (ready : Ready) (is_mid : state mid ≡ behind) (keeps : KeepsOver state possible mid k r.world) (of : IsReadyFor r.world.tier.schema k ready (load_entries g)) where
    pub whole_read : (reply : Reply) → AnswersBehind state possible k k' mid d' ready told reply → IsPerformedOver state possible new k' d' (Some reply) (λ w'. ReadsWhole place g w w' reply)
    whole_read reply answers =
        let p = answers new r.world (load_entries g) (whole_answer (whole_target place g) n) (subst (λ x. IsAt x r.world) (sym is_mid) r.at) keeps of
        (subst (λ (c : Choice). StandsFor new (record r.world { tier = tier_behind c place loads_group n (backing_at r.world n) r.world.tier })) chosen_is stands_last) refl (λ j faults moment. refl)
        (told_is ∙ ap (λ m. only (Done m)) count_is ∙ ap (λ (c : Choice). only (Done (shown_count (whole_target place g) r.world.history (tier_behind c place loads_group n (backing_at r.world n) r.world.tier)))) chosen_is) in
        record { world = p.world; at = p.at; is = record { told = Ok n; mid = r.world; call = r.call; tier = r.tier; goes_on = inl p.is }; stands = p.stands; keeps = p.keeps }

-- a journal is kept over the call
module _ {D : Type 0} (state : D → SiteState) (possible : D → ℕ → Held → Type 0) (t : Stored) (k : Option TierJournal) (d mid : D) (w : World) (place : ℕ) (g : Group) (ready : Ready) (certain : KeepsCertain state possible d mid) (keeps : KeepsOver state possible d k w) (stands : StandsFor t w) (there : slice_get w.tier.groups place ≡ Some g)
    (is_ready : IsReadyToLoad (groups_in t.catalog) k place ready) where
  pub keeps_read : (told : Result ℕ BankError) (r : IsRead t (state mid) told w) → KeepsOver state possible mid k r.world
  keeps_read told r = keeps_called state possible k d mid w r.world keeps certain r.call.journal (ap (λ (x : Tier). x.schema) r.tier) r.at

  pub ready_read : (told : Result ℕ BankError) (r : IsRead t (state mid) told w) → IsReadyFor r.world.tier.schema k ready (load_entries g)
  ready_read told r = is_ready r.world.tier.schema (without_list g) (ap (λ l. slice_get l place) (sym stands.stored.groups) ∙ mapped_there w.tier.groups place g there)

  -- the call failed
  pub whole_failed : (e : BankError) (reply : Reply) → IsRead t (state mid) (Err e) w → reply ≡ bank_fault e → IsPerformedOver state possible t k mid (Some reply) (λ w'. ReadsWhole place g w w' reply)
  whole_failed e reply r told = record {
    world = r.world;
    at = r.at;
    is = record { told = Err e; mid = r.world; call = r.call; tier = r.tier; goes_on = (refl, told) };
    stands = λ whole. r.stands;
    keeps = kept_unless (keeps_read (Err e) r);
  }

  -- 119 of the journal
  pub whole_full : (n : ℕ) (reply : Reply) → IsRead t (state mid) (Ok n) w → is_full_ready ready ≡ true → reply ≡ only (No (past limit.JournalSlot)) → IsPerformedOver state possible t k mid (Some reply) (λ w'. ReadsWhole place g w w' reply)
  whole_full n reply r full told = record {
    world = r.world;
    at = r.at;
    is = record {
      told = Ok n;
      mid = r.world;
      call = r.call;
      tier = r.tier;
      goes_on = inl (full_then state possible k mid r.world ready (load_entries g) (Answers (whole_answer (whole_target place g) n)) reply (keeps_read (Ok n) r) (ready_read (Ok n) r) full told);
    };
    stands = λ whole. r.stands;
    keeps = kept_unless (keeps_read (Ok n) r);
  }

-- the statements

pub one_call : (step : List Rattle.table_state.specs.declared.history.Entry.Entry → List Rattle.table_state.specs.declared.history.Entry.Entry → Type 0) (w mid : World) (a : Tier) → BankCall step (record w { tier = a }) mid → BankCall step w mid
one_call step w mid a c = record { history = c.history; journal = c.journal; faults = c.faults; disk = c.disk; moment = c.moment; shared = c.shared }

settled_so : (x : Target) (place n : ℕ) (g : Group) (w w' : World) (reply : Reply) → x.place ≡ place → x.group ≡ g → Settles (whole_target place g) (whole_answer (whole_target place g) n) w w' reply → Settles x (whole_answer x n) w w' reply
settled_so x place n g w w' reply place_is group_is s =
    subst (λ p. Settles (whole_target p x.group) (whole_answer (whole_target p x.group) n) w w' reply) (sym place_is)
    (subst (λ y. Settles (whole_target place y) (whole_answer (whole_target place y) n) w w' reply) (sym group_is) s)

module _ (x : Target) (place : ℕ) (g : Group) (place_is : x.place ≡ place) (group_is : x.group ≡ g) (explicit : is_explicit g ≡ true) (other : ℕ → World → World → Reply → Type 0) where
  pub follows_so : (told : Result ℕ BankError) (mid w' : World) (reply : Reply) → FollowsAt told (λ n. Settles (whole_target place g) (whole_answer (whole_target place g) n)) mid w' reply
      → FollowsAt told (λ n w v r. MatchBool (is_explicit x.group) (Settles x (whole_answer x n) w v r) (other n w v r)) mid w' reply
  follows_so (Err e) mid w' reply f = f
  follows_so (Ok n) mid w' reply f = ⊎_elim
      (λ s. inl (subst (λ b. MatchBool b (Settles x (whole_answer x n) mid w' reply) (other n mid w' reply)) (sym (ap is_explicit group_is ∙ explicit)) (settled_so x place n g mid w' reply place_is group_is s)))
      (λ m. inr m) f

-- it is loaded alone, or with its set
pub off_is : (st : RefreshState) → is_off st ≡ true → st ≡ Off
off_is On e = cc
off_is Paused e = cc
off_is Off e = refl

pub with_alone : (g : Group) (place : ℕ) → g.state ≡ Off → alone place ≡ loaded_with g place
with_alone g place e = ap (λ st. loaded_with (record g { state = st }) place) (sym e)

pub with_set : (g : Group) (place : ℕ) → is_off g.state ≡ false → of_set g.def.interval (Some place) ≡ loaded_with g place
with_set g place e = by g.state e
  where
    by : (st : RefreshState) → is_off st ≡ false → of_set g.def.interval (Some place) ≡ loaded_with (record g { state = st }) place
    by On e = refl
    by Paused e = refl
    by Off e = cc

pub tried_alone : (g : Group) (a : Tier) → g.state ≡ Off → a ≡ set_tried g a
tried_alone g a e = ap (λ st. set_tried (record g { state = st }) a) (sym e)

pub tried_set : (g : Group) (a : Tier) → is_off g.state ≡ false → refresh_tried g.def.interval a ≡ set_tried g a
tried_set g a e = by g.state e
  where
    by : (st : RefreshState) → is_off st ≡ false → refresh_tried g.def.interval a ≡ set_tried (record g { state = st }) a
    by On e = refl
    by Paused e = refl
    by Off e = cc

-- what was made ready for the group that is stored at a place
pub load_there : (groups : List Group) (k : Option TierJournal) (place : ℕ) (seen : Group) (ready : Ready) → slice_get groups place ≡ Some seen → ((schema : List TableDef) → IsReadyFor schema k ready (load_entries seen)) → IsReadyToLoad groups k place ready
load_there groups k place seen ready at is = λ schema g there. subst (λ (x : Group). IsReadyFor schema k ready (load_entries x)) (same_there groups place seen g at there) (is schema)
