-- UNLOAD of a READONLY group over what is stored.
use Rattle.std.proofs.Common.{◌≡◌, ◌+◌, ℕ, zero, suc, Bool, true, false, not, cond, ◌&&◌, Option, Some, None, Err, is_none, List, [], ◌∷◌, length, map, slice_get, refl, sym, ap, subst, ◌∙◌, inl, inr}
use Rattle.std.specs.Option.{option_or}
use Rattle.std.proofs.lemmas.List.{length-map}
use Rattle.std.specs.FinMap as fm
use Rattle.std.specs.FinMap.{empty}
use Rattle.row_types.proofs.OrderLaws.{key_exact, key_total}
use Rattle.row_types.specs.declared.value.Value.{Value}
use Rattle.tier_base.specs.declared.code.Code.TheVariants as code
use Rattle.tier_base.specs.declared.number.SessionId.{SessionId}
use Rattle.indexed_rows.specs.Rows.{Table}
use Rattle.evaluator.specs.Writes.{selects}
use Rattle.instances.specs.Views.{is_true, kept_at, passes, rows_where}
use Rattle.instances.proofs.Gathering.{get_where}
use Rattle.open_sessions.specs.Opening.{seen_all}
use Rattle.session_state.proofs.ApartLaws.{any_false}
use Rattle.group_catalog.specs.Catalogs.{groups_in}
use Rattle.group_store.specs.Stores.{Kept, SameButSpare, cleared_store}
use Rattle.group_store.specs.Trees.{all_empty}
use Rattle.tier_statements.specs.Seen.{session_seen}
use Rattle.cache_tier.specs.declared.reply.Last.TheVariants.{Done, No}
use Rattle.cache_tier.specs.declared.reply.Reply.{Reply}
use Rattle.cache_tier.specs.StandingBetween.{Stands}
use Rattle.table_defs.specs.declared.definition.TableDef.{TableDef}
use Rattle.cache_tier.specs.Conditions.{is_id, matches, overflow_fault}
use Rattle.cache_tier.specs.Groups.{Group, is_explicit, is_read_only}
use Rattle.cache_tier.specs.JournalSteps.{FlushesSome}
use Rattle.cache_tier.specs.Reading.{Answers}
use Rattle.cache_tier.specs.Sets.{alone, changed_from}
use Rattle.cache_tier.specs.Shown.{no_rows, root_key, shown_roots}
use Rattle.cache_tier.specs.Targets.{Target}
use Rattle.cache_tier.specs.TierStates.{Session}
use Rattle.cache_tier.specs.UnloadSteps.{gone_keys, matching_shown, unload_answer, unload_entries, unload_fault, unloaded}
use Rattle.cache_tier.specs.Worlds.{Then, Unless, World, faulty, only}
use Rattle.cache_tier.specs.Dropping.{ShowsWithout}
use Rattle.cache_tier.specs.Events.{with_tier}
use Rattle.cache_tier.proofs.ShownTrees.{root_place}
use Rattle.group_engine.specs.declared.aiming.Aim.{Aim}
use Rattle.stored_tier.specs.declared.tier.Tier.{Tier as Stored}
use Rattle.stored_tier.specs.Grouping.{KeepsGroups, SameTree}
use Rattle.stored_tier.specs.Performing.{StandsFor, reply_of}
use Rattle.outside.specs.Sites.{SiteState}
use Rattle.stored_tier.specs.Stored.{HasSession, IsSound, IsStoredAs, without_list}
use Rattle.cache_tier.specs.declared.group.GroupDef.{GroupDef}
use Rattle.group_engine.proofs.FreshLists.{explicit_listed}
use Rattle.group_engine.specs.Unloading.{IsClearedGroup, IsReadyToLeave, IsWholeAt, UnloadsHere, UnloadsReady, UnloadsTarget}
use Rattle.group_engine.specs.declared.ready.Ready.{Ready}
use Rattle.group_engine.specs.Ready.{AnswersBehind, IsReadyFor, is_full_ready}
use Rattle.group_engine.proofs.ReadyLaws.{full_then}
use Rattle.group_engine.proofs.GroupRows.{same_there}
use Rattle.row_types.specs.declared.rule.Refused.{Refused}
use Rattle.row_types.specs.declared.rule.Refused.TheVariants as refused
use Rattle.tier_base.specs.declared.limit.Limit.TheVariants as limit
use Rattle.cache_tier.specs.Rules.{past}
use Rattle.tier_journal.specs.Drafts.{StaysKept}
use Rattle.tier_journal.specs.declared.journal.TierJournal.{TierJournal}
use Rattle.tier_journal.proofs.WayLaws.{kept_unless}
use Rattle.outside.specs.Holding.{Held}
use Rattle.stored_tier.proofs.OverLaws.{keeps_stays}
use Rattle.group_engine.proofs.DropLocks.{group_stored}
use Rattle.group_engine.proofs.FlagLaws.{flagged_seen}
use Rattle.group_engine.proofs.GroupComes.{stands_kept, time_kept}
use Rattle.group_engine.proofs.GroupRows.{shown_of_place}
use Rattle.group_engine.proofs.ReadOnlyUnloads.{explicit_bare, unheld, unload_shows, unloaded_is}
use Rattle.stored_tier.proofs.SoundParts.{changed_defs}
use Rattle.stored_tier.proofs.StoreChanges.{form_kept, shows_changed}
use Rattle.stored_tier.proofs.StoreRows.{form_here, kept_is_shown}
use Rattle.group_engine.proofs.UnloadDone.{hides_left, left_listed, marked, sound_left, unloaded_def}

abbrev Row : Type 0
Row = List Value

-- a store without rows

pub cleared_tree : (old new : Kept) → SameButSpare (cleared_store old) new → SameTree old new
cleared_tree old new same = record { table = same.table; key = same.key; foreign = same.foreign; layers = same.layers }

pub none_at : (ts : List Table) (p : ℕ) → kept_at (all_empty ts) p ≡ empty
none_at [] zero = refl
none_at [] (suc p) = refl
none_at (t ∷ ts) zero = refl
none_at (t ∷ ts) (suc p) = none_at ts p

pub sound_cleared_at : (t new : Stored) (place n : ℕ) → IsSound t → IsClearedGroup t new place n → IsSound new
sound_cleared_at t new place n sound cleared =
    sound_left t new place true _ sound cleared (cleared_tree cleared.store cleared.left cleared.did.0.gone)
    (ap (λ (ts : List Table). length ts) cleared.did.0.gone.tables ∙ length-map cleared.store.tables (λ t. empty))

pub sound_cleared : (t new : Stored) (aim : Aim) (n : ℕ) → IsSound t → IsClearedGroup t new aim.place n → IsSound new
sound_cleared t new aim n sound cleared = sound_cleared_at t new aim.place n sound cleared

-- nothing is asked of the rows

pub all_pass : (test : Row → Bool) (m : Table) → ((row : Row) → test row ≡ true) → rows_where test m ≡ m
all_pass test m good = fm.same_map key_total key_exact (rows_where test m) m (λ k. get_where test m k ∙ by (fm.get m k))
  where
    by : (o : Option Row) → cond (passes test o) o None ≡ o
    by None = refl
    by (Some r) = ap (λ b. cond b (Some r) None) (good r)

no_overflow : (w : World) (x : Target) → x.filter ≡ None → overflow_fault x.filter (shown_roots w.history w.tier.log x.group) ≡ None
no_overflow w x filter =
    ap (λ f. overflow_fault f (shown_roots w.history w.tier.log x.group)) filter
    ∙ ap (λ b. Rattle.cache_tier.specs.Rules.broken_if b (Rattle.cache_tier.specs.Rules.plain Rattle.tier_base.specs.declared.code.Code.TheVariants.Overflow))
    (any_false (λ row. is_none (selects None row)) (fm.values (shown_roots w.history w.tier.log x.group)) (λ row. refl))

pub whole_free : (s : Session) (w : World) (x : Target) (place : ℕ) → Stands w → slice_get w.tier.groups place ≡ Some x.group → is_read_only x.group ≡ true → x.filter ≡ None → unload_fault s x w ≡ None
whole_free s w x place stands at reads filter = λ i. option_or (no_overflow w x filter i) (unheld w stands place x.group at reads s.label (fm.contains_key (matching_shown w x)) i)

module _ (t new : Stored) (id : SessionId) (aim : Aim) (n : ℕ) (sound : IsSound t) (cleared : IsClearedGroup t new aim.place n)
    (s : Session) (w : World) (x : Target) (has : HasSession t id s) (stands : StandsFor t w) (at : slice_get w.tier.groups aim.place ≡ Some x.group) (reads : is_read_only x.group ≡ true) (filter : x.filter ≡ None) (given : x.id ≡ None) (place : x.place ≡ aim.place) where
  abbrev G : Group
  G = x.group

  there : slice_get w.tier.groups x.place ≡ Some x.group
  there = ap (slice_get w.tier.groups) place ∙ at

  explicit : is_explicit x.group ≡ true
  explicit =
      ap not (subst (λ (y : Group). y.def.dynamic ≡ false)
      (same_there (groups_in t.catalog) aim.place cleared.group (without_list x.group) cleared.there (group_stored t w.tier aim.place x.group stands.stored at)) cleared.did.1)

  roots : kept_at cleared.store.tables 0 ≡ shown_roots w.history w.tier.log x.group
  roots =
      kept_is_shown t w sound stands aim.place x.group cleared.store x.group.def.tree.root.table 0 at cleared.kept (root_place x.group.def.tree)
      ∙ shown_of_place w.history w.tier aim.place x.group x.group.def.tree.root.table 0 stands.stands.catalog at (root_place x.group.def.tree)

  each_matches : (row : Row) → matches x.filter x.id (no_rows w.tier) x.group row ≡ true
  each_matches row =
      ap (λ f. is_true (selects f row) && is_id (root_key (no_rows w.tier) x.group row) x.id) filter
      ∙ ap (λ o. is_id (root_key (no_rows w.tier) x.group row) o) given

  matching : matching_shown w x ≡ shown_roots w.history w.tier.log x.group
  matching = all_pass (matches x.filter x.id (no_rows w.tier) x.group) (shown_roots w.history w.tier.log x.group) each_matches

  count : n ≡ fm.len (matching_shown w x)
  count = cleared.did.0.count ∙ ap (λ (m : Table). fm.len m) (roots ∙ sym matching)

  behind : ShowsWithout x.group w (with_tier (unload_answer x true w).0 w)
  behind = unload_shows w stands.stands x.place x.group there reads (gone_keys w x) true (explicit_bare w x.group (gone_keys w x) reads explicit)

  groups_behind : map without_list (unload_answer x true w).0.groups ≡ groups_in new.catalog
  groups_behind =
      flagged_seen (unloaded (gone_keys w x) true) (marked true) 0 x.place w.tier.groups (λ i y here e. ap without_list (unloaded_is (gone_keys w x) y (its i y here e)))
      ∙ ap (changed_from (alone x.place) (marked true) 0) stands.stored.groups
      ∙ ap (λ p. changed_from (alone p) (marked true) 0 (groups_in t.catalog)) place
      ∙ sym cleared.groups
    where
      its : (i : ℕ) (y : Group) → slice_get w.tier.groups i ≡ Some y → 0 + i ≡ x.place → is_explicit y ≡ true
      its i y here e =
          let same_place : i ≡ aim.place = (let z : i ≡ 0 + i = omega Rattle.std.proofs.Common.arith in z) ∙ e ∙ place in
          let both : Some y ≡ Some x.group = sym here ∙ ap (slice_get w.tier.groups) same_place ∙ at in
          let same : y ≡ x.group = cc in
          ap is_explicit same ∙ explicit

  stored : IsStoredAs new (unload_answer x true w).0
  stored = record {
    schema = stands.stored.schema ∙ sym cleared.beside.schema;
    stale = stands.stored.stale ∙ sym cleared.beside.stale;
    groups = groups_behind;
    lists = left_listed t new aim.place true _ cleared w.tier x.place place (unloaded (gone_keys w x) true) sound stands.stored
        (λ g h at_g held is. explicit_listed (unloaded (gone_keys w x) true g) cleared.left h.table
        (subst (λ (d : GroupDef). d.dynamic ≡ false)
        (ap (λ (y : Group). y.def) (same_there (groups_in t.catalog) aim.place cleared.group (without_list g) cleared.there (group_stored t w.tier aim.place g stands.stored at_g)) ∙ sym (unloaded_def (gone_keys w x) true g))
        cleared.did.1)
        (ap (λ (d : GroupDef). is_read_only (record x.group { def = d })) (unloaded_def (gone_keys w x) true g ∙ ap (λ (y : Group). y.def) (same_there w.tier.groups aim.place g x.group at_g at)) ∙ reads));
    sessions = stands.stored.sessions ∙ ap (λ y. map session_seen (seen_all y)) (sym cleared.beside.sessions);
    unsettled = stands.stored.unsettled ∙ ap (λ u. u.items) (sym cleared.beside.unsettled);
    next = stands.stored.next ∙ sym cleared.beside.next;
    doubt = stands.stored.doubt;
    time = time_kept t new w.tier cleared.beside.clock stands.stored.time;
  }

  pub stands_left : StandsFor new (with_tier (unload_answer x true w).0 w)
  stands_left = record {
    stored = stored;
    shows = shows_changed t new w (with_tier (unload_answer x true w).0 w) aim.place x.group cleared.left sound stands (record {
      there = at;
      schema = cleared.beside.schema;
      known = refl;
      defined = changed_defs (alone x.place) (unloaded (gone_keys w x) true) 0 w.tier.groups (unloaded_def (gone_keys w x) true);
      stores = cleared.stores;
      form = form_kept t.schema x.group.def.tree cleared.store cleared.left (form_here t w sound stands aim.place x.group cleared.store at cleared.kept) (cleared_tree cleared.store cleared.left cleared.did.0.gone);
      its = λ u p e. ap (λ ts. kept_at ts p) cleared.did.0.gone.tables ∙ none_at cleared.store.tables p ∙ sym (behind.its u (ap Rattle.std.proofs.Common.is_some e));
      others = behind.others;
    });
    hides = hides_left t new aim.place true _ cleared w.history stands.hides;
    stands = behind.stands;
    waits = stands.waits;
  }

  pub counted : (reply : Reply) → reply ≡ only (Done n) → reply ≡ (unload_answer x true w).1
  counted reply is = is ∙ ap (λ m. only (Done m)) count

-- what is done where nothing is at fault
pub unload_so : (s : Session) (x : Target) (all : Bool) (w w' : World) (reply : Reply) → unload_fault s x w ≡ None → Then (FlushesSome (unload_entries all x.group)) (Answers (unload_answer x all)) w w' reply → UnloadsTarget s x all w w' reply
unload_so s x all w w' reply free then = subst (λ o. Unless o (Then (FlushesSome (unload_entries all x.group)) (Answers (unload_answer x all))) w w' reply) (sym free) then

explicit_there : (t : Stored) (w : World) (place : ℕ) (g : Group) → IsWholeAt t place → StandsFor t w → slice_get w.tier.groups place ≡ Some g → is_explicit g ≡ true
explicit_there t w place g whole stands at = ap not (whole (without_list g) (group_stored t w.tier place g stands.stored at))

module _ {D : Type 0} (state : D → SiteState) (possible : D → ℕ → Held → Type 0) where
  pub cleared_here : (t new : Stored) (k k' : Option TierJournal) (d d' : D) (ready : Ready) (id : SessionId) (aim : Aim) (all : Bool) (n : ℕ) (told reply : Reply) → IsSound t → IsWholeAt t aim.place → aim.read_only ≡ true → IsClearedGroup t new aim.place n → AnswersBehind state possible k k' d d' ready told reply → told ≡ only (Done n)
      → UnloadsReady state possible t new k k' d d' ready id aim all reply
  cleared_here t new k k' d d' ready id aim all n told reply sound explicit kind cleared answers is = λ s w x has rests asks at stands keeps ready_for here kinds of.
      let reads : is_read_only x.group ≡ true = kinds ∙ kind in
      let whole = asks reads (explicit_there t w aim.place x.group explicit stands here) in
      let p = answers new w (unload_entries true x.group) (unload_answer x true) at keeps (subst (λ b. IsReadyFor w.tier.schema k ready (unload_entries b x.group)) whole.0 ready_for)
      (stands_left t new id aim n sound cleared s w x has stands here reads whole.1 whole.2 of.place) refl (λ j faults moment. refl)
      (counted t new id aim n sound cleared s w x has stands here reads whole.1 whole.2 of.place told is) in
      record {
        world = p.world;
        at = p.at;
        is = inl (subst (λ b. UnloadsTarget s x b w p.world reply) (sym whole.0) (unload_so s x true w p.world reply (whole_free s w x aim.place stands.stands here reads whole.1) p.is));
        stands = p.stands;
        keeps = p.keeps;
      }

  -- 119 of the journal
  pub whole_full : (t : Stored) (k : Option TierJournal) (d : D) (ready : Ready) (id : SessionId) (aim : Aim) (all : Bool) (reply : Reply) → IsWholeAt t aim.place → aim.read_only ≡ true → is_full_ready ready ≡ true → reply ≡ only (No (past limit.JournalSlot)) → UnloadsReady state possible t t k k d d ready id aim all reply
  whole_full t k d ready id aim all reply explicit kind full told = λ s w x has rests asks at stands keeps ready_for here kinds of.
      let reads : is_read_only x.group ≡ true = kinds ∙ kind in
      let whole = asks reads (explicit_there t w aim.place x.group explicit stands here) in
      record {
        world = w;
        at = at;
        is = inl (unload_so s x all w w reply (whole_free s w x aim.place stands.stands here reads whole.1) (full_then state possible k d w ready (unload_entries all x.group) (Answers (unload_answer x all)) reply keeps ready_for full told));
        stands = λ whole. stands;
        keeps = kept_unless keeps;
      }

  -- memory was wanting
  pub whole_wanting : (t new : Stored) (k : Option TierJournal) (d : D) (ready : Ready) (id : SessionId) (aim : Aim) (all : Bool) → KeepsGroups t new → UnloadsReady state possible t new k k d d ready id aim all (faulty code.Memory)
  whole_wanting t new k d ready id aim all kept = λ s w x has rests asks at stands keeps ready_for there kinds of. record {
    world = w;
    at = at;
    is = inr (refl, refl);
    stands = λ whole. stands_kept t new w stands kept;
    keeps = kept_unless keeps;
  }

  -- with what was made ready
  pub left_moved : (t new : Stored) (k mid k' : Option TierJournal) (d d' : D) (ready : Ready) (id : SessionId) (aim : Aim) (all : Bool) (reply : Reply) → StaysKept k mid → IsReadyToLeave (groups_in t.catalog) mid aim.place all ready → UnloadsReady state possible t new mid k' d d' ready id aim all reply
      → UnloadsHere state possible t new k k' d d' id aim all reply
  left_moved t new k mid k' d d' ready id aim all reply stays of unloads = λ s w x has rests asks at stands keeps there kinds target.
      unloads s w x has rests asks at stands (keeps_stays state possible d k mid w stays keeps) (of w.tier.schema (without_list x.group) (group_stored t w.tier aim.place x.group stands.stored there)) there kinds target

  pub not_left : (t : Stored) (k k' : Option TierJournal) (d : D) (id : SessionId) (aim : Aim) (all : Bool) (e : Refused) → StaysKept k k' → e ≡ refused.Memory → UnloadsHere state possible t t k k' d d id aim all (reply_of (Err e))
  not_left t k k' d id aim all e stays is = λ s w x has rests asks at stands keeps there kinds target. record {
    world = w;
    at = at;
    is = inr (refl, ap (λ y. reply_of (Err y)) is);
    stands = λ whole. stands;
    keeps = kept_unless (keeps_stays state possible d k k' w stays keeps);
  }

-- what was made ready for the group that is stored at a place
pub leave_there : (groups : List Group) (k : Option TierJournal) (place : ℕ) (all : Bool) (seen : Group) (ready : Ready) → slice_get groups place ≡ Some seen → ((schema : List TableDef) → IsReadyFor schema k ready (unload_entries all seen)) → IsReadyToLeave groups k place all ready
leave_there groups k place all seen ready at is = λ schema g there. subst (λ (x : Group). IsReadyFor schema k ready (unload_entries all x)) (same_there groups place seen g at there) (is schema)
