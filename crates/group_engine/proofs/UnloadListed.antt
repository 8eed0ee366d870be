-- Instances of a dynamic READONLY group leave that hides none.
use Rattle.std.proofs.Common.{◌≡◌, ◌+◌, ℕ, Bool, true, false, not, cond, ◌&&◌, ◌||◌, Option, Some, None, Err, List, map, slice_get, unwrap_or, refl, sym, ap, subst, ◌∙◌, inl, inr, arith, ℤ}
use Rattle.std.specs.Option.{option_or}
use Rattle.std.specs.FinMap as fm
use Rattle.row_types.specs.declared.rule.Refused.{Refused}
use Rattle.row_types.specs.declared.rule.Refused.TheVariants as refused
use Rattle.row_types.specs.declared.value.Value.{Value}
use Rattle.tier_base.specs.declared.code.Code.TheVariants as code
use Rattle.tier_base.specs.declared.limit.Limit.TheVariants as limit
use Rattle.tier_base.specs.declared.number.SessionId.{SessionId}
use Rattle.tier_base.specs.declared.number.TableId.{TableId}
use Rattle.indexed_rows.specs.Rows.{Table, key_of}
use Rattle.table_defs.specs.Declarations.{IsRefusedBy}
use Rattle.table_state.specs.Tables.{TableState}
use Rattle.instances.specs.Trees.{place_of}
use Rattle.instances.specs.Views.{kept_at, rows_where}
use Rattle.open_sessions.specs.Opening.{seen_all}
use Rattle.outside.specs.Holding.{Held}
use Rattle.outside.specs.Sites.{SiteState}
use Rattle.order_laws.proofs.TruthLaws.{both_true}
use Rattle.group_catalog.specs.Catalogs.{groups_in}
use Rattle.group_store.specs.Keeping.{primary_of}
use Rattle.slot_rows.specs.SlotKeys.{RowsHeld}
use Rattle.tier_journal.specs.declared.journal.TierJournal.{TierJournal}
use Rattle.tier_journal.proofs.WayLaws.{kept_unless}
use Rattle.tier_statements.specs.Seen.{session_seen}
use Rattle.cache_tier.specs.declared.group.AgingRule.{AgingRule}
use Rattle.cache_tier.specs.declared.group.AgingRule.TheVariants.{ByTime, LastUse}
use Rattle.cache_tier.specs.declared.group.GroupDef.{GroupDef}
use Rattle.cache_tier.specs.declared.reply.Last.TheVariants.{Done, No}
use Rattle.cache_tier.specs.declared.reply.Reply.{Reply}
use Rattle.cache_tier.specs.Conditions.{matches}
use Rattle.cache_tier.specs.Events.{with_tier}
use Rattle.cache_tier.specs.Groups.{Group, is_explicit, is_key, is_read_only, without_keys}
use Rattle.cache_tier.specs.JournalSteps.{FlushesSome}
use Rattle.cache_tier.specs.Reading.{Answers}
use Rattle.cache_tier.specs.Rules.{broken_if, past, plain}
use Rattle.cache_tier.specs.Sets.{alone, changed_from}
use Rattle.cache_tier.specs.Shown.{exceeds, exceeds_by, instances_where, no_rows, root_key, shown, shown_roots, shown_where, shows_root, state_behind}
use Rattle.cache_tier.specs.Targets.{Target, has_flag}
use Rattle.cache_tier.specs.TierStates.{Session}
use Rattle.cache_tier.specs.UnloadSteps.{gone_keys, listed_in, matching_shown, unload_answer, unload_entries, unload_fault, unloaded}
use Rattle.cache_tier.specs.Worlds.{Then, Tries, Unless, World, only}
use Rattle.cache_tier.proofs.KeyListLaws.{key_in_map, key_without}
use Rattle.cache_tier.proofs.LoadLaws.{unload_keys}
use Rattle.stored_tier.specs.declared.tier.Tier.{Tier as Stored}
use Rattle.stored_tier.specs.Lists.{hides_keys, is_by_time}
use Rattle.stored_tier.specs.Performing.{StandsFor, reply_of}
use Rattle.stored_tier.specs.Stored.{IsSound, IsStoredAs, without_list}
use Rattle.stored_tier.proofs.ListLaws.{hides_there, listed_same}
use Rattle.stored_tier.proofs.SoundParts.{changed_defs}
use Rattle.stored_tier.proofs.StoreChanges.{form_kept, shows_changed}
use Rattle.stored_tier.proofs.StoreRows.{form_here}
use Rattle.changed_sets.specs.OfAgingCycles.KeyLists.{cut_keys}
use Rattle.changed_sets.specs.OfAgingCycles.RootRows.{Drops}
use Rattle.changed_sets.specs.OfAgingCycles.Shows.{form, keyed, keyed_alone, left_shows, root_is, roots_are}
use Rattle.group_engine.specs.declared.aiming.Aim.{Aim}
use Rattle.group_engine.specs.declared.ready.Ready.{Ready}
use Rattle.group_engine.specs.Ready.{AnswersBehind, is_full_ready}
use Rattle.group_engine.specs.Taking.{IsOfTarget}
use Rattle.group_engine.specs.Unloading.{IsCutBy, IsCutGroup, UnloadsReady, UnloadsTarget, leaving, lists_shown}
use Rattle.group_engine.specs.UnloadNamed.{FitsFor}
use Rattle.group_engine.proofs.FittingRows.{shown_fits}
use Rattle.group_engine.proofs.NamedKeys.{HasCut, has_cut}
use Rattle.group_engine.specs.UnloadLocks.{FitsIn, RootsTold}
use Rattle.group_engine.proofs.DropLocks.{group_stored}
use Rattle.group_engine.proofs.FlagLaws.{flagged_seen}
use Rattle.group_engine.proofs.GroupComes.{time_kept}
use Rattle.group_engine.proofs.GroupRows.{same_there}
use Rattle.group_engine.proofs.MatchedRoots.{fits_is, leaving_is, leaving_long}
use Rattle.group_engine.proofs.ReadOnlyUnloads.{tables_stay, tables_then, unheld, unload_stands}
use Rattle.group_engine.proofs.ReadyLaws.{full_then}
use Rattle.group_engine.proofs.UnloadDone.{hides_left, left_listed, left_tree, marked, marked_all, unloaded_def}
use Rattle.group_engine.proofs.UnloadLists.{shrunk_listed, without_alike}
use Rattle.group_engine.proofs.UnloadWhole.{unload_so}

abbrev Row : Type 0
Row = List Value

-- a group whose list is that of what it shows

pub record ListsShown (g : Group) : Type 0 where
  pub dynamic : g.def.dynamic ≡ true
  pub hides : hides_keys g ≡ false

pub listed_so : (groups : List Group) (place : ℕ) (g : Group) → true ≡ lists_shown (slice_get groups place) → slice_get groups place ≡ Some g → ListsShown g
listed_so groups place g asked at =
    let both = both_true g.def.dynamic (not (hides_keys g)) (sym (asked ∙ ap lists_shown at)) in
    record { dynamic = both.0; hides = turned (hides_keys g) both.1 }
  where
    turned : (b : Bool) → not b ≡ true → b ≡ false
    turned true e = Prim.cc
    turned false e = refl

-- it has no flag

pub no_flag : (g : Group) → is_read_only g ≡ true → g.def.dynamic ≡ true → has_flag g ≡ false
no_flag g reads dynamic = λ i. not (reads i) || not (dynamic i)

pub unloaded_listed : (gone : List Row) (all : Bool) (g : Group) → is_read_only g ≡ true → g.def.dynamic ≡ true → unloaded gone all g ≡ record g { keys = without_keys gone g.keys }
unloaded_listed gone false g reads dynamic = refl
unloaded_listed gone true g reads dynamic = ap (λ b. cond b (record g { keys = without_keys gone g.keys; loaded = false }) (record g { keys = without_keys gone g.keys })) (no_flag g reads dynamic)

-- it shows what is listed

pub shows_listed : (s : TableState) (g : Group) (row : Row) → is_read_only g ≡ true → g.def.dynamic ≡ true → shows_root s g row ≡ (is_key g.keys (root_key s g row) && exceeds g row)
shows_listed s g row reads dynamic =
    ap (λ b. cond b (cond (is_explicit g) g.loaded (is_key g.keys (root_key s g row)) && exceeds g row) (is_key g.keys (root_key s g row))) reads
    ∙ ap (λ b. cond (not b) g.loaded (is_key g.keys (root_key s g row)) && exceeds g row) dynamic

exceeds_any : (rule : Option AgingRule) (horizon : Option ℤ) (row : Row) → is_by_time rule ≡ false → exceeds_by rule horizon row ≡ true
exceeds_any None horizon row e = refl
exceeds_any (Some LastUse) horizon row e = refl
exceeds_any (Some (ByTime rule)) horizon row e = Prim.cc

and_true : (b : Bool) → (b && true) ≡ b
and_true true = refl
and_true false = refl

-- the root rows of its list are those that it shows
listed_shown : (o : Option TableState) (g : Group) → is_read_only g ≡ true → g.def.dynamic ≡ true → hides_keys g ≡ false → listed_in o g ≡ kept_at (shown_where o g) 0
listed_shown None g reads dynamic hides = refl
listed_shown (Some s) g reads dynamic hides = ap (λ (t : Row → Bool). kept_at (instances_where s g.def.tree t) 0) (λ i row. sym (alike row) i)
  where
    timeless : is_by_time g.def.aging ≡ false
    timeless = sym (λ i. (reads i && dynamic i) && is_by_time g.def.aging) ∙ hides

    alike : (row : Row) → shows_root s g row ≡ is_key g.keys (root_key s g row)
    alike row =
        shows_listed s g row reads dynamic
        ∙ ap (λ b. is_key g.keys (root_key s g row) && b) (exceeds_any g.def.aging g.horizon row timeless)
        ∙ and_true (is_key g.keys (root_key s g row))

-- what leaves its list
list_gone : (w : World) (x : Target) → is_read_only x.group ≡ true → x.group.def.dynamic ≡ true → hides_keys x.group ≡ false → (k : Row) → is_key (gone_keys w x) k ≡ fm.contains_key (matching_shown w x) k
list_gone w x reads dynamic hides k =
    key_in_map (rows_where (matches x.filter x.id (no_rows w.tier) x.group) (listed_in (state_behind w.history w.tier.log x.group) x.group)) k
    ∙ ap (λ (m : Table). fm.contains_key (rows_where (matches x.filter x.id (no_rows w.tier) x.group) m) k) (listed_shown (state_behind w.history w.tier.log x.group) x.group reads dynamic hides)

pub shuffled : (a e g : Bool) → ((a && e) && not g) ≡ ((a && not g) && e)
shuffled false e g = refl
shuffled true true true = refl
shuffled true true false = refl
shuffled true false true = refl
shuffled true false false = refl

module _ (drops : Drops) (t new : Stored) (aim : Aim) (n : ℕ) (sound : IsSound t) (cut : IsCutGroup t new aim false n)
    (w : World) (x : Target) (stands : StandsFor t w) (at : slice_get w.tier.groups aim.place ≡ Some x.group) (reads : is_read_only x.group ≡ true) (of : IsOfTarget x aim.place aim.which) (lists : ListsShown (without_list x.group)) (all : Bool) where
  there : slice_get w.tier.groups x.place ≡ Some x.group
  there = ap (slice_get w.tier.groups) of.place ∙ at

  abbrev S : Table
  S = kept_at cut.store.tables 0

  abbrev columns : List ℕ
  columns = primary_of t.schema x.group.def.tree.root.table

  abbrev leave : List Row
  leave = leaving aim.which (primary_of t.schema x.group.def.tree.root.table) (kept_at cut.store.tables 0)

  abbrev gone : List Row
  gone = gone_keys w x

  abbrev left_group : Group
  left_group = record x.group { keys = without_keys (gone_keys w x) x.group.keys }

  did : HasCut aim.which (primary_of t.schema x.group.def.tree.root.table) cut.store cut.left n
  did = has_cut (FitsFor t.schema x.group.def.tree.root.table) aim.which (primary_of t.schema x.group.def.tree.root.table) cut.store cut.left n
      (subst (λ (g : Group). IsCutBy (FitsFor t.schema g.def.tree.root.table) aim.which (primary_of t.schema g.def.tree.root.table) cut.store cut.left n)
      (same_there (groups_in t.catalog) aim.place cut.group (without_list x.group) cut.there (group_stored t w.tier aim.place x.group stands.stored at)) cut.did)
      (shown_fits t w stands aim.place x.group at sound cut.store cut.kept)

  by_columns : (k r : Row) → fm.get (kept_at cut.store.tables 0) k ≡ Some r → key_of (primary_of t.schema x.group.def.tree.root.table) r ≡ k
  by_columns k r e = ap (λ cs. key_of cs r) (sym (form t w sound stands aim.place x.group at cut.store cut.kept).key) ∙ keyed t w sound stands aim.place x.group at cut.store cut.kept k r e

  roots : kept_at cut.store.tables 0 ≡ shown_roots w.history w.tier.log x.group
  roots = roots_are t w sound stands aim.place x.group at cut.store cut.kept

  -- what leaves the store leaves the list
  same_gone : (k : Row) → is_key leave k ≡ is_key (gone_keys w x) k
  same_gone k =
      leaving_is w x aim.place aim.which of S columns roots (keyed_alone t w sound stands aim.place x.group at cut.store cut.kept) by_columns k
      ∙ sym (list_gone w x reads lists.dynamic lists.hides k)

  count : n ≡ fm.len (matching_shown w x)
  count = did.count ∙ leaving_long w x aim.place aim.which of S columns roots (keyed_alone t w sound stands aim.place x.group at cut.store cut.kept) by_columns

  left_keys : cut.left.keys ≡ without_keys (gone_keys w x) cut.store.keys
  left_keys = did.gone.keys ∙ cut_keys leave cut.store ∙ without_alike leave (gone_keys w x) cut.store.keys same_gone

  -- what the store has then is shown
  left_is : (p : ℕ) → kept_at cut.left.tables p ≡ kept_at (shown w.history w.tier.log left_group) p
  left_is = left_shows t w sound stands aim.place x.group at cut.store cut.kept drops left_group leave cut.left did.gone refl refl (λ s is k r e.
      ap (λ b. b && not (is_key leave k)) (shows_listed s x.group r reads lists.dynamic)
      ∙ ap (λ b. (is_key x.group.keys (root_key s x.group r) && exceeds x.group r) && not b) (same_gone k)
      ∙ ap (λ q. (is_key x.group.keys (root_key s x.group r) && exceeds x.group r) && not (is_key gone q)) (sym (root_is t w sound stands aim.place x.group at cut.store cut.kept s is k r e))
      ∙ shuffled (is_key x.group.keys (root_key s x.group r)) (exceeds x.group r) (is_key gone (root_key s x.group r))
      ∙ ap (λ b. b && exceeds x.group r) (sym (key_without gone x.group.keys (root_key s x.group r)))
      ∙ sym (shows_listed s left_group r reads lists.dynamic))

  shown_then : (u : TableId) (p : ℕ) → place_of x.group.def.tree u ≡ Some p → kept_at cut.left.tables p ≡ kept_at (shown w.history w.tier.log (unloaded gone all x.group)) (unwrap_or (place_of (unloaded gone all x.group).def.tree u) 0)
  shown_then u p e =
      left_is p
      ∙ ap (λ y. kept_at (shown w.history w.tier.log y) p) (sym (unloaded_listed gone all x.group reads lists.dynamic))
      ∙ ap (λ o. kept_at (shown w.history w.tier.log (unloaded gone all x.group)) (unwrap_or o 0)) (sym (ap (λ (d : GroupDef). place_of d.tree u) (unloaded_def gone all x.group) ∙ e))

  its : (i : ℕ) (y : Group) → slice_get w.tier.groups i ≡ Some y → 0 + i ≡ x.place → y ≡ x.group
  its i y here e =
      let same_place : i ≡ aim.place = (let z : i ≡ 0 + i = Prim.omega arith in z) ∙ e ∙ of.place in
      same_there w.tier.groups aim.place y x.group (sym (ap (slice_get w.tier.groups) same_place) ∙ here) at

  groups_behind : map without_list (unload_answer x all w).0.groups ≡ groups_in new.catalog
  groups_behind =
      flagged_seen (unloaded gone all) (marked false) 0 x.place w.tier.groups (λ i y here e.
      ap without_list (unloaded_listed gone all y (ap is_read_only (its i y here e) ∙ reads) (ap (λ (z : Group). z.def.dynamic) (its i y here e) ∙ lists.dynamic)))
      ∙ ap (changed_from (alone x.place) (marked false) 0) stands.stored.groups
      ∙ ap (λ p. changed_from (alone p) (marked false) 0 (groups_in t.catalog)) of.place
      ∙ marked_all false aim.place (groups_in t.catalog) ∙ sym cut.groups

  none_hidden : (g : Group) (h : RowsHeld) → slice_get w.tier.groups aim.place ≡ Some g → slice_get t.hidden.items aim.place ≡ Some h → h.table ≡ fm.empty
  none_hidden g h at_g held = (hides_there t w.tier aim.place g cut.store h sound stands.stored at_g cut.kept held).none
      (ap hides_keys (same_there w.tier.groups aim.place g x.group at_g at) ∙ lists.hides)

  stored : IsStoredAs new (unload_answer x all w).0
  stored = record {
    schema = stands.stored.schema ∙ sym cut.beside.schema;
    stale = stands.stored.stale ∙ sym cut.beside.stale;
    groups = groups_behind;
    lists = left_listed t new aim.place false _ cut w.tier x.place of.place (unloaded gone all) sound stands.stored
        (λ g h at_g held is. listed_same (record g { keys = without_keys gone g.keys }) (unloaded gone all g) cut.left h.table (unloaded_def gone all g) (unload_keys gone all g)
        (shrunk_listed g gone cut.store cut.left h.table left_keys (none_hidden g h at_g held) is));
    sessions = stands.stored.sessions ∙ ap (λ y. map session_seen (seen_all y)) (sym cut.beside.sessions);
    unsettled = stands.stored.unsettled ∙ ap (λ u. u.items) (sym cut.beside.unsettled);
    next = stands.stored.next ∙ sym cut.beside.next;
    doubt = stands.stored.doubt;
    time = time_kept t new w.tier cut.beside.clock stands.stored.time;
  }

  pub stands_listed : StandsFor new (with_tier (unload_answer x all w).0 w)
  stands_listed = record {
    stored = stored;
    shows = shows_changed t new w (with_tier (unload_answer x all w).0 w) aim.place x.group cut.left sound stands (record {
      there = at;
      schema = cut.beside.schema;
      known = refl;
      defined = changed_defs (alone x.place) (unloaded gone all) 0 w.tier.groups (unloaded_def gone all);
      stores = cut.stores;
      form = form_kept t.schema x.group.def.tree cut.store cut.left (form_here t w sound stands aim.place x.group cut.store at cut.kept) (left_tree leave cut.store cut.left did.gone);
      its = λ u p e. shown_then u p e ∙ sym (tables_then w stands.stands x.place x.group there reads gone all u (ap Rattle.std.proofs.Common.is_some e));
      others = tables_stay w stands.stands x.place x.group there reads gone all;
    });
    hides = hides_left t new aim.place false _ cut w.history stands.hides;
    stands = unload_stands w stands.stands x.place x.group there reads gone all;
    waits = stands.waits;
  }

  pub counted_listed : (reply : Reply) → reply ≡ only (Done n) → reply ≡ (unload_answer x all w).1
  counted_listed reply is = is ∙ ap (λ m. only (Done m)) count

-- the condition alone refuses it: no session writes in it

module _ (t : Stored) (aim : Aim) (s : Session) (w : World) (x : Target) (sound : IsSound t) (stands : StandsFor t w) (at : slice_get w.tier.groups aim.place ≡ Some x.group) (reads : is_read_only x.group ≡ true) (of : IsOfTarget x aim.place aim.which) where
  pub listed_free : FitsIn t aim → unload_fault s x w ≡ None
  listed_free fits = λ i. option_or
      ((fits_is t w sound stands x aim.place aim.which at of fits.store fits.kept ∙ ap (λ b. broken_if b (plain code.Overflow)) fits.fits) i)
      (unheld w stands.stands aim.place x.group at reads s.label (fm.contains_key (matching_shown w x)) i)

  pub listed_fault : (e : Refused) → RootsTold t aim (Err e) → IsRefusedBy (unload_fault s x w) e
  listed_fault (refused.Rule rule) over = λ i. option_or
      ((fits_is t w sound stands x aim.place aim.which at of over.store over.kept ∙ ap (λ b. broken_if b (plain code.Overflow)) over.is ∙ ap Some (sym over.told)) i)
      (unheld w stands.stands aim.place x.group at reads s.label (fm.contains_key (matching_shown w x)) i)
  listed_fault refused.Memory over = tt

module _ {D : Type 0} (state : D → SiteState) (possible : D → ℕ → Held → Type 0) (t : Stored) (k : Option TierJournal) (d : D) (ready : Ready) (id : SessionId) (aim : Aim) (all : Bool) (kind : aim.read_only ≡ true) (sound : IsSound t) where
  pub listed_here : Drops → true ≡ lists_shown (slice_get (groups_in t.catalog) aim.place) → (new : Stored) (k' : Option TierJournal) (d' : D) (n : ℕ) (told reply : Reply) → FitsIn t aim → IsCutGroup t new aim false n → AnswersBehind state possible k k' d d' ready told reply → told ≡ only (Done n)
      → UnloadsReady state possible t new k k' d d' ready id aim all reply
  listed_here drops asked new k' d' n told reply fits cut answers is = λ s w x has rests asks at stands keeps ready_for here kinds of.
      let reads : is_read_only x.group ≡ true = kinds ∙ kind in
      let lists = listed_so (groups_in t.catalog) aim.place (without_list x.group) asked (group_stored t w.tier aim.place x.group stands.stored here) in
      let p = answers new w (unload_entries all x.group) (unload_answer x all) at keeps ready_for
      (stands_listed drops t new aim n sound cut w x stands here reads of lists all) refl (λ j faults moment. refl)
      (counted_listed drops t new aim n sound cut w x stands here reads of lists all told is) in
      record {
        world = p.world;
        at = p.at;
        is = inl (unload_so s x all w p.world reply (listed_free t aim s w x sound stands here reads of fits) p.is);
        stands = p.stands;
        keeps = p.keeps;
      }

  -- 119 of the journal
  pub listed_full : (reply : Reply) → FitsIn t aim → is_full_ready ready ≡ true → reply ≡ only (No (past limit.JournalSlot)) → UnloadsReady state possible t t k k d d ready id aim all reply
  listed_full reply fits full told = λ s w x has rests asks at stands keeps ready_for here kinds of. record {
    world = w;
    at = at;
    is = inl (unload_so s x all w w reply (listed_free t aim s w x sound stands here (kinds ∙ kind) of fits)
        (full_then state possible k d w ready (unload_entries all x.group) (Answers (unload_answer x all)) reply keeps ready_for full told));
    stands = λ whole. stands;
    keeps = kept_unless keeps;
  }

  -- 120 of the condition, or memory was wanting
  pub listed_refused : (e : Refused) → RootsTold t aim (Err e) → UnloadsReady state possible t t k k d d ready id aim all (reply_of (Err e))
  listed_refused e told = λ s w x has rests asks at stands keeps ready_for here kinds of. record {
    world = w;
    at = at;
    is = by s w x e (listed_fault t aim s w x sound stands here (kinds ∙ kind) of e told);
    stands = λ whole. stands;
    keeps = kept_unless keeps;
  }
    where
      by : (s : Session) (w : World) (x : Target) (e : Refused) → IsRefusedBy (unload_fault s x w) e → Tries (UnloadsTarget s x all) w w (reply_of (Err e))
      by s w x (refused.Rule rule) is = inl (subst (λ o. Unless o (Then (FlushesSome (unload_entries all x.group)) (Answers (unload_answer x all))) w w (only (No rule))) (sym is) (refl, refl))
      by s w x refused.Memory is = inr (refl, refl)
