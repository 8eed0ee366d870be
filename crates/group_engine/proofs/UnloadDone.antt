-- UNLOAD of a writethrough group over what is stored.
use Rattle.std.proofs.Common.{◌≡◌, ◌+◌, ℕ, suc, Bool, true, false, not, cond, ◌&&◌, ◌||◌, Option, Some, None, Result, Ok, Err, List, [], ◌∷◌, length, map, set, slice_get, unwrap_or, arith, refl, sym, ap, subst, ◌∙◌, inl, inr}
use Rattle.std.specs.Option.{option_map}
use Rattle.std.specs.FinMap as fm
use Rattle.row_types.specs.declared.value.Value.{Value}
use Rattle.tier_base.specs.declared.code.Code.TheVariants as code
use Rattle.tier_base.specs.declared.number.SessionId.{SessionId}
use Rattle.indexed_rows.specs.Rows.{Table}
use Rattle.instances.specs.Views.{kept_at}
use Rattle.instances.specs.declared.tree.Tree.{Tree}
use Rattle.table_defs.specs.declared.definition.TableDef.{TableDef}
use Rattle.table_state.specs.declared.history.Entry.{Entry}
use Rattle.table_state.specs.Tables.{TableState}
use Rattle.open_sessions.specs.Opening.{AreSessions, seen_all}
use Rattle.row_types.specs.declared.rule.Refused.{Refused}
use Rattle.row_types.specs.declared.rule.Refused.TheVariants as refused
use Rattle.sql_subset.specs.declared.stmt.OfGroup.{OfGroup}
use Rattle.sql_subset.specs.declared.stmt.Stmt.TheVariants as statement
use Rattle.group_catalog.specs.Catalogs.{groups_in}
use Rattle.group_store.specs.Keeping.{KeepsOthers, primary_of}
use Rattle.group_store.specs.Shown.{AreHoused}
use Rattle.group_store.specs.Stores.{Kept, SameButSpare, cut_store}
use Rattle.group_store.specs.Trees.{keep, leads}
use Rattle.order_laws.specs.Commits.{RiseBetween}
use Rattle.order_laws.proofs.TruthLaws.{never_both}
use Rattle.tier_statements.specs.Seen.{session_seen}
use Rattle.cache_tier.specs.declared.reply.Last.TheVariants.{Done, No}
use Rattle.cache_tier.specs.declared.reply.Reply.{Reply}
use Rattle.cache_tier.specs.Conditions.{asks_all}
use Rattle.cache_tier.specs.Groups.{Group, definitions_of, is_explicit, is_key, is_read_only, is_writethrough, without_keys}
use Rattle.cache_tier.specs.JournalSteps.{FlushesSome}
use Rattle.cache_tier.specs.Reading.{Answers}
use Rattle.cache_tier.specs.Sets.{alone, changed_from}
use Rattle.cache_tier.specs.Shown.{instances_where, root_key}
use Rattle.cache_tier.specs.Steps.{DoesStatement}
use Rattle.cache_tier.specs.Targets.{Target}
use Rattle.cache_tier.specs.TierStates.{Session, Tier}
use Rattle.cache_tier.specs.UnloadSteps.{Unloads, gone_keys, matching_shown, unload_answer, unload_entries, unload_fault, unloaded}
use Rattle.cache_tier.specs.Worlds.{Then, Tries, Unless, World, faulty, only}
use Rattle.cache_tier.specs.Events.{with_tier}
use Rattle.cache_tier.specs.Loading.{ShowsKeys}
use Rattle.cache_tier.specs.StandingBetween.{Stands}
use Rattle.cache_tier.specs.Statements.{IsUnloadable}
use Rattle.group_engine.specs.declared.aiming.Aim.{Aim}
use Rattle.stored_tier.proofs.WriterLaws.{writers_same}
use Rattle.stored_tier.specs.declared.tier.Tier.{Tier as Stored}
use Rattle.stored_tier.specs.Grouping.{SameTree}
use Rattle.stored_tier.specs.Performing.{Executes, PerformsInOver, StandsFor, reply_of}
use Rattle.outside.specs.Sites.{SiteState}
use Rattle.stored_tier.proofs.LaterLaws.{later_by}
use Rattle.stored_tier.specs.Stored.{AreKept, AreWhole, HasSession, HidesRows, IsSound, IsStoredAs, are_later, named_where_cached, without_list}
use Rattle.group_engine.specs.Taking.{IsOfTarget}
use Rattle.slot_rows.specs.SlotKeys.{RowsHeld}
use Rattle.stored_tier.specs.Lists.{AreHiding, AreListed, IsListed, hides_keys}
use Rattle.stored_tier.proofs.HiddenRows.{SameView, hides_changed}
use Rattle.stored_tier.proofs.ListLaws.{hidden_long, hides_there, hiding_defined, hiding_long, kept_long, listed_same, stores_long}
use Rattle.group_engine.proofs.GroupRows.{same_there}
use Rattle.group_engine.proofs.ListsKept.{hides_none, hiding_set, listed_set, unhidden, writes_hides}
use Rattle.changed_sets.specs.OfAgingCycles.KeyLists.{cut_keys}
use Rattle.group_engine.proofs.UnloadLists.{gone_is, shrunk_listed, without_alike}
use Rattle.cache_tier.proofs.GroupTables.{read_only_not}
use Rattle.cache_tier.proofs.LoadLaws.{unload_keys}
use Rattle.changed_sets.specs.OfAgingCycles.Running.{cut_all}
use Rattle.group_engine.specs.Unloading.{AimsUnloadIn, FindsUnload, IsClearedAt, IsClearedGroup, IsCutBy, IsCutAt, IsCutGroup, LeavesGroup, UnloadsHere, UnloadsReady, UnloadsTarget, flagged, leaving}
use Rattle.group_engine.specs.UnloadLocks.{UnloadTold}
use Rattle.group_engine.specs.UnloadNamed.{FitsFor, FitsUnder}
use Rattle.group_engine.proofs.FittingRows.{shown_fits}
use Rattle.group_engine.proofs.NamedKeys.{HasCut, cut_widened, has_cut}
use Rattle.group_engine.specs.declared.ready.Ready.{Ready}
use Rattle.group_engine.specs.Ready.{AnswersBehind, is_full_ready}
use Rattle.group_engine.proofs.ReadyLaws.{full_then}
use Rattle.table_defs.specs.Declarations.{IsRefusedBy}
use Rattle.tier_base.specs.declared.limit.Limit.TheVariants as limit
use Rattle.cache_tier.specs.Rules.{past}
use Rattle.tier_journal.specs.declared.journal.TierJournal.{TierJournal}
use Rattle.tier_journal.proofs.WayLaws.{kept_unless}
use Rattle.outside.specs.Holding.{Held}
use Rattle.stored_tier.specs.Grouping.{KeepsGroups}
use Rattle.group_engine.proofs.DropLocks.{group_stored}
use Rattle.group_engine.proofs.DroppingLaws.{session_there}
use Rattle.group_engine.proofs.FlagLaws.{flagged_seen}
use Rattle.group_engine.proofs.GroupComes.{stands_kept, time_kept}
use Rattle.stored_tier.proofs.SoundParts.{all_plain, changed_defs, named_by, visible_by}
use Rattle.stored_tier.proofs.StoreChanges.{form_kept, get_here, get_there, housed_set, kept_defined, kept_set, shows_changed}
use Rattle.stored_tier.proofs.StoreRows.{form_at, form_here}
use Rattle.stored_tier.proofs.QuietLaws.{session_over, stands_over}
use Rattle.group_engine.proofs.UnloadAims.{rests_of, whole_of}
use Rattle.group_engine.proofs.UnloadLaws.{count_is, keys_are, left_shown}

-- a store that is cut keeps its form

keep_long : (test : ℕ → List Value → Bool) (tables : List Table) → length (keep test tables) ≡ length tables
keep_long test [] = refl
keep_long test (t ∷ tables) = ap suc (keep_long (λ place. test (suc place)) tables)

cut_tree : (keys : List (List Value)) (s : Kept) → SameTree s (cut_all keys s)
cut_tree [] s = record { table = refl; key = refl; foreign = refl; layers = refl }
cut_tree (k ∷ keys) s =
    let r = cut_tree keys (cut_store 0 k s) in
    record { table = r.table; key = r.key; foreign = r.foreign; layers = r.layers }

pub cut_long : (keys : List (List Value)) (s : Kept) → length (cut_all keys s).tables ≡ length s.tables
cut_long [] s = refl
cut_long (k ∷ keys) s = cut_long keys (cut_store 0 k s) ∙ keep_long (λ place key. not (leads s.layers s.tables 0 k (length s.layers) place key)) s.tables

pub left_tree : (keys : List (List Value)) (s left : Kept) → SameButSpare (cut_all keys s) left → SameTree s left
left_tree keys s left same =
    let r = cut_tree keys s in
    record { table = same.table ∙ r.table; key = same.key ∙ r.key; foreign = same.foreign ∙ r.foreign; layers = same.layers ∙ r.layers }

-- flags

flagged_defs : (all : Bool) (place : ℕ) (groups : List Group) → definitions_of (flagged all place groups) ≡ definitions_of groups
flagged_defs true place groups = changed_defs (alone place) (λ g. record g { loaded = false }) 0 groups (λ g. refl)
flagged_defs false place groups = refl

abbrev pub marked : Bool → Group → Group
marked true g = record g { loaded = false }
marked false g = g

same_ones : (place from : ℕ) (groups : List Group) → changed_from (alone place) (λ g. g) from groups ≡ groups
same_ones place from [] = refl
same_ones place from (g ∷ groups) = λ i. by (alone place from g) i ∷ same_ones place (suc from) groups i
  where
    by : (b : Bool) → cond b g g ≡ g
    by true = refl
    by false = refl

pub marked_all : (all : Bool) (place : ℕ) (groups : List Group) → changed_from (alone place) (marked all) 0 groups ≡ flagged all place groups
marked_all true place groups = refl
marked_all false place groups = same_ones place 0 groups

pub unloaded_def : (gone : List (List Value)) (all : Bool) (g : Group) → (unloaded gone all g).def ≡ g.def
unloaded_def gone false g = refl
unloaded_def gone true g = by (Rattle.cache_tier.specs.Targets.has_flag g)
  where
    by : (b : Bool) → (cond b (record g { keys = without_keys gone g.keys; loaded = false }) (record g { keys = without_keys gone g.keys })).def ≡ g.def
    by true = refl
    by false = refl

unloaded_seen : (gone : List (List Value)) (all : Bool) (g : Group) → is_writethrough g ≡ true → without_list (unloaded gone all g) ≡ marked all (without_list g)
unloaded_seen gone false g writes = refl
unloaded_seen gone true g writes = ap (λ b. without_list (cond (b || is_explicit g) (record g { keys = without_keys gone g.keys; loaded = false }) (record g { keys = without_keys gone g.keys }))) writes

-- the parts stay sound
pub sound_left : (t new : Stored) (place : ℕ) (all : Bool) (does : Group → Kept → Kept → Type 0) → IsSound t → (c : LeavesGroup t new place all does) → SameTree c.store c.left → length c.left.tables ≡ length c.store.tables → IsSound new
sound_left t new place all does sound c tree long =
    let schema = c.beside.schema in
    let defs : definitions_of (groups_in new.catalog) ≡ definitions_of (groups_in t.catalog) = ap definitions_of c.groups ∙ flagged_defs all place (groups_in t.catalog) in
    let form = form_at t.schema (groups_in t.catalog) t.stores.items place c.group c.store sound.kept c.there c.kept in
    let housed = housed_set t.schema (groups_in t.catalog) t.stores.items t.directory place c.store c.left c.group sound.stores sound.kept c.there c.kept form tree in
    let kept = kept_defined t.schema (groups_in t.catalog) (groups_in new.catalog) (set t.stores.items place c.left) defs
    (kept_set t.schema (groups_in t.catalog) t.stores.items place c.group c.left sound.kept c.there (form_kept t.schema c.group.def.tree c.store c.left form tree)) in
    record {
      sessions = subst (λ y. AreSessions new.schema y) (sym c.beside.sessions) (subst (λ d. AreSessions d t.sessions) (sym schema) sound.sessions);
      stores = subst (AreHoused new.schema new.stores.items) (sym c.directory) (subst (λ ss. AreHoused new.schema ss t.directory) (sym c.stores) (subst (λ d. AreHoused d (set t.stores.items place c.left) t.directory) (sym schema) housed));
      kept = subst (λ ss. AreKept new.schema (groups_in new.catalog) ss) (sym c.stores) (subst (λ d. AreKept d (groups_in new.catalog) (set t.stores.items place c.left)) (sym schema) kept);
      whole = subst AreWhole (sym c.stores) whole;
      hiding =
          subst (AreHiding new.schema (groups_in new.catalog) new.stores.items) (sym (λ i. (c.hidden i).items))
          (subst (λ ss. AreHiding new.schema (groups_in new.catalog) ss t.hidden.items) (sym c.stores)
          (subst (λ d. AreHiding d (groups_in new.catalog) (set t.stores.items place c.left) t.hidden.items) (sym schema)
          (hiding_defined t.schema (changed_from (alone place) (λ g. g) 0 (groups_in t.catalog)) (groups_in new.catalog) (set t.stores.items place c.left) t.hidden.items
          (defs ∙ sym (ap definitions_of (same_ones place 0 (groups_in t.catalog))))
          (hiding_set place (λ g. g) (groups_in t.catalog) t.stores.items c.store c.left c.kept (kept_long t.schema (groups_in t.catalog) t.stores.items sound.kept)
          t.schema t.hidden.items (hiding_long t.schema (groups_in t.catalog) t.stores.items t.hidden.items sound.hiding)
          (λ g x at held is. hides_none t.schema g c.store c.left x (subst (λ (y : Group). hides_keys y ≡ false) (same_there (groups_in t.catalog) place c.group g c.there at) c.hides) is)
          sound.hiding))));
      plain = all_plain (groups_in t.catalog) (groups_in new.catalog) defs sound.plain;
      named = named_by (groups_in t.catalog) (groups_in new.catalog) defs sound.named;
      visible = c.visible ∙ sound.visible ∙ sym (visible_by (groups_in t.catalog) (groups_in new.catalog) t.schema defs) ∙ ap (named_where_cached (groups_in new.catalog)) (sym schema);
      numbered = subst (λ us. RiseBetween 1 us new.next) (sym (ap (λ u. u.items) c.beside.unsettled)) (subst (RiseBetween 1 t.unsettled.items) (sym c.beside.next) sound.numbered);
      later = ap (λ u. are_later (groups_in new.catalog) u.items) c.beside.unsettled ∙ later_by (groups_in t.catalog) (groups_in new.catalog) t.unsettled.items defs sound.later;
      writers = writers_same t new schema (ap (λ u. u.items) c.beside.unsettled) c.beside.next c.beside.writers sound;
      verified = c.known;
    }
  where
    whole : AreWhole (set t.stores.items place c.left)
    whole k s at = elim (Rattle.std.proofs.lemmas.Bool.Decides.eqb_tells k place) [
      | inl same ↦ (
          let here : Some s ≡ Some c.left = sym at ∙ ap (slice_get (set t.stores.items place c.left)) same.1 ∙ get_here t.stores.items place c.store c.left c.kept in
          let one : s ≡ c.left = cc in
          subst (λ (y : Kept). length y.tables ≡ suc (length y.layers)) (sym one)
          (long ∙ sound.whole place c.store c.kept ∙ ap (λ ls. suc (length ls)) (sym tree.layers)))
      | inr other ↦ sound.whole k s (sym (get_there t.stores.items place k c.left other.1) ∙ at)
    ]

-- what it hides is as it was
pub hides_left : (t new : Stored) (place : ℕ) (all : Bool) (does : Group → Kept → Kept → Type 0) → LeavesGroup t new place all does → (history : List Entry) → HidesRows t history → HidesRows new history
hides_left t new place all does c history hides =
    hides_changed t new history (alone place) (marked all) (same all) (c.groups ∙ sym (marked_all all place (groups_in t.catalog))) (λ i. (c.hidden i).items) hides
  where
    same : (b : Bool) (g : Group) → SameView g (marked b g)
    same true g = record { def = refl; position = refl }
    same false g = record { def = refl; position = refl }

-- and the lists
pub left_listed : (t new : Stored) (place : ℕ) (all : Bool) (does : Group → Kept → Kept → Type 0) → (c : LeavesGroup t new place all does) → (a : Tier) (p : ℕ) → p ≡ place → (f : Group → Group) → IsSound t → IsStoredAs t a
    → ((g : Group) (x : RowsHeld) → slice_get a.groups place ≡ Some g → slice_get t.hidden.items place ≡ Some x → IsListed g c.store x.table → IsListed (f g) c.left x.table)
    → AreListed (changed_from (alone p) f 0 a.groups) new.stores.items new.hidden.items
left_listed t new place all does c a p same f sound is one =
    subst (AreListed (changed_from (alone p) f 0 a.groups) new.stores.items) (sym (λ i. (c.hidden i).items))
    (subst (λ q. AreListed (changed_from (alone q) f 0 a.groups) new.stores.items t.hidden.items) (sym same)
    (subst (λ ss. AreListed (changed_from (alone place) f 0 a.groups) ss t.hidden.items) (sym c.stores)
    (listed_set place f a.groups t.stores.items c.store c.left c.kept (stores_long t a sound is) t.hidden.items (hidden_long t a sound is) one is.lists)))

pub sound_cut : (t new : Stored) (aim : Aim) (all : Bool) (n : ℕ) → IsSound t → IsCutGroup t new aim all n → IsSound new
sound_cut t new aim all n sound cut =
    sound_left t new aim.place all _ sound cut (left_tree cut.did.keys cut.store cut.left cut.did.gone)
    (ap (λ (ts : List Table). length ts) cut.did.gone.tables ∙ cut_long cut.did.keys cut.store)

abbrev pub UnloadLaw : Type 0
UnloadLaw =
    (w : World) (s : Session) (x : Target) (all : Bool) → Stands w → IsUnloadable w s x
    → ShowsKeys x.group (λ key. is_key x.group.keys key && not (fm.contains_key (matching_shown w x) key)) w (with_tier (unload_answer x all w).0 w)

module _ (law : UnloadLaw) (drops : (state : TableState) (tree : Tree) → KeepsOthers state tree) (t new : Stored) (id : SessionId) (aim : Aim) (all : Bool) (n : ℕ) (sound : IsSound t) (cut : IsCutGroup t new aim all n)
    (s : Session) (w : World) (x : Target) (has : HasSession t id s) (rests : s.own ≡ []) (free : unload_fault s x w ≡ None) (stands : StandsFor t w) (at : slice_get w.tier.groups aim.place ≡ Some x.group) (writes : is_writethrough x.group ≡ true) (of : IsOfTarget x aim.place aim.which) where
  same_group : cut.group ≡ without_list x.group
  same_group = let both : Some cut.group ≡ Some (without_list x.group) = sym cut.there ∙ group_stored t w.tier aim.place x.group stands.stored at in cc

  -- what is stored fits, so that those left that match
  did : HasCut aim.which (primary_of t.schema x.group.def.tree.root.table) cut.store cut.left n
  did = has_cut (FitsFor t.schema x.group.def.tree.root.table) aim.which (primary_of t.schema x.group.def.tree.root.table) cut.store cut.left n
      (subst (λ (g : Group). IsCutBy (FitsFor t.schema g.def.tree.root.table) aim.which (primary_of t.schema g.def.tree.root.table) cut.store cut.left n) same_group cut.did)
      (shown_fits t w stands aim.place x.group at sound cut.store cut.kept)

  gone : SameButSpare (cut_all (leaving aim.which (primary_of t.schema x.group.def.tree.root.table) (kept_at cut.store.tables 0)) cut.store) cut.left
  gone = did.gone

  count : n ≡ fm.len (matching_shown w x)
  count = did.count ∙ count_is t w sound stands aim.place x.group at writes cut.store cut.kept x aim.which refl of

  unloadable : IsUnloadable w s x
  unloadable = record {
    group = record { there = ap (slice_get w.tier.groups) of.place ∙ at; through = writes };
    session = session_there t w.tier id s stands.stored has;
    rests = rests;
    unlocked = free;
  }

  behind : ShowsKeys x.group (λ key. is_key x.group.keys key && not (fm.contains_key (matching_shown w x) key)) w (with_tier (unload_answer x all w).0 w)
  behind = law w s x all stands.stands unloadable

  groups_behind : map without_list (unload_answer x all w).0.groups ≡ groups_in new.catalog
  groups_behind =
      flagged_seen (unloaded (gone_keys w x) all) (marked all) 0 x.place w.tier.groups (λ i y there e. unloaded_seen (gone_keys w x) all y (writes_at i y there e))
      ∙ ap (changed_from (alone x.place) (marked all) 0) stands.stored.groups
      ∙ ap (λ p. changed_from (alone p) (marked all) 0 (groups_in t.catalog)) of.place
      ∙ marked_all all aim.place (groups_in t.catalog) ∙ sym cut.groups
    where
      writes_at : (i : ℕ) (y : Group) → slice_get w.tier.groups i ≡ Some y → 0 + i ≡ x.place → is_writethrough y ≡ true
      writes_at i y there e =
          let place : i ≡ aim.place = (let z : i ≡ 0 + i = omega arith in z) ∙ e ∙ of.place in
          let both : Some y ≡ Some x.group = sym there ∙ ap (slice_get w.tier.groups) place ∙ at in
          let same : y ≡ x.group = cc in
          ap is_writethrough same ∙ writes

  reads_not : is_read_only x.group ≡ false
  reads_not = read_only_not x.group writes

  left_keys : cut.left.keys ≡ without_keys (gone_keys w x) cut.store.keys
  left_keys =
      let L = leaving aim.which (primary_of t.schema x.group.def.tree.root.table) (kept_at cut.store.tables 0) in
      gone.keys ∙ cut_keys L cut.store
      ∙ without_alike L (gone_keys w x) cut.store.keys (λ k. keys_are t w sound stands aim.place x.group at writes cut.store cut.kept x aim.which refl of k ∙ sym (gone_is w x stands.stands reads_not k))

  none_hidden_at : (g : Group) (h : RowsHeld) → slice_get w.tier.groups aim.place ≡ Some g → slice_get t.hidden.items aim.place ≡ Some h → h.table ≡ fm.empty
  none_hidden_at g h at_g held =
      let same : g ≡ x.group = same_there w.tier.groups aim.place g x.group at_g at in
      (hides_there t w.tier aim.place g cut.store h sound stands.stored at_g cut.kept held).none (writes_hides g (ap is_read_only same ∙ reads_not))

  stored : IsStoredAs new (unload_answer x all w).0
  stored = record {
    schema = stands.stored.schema ∙ sym cut.beside.schema;
    stale = stands.stored.stale ∙ sym cut.beside.stale;
    groups = groups_behind;
    lists = left_listed t new aim.place all _ cut w.tier x.place of.place (unloaded (gone_keys w x) all) sound stands.stored
        (λ g h at_g held is. listed_same (record g { keys = without_keys (gone_keys w x) g.keys }) (unloaded (gone_keys w x) all g) cut.left h.table (unloaded_def (gone_keys w x) all g) (unload_keys (gone_keys w x) all g)
        (shrunk_listed g (gone_keys w x) cut.store cut.left h.table left_keys (none_hidden_at g h at_g held) is));
    sessions = stands.stored.sessions ∙ ap (λ y. map session_seen (seen_all y)) (sym cut.beside.sessions);
    unsettled = stands.stored.unsettled ∙ ap (λ u. u.items) (sym cut.beside.unsettled);
    next = stands.stored.next ∙ sym cut.beside.next;
    doubt = stands.stored.doubt;
    time = time_kept t new w.tier cut.beside.clock stands.stored.time;
  }

  left_is : cut.left.tables ≡ instances_where stands.stands.flow.stand.over.virtual x.group.def.tree (λ row. is_key x.group.keys (root_key stands.stands.flow.stand.over.virtual x.group row) && not (fm.contains_key (matching_shown w x) (root_key stands.stands.flow.stand.over.virtual x.group row)))
  left_is = left_shown t w sound stands aim.place x.group at writes cut.store cut.kept x aim.which refl of (drops (record (stands.stands.flow.stand.over.virtual) { schema = t.schema }) x.group.def.tree) cut.left gone

  pub stands_left : StandsFor new (with_tier (unload_answer x all w).0 w)
  stands_left = record {
    stored = stored;
    shows = shows_changed t new w (with_tier (unload_answer x all w).0 w) aim.place x.group cut.left sound stands (record {
      there = at;
      schema = cut.beside.schema;
      known = refl;
      defined = changed_defs (alone x.place) (unloaded (gone_keys w x) all) 0 w.tier.groups (unloaded_def (gone_keys w x) all);
      stores = cut.stores;
      form = form_kept t.schema x.group.def.tree cut.store cut.left (form_here t w sound stands aim.place x.group cut.store at cut.kept) (left_tree (leaving aim.which (primary_of t.schema x.group.def.tree.root.table) (kept_at cut.store.tables 0)) cut.store cut.left gone);
      its = λ u p e. ap (λ ts. kept_at ts p) left_is ∙ sym (behind.its stands.stands.flow.stand.over.virtual u p stands.stands.flow.stand.over.virtual_is e);
      others = behind.others;
    });
    hides = hides_left t new aim.place all _ cut w.history stands.hides;
    stands = behind.stands;
    waits = stands.waits;
  }

  pub counted : (reply : Reply) → reply ≡ only (Done n) → reply ≡ (unload_answer x all w).1
  counted reply is = is ∙ ap (λ m. only (Done m)) count

-- and the statement

writes_through : (g : Group) (b : Bool) → is_read_only g ≡ b → b ≡ false → is_writethrough g ≡ true
writes_through g b is no_one = ap not (is ∙ no_one)

unload_so : (s : Session) (x : Target) (all : Bool) (w w' : World) (reply : Reply) → unload_fault s x w ≡ None → Then (FlushesSome (unload_entries all x.group)) (Answers (unload_answer x all)) w w' reply → UnloadsTarget s x all w w' reply
unload_so s x all w w' reply free then = subst (λ o. Unless o (Then (FlushesSome (unload_entries all x.group)) (Answers (unload_answer x all))) w w' reply) (sym free) then

module _ {D : Type 0} (state : D → SiteState) (possible : D → ℕ → Held → Type 0) where
  pub unloaded_here : UnloadLaw → ((state : TableState) (tree : Tree) → KeepsOthers state tree) → (t mid new : Stored) (k k' : Option TierJournal) (d d' : D) (ready : Ready) (id : SessionId) (aim : Aim) (all : Bool) (n : ℕ) (said reply : Reply) → UnloadTold t id aim (Ok tt) → mid ≡ record t { verified = mid.verified } → IsSound mid → aim.read_only ≡ false
      → IsCutGroup mid new aim all n → AnswersBehind state possible k k' d d' ready said reply → said ≡ only (Done n) → UnloadsReady state possible t new k k' d d' ready id aim all reply
  unloaded_here law drops t mid new k k' d d' ready id aim all n said reply told same sound kind cut answers is = λ s w x has rests asks at stands keeps ready_for there kinds of.
      let writes : is_writethrough x.group ≡ true = writes_through x.group aim.read_only kinds kind in
      let free : unload_fault s x w ≡ None = told s w x has stands there writes of in
      let had = session_over t mid id s same has in
      let stood = stands_over t mid w same stands in
      let p = answers new w (unload_entries all x.group) (unload_answer x all) at keeps ready_for (stands_left law drops mid new id aim all n sound cut s w x had rests free stood there writes of) refl (λ j faults moment. refl)
      (counted law drops mid new id aim all n sound cut s w x had rests free stood there writes of said is) in
      record { world = p.world; at = p.at; is = inl (unload_so s x all w p.world reply free p.is); stands = p.stands; keeps = p.keeps }

  -- 119 of the journal
  pub unload_full : (t mid : Stored) (k : Option TierJournal) (d : D) (ready : Ready) (id : SessionId) (aim : Aim) (all : Bool) (reply : Reply) → UnloadTold t id aim (Ok tt) → mid ≡ record t { verified = mid.verified } → aim.read_only ≡ false → is_full_ready ready ≡ true → reply ≡ only (No (past limit.JournalSlot))
      → UnloadsReady state possible t mid k k d d ready id aim all reply
  unload_full t mid k d ready id aim all reply told same kind full is = λ s w x has rests asks at stands keeps ready_for there kinds of.
      let free : unload_fault s x w ≡ None = told s w x has stands there (writes_through x.group aim.read_only kinds kind) of in
      record {
        world = w;
        at = at;
        is = inl (unload_so s x all w w reply free (full_then state possible k d w ready (unload_entries all x.group) (Answers (unload_answer x all)) reply keeps ready_for full is));
        stands = λ whole. stands_over t mid w same stands;
        keeps = kept_unless keeps;
      }

  -- 120, then 111, or memory was wanting
  pub unload_refused : (t mid : Stored) (k : Option TierJournal) (d : D) (ready : Ready) (id : SessionId) (aim : Aim) (all : Bool) (e : Refused) → UnloadTold t id aim (Err e) → mid ≡ record t { verified = mid.verified } → aim.read_only ≡ false → UnloadsReady state possible t mid k k d d ready id aim all (reply_of (Err e))
  unload_refused t mid k d ready id aim all e told same kind = λ s w x has rests asks at stands keeps ready_for there kinds of. record {
    world = w;
    at = at;
    is = by s w x e (told s w x has stands there (writes_through x.group aim.read_only kinds kind) of);
    stands = λ whole. stands_over t mid w same stands;
    keeps = kept_unless keeps;
  }
    where
      by : (s : Session) (w : World) (x : Target) (e : Refused) → IsRefusedBy (unload_fault s x w) e → Tries (UnloadsTarget s x all) w w (reply_of (Err e))
      by s w x (refused.Rule rule) is = inl (subst (λ o. Unless o (Then (FlushesSome (unload_entries all x.group)) (Answers (unload_answer x all))) w w (only (No rule))) (sym is) (refl, refl))
      by s w x refused.Memory is = inr (refl, refl)

  pub unload_wanting : (t mid new : Stored) (k : Option TierJournal) (d : D) (ready : Ready) (id : SessionId) (aim : Aim) (all : Bool) → mid ≡ record t { verified = mid.verified } → KeepsGroups mid new → UnloadsReady state possible t new k k d d ready id aim all (faulty code.Memory)
  unload_wanting t mid new k d ready id aim all same kept = λ s w x has rests asks at stands keeps ready_for there kinds of. record {
    world = w;
    at = at;
    is = inr (refl, refl);
    stands = λ whole. stands_kept mid new w (stands_over t mid w same stands) kept;
    keeps = kept_unless keeps;
  }

-- the whole statement, from the group that it names
pub unload_done : {D : Type 0} (state : D → SiteState) (possible : D → ℕ → Held → Type 0) (t new : Stored) (k k' : Option TierJournal) (d d' : D) (id : SessionId) (u : OfGroup) (aim : Aim) (result : Result Reply Refused) → AimsUnloadIn t id u (Ok aim)
    → UnloadsHere state possible t new k k' d d' id aim (asks_all u.which) (reply_of result) → PerformsInOver state possible t new k k' d d' id (Executes (statement.Unload u)) result
unload_done state possible t new k k' d d' id u aim result aims here = λ s has w at stands unshared keeps. (
    let f = aims w.tier s stands.stored has in
    let x : Target = record { place = aim.place; group = f.group; filter = aim.which.filter; id = u.which.id } in
    let p = here s w x has (rests_of w.tier s u f) (whole_of w.tier s u f) at stands keeps f.there f.kind (record { place = refl; filter = refl; id = f.is.id }) in
    record {
      world = p.world;
      at = p.at;
      is = done s w p.world f p.is;
      stands = p.stands;
      keeps = p.keeps;
    })
  where
    done : (s : Session) (w w' : World) (f : FindsUnload w.tier s u aim) → Tries (UnloadsTarget s (record { place = aim.place; group = f.group; filter = aim.which.filter; id = u.which.id }) (asks_all u.which)) w w' (reply_of result) → Executes (statement.Unload u) s w w' (reply_of result)
    done s w w' f (inl does) =
        let on : Unloads s u w w' (reply_of result) = record {
          target = record { place = aim.place; group = f.group; filter = aim.which.filter; id = u.which.id };
          place = f.place;
          group = f.there;
          filter = f.is.filter;
          id = refl;
          does = does;
        } in
        inl (subst (λ o. Unless o (DoesStatement s (statement.Unload u)) w w' (reply_of result)) (sym f.free) on)
    done s w w' f (inr wants) = inr wants

-- the store and the flag of the group

pub group_cleared : (t mid new : Stored) (place n : ℕ) (seen : Group) → slice_get (groups_in t.catalog) place ≡ Some seen → seen.def.dynamic ≡ false → IsClearedAt place t.stores.items mid.stores.items n → mid ≡ record t { stores = mid.stores } → new ≡ record mid { catalog = new.catalog; verified = false }
    → groups_in new.catalog ≡ flagged true place (groups_in mid.catalog) → IsClearedGroup t new place n
group_cleared t mid new place n seen at whole cleared same then groups = record {
  group = seen;
  store = cleared.store;
  left = cleared.left;
  there = at;
  kept = cleared.kept;
  hides = unhidden seen whole;
  did = (cleared.cleared, whole);
  stores = ap (λ (y : Stored). y.stores.items) then ∙ cleared.is;
  groups = groups ∙ ap (λ (y : Stored). flagged true place (groups_in y.catalog)) same;
  beside = record {
    schema = ap (λ (y : Stored). y.schema) then ∙ ap (λ (y : Stored). y.schema) same;
    stale = ap (λ (y : Stored). y.stale) then ∙ ap (λ (y : Stored). y.stale) same;
    sessions = ap (λ (y : Stored). y.sessions) then ∙ ap (λ (y : Stored). y.sessions) same;
    unsettled = ap (λ (y : Stored). y.unsettled) then ∙ ap (λ (y : Stored). y.unsettled) same;
    writers = ap (λ (y : Stored). y.writers) then ∙ ap (λ (y : Stored). y.writers) same;
    next = ap (λ (y : Stored). y.next) then ∙ ap (λ (y : Stored). y.next) same;
    clock = ap (λ (y : Stored). y.clock) then ∙ ap (λ (y : Stored). y.clock) same;
  };
  visible = ap (λ (y : Stored). y.visible) then ∙ ap (λ (y : Stored). y.visible) same;
  directory = ap (λ (y : Stored). y.directory) then ∙ ap (λ (y : Stored). y.directory) same;
  hidden = ap (λ (y : Stored). y.hidden) then ∙ ap (λ (y : Stored). y.hidden) same;
  known = λ e. absurd (never_both new.verified e (ap (λ (y : Stored). y.verified) then));
}

pub group_cut : (t mid new : Stored) (aim : Aim) (all : Bool) (n : ℕ) (seen : Group) (def : TableDef) (columns : List ℕ) → slice_get (groups_in t.catalog) aim.place ≡ Some seen → hides_keys seen ≡ false → slice_get t.schema seen.def.tree.root.table.0 ≡ Some def → columns ≡ def.primary_key
    → IsCutAt (FitsUnder def) aim.place columns aim.which t.stores.items mid.stores.items n → mid ≡ record t { stores = mid.stores } → new ≡ record mid { catalog = new.catalog; verified = false } → groups_in new.catalog ≡ flagged all aim.place (groups_in mid.catalog) → IsCutGroup t new aim all n
group_cut t mid new aim all n seen def columns at hides defined are cut same then groups =
    let its : columns ≡ primary_of t.schema seen.def.tree.root.table = are ∙ sym (ap (λ o. unwrap_or (option_map (λ (d : TableDef). d.primary_key) o) []) defined) in
    record {
      group = seen;
      store = cut.store;
      left = cut.left;
      there = at;
      kept = cut.kept;
      hides = hides;
      did = subst (λ cs. IsCutBy (FitsFor t.schema seen.def.tree.root.table) aim.which cs cut.store cut.left n) its (cut_widened t.schema seen.def.tree.root.table def aim.which columns cut.store cut.left n defined cut.cut);
      stores = ap (λ (y : Stored). y.stores.items) then ∙ cut.is;
      groups = groups ∙ ap (λ (y : Stored). flagged all aim.place (groups_in y.catalog)) same;
      beside = record {
        schema = ap (λ (y : Stored). y.schema) then ∙ ap (λ (y : Stored). y.schema) same;
        stale = ap (λ (y : Stored). y.stale) then ∙ ap (λ (y : Stored). y.stale) same;
        sessions = ap (λ (y : Stored). y.sessions) then ∙ ap (λ (y : Stored). y.sessions) same;
        unsettled = ap (λ (y : Stored). y.unsettled) then ∙ ap (λ (y : Stored). y.unsettled) same;
        writers = ap (λ (y : Stored). y.writers) then ∙ ap (λ (y : Stored). y.writers) same;
        next = ap (λ (y : Stored). y.next) then ∙ ap (λ (y : Stored). y.next) same;
        clock = ap (λ (y : Stored). y.clock) then ∙ ap (λ (y : Stored). y.clock) same;
      };
      visible = ap (λ (y : Stored). y.visible) then ∙ ap (λ (y : Stored). y.visible) same;
      directory = ap (λ (y : Stored). y.directory) then ∙ ap (λ (y : Stored). y.directory) same;
      hidden = ap (λ (y : Stored). y.hidden) then ∙ ap (λ (y : Stored). y.hidden) same;
      known = λ e. absurd (never_both new.verified e (ap (λ (y : Stored). y.verified) then));
    }
