-- LOAD and REFRESH of a writethrough group, in the worlds for which the tier stands.
use Rattle.std.proofs.Common.{◌≡◌, ◌≤◌, inl, inr, ℕ, Bool, true, false, cond, not, ◌&&◌, ◌||◌, nat_eq, Option, Some, None, Result, Ok, Err, List, [], ◌∷◌, ◌++◌, is_some, length, map, slice_get, slice_set, arith, refl, sym, ap, subst, ◌∙◌}
use Rattle.std.proofs.lemmas.Bool.{eq-eqb, eqb-true}
use Rattle.std.proofs.lemmas.List.{append-nil, take_all}
use Rattle.std.specs.FinMap as fm
use Rattle.row_types.specs.declared.rule.Refused.{Refused}
use Rattle.row_types.specs.declared.rule.Refused.TheVariants as refused
use Rattle.row_types.specs.declared.rule.Rule.{Rule}
use Rattle.row_types.specs.declared.value.Value.{Value}
use Rattle.tier_base.specs.declared.code.Code.TheVariants as code
use Rattle.tier_base.specs.declared.limit.Limit.TheVariants as limit
use Rattle.tier_base.specs.declared.number.TableId.{TableId}
use Rattle.indexed_rows.specs.Rows.{Table}
use Rattle.indexed_rows.proofs.MapLaws.{slice_get_map}
use Rattle.table_state.specs.Copies.{is_one_of}
use Rattle.table_state.specs.declared.history.Entry.{Entry}
use Rattle.table_state.specs.Histories.{state_of}
use Rattle.table_state.specs.Tables.{TableState, table_at}
use Rattle.instances.specs.declared.tree.Child.{Child}
use Rattle.instances.specs.declared.tree.Tree.{Tree}
use Rattle.instances.specs.Trees.{place_of}
use Rattle.instances.specs.Views.{kept_at, passes}
use Rattle.cache_store.specs.Shown.{shown_of}
use Rattle.open_sessions.specs.Opening.{seen_all}
use Rattle.order_laws.proofs.TruthLaws.{same_some}
use Rattle.outside.specs.Calls as site
use Rattle.outside.specs.Console.{TakesSnapshot}
use Rattle.outside.specs.Holding.{Held}
use Rattle.outside.specs.declared.fault.BankError.{BankError}
use Rattle.outside.specs.declared.fault.BankError.TheVariants.{Memory}
use Rattle.outside.specs.declared.site.Snapshot.{Snapshot}
use Rattle.group_catalog.specs.Catalogs.{groups_in}
use Rattle.group_catalog.specs.declared.which.ResolvedWhich.{ResolvedWhich}
use Rattle.group_store.specs.Stores.{Kept, SameButSpare, put_tables}
use Rattle.tier_statements.specs.Seen.{session_seen}
use Rattle.cache_tier.specs.declared.group.GroupDef.{GroupDef}
use Rattle.cache_tier.specs.declared.reply.Last.TheVariants.{Done, No}
use Rattle.cache_tier.specs.declared.reply.Reply.{Reply}
use Rattle.cache_tier.specs.Conditions.{overflow_fault}
use Rattle.cache_tier.specs.Groups.{Group, covers, is_explicit, is_key, is_writethrough, with_keys}
use Rattle.cache_tier.specs.LoadSteps.{added_answer}
use Rattle.outside.specs.Calls.{Lengthens}
use Rattle.cache_tier.specs.Reading.{Answers, TellsPosition, backing_at, state_or_none}
use Rattle.cache_tier.specs.RefreshSteps.{judged_roots, refreshed_answer}
use Rattle.cache_tier.specs.Rules.{broken_if, past, plain as plain_rule}
use Rattle.cache_tier.specs.Sets.{alone, changed, changed_from}
use Rattle.cache_tier.specs.Shown.{shown_state}
use Rattle.cache_tier.specs.Targets.{Settles, Target, backing_roots, held_roots, load_entries, matching, new_keys, with_flag}
use Rattle.cache_tier.specs.TierStates.{Tier}
use Rattle.cache_tier.specs.Worlds.{Answer, BankCall, IsUnshared, Unless, World, bank_fault, faulty, only}
use Rattle.cache_tier.specs.Events.{StaysShown, at_history, with_tier}
use Rattle.cache_tier.specs.Loading.{ShowsKeys}
use Rattle.cache_tier.proofs.HistoryKeeps.{around_goes_on, root_covers}
use Rattle.cache_tier.proofs.LoadStatements.{load_shows}
use Rattle.stored_tier.specs.declared.clock.TierClock.{TierClock}
use Rattle.stored_tier.specs.declared.tier.Tier.{Tier as Stored}
use Rattle.stored_tier.specs.Choosing.{chosen, comes, counted, matches_at}
use Rattle.stored_tier.specs.Gathering.{coming_in, gathered_in, overflows_in}
use Rattle.stored_tier.specs.Performing.{IsPerformedOver, StandsFor, reply_of}
use Rattle.stored_tier.specs.Sites.{IsAt}
use Rattle.outside.specs.Sites.{SiteState}
use Rattle.stored_tier.specs.Stored.{IsSound, IsStoredAs, KeepsTime, rows_of, without_list}
use Rattle.slot_rows.specs.SlotKeys.{IsKeyedBy}
use Rattle.stored_tier.specs.Lists.{AreListed}
use Rattle.stored_tier.proofs.HiddenRows.{hides_changed, hides_later, hides_then}
use Rattle.stored_tier.proofs.LongerLaws.{read_longer}
use Rattle.stored_tier.proofs.ListLaws.{hidden_long, listed_same, stores_long}
use Rattle.group_engine.proofs.ListsKept.{grown_listed, listed_set}
use Rattle.group_engine.proofs.PutKeys.{are_new, put_keys}
use Rattle.group_engine.specs.Taking.{AsksTree, IsOfTarget, IsSameButRoom, IsSettledAt, JudgesFull, MayTake, PerformsWhere, ReadsMatching, TakesIn, TakesMatching}
use Rattle.stored_tier.proofs.BankLaws.{TellsBehind, behind, behind_at, call_behind, told_behind}
use Rattle.group_engine.proofs.FlagLaws.{flag_def, flag_keys, flag_seen, IsChanged, as_loaded, changed_at, flagged_seen, own_place, set_beside, set_there}
use Rattle.group_engine.proofs.LoadLaws.{filled_shown, has_roots, its_roots, roots_keyed, store_has}
use Rattle.group_engine.proofs.MatchLaws.{HasRoots, all_shown, coming_keys, count_coming, instances_of_keys, matching_is, shown_alike}
use Rattle.group_engine.proofs.SnapshotLaws.{IsRead, is_read, tree_asked}
use Rattle.stored_tier.proofs.StandingLaws.{stands_behind}
use Rattle.stored_tier.proofs.OverLaws.{keeps_called, keeps_stays}
use Rattle.group_engine.specs.declared.ready.Ready.{Ready}
use Rattle.group_engine.specs.Ready.{AnswersBehind, IgnoresDisk, IsReadyFor, is_full_ready}
use Rattle.group_engine.proofs.ReadyLaws.{full_then}
use Rattle.tier_journal.specs.Drafts.{StaysKept}
use Rattle.tier_journal.specs.KeptOver.{KeepsOver}
use Rattle.propagators.specs.Certainty.{KeepsCertain}
use Rattle.tier_journal.specs.declared.journal.TierJournal.{TierJournal}
use Rattle.tier_journal.proofs.WayLaws.{kept_unless}
use Rattle.group_engine.proofs.TakenParts.{hidden_room, rows_room, stored_room}
use Rattle.stored_tier.proofs.StoreRows.{are_kept, kept_is_shown, shows_kept}

abbrev Row : Type 0
Row = List Value

never : false ≡ true → ⊥
never e = cc

-- calls that read, in the worlds

-- nothing was called, for want of memory
pub no_call : (w : World) → BankCall (TellsPosition (Err Memory)) w w
no_call w = record {
  history = record { before = []; middle = w.history; behind = []; came_before = tt; own = sym (append-nil (w.history ++ []) ∙ append-nil w.history); came_behind = tt; is = sym (append-nil w.history) };
  journal = refl;
  faults = omega arith;
  disk = refl;
  moment = omega arith;
  shared = refl;
}

reads_failing : (refreshes : Bool) (x : Target) (w mid : World) (e : BankError) → BankCall (TellsPosition (Err e)) w mid → mid.tier ≡ w.tier → ReadsMatching refreshes x w mid (bank_fault e)
reads_failing true x w mid e call tier = record { result = Err e; mid = mid; call = call; tier = tier; goes_on = (refl, refl) }
reads_failing false x w mid e call tier = record { result = Err e; mid = mid; call = call; tier = tier; goes_on = (refl, refl) }

pub reads_wanting : {D : Type 0} (state : D → SiteState) (possible : D → ℕ → Held → Type 0) (t : Stored) (k k' : Option TierJournal) (d : D) (place : ℕ) (x : Target) (refreshes : Bool) → StaysKept k k' → PerformsWhere (IsSettledAt place x.group) state possible t t k k' d d (Some (faulty code.Memory)) (λ w w'. ReadsMatching refreshes x w w' (faulty code.Memory))
reads_wanting state possible t k k' d place x refreshes stays w at stands apart keeps here = record {
  world = w;
  at = at;
  is = reads_failing refreshes x w w Memory (no_call w) refl;
  stands = λ whole. stands;
  keeps = kept_unless (keeps_stays state possible d k k' w stays keeps);
}

-- the call failed
pub reads_failed : {D : Type 0} (state : D → SiteState) (possible : D → ℕ → Held → Type 0) (t : Stored) (k : Option TierJournal) (d d' : D) (place : ℕ) (x : Target) (refreshes : Bool) (asked : List TableId) (e : BankError) (reply : Reply)
    → reply ≡ bank_fault e → site.Told (state d).held (state d').held (site.BankCall (state d).shared (TakesSnapshot asked (Err e))) → (state d).bank_faults ≤ (state d').bank_faults → (state d).moment ≤ (state d').moment → (state d').shared ≡ (state d).shared → KeepsCertain state possible d d'
    → PerformsWhere (IsSettledAt place x.group) state possible t t k k d d' (Some reply) (λ w w'. ReadsMatching refreshes x w w' reply)
reads_failed state possible t k d d' place x refreshes asked e reply is told faults moment shares certain w at stands apart keeps here =
    let now = told_behind at.there (state d).held (state d').held (site.BankCall (state d).shared (TakesSnapshot asked (Err e))) at.told told in
    let call = call_behind w w.tier (state d) (state d') now.there (TakesSnapshot asked (Err e)) at now.is faults moment in
    let stays : StaysShown w (at_history now.there.history w) = around_goes_on w now.there.history stands.stands apart call.history in
    subst (λ r. IsPerformedOver state possible t k d' (Some r) (λ w'. ReadsMatching refreshes x w w' r)) (sym is)
    (record {
      world = behind w w.tier now.there (state d');
      at = behind_at w w.tier (state d) (state d') now.there at now.told shares;
      is = reads_failing refreshes x w (behind w w.tier now.there (state d')) e (record { history = call.history; journal = call.journal; faults = call.faults; disk = call.disk; moment = call.moment; shared = call.shared }) refl;
      stands = λ whole. record { stored = stands.stored; shows = stands.shows ∙ sym stays.same; hides = hides_later t w now.there.history stands (read_longer w (TakesSnapshot asked (Err e)) now.there.history (λ a b s. s) call.history); stands = stands_behind w w.tier now.there (state d') stays.stands; waits = stands.waits };
      keeps = kept_unless (keeps_called state possible k d d' w (behind w w.tier now.there (state d')) keeps certain refl refl (behind_at w w.tier (state d) (state d') now.there at now.told shares));
    })

-- the group as the catalog has it
seen_at_place : (t : Stored) (a : Tier) (place : ℕ) (g seen : Group) → IsStoredAs t a → slice_get a.groups place ≡ Some g → slice_get (groups_in t.catalog) place ≡ Some seen → seen ≡ without_list g
seen_at_place t a place g seen is there at = same_some (sym at ∙ ap (λ gs. slice_get gs place) (sym is.groups) ∙ slice_get_map without_list a.groups place g there)

abbrev tier_with : World → Target → Table → Tier
tier_with w x m = changed (alone x.place) (λ g. with_flag true (record g { keys = with_keys (fm.keys m) g.keys })) w.tier

-- The snapshot came.
module _ {D : Type 0} (state : D → SiteState) (possible : D → ℕ → Held → Type 0) (old : Stored) (k : Option TierJournal) (d d' : D) (place : ℕ) (which : ResolvedWhich) (refreshes : Bool) (x : Target) (of : IsOfTarget x place which) (writes : is_writethrough x.group ≡ true) (sound : IsSound old) (asked : List TableId) (asks : AsksTree old place asked) (may : MayTake old place refreshes) (snapshot : Snapshot)
    (told : site.Told (state d).held (state d').held (site.BankCall (state d).shared (TakesSnapshot asked (Ok snapshot)))) (faults : (state d).bank_faults ≤ (state d').bank_faults) (moment : (state d).moment ≤ (state d').moment) (shares : (state d').shared ≡ (state d).shared)
    (certain : KeepsCertain state possible d d') (w : World) (at : IsAt (state d) w) (stands : StandsFor old w) (apart : IsUnshared w) (keeps : KeepsOver state possible d k w) (here : IsSettledAt place x.group w) where
  pub now : TellsBehind at.there (state d').held (site.BankCall (state d).shared (TakesSnapshot asked (Ok snapshot)))
  now = told_behind at.there (state d).held (state d').held (site.BankCall (state d).shared (TakesSnapshot asked (Ok snapshot))) at.told told

  abbrev pub n : ℕ
  n = snapshot.position.0

  abbrev pub c : TableState
  c = snapshot.tables

  abbrev pub tree : Tree
  tree = x.group.def.tree

  covered_asked : (u : TableId) → covers u x.group ≡ true → is_one_of asked u ≡ true
  covered_asked u e = by (place_of tree u) refl e
    where
      def : asks.group.def ≡ x.group.def
      def = ap (λ (g : Group). g.def) (seen_at_place old w.tier place x.group asks.group stands.stored here.there asks.there)

      by : (o : Option ℕ) → place_of tree u ≡ o → is_some o ≡ true → is_one_of asked u ≡ true
      by None is e = cc
      by (Some p) is e =
          ap (λ l. is_one_of l u) (asks.is ∙ ap (λ (d : GroupDef). d.tree.root.table ∷ map (λ (k : Child). k.table) d.tree.children) def)
          ∙ tree_asked tree u p is

  abbrev pub later : List Entry
  later = now.there.history

  abbrev pub mid : World
  mid = behind w w.tier now.there (state d')

  call : BankCall (TakesSnapshot asked (Ok snapshot)) w mid
  call = call_behind w w.tier (state d) (state d') now.there (TakesSnapshot asked (Ok snapshot)) at now.is faults moment

  pub reads_call : BankCall (TellsPosition (Ok n)) w mid
  reads_call = record {
    history = record {
      before = call.history.before;
      middle = call.history.middle;
      behind = call.history.behind;
      came_before = call.history.came_before;
      own = (call.history.own.0, call.history.own.1);
      came_behind = call.history.came_behind;
      is = call.history.is;
    };
    journal = call.journal;
    faults = call.faults;
    disk = call.disk;
    moment = call.moment;
    shared = call.shared;
  }

  pub read : IsRead w later x.group n c
  read = is_read w stands.stands apart here.settled place x.group here.there writes asked covered_asked snapshot later call.history

  abbrev pub root : TableId
  root = tree.root.table

  abbrev pub R : Table
  R = table_at read.v root

  abbrev pub M : Table
  M = chosen (matches_at which) R

  backing_is : backing_at mid n ≡ read.read
  backing_is = ap state_or_none read.read_is

  copied_roots : table_at c root ≡ R
  copied_roots = read.copied root (root_covers x.group)

  rows_judged : table_at (backing_at mid n) root ≡ table_at c root
  rows_judged = ap (λ (s : TableState). table_at s root) backing_is ∙ read.rows root (root_covers x.group) ∙ sym copied_roots

  overflow_is : overflow_fault x.filter (backing_roots (backing_at mid n) x) ≡ broken_if (overflows_in c tree which) (plain_rule code.Overflow)
  overflow_is = ap (overflow_fault x.filter) rows_judged ∙ ap (λ f. overflow_fault f (table_at c root)) (sym of.filter)

  explicit : refreshes ≡ true → is_explicit x.group ≡ true
  explicit e =
      let same = seen_at_place old w.tier place x.group asks.group stands.stored here.there asks.there in
      ap not (ap (λ (g : Group). g.def.dynamic) (sym same) ∙ ap (λ b. b && asks.group.def.dynamic) (sym e) ∙ may asks.group asks.there)

  judged_is : refreshes ≡ true → overflow_fault x.filter (judged_roots (backing_at mid n) x) ≡ broken_if (overflows_in c tree which) (plain_rule code.Overflow)
  judged_is e = ap (λ b. overflow_fault x.filter (cond b (backing_roots (backing_at mid n) x) (held_roots x (backing_roots (backing_at mid n) x)))) (explicit e) ∙ overflow_is

  -- a part, where the condition isn't 120
  went_on : (b : Bool) → refreshes ≡ b → (w' : World) (reply : Reply) → overflows_in c tree which ≡ false
      → (b ≡ false → Settles x (added_answer x n) mid w' reply) → (b ≡ true → Settles x (refreshed_answer x n) mid w' reply) → ReadsMatching b x w w' reply
  went_on false kind w' reply fits adds refreshes = record {
    result = Ok n;
    mid = mid;
    call = reads_call;
    tier = refl;
    goes_on = inl (subst (λ f. Unless f (Settles x (added_answer x n)) mid w' reply) (sym (overflow_is ∙ ap (λ o. broken_if o (plain_rule code.Overflow)) fits)) (adds refl));
  }
  went_on true kind w' reply fits adds refreshes = record {
    result = Ok n;
    mid = mid;
    call = reads_call;
    tier = refl;
    goes_on = inl (subst (λ f. Unless f (Settles x (refreshed_answer x n)) mid w' reply) (sym (judged_is kind ∙ ap (λ o. broken_if o (plain_rule code.Overflow)) fits)) (refreshes refl));
  }

  overflowed : (b : Bool) → refreshes ≡ b → (rule : Rule) → overflows_in c tree which ≡ true → rule ≡ plain_rule code.Overflow → ReadsMatching b x w mid (only (No rule))
  overflowed false kind rule over is = record {
    result = Ok n;
    mid = mid;
    call = reads_call;
    tier = refl;
    goes_on = inl (subst (λ f. Unless f (Settles x (added_answer x n)) mid mid (only (No rule))) (sym (overflow_is ∙ ap (λ o. broken_if o (plain_rule code.Overflow)) over)) (refl, ap (λ r. only (No r)) is));
  }
  overflowed true kind rule over is = record {
    result = Ok n;
    mid = mid;
    call = reads_call;
    tier = refl;
    goes_on = inl (subst (λ f. Unless f (Settles x (refreshed_answer x n)) mid mid (only (No rule))) (sym (judged_is kind ∙ ap (λ o. broken_if o (plain_rule code.Overflow)) over)) (refl, ap (λ r. only (No r)) is));
  }

  wanted : (b : Bool) → ReadsMatching b x w mid (faulty code.Memory)
  wanted false = record { result = Ok n; mid = mid; call = reads_call; tier = refl; goes_on = inr (refl, refl) }
  wanted true = record { result = Ok n; mid = mid; call = reads_call; tier = refl; goes_on = inr (refl, refl) }

  -- a journal is kept over the call
  pub at_mid : IsAt (state d') mid
  at_mid = behind_at w w.tier (state d) (state d') now.there at now.told shares

  keeps_mid : KeepsOver state possible d' k mid
  keeps_mid = keeps_called state possible k d d' w mid keeps certain refl refl at_mid

  longer : Lengthens w.history later
  longer = read_longer w (TellsPosition (Ok n)) later (λ a b s. s.0) reads_call.history

  -- nothing was taken in
  left_so : (new : Stored) (reply : Reply) → IsSameButRoom old new → ReadsMatching refreshes x w mid reply → IsPerformedOver state possible new k d' (Some reply) (λ w'. ReadsMatching refreshes x w w' reply)
  left_so new reply same is = record {
    world = mid;
    at = at_mid;
    is = is;
    stands = λ whole. record { stored = stored_room old new same w.tier stands.stored; shows = rows_room old new same ∙ stands.shows ∙ sym read.shown; hides = hides_then old new w later (hidden_room old new same) stands longer; stands = stands_behind w w.tier now.there (state d') read.stands; waits = stands.waits };
    keeps = kept_unless keeps_mid;
  }

  -- it was
  module _ (new : Stored) (told_reply : Reply) (took : TakesIn old new place which refreshes c told_reply) (sound_new : IsSound new) where
    abbrev keys : List Row
    keys = x.group.keys

    def_is : took.group.def ≡ x.group.def
    def_is = ap (λ (g : Group). g.def) (seen_at_place old w.tier place x.group took.group stands.stored here.there took.there)

    rows_in : SameButSpare (put_tables 0 (map fm.values (gathered_in c tree took.store which)) took.store) took.filled
    rows_in = subst (λ (d : GroupDef). SameButSpare (put_tables 0 (map fm.values (gathered_in c d.tree took.store which)) took.store) took.filled) def_is took.rows

    roots_v : HasRoots read.v x.group R
    roots_v = its_roots old w sound stands place x.group here.there writes took.store took.kept later n c read

    has : (q r : Row) → fm.get R q ≡ Some r → fm.contains_key (kept_at took.store.tables 0) q ≡ is_key keys q
    has = store_has old w sound stands place x.group here.there writes took.store took.kept later n c read

    abbrev test : Row → Bool
    test q = is_key keys q || fm.contains_key M q

    -- its keys are in order behind the others
    filled_keys : took.filled.keys ≡ with_keys (fm.keys M) took.store.keys
    filled_keys =
        rows_in.keys
        ∙ put_keys c tree.children (chosen (comes which took.store) (table_at c root)) took.store (are_new (table_at c root) took.store which (subst (IsKeyedBy took.store.key) (sym copied_roots) keyed_roots))
        ∙ ap (λ m. took.store.keys ++ fm.keys (chosen (comes which took.store) m)) copied_roots
        ∙ ap (λ l. took.store.keys ++ l) (sym (coming_keys R took.store.keys took.store which (λ q r e. sym (took.keyed.are q))))
      where
        keyed_roots : IsKeyedBy took.store.key R
        keyed_roots = roots_keyed old w sound stands place x.group here.there writes took.store took.kept later n c read

    filled_test : took.filled.tables ≡ shown_of read.v tree test
    filled_test =
        filled_shown old w sound stands place x.group here.there writes took.store took.kept later n c read which took.filled rows_in
        ∙ shown_alike read.v x.group R roots_v (λ q. is_key keys q || passes (comes which took.store q) (fm.get R q)) test (all_shown R keys took.store which has)

    pub matched_n : matching (backing_at mid n) x ≡ M
    matched_n =
        ap (λ (s : TableState). matching s x) backing_is
        ∙ matching_is read.read x R (has_roots old w sound stands place x.group here.there writes took.store took.kept later n c read read.read read.schema (read.rows root (root_covers x.group))) place which of

    abbrev ended : World
    ended = at_history later w

    matched_end : matching (backing_at ended (length later)) x ≡ M
    matched_end =
        ap (λ (o : Option TableState). matching (state_or_none o) x) (ap state_of (take_all (length later) later (omega arith)) ∙ read.end)
        ∙ matching_is read.v x R roots_v place which of

    shows_keys : ShowsKeys x.group test ended (with_tier (tier_with w x M) ended)
    shows_keys = subst (λ (m : Table). ShowsKeys x.group (λ q. is_key keys q || fm.contains_key m q) ended (with_tier (tier_with w x m) ended)) matched_end
        (load_shows ended x (length later) read.stands (record {
          group = record { there = ap (slice_get w.tier.groups) of.place ∙ here.there; through = writes };
          settled = here.settled;
          whole = refl;
        }))

    abbrev pub T : Tier
    T = tier_with w x M

    abbrev F : Group → Group
    F g = with_flag true (record g { keys = with_keys (fm.keys M) g.keys })

    at_group : (i : ℕ) (y : Group) → slice_get w.tier.groups i ≡ Some y → i ≡ x.place → y ≡ x.group
    at_group i y there e = same_some (sym there ∙ ap (slice_get w.tier.groups) (e ∙ of.place) ∙ here.there)

    stored : IsStoredAs new T
    stored = record {
      schema = stands.stored.schema ∙ sym took.rest.schema;
      stale = stands.stored.stale ∙ sym took.rest.stale;
      groups =
          flagged_seen F as_loaded 0 x.place w.tier.groups (λ i y there e.
          let here_it : i ≡ x.place = omega (arith, e) in
          let same : y ≡ x.group = at_group i y there here_it in
          flag_seen (fm.keys M) y (ap is_writethrough same ∙ writes))
          ∙ ap (λ p. changed_from (alone p) as_loaded 0 (map without_list w.tier.groups)) of.place
          ∙ ap (changed_from (alone place) as_loaded 0) stands.stored.groups ∙ sym took.groups;
      lists =
          subst (AreListed (changed_from (alone x.place) F 0 w.tier.groups) new.stores.items) (sym (λ i. (took.rest.hidden i).items))
          (subst (λ p. AreListed (changed_from (alone p) F 0 w.tier.groups) new.stores.items old.hidden.items) (sym of.place)
          (subst (λ ss. AreListed (changed_from (alone place) F 0 w.tier.groups) ss old.hidden.items) (sym took.stores)
          (listed_set place F w.tier.groups old.stores.items took.store took.filled took.kept (stores_long old w.tier sound stands.stored) old.hidden.items (hidden_long old w.tier sound stands.stored)
          (λ g h at_g held is. listed_same (record g { keys = with_keys (fm.keys M) g.keys }) (F g) took.filled h.table (flag_def (fm.keys M) g) (flag_keys (fm.keys M) g) (grown_listed g (fm.keys M) took.store took.filled h.table filled_keys is))
          stands.stored.lists)));
      sessions = stands.stored.sessions ∙ ap (λ s. map session_seen (seen_all s)) (sym took.rest.sessions);
      unsettled = stands.stored.unsettled ∙ sym (λ i. (took.rest.unsettled i).items);
      next = stands.stored.next ∙ sym took.rest.next;
      doubt = stands.stored.doubt;
      time = subst (λ (t : TierClock). KeepsTime t w.tier.now w.tier.added w.tier.round w.tier.sets w.tier.settings) (sym took.rest.clock) stands.stored.time;
    }

    keep : (j : ℕ) (g : Group) (s : Kept) (u : TableId) (p : ℕ) → slice_get T.groups j ≡ Some g → slice_get new.stores.items j ≡ Some s → place_of g.def.tree u ≡ Some p → kept_at s.tables p ≡ table_at (shown_state later T) u
    keep j g s u p e kept placed = by (nat_eq j x.place) refl
      where
        r : IsChanged F x.place w.tier.groups j g
        r = changed_at F x.place w.tier.groups j g e

        kept_set : slice_get (slice_set old.stores.items place took.filled) j ≡ Some s
        kept_set = ap (λ l. slice_get l j) (sym took.stores) ∙ kept

        its : j ≡ x.place → nat_eq j x.place ≡ true → kept_at s.tables p ≡ table_at (shown_state later T) u
        its here_it b =
            let same : r.group ≡ x.group = at_group j r.group r.there here_it in
            let def : g.def ≡ x.group.def = ap (λ (y : Group). y.def) (r.is ∙ ap (λ b. cond b (F r.group) r.group) b) ∙ flag_def (fm.keys M) r.group ∙ ap (λ (y : Group). y.def) same in
            let there : place_of tree u ≡ Some p = ap (λ (d : GroupDef). place_of d.tree u) (sym def) ∙ placed in
            let put : s ≡ took.filled = set_there old.stores.items place took.filled s (ap (slice_get (slice_set old.stores.items place took.filled)) (sym (here_it ∙ of.place)) ∙ kept_set) in
            ap (λ (z : Kept). kept_at z.tables p) put
            ∙ ap (λ ts. kept_at ts p) (filled_test ∙ sym (instances_of_keys read.v x.group R roots_v test))
            ∙ sym (shows_keys.its read.v u p read.known.v_is there)

        off : nat_eq j x.place ≡ false → (b : Bool) → covers u x.group ≡ b → covers u r.group ≡ true → covers u x.group ≡ false
        off other true c d =
            let same : j ≡ place = own_place w.tier.groups j place r.group x.group u stands.stands.catalog.apart r.there here.there d c in
            let yes : nat_eq j x.place ≡ true = eq-eqb j x.place (same ∙ sym of.place) in
            cc
        off other false c d = c

        beside : nat_eq j x.place ≡ false → kept_at s.tables p ≡ table_at (shown_state later T) u
        beside other =
            let same : g ≡ r.group = r.is ∙ ap (λ b. cond b (F r.group) r.group) other in
            let there : place_of r.group.def.tree u ≡ Some p = ap (λ (y : Group). place_of y.def.tree u) (sym same) ∙ placed in
            let apart_it : j ≡ place → ⊥ = (λ e. let yes : nat_eq j x.place ≡ true = eq-eqb j x.place (e ∙ sym of.place) in cc) in
            kept_is_shown old w sound stands j r.group s u p r.there (set_beside old.stores.items place j took.filled s apart_it kept_set) there
            ∙ ap (λ (z : TableState). table_at z u) (sym read.shown)
            ∙ sym (shows_keys.others u (off other (covers u x.group) refl (ap is_some there)))

        by : (b : Bool) → nat_eq j x.place ≡ b → kept_at s.tables p ≡ table_at (shown_state later T) u
        by true b = its (eqb-true j x.place b) b
        by false b = beside b

    shown_rows : rows_of new ≡ shown_state later T
    shown_rows = shows_kept new (with_tier T ended) (stands.stored.schema ∙ sym took.rest.schema) (are_kept new T sound_new stored) keep

    pub stands_done : StandsFor new (with_tier T mid)
    stands_done = record { stored = stored; shows = shown_rows; hides = hides_changed old new later (alone place) as_loaded (λ y. record { def = refl; position = refl }) took.groups (λ i. (took.rest.hidden i).items) (hides_later old w later stands longer); stands = stands_behind w T now.there (state d') shows_keys.stands; waits = stands.waits }

    coming_is : coming_in c took.group.def.tree took.store which ≡ chosen (comes which took.store) R
    coming_is = ap (λ (d : GroupDef). coming_in c d.tree took.store which) def_is ∙ ap (chosen (comes which took.store)) copied_roots

    roots_are : table_at c took.group.def.tree.root.table ≡ R
    roots_are = ap (λ (d : GroupDef). table_at c d.tree.root.table) def_is ∙ copied_roots

    refreshed_is : refreshes ≡ true → refreshed_answer x n mid ≡ (tier_with w x (matching (backing_at mid n) x), only (Done (fm.len (matching (backing_at mid n) x))))
    refreshed_is e = ap (λ b. cond {A = Answer} b (tier_with w x (matching (backing_at mid n) x), only (Done (fm.len (matching (backing_at mid n) x)))) (changed (alone x.place) (with_flag true) w.tier, only (Done (fm.len (held_roots x (matching (backing_at mid n) x)))))) (explicit e)

    fits : overflows_in c tree which ≡ false
    fits = ap (λ (y : GroupDef). overflows_in c y.tree which) (sym def_is) ∙ took.fits

    adds : refreshes ≡ false → told_reply ≡ (added_answer x n mid).1
    adds e =
        took.count
        ∙ ap (λ b. only (Done (counted b which (table_at c took.group.def.tree.root.table) (coming_in c took.group.def.tree took.store which)))) e
        ∙ ap (λ m. only (Done (fm.len m))) coming_is
        ∙ ap (λ l. only (Done l)) (sym (count_coming R keys took.store which has))
        ∙ ap (λ m. only (Done (length (new_keys x m)))) (sym matched_n)

    refreshes_so : refreshes ≡ true → told_reply ≡ (refreshed_answer x n mid).1
    refreshes_so e =
        took.count
        ∙ ap (λ b. only (Done (counted b which (table_at c took.group.def.tree.root.table) (coming_in c took.group.def.tree took.store which)))) e
        ∙ ap (λ m. only (Done (fm.len (chosen (matches_at which) m)))) roots_are
        ∙ ap (λ m. only (Done (fm.len m))) (sym matched_n)
        ∙ sym (ap (λ (a : Answer). a.1) (refreshed_is e))

    module _ (k' : Option TierJournal) (last : D) (ready : Ready) (of_ready : IsReadyFor w.tier.schema k ready (load_entries x.group)) (reply : Reply) (answers : AnswersBehind state possible k k' d' last ready told_reply reply) where
      settles : (answer : World → Answer) → IgnoresDisk answer mid → (answer mid).0 ≡ T → told_reply ≡ (answer mid).1 → IsPerformedOver state possible new k' last (Some reply) (λ w'. Settles x answer mid w' reply)
      settles answer ignores tier said =
          answers new mid (load_entries x.group) answer at_mid keeps_mid of_ready (subst (λ (t : Tier). StandsFor new (with_tier t mid)) (sym tier) stands_done) (ap (λ (t : Tier). t.schema) tier) ignores said

      took_by : (b : Bool) → refreshes ≡ b → IsPerformedOver state possible new k' last (Some reply) (λ w'. ReadsMatching b x w w' reply)
      took_by false e =
          let p = settles (added_answer x n) (λ j faults moment. refl) (ap (tier_with w x) matched_n) (adds e) in
          record { world = p.world; at = p.at; is = went_on false e p.world reply fits (λ same. p.is) (λ same. absurd (never same)); stands = p.stands; keeps = p.keeps }
      took_by true e =
          let p = settles (refreshed_answer x n) (λ j faults moment. refl) (ap (λ (a : Answer). a.0) (refreshed_is e) ∙ ap (tier_with w x) matched_n) (refreshes_so e) in
          record { world = p.world; at = p.at; is = went_on true e p.world reply fits (λ same. absurd (never (sym same))) (λ same. p.is); stands = p.stands; keeps = p.keeps }

      pub took_so : IsPerformedOver state possible new k' last (Some reply) (λ w'. ReadsMatching refreshes x w w' reply)
      took_so = took_by refreshes refl

  -- nothing was taken in, by a rule or for want of memory
  pub refused_so : (new : Stored) (e : Refused) → TakesMatching old new place which refreshes c (Err e) → IsPerformedOver state possible new k d' (Some (reply_of (Err e))) (λ w'. ReadsMatching refreshes x w w' (reply_of (Err e)))
  refused_so new (refused.Rule rule) took =
      let def : took.1.group.def ≡ x.group.def = ap (λ (g : Group). g.def) (seen_at_place old w.tier place x.group took.1.group stands.stored here.there took.1.there) in
      left_so new (only (No rule)) took.0 (overflowed refreshes refl rule (ap (λ (y : GroupDef). overflows_in c y.tree which) (sym def) ∙ took.1.is) took.2)
  refused_so new refused.Memory took = left_so new (faulty code.Memory) took (wanted refreshes)

  -- 119 of the journal, or 120 before it
  module _ (ready : Ready) (of_ready : IsReadyFor w.tier.schema k ready (load_entries x.group)) (full : is_full_ready ready ≡ true) where
    full_settles : (answer : World → Answer) (reply : Reply) → reply ≡ only (No (past limit.JournalSlot)) → Settles x answer mid mid reply
    full_settles answer reply is = full_then state possible k d' mid ready (load_entries x.group) (Answers answer) reply keeps_mid of_ready full is

    still_so : (reply : Reply) → ReadsMatching refreshes x w mid reply → IsPerformedOver state possible old k d' (Some reply) (λ w'. ReadsMatching refreshes x w w' reply)
    still_so reply is = record {
      world = mid;
      at = at_mid;
      is = is;
      stands = λ whole. record { stored = stands.stored; shows = stands.shows ∙ sym read.shown; hides = hides_later old w later stands longer; stands = stands_behind w w.tier now.there (state d') read.stands; waits = stands.waits };
      keeps = kept_unless keeps_mid;
    }

    pub full_so : (result : Result Reply Refused) → JudgesFull old place which c result → IsPerformedOver state possible old k d' (Some (reply_of result)) (λ w'. ReadsMatching refreshes x w w' (reply_of result))
    full_so (Ok reply) judged =
        let def : judged.0.group.def ≡ x.group.def = ap (λ (g : Group). g.def) (seen_at_place old w.tier place x.group judged.0.group stands.stored here.there judged.0.there) in
        still_so reply (went_on refreshes refl mid reply (ap (λ (y : GroupDef). overflows_in c y.tree which) (sym def) ∙ judged.0.is) (λ e. full_settles (added_answer x n) reply judged.1) (λ e. full_settles (refreshed_answer x n) reply judged.1))
    full_so (Err (refused.Rule rule)) judged =
        let def : judged.0.group.def ≡ x.group.def = ap (λ (g : Group). g.def) (seen_at_place old w.tier place x.group judged.0.group stands.stored here.there judged.0.there) in
        still_so (only (No rule)) (overflowed refreshes refl rule (ap (λ (y : GroupDef). overflows_in c y.tree which) (sym def) ∙ judged.0.is) judged.1)
    full_so (Err refused.Memory) judged = still_so (faulty code.Memory) (wanted refreshes)
