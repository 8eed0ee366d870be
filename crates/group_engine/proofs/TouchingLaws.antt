-- A dynamic writethrough group that is refreshed.
use Rattle.std.proofs.Common.{◌≡◌, ◌<◌, ◌≤◌, ℕ, zero, suc, Bool, true, false, cond, not, ◌&&◌, ◌||◌, is_none, Option, Some, None, List, [], ◌∷◌, length, slice_get, refl, sym, ap, subst, ◌∙◌, inl, arith}
use Rattle.std.specs.Prelude.{Ok}
use Rattle.std.specs.FinMap as fm
use Rattle.tier_base.specs.declared.code.Code.TheVariants as code
use Rattle.tier_base.specs.declared.limit.Limit.TheVariants as limit
use Rattle.tier_base.specs.declared.number.TableId.{TableId}
use Rattle.row_types.specs.declared.rule.Rule.{Rule}
use Rattle.row_types.specs.declared.value.Value.{Value}
use Rattle.indexed_rows.specs.Rows.{Table}
use Rattle.table_state.specs.Tables.{TableState, table_at}
use Rattle.evaluator.specs.Writes.{selects as judges}
use Rattle.slot_rows.specs.SlotKeys.{RowsHeld}
use Rattle.outside.specs.Calls as site
use Rattle.outside.specs.Console.{TakesSnapshot}
use Rattle.outside.specs.Holding.{Held}
use Rattle.outside.specs.Sites.{SiteState}
use Rattle.outside.specs.declared.site.Snapshot.{Snapshot}
use Rattle.propagators.specs.Certainty.{KeepsCertain}
use Rattle.tier_journal.specs.KeptOver.{KeepsOver}
use Rattle.tier_journal.specs.declared.journal.TierJournal.{TierJournal}
use Rattle.tier_journal.proofs.WayLaws.{kept_unless}
use Rattle.group_catalog.specs.Catalogs.{groups_in}
use Rattle.order_laws.proofs.TruthLaws.{both_true}
use Rattle.group_catalog.specs.declared.which.ResolvedWhich.{ResolvedWhich}
use Rattle.group_store.specs.Stores.{HasRootKeys, Kept}
use Rattle.cache_tier.specs.declared.reply.Last.TheVariants.{Done, No}
use Rattle.cache_tier.specs.declared.reply.Reply.{Reply}
use Rattle.cache_tier.specs.Conditions.{overflow_fault, overflows}
use Rattle.cache_tier.proofs.HistoryKeeps.{root_covers}
use Rattle.cache_tier.specs.Events.{with_tier}
use Rattle.cache_tier.specs.Groups.{Group, is_explicit, is_key, is_read_only, is_writethrough, with_keys}
use Rattle.cache_tier.specs.Reading.{Answers, TellsPosition, backing_at, state_or_none}
use Rattle.cache_tier.specs.RefreshSteps.{judged_roots, refreshed_answer}
use Rattle.cache_tier.specs.Rules.{broken_if, past, plain}
use Rattle.cache_tier.specs.Sets.{alone, changed}
use Rattle.cache_tier.specs.Targets.{Settles, Target, backing_roots, held_roots, load_entries, matching, with_flag}
use Rattle.cache_tier.specs.TierStates.{Tier}
use Rattle.cache_tier.specs.Worlds.{Answer, BankCall, IsUnshared, Unless, World, only}
use Rattle.stored_tier.specs.declared.tier.Tier.{Tier as Stored}
use Rattle.stored_tier.specs.Choosing.{chosen, matches_at}
use Rattle.stored_tier.specs.Filling.{is_held}
use Rattle.stored_tier.specs.Performing.{IsPerformedOver, StandsFor}
use Rattle.stored_tier.specs.Sites.{IsAt}
use Rattle.stored_tier.specs.Stored.{IsSound, without_list}
use Rattle.stored_tier.proofs.BankLaws.{TellsBehind, behind}
use Rattle.stored_tier.proofs.HiddenRows.{hides_later}
use Rattle.stored_tier.proofs.LongerLaws.{read_longer}
use Rattle.stored_tier.proofs.OverLaws.{keeps_called}
use Rattle.stored_tier.proofs.ListLaws.{group_kept, hidden_kept, store_kept, stored_keys}
use Rattle.stored_tier.proofs.StandingLaws.{stands_behind}
use Rattle.group_engine.specs.declared.ready.Ready.{Ready}
use Rattle.group_engine.specs.Gaining.{IsStoredAt, any_bad}
use Rattle.group_engine.specs.Ready.{AnswersBehind, IsReadyFor, is_full_ready}
use Rattle.group_engine.specs.Taking.{AsksTree, IsOfTarget, IsSettledAt, MayTake, ReadsMatching}
use Rattle.group_engine.specs.Touching.{CountsHeld, IsTouchedAt, TellsHeldOverflow, is_held_bad, is_held_match}
use Rattle.group_engine.proofs.DynamicLaws.{alone_same}
use Rattle.group_engine.proofs.DynamicRoots.{any_chosen, chosen_less, retain_chosen}
use Rattle.group_engine.proofs.FlagLaws.{as_loaded}
use Rattle.group_engine.proofs.FlaggedLaws.{IsFlaggedAt, stands_flagged}
use Rattle.group_engine.proofs.GainingLaws.{one_there}
use Rattle.group_engine.proofs.LoadLaws.{has_roots}
use Rattle.group_engine.proofs.MatchLaws.{matching_is}
use Rattle.group_engine.proofs.ReadyLaws.{full_then}
use Rattle.group_engine.proofs.GroupRows.{same_there}
use Rattle.group_engine.proofs.SnapshotLaws.{IsRead}
use Rattle.group_engine.proofs.TakenLaws as taken

abbrev Row : Type 0
Row = List Value

-- what is at the place

pub held_tells_so : (t : Stored) (place : ℕ) (which : ResolvedWhich) (state : TableState) (result : Bool) (g : Group) (s : Kept) (h : RowsHeld) → Some g ≡ slice_get (groups_in t.catalog) place → Some s ≡ slice_get t.stores.items place → Some h ≡ slice_get t.hidden.items place
    → HasRootKeys s → result ≡ any_bad (is_held_bad which s h.table) (table_at state g.def.tree.root.table) → TellsHeldOverflow t place which state result
held_tells_so t place which state result g s h there kept held roots is g' s' h' at =
    let one = one_there t place g s h there kept held in
    let group = one.group g' s' h' at in
    let store = one.store g' s' h' at in
    let hidden = one.hidden g' s' h' at in
    (subst HasRootKeys store roots, is ∙ (λ i. any_bad (is_held_bad which (store i) (hidden i).table) (table_at state (group i).def.tree.root.table)))

pub counts_so : (t : Stored) (place : ℕ) (which : ResolvedWhich) (state : TableState) (n : ℕ) (g : Group) (s : Kept) (h : RowsHeld) → Some g ≡ slice_get (groups_in t.catalog) place → Some s ≡ slice_get t.stores.items place → Some h ≡ slice_get t.hidden.items place
    → n ≡ fm.len (chosen (is_held_match which s h.table) (table_at state g.def.tree.root.table)) → CountsHeld t place which state n
counts_so t place which state n g s h there kept held is g' s' h' at =
    let one = one_there t place g s h there kept held in
    let group = one.group g' s' h' at in
    let store = one.store g' s' h' at in
    let hidden = one.hidden g' s' h' at in
    is ∙ (λ i. fm.len (chosen (is_held_match which (store i) (hidden i).table) (table_at state (group i).def.tree.root.table)))

-- whether it is REFRESH of a dynamic group

pub not_touched : (t : Stored) (place : ℕ) (g : Group) → None ≡ slice_get (groups_in t.catalog) place → slice_get (groups_in t.catalog) place ≡ Some g → ⊥
not_touched t place g none there = let wrong : None ≡ Some g = none ∙ there in cc

below : {X : Type 0} (xs : List X) (n : ℕ) (x : X) → slice_get xs n ≡ Some x → n < length xs
below [] n x e = cc
below (y ∷ xs) zero x e = omega arith
below (y ∷ xs) (suc n) x e = let lt = below xs n x e in omega (arith, lt)

pub touched_so : (t : Stored) (place : ℕ) (refreshes : Bool) (seen : Group) → Some seen ≡ slice_get (groups_in t.catalog) place → (refreshes && seen.def.dynamic) ≡ true → IsTouchedAt t place × (refreshes ≡ true) × (place < length (groups_in t.catalog))
touched_so t place refreshes seen at is =
    let both = both_true refreshes seen.def.dynamic is in
    (λ g there. ap (λ (y : Group). y.def.dynamic) (same_there (groups_in t.catalog) place g seen there (sym at)) ∙ both.1, both.0, below (groups_in t.catalog) place seen (sym at))

pub never_touched : {P : Type 0} → false ≡ true → P
never_touched e = absurd (never e)
  where
    never : (false ≡ true) → ⊥
    never f = cc

pub may_take : (t : Stored) (place : ℕ) (refreshes : Bool) (seen : Group) → Some seen ≡ slice_get (groups_in t.catalog) place → (refreshes && seen.def.dynamic) ≡ false → MayTake t place refreshes
may_take t place refreshes seen at is g there = ap (λ (y : Group). refreshes && y.def.dynamic) (same_there (groups_in t.catalog) place g seen there (sym at)) ∙ is

module _ {D : Type 0} (state : D → SiteState) (possible : D → ℕ → Held → Type 0) (old : Stored) (k : Option TierJournal) (d d' : D) (place : ℕ) (which : ResolvedWhich) (x : Target) (of : IsOfTarget x place which) (writes : is_writethrough x.group ≡ true) (sound : IsSound old) (touched : IsTouchedAt old place) (asked : List TableId) (asks : AsksTree old place asked) (snapshot : Snapshot)
    (told : site.Told (state d).held (state d').held (site.BankCall (state d).shared (TakesSnapshot asked (Ok snapshot)))) (faults : (state d).bank_faults ≤ (state d').bank_faults) (moment : (state d).moment ≤ (state d').moment) (shares : (state d').shared ≡ (state d).shared)
    (certain : KeepsCertain state possible d d') (w : World) (at : IsAt (state d) w) (stands : StandsFor old w) (apart : IsUnshared w) (keeps : KeepsOver state possible d k w) (here : IsSettledAt place x.group w) where
  abbrev n : ℕ
  n = snapshot.position.0

  abbrev c : TableState
  c = snapshot.tables

  abbrev root : TableId
  root = x.group.def.tree.root.table

  abbrev now : TellsBehind at.there (state d').held (site.BankCall (state d).shared (TakesSnapshot asked (Ok snapshot)))
  now = taken.now state possible old k d d' place which false x of writes sound asked asks (λ g e. refl) snapshot told faults moment shares certain w at stands apart keeps here

  abbrev mid : World
  mid = behind w w.tier now.there (state d')

  abbrev read : IsRead w now.there.history x.group snapshot.position.0 snapshot.tables
  read = taken.read state possible old k d d' place which false x of writes sound asked asks (λ g e. refl) snapshot told faults moment shares certain w at stands apart keeps here

  reads_call : BankCall (TellsPosition (Ok snapshot.position.0)) w mid
  reads_call = taken.reads_call state possible old k d d' place which false x of writes sound asked asks (λ g e. refl) snapshot told faults moment shares certain w at stands apart keeps here

  at_mid : IsAt (state d') mid
  at_mid = taken.at_mid state possible old k d d' place which false x of writes sound asked asks (λ g e. refl) snapshot told faults moment shares certain w at stands apart keeps here

  keeps_mid : KeepsOver state possible d' k mid
  keeps_mid = keeps_called state possible k d d' w mid keeps certain refl refl at_mid

  stands_mid : StandsFor old mid
  stands_mid = record { stored = stands.stored; shows = stands.shows ∙ sym read.shown; hides = hides_later old w now.there.history stands (read_longer w (TellsPosition (Ok snapshot.position.0)) now.there.history (λ a b s. s.0) reads_call.history); stands = stands_behind w w.tier now.there (state d') read.stands; waits = stands.waits }

  seen_at : slice_get (groups_in old.catalog) place ≡ Some (without_list x.group)
  seen_at = group_kept old w.tier place x.group stands.stored here.there

  dynamic : x.group.def.dynamic ≡ true
  dynamic = touched (without_list x.group) seen_at

  implicit : is_explicit x.group ≡ false
  implicit = ap not dynamic

  writes_so : is_read_only x.group ≡ false
  writes_so = turned (is_read_only x.group) writes
    where
      turned : (b : Bool) → not b ≡ true → b ≡ false
      turned true e = cc
      turned false e = refl

  store : (s : Kept) × (slice_get old.stores.items place ≡ Some s)
  store = store_kept old place (without_list x.group) sound seen_at

  hides : (h : RowsHeld) × (slice_get old.hidden.items place ≡ Some h)
  hides = hidden_kept old place (without_list x.group) sound seen_at

  stored_at : IsStoredAt old place (without_list x.group) store.0 hides.0
  stored_at = record { there = seen_at; kept = store.1; held = hides.1 }

  abbrev T : Table
  T = table_at snapshot.tables x.group.def.tree.root.table

  abbrev R : Table
  R = table_at read.v x.group.def.tree.root.table

  copied_roots : T ≡ R
  copied_roots = read.copied x.group.def.tree.root.table (root_covers x.group)

  backing_is : backing_at mid n ≡ read.read
  backing_is = ap state_or_none read.read_is

  rows_judged : table_at (backing_at mid n) x.group.def.tree.root.table ≡ T
  rows_judged = ap (λ (s : TableState). table_at s x.group.def.tree.root.table) backing_is ∙ read.rows x.group.def.tree.root.table (root_covers x.group) ∙ sym copied_roots

  left_so : (reply : Reply) → ReadsMatching true x w mid reply → IsPerformedOver state possible old k d' (Some reply) (λ w'. ReadsMatching true x w w' reply)
  left_so reply is = record { world = mid; at = at_mid; is = is; stands = λ whole. stands_mid; keeps = kept_unless keeps_mid }

  module _ (roots : HasRootKeys store.0) where
    held : (q : Row) → is_key x.group.keys q ≡ is_held store.0 hides.0.table q
    held = stored_keys old w.tier place x.group store.0 hides.0 sound stands.stored here.there store.1 hides.1 roots dynamic

    judged_is : overflow_fault x.filter (judged_roots (backing_at mid n) x) ≡ broken_if (any_bad (is_held_bad which store.0 hides.0.table) T) (plain code.Overflow)
    judged_is =
        ap (λ b. overflow_fault x.filter (cond b (backing_roots (backing_at mid n) x) (held_roots x (backing_roots (backing_at mid n) x)))) implicit
        ∙ ap (λ m. overflow_fault x.filter (held_roots x m)) rows_judged
        ∙ ap (λ f. overflow_fault f (held_roots x T)) (sym of.filter)
        ∙ ap (λ o. broken_if o (plain code.Overflow))
        (ap (overflows which.filter) (retain_chosen (is_key x.group.keys) T)
        ∙ any_chosen which.filter (λ q row. is_key x.group.keys q) T
        ∙ (λ i. any_bad (λ q row. held q i && is_none (judges which.filter row)) T))

    went_on : any_bad (is_held_bad which store.0 hides.0.table) T ≡ false → (w' : World) (reply : Reply) → Settles x (refreshed_answer x n) mid w' reply → ReadsMatching true x w w' reply
    went_on fits w' reply is = record {
      result = Ok n;
      mid = mid;
      call = reads_call;
      tier = refl;
      goes_on = inl (subst (λ f. Unless f (Settles x (refreshed_answer x n)) mid w' reply) (sym (judged_is ∙ ap (λ o. broken_if o (plain code.Overflow)) fits)) is);
    }

    overflowed : any_bad (is_held_bad which store.0 hides.0.table) T ≡ true → (rule : Rule) → rule ≡ plain code.Overflow → ReadsMatching true x w mid (only (No rule))
    overflowed over rule is = record {
      result = Ok n;
      mid = mid;
      call = reads_call;
      tier = refl;
      goes_on = inl (subst (λ f. Unless f (Settles x (refreshed_answer x n)) mid mid (only (No rule))) (sym (judged_is ∙ ap (λ o. broken_if o (plain code.Overflow)) over)) (refl, ap (λ y. only (No y)) is));
    }

    -- how many of its instances match
    count_is : fm.len (chosen (is_held_match which store.0 hides.0.table) T) ≡ fm.len (held_roots x (matching (backing_at mid n) x))
    count_is =
        ap (λ m. fm.len (chosen (is_held_match which store.0 hides.0.table) m)) copied_roots
        ∙ (λ i. fm.len (chosen (λ q row. matches_at which q row && sym (held q) i) R))
        ∙ sym (ap fm.len
        (ap (held_roots x)
        (ap (λ (s : TableState). matching s x) backing_is
        ∙ matching_is read.read x R (has_roots old w sound stands place x.group here.there writes store.0 store.1 now.there.history n snapshot.tables read read.read read.schema (read.rows x.group.def.tree.root.table (root_covers x.group))) place which of)
        ∙ chosen_less (is_key x.group.keys) (matches_at which) R))

  -- 120
  pub held_over : TellsHeldOverflow old place which snapshot.tables true → (rule : Rule) → rule ≡ plain code.Overflow → IsPerformedOver state possible old k d' (Some (only (No rule))) (λ w'. ReadsMatching true x w w' (only (No rule)))
  held_over tells rule is =
      let so = tells (without_list x.group) store.0 hides.0 stored_at in
      left_so (only (No rule)) (overflowed so.0 (sym so.1) rule is)

  -- 119 of the journal
  pub held_full : TellsHeldOverflow old place which snapshot.tables false → (ready : Ready) → IsReadyFor w.tier.schema k ready (load_entries x.group) → is_full_ready ready ≡ true → (reply : Reply) → reply ≡ only (No (past limit.JournalSlot))
      → IsPerformedOver state possible old k d' (Some reply) (λ w'. ReadsMatching true x w w' reply)
  held_full tells ready of_ready full reply is =
      let so = tells (without_list x.group) store.0 hides.0 stored_at in
      left_so reply (went_on so.0 (sym so.1) mid reply (full_then state possible k d' mid ready (load_entries x.group) (Answers (refreshed_answer x n)) reply keeps_mid of_ready full is))

  -- its flag is set
  module _ (tells : TellsHeldOverflow old place which snapshot.tables false) (new : Stored) (count : ℕ) (counts : CountsHeld old place which snapshot.tables count) (is : IsFlaggedAt old new place) where
    roots_here : HasRootKeys store.0
    roots_here = (tells (without_list x.group) store.0 hides.0 stored_at).0

    abbrev flagged_tier : Tier
    flagged_tier = changed (alone x.place) (with_flag true) w.tier

    answer_is : refreshed_answer x n mid ≡ (changed (alone x.place) (with_flag true) w.tier, only (Done (fm.len (held_roots x (matching (backing_at mid n) x)))))
    answer_is = ap (λ b. cond {A = Answer} b (changed (alone x.place) (λ g. with_flag true (record g { keys = with_keys (fm.keys (matching (backing_at mid n) x)) g.keys })) w.tier, only (Done (fm.len (matching (backing_at mid n) x)))) (changed (alone x.place) (with_flag true) w.tier, only (Done (fm.len (held_roots x (matching (backing_at mid n) x)))))) implicit

    flagged_is : changed (alone x.place) (with_flag true) w.tier ≡ changed (alone place) as_loaded w.tier
    flagged_is =
        ap (λ p. changed (alone p) (with_flag true) w.tier) of.place
        ∙ ap (λ gs. record w.tier { groups = gs }) (alone_same place (with_flag true) as_loaded w.tier.groups (λ y y_at.
        ap (λ b. cond b (record y { loaded = true }) y) (ap (λ b. b || is_explicit y) (ap is_writethrough (same_there w.tier.groups place y x.group y_at here.there) ∙ writes))))

    stands_done : StandsFor new (with_tier (changed (alone place) as_loaded w.tier) mid)
    stands_done = stands_flagged old new mid place x.group here.there writes_so stands_mid is

    pub held_done : (k' : Option TierJournal) (last : D) (ready : Ready) → IsReadyFor w.tier.schema k ready (load_entries x.group) → (said reply : Reply) → said ≡ only (Done count) → AnswersBehind state possible k k' d' last ready said reply
        → IsPerformedOver state possible new k' last (Some reply) (λ w'. ReadsMatching true x w w' reply)
    held_done k' last ready of_ready said reply told_is answers =
        let p = answers new mid (load_entries x.group) (refreshed_answer x n) at_mid keeps_mid of_ready
        (subst (λ (t : Tier). StandsFor new (with_tier t mid)) (sym (ap (λ (a : Answer). a.0) answer_is ∙ flagged_is)) stands_done) (ap (λ (t : Tier). t.schema) (ap (λ (a : Answer). a.0) answer_is ∙ flagged_is)) (λ j faults moment. refl)
        (told_is ∙ ap (λ m. only (Done m)) (counts (without_list x.group) store.0 hides.0 stored_at ∙ count_is roots_here) ∙ sym (ap (λ (a : Answer). a.1) answer_is)) in
        record { world = p.world; at = p.at; is = went_on roots_here (sym (tells (without_list x.group) store.0 hides.0 stored_at).1) p.world reply p.is; stands = p.stands; keeps = p.keeps }
