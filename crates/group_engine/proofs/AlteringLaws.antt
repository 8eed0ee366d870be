-- ALTER CACHE GROUP: what it names, and the STATE of a group that changes, alone or behind a refresh.
use Rattle.std.proofs.Common.{◌≡◌, ℕ, Bool, true, false, cond, not, ◌&&◌, ◌||◌, nat_eq, Option, Some, None, List, length, map, slice_get, refl, sym, ap, subst, ◌∙◌, inl, inr}
use Rattle.std.specs.Prelude.{Result, Ok, Err}
use Rattle.std.specs.Bool.{MatchBool}
use Rattle.std.specs.Option.{option_or}
use Rattle.std.proofs.lemmas.Bool.{eqb-true, eq-eqb}
use Rattle.row_types.specs.declared.rule.Refused.{Refused}
use Rattle.row_types.specs.declared.rule.Refused.TheVariants as refused
use Rattle.row_types.specs.declared.rule.Rule.{Rule}
use Rattle.resolution.specs.Results.{IsRefusal}
use Rattle.tier_base.specs.declared.code.Code.TheVariants as code
use Rattle.tier_base.specs.declared.number.SessionId.{SessionId}
use Rattle.sql_subset.specs.declared.stmt.Alter.{Alter}
use Rattle.sql_subset.specs.declared.stmt.RefreshState.{RefreshState}
use Rattle.sql_subset.specs.declared.stmt.RefreshState.TheVariants.{On, Off, Paused}
use Rattle.sql_subset.specs.declared.stmt.Stmt.TheVariants as statement
use Rattle.table_defs.specs.Declarations.{IsRefusedBy}
use Rattle.table_state.specs.declared.operation.Op.{Op}
use Rattle.table_state.specs.Tables.{TableState}
use Rattle.instances.specs.Trees.{place_of}
use Rattle.instances.specs.Views.{kept_at}
use Rattle.outside.specs.declared.fault.BankError.{BankError}
use Rattle.open_sessions.specs.Lookups.{open_ops}
use Rattle.open_sessions.specs.Opening.{seen_all}
use Rattle.group_catalog.specs.Catalogs.{groups_in}
use Rattle.order_laws.proofs.TruthLaws.{both_true}
use Rattle.cache_tier.specs.declared.group.GroupDef.{GroupDef}
use Rattle.cache_tier.specs.declared.reply.Last.TheVariants.{Done, No}
use Rattle.cache_tier.specs.declared.reply.Reply.{Reply}
use Rattle.cache_tier.specs.AlterSteps.{AltersTo, SetsStateAlone, SetsStateRefreshed, altered_entries, joins_something, refreshed_state, same_state, state_answer, with_state}
use Rattle.cache_tier.specs.Groups.{Group, is_on, is_read_only, is_writethrough, place_called}
use Rattle.cache_tier.specs.Order.{Broken, alter_broken, first_broken, of_group, refusal}
use Rattle.cache_tier.specs.Reading.{Answers, TellsPosition, as_it_was, backing_at}
use Rattle.cache_tier.specs.Rules.{named, past}
use Rattle.cache_tier.specs.Sets.{Choice, OnePosition, alone, at_position, changed, changed_from, has_something, is_in_set, of_set, shows_something}
use Rattle.cache_tier.specs.Shown.{shown, state_behind}
use Rattle.cache_tier.specs.Steps.{DoesStatement}
use Rattle.cache_tier.specs.TierStates.{Session, Tier, refresh_tried}
use Rattle.cache_tier.specs.Worlds.{BankCall, Tries, Unless, World, bank_fault, only}
use Rattle.cache_tier.proofs.PositionLaws.{Hidden, alone_one, alone_twice, hidden_empty, hidden_state, join_base, join_one, join_step}
use Rattle.stored_tier.specs.declared.refreshing.Made.{Made}
use Rattle.stored_tier.specs.declared.tier.Tier.{Tier as Stored}
use Rattle.group_engine.specs.Altering.{AimsAlter, AimsAlterIn, AltersAlone, AltersHere, AltersReady, AltersWith, FindsAltered, IsReadyAt, TellsJoining, TellsLeaving, alter_state, altered_with}
use Rattle.group_engine.specs.declared.ready.Ready.{Ready}
use Rattle.group_engine.specs.Ready.{AnswersBehind, IsReadyFor, is_full_ready}
use Rattle.group_engine.proofs.ReadyLaws.{full_then, kept_here, refused_over, wanting_over}
use Rattle.tier_journal.specs.Drafts.{StaysKept}
use Rattle.tier_journal.specs.KeptOver.{KeepsOver}
use Rattle.propagators.specs.Certainty.{KeepsCertain}
use Rattle.tier_journal.specs.declared.journal.TierJournal.{TierJournal}
use Rattle.tier_journal.proofs.WayLaws.{kept_unless}
use Rattle.outside.specs.Holding.{Held}
use Rattle.stored_tier.proofs.OverLaws.{keeps_called, keeps_stays, keeps_tier}
use Rattle.tier_base.specs.declared.limit.Limit.TheVariants as limit
use Rattle.group_engine.specs.Fresh.{AreFresh, IsRead}
use Rattle.stored_tier.specs.Performing.{Executes, IsPerformedOver, PerformsInOver, StandsFor, reply_of}
use Rattle.stored_tier.specs.Refreshing.{is_filled, is_off}
use Rattle.stored_tier.specs.Sites.{IsAt}
use Rattle.outside.specs.Sites.{SiteState}
use Rattle.stored_tier.specs.Lists.{AreListed}
use Rattle.stored_tier.specs.Stored.{AreKept, HasSession, IsSound, IsStoredAs, without_list}
use Rattle.group_engine.proofs.AimLaws.{IsUnlisted, unlisted}
use Rattle.group_engine.proofs.CalmLaws.{NumberLaw, own_here}
use Rattle.group_engine.proofs.DropLocks.{group_stored, place_stored}
use Rattle.group_engine.proofs.ChangedLists.{changed_at, changed_long, changed_mapped}
use Rattle.group_engine.proofs.FreshGroup.{Changes, stateless}
use Rattle.group_engine.proofs.FreshLaws.{IsBeside, IsRefreshed, groups_behind, stands_behind, tier_behind}
use Rattle.group_engine.proofs.GroupRows.{AllBecome, Becomes, same_there, stands_after, there_too}
use Rattle.stored_tier.proofs.HiddenRows.{hides_changed}
use Rattle.stored_tier.proofs.ListLaws.{listed_changed}
use Rattle.stored_tier.proofs.RefreshSteps.{no_group_stored, stored_group}
use Rattle.group_engine.proofs.ShownStores.{EachShows, all_shown, each_shows}

-- what refuses it

of_none : (a : Tier) (name : List ℕ) (broken : Group → Broken) → place_called a.groups name ≡ None → first_broken (of_group a name broken) ≡ Some (named code.UnknownGroup name)
of_none a name broken none = rw none refl

of_some : (a : Tier) (name : List ℕ) (broken : Group → Broken) (place : ℕ) (g : Group) → place_called a.groups name ≡ Some place → slice_get a.groups place ≡ Some g → first_broken (of_group a name broken) ≡ first_broken (broken g)
of_some a name broken place g found there = rw found (rw there refl)

or_last : (o : Option Rule) → option_or o None ≡ o
or_last None = refl
or_last (Some r) = refl

pub unknown_alter : (t : Stored) (a : Tier) (s : Session) (alter : Alter) (e : Refused) → IsStoredAs t a → place_called (groups_in t.catalog) alter.group ≡ None → IsRefusal (named code.UnknownGroup alter.group) e → AimsAlter a s alter (Err e)
unknown_alter t a s alter (refused.Rule rule) is none told = of_none a alter.group (alter_broken s) (place_stored t a alter.group is ∙ none) ∙ ap Some (sym told)
unknown_alter t a s alter refused.Memory is none told = tt

-- the group that is found
module _ (law : NumberLaw) (t : Stored) (a : Tier) (s : Session) (id : SessionId) (alter : Alter) (place : ℕ) (seen : Group) (own : List Op) (sound : IsSound t) (is : IsStoredAs t a) (has : HasSession t id s)
    (found : place_called (groups_in t.catalog) alter.group ≡ Some place) (at : slice_get (groups_in t.catalog) place ≡ Some seen) (mine : own ≡ open_ops id (seen_all t.sessions)) where
  group_here : IsUnlisted a.groups place seen
  group_here = unlisted a.groups place seen (ap (λ gs. slice_get gs place) is.groups ∙ at)

  called_here : place_called a.groups alter.group ≡ Some place
  called_here = place_stored t a alter.group is ∙ found

  refusal_is : refusal a s (statement.Alter alter) ≡ alter_state own seen
  refusal_is =
      of_some a alter.group (alter_broken s) place group_here.group called_here group_here.there
      ∙ or_last (alter_state s.own group_here.group)
      ∙ ap (λ ops. alter_state ops group_here.group) (sym (mine ∙ own_here law t id s sound has))
      ∙ ap (alter_state own) group_here.is

  pub refused_alter : (e : Refused) → IsRefusedBy (alter_state own seen) e → AimsAlter a s alter (Err e)
  refused_alter (refused.Rule rule) told = refusal_is ∙ told
  refused_alter refused.Memory told = tt

  reads_so : (g : Group) (rest : Option Rule) → option_or (Rattle.cache_tier.specs.Order.wrong_state (is_writethrough g) g) rest ≡ None → is_read_only g ≡ true
  reads_so g rest = by (is_read_only g)
    where
      by : (b : Bool) → option_or (Rattle.cache_tier.specs.Order.wrong_state (not b) g) rest ≡ None → b ≡ true
      by true e = refl
      by false e = cc

  pub finds_alter : alter_state own seen ≡ None → AimsAlter a s alter (Ok place)
  finds_alter free = record {
    group = group_here.group;
    free = refusal_is ∙ free;
    called = called_here;
    there = group_here.there;
    reads = ap is_read_only group_here.is ∙ reads_so seen (Rattle.cache_tier.specs.Rules.open_writes own) free;
  }

-- it is refused, or memory was wanting
pub not_altered : {D : Type 0} (state : D → SiteState) (possible : D → ℕ → Held → Type 0) (t : Stored) (k : Option TierJournal) (d : D) (id : SessionId) (alter : Alter) (e : Refused) → AimsAlterIn t id alter (Err e) → PerformsInOver state possible t t k k d d id (Executes (statement.Alter alter)) (Err e)
not_altered state possible t k d id alter (refused.Rule rule) aims = refused_over state possible t k d id (statement.Alter alter) rule (λ s w has is. aims w.tier s is has)
not_altered state possible t k d id alter refused.Memory aims = wanting_over state possible t t k k d id (statement.Alter alter) (kept_here k) (λ w stands. stands)

-- what it does of the group that is found
pub altered : {D : Type 0} (state : D → SiteState) (possible : D → ℕ → Held → Type 0) (t new : Stored) (k k' : Option TierJournal) (d d' : D) (id : SessionId) (alter : Alter) (place : ℕ) (result : Result Reply Refused) → AimsAlterIn t id alter (Ok place)
    → AltersHere state possible t new k k' d d' alter.state place (reply_of result) → PerformsInOver state possible t new k k' d d' id (Executes (statement.Alter alter)) result
altered state possible t new k k' d d' id alter place result aims alters = λ s has w at stands apart keeps.
    let f = aims w.tier s stands.stored has in
    let p = alters w f.group at stands apart keeps f.there f.reads in
    record { world = p.world; at = p.at; is = does s w p.world f p.is; stands = p.stands; keeps = p.keeps }
  where
    does : (s : Session) (w w' : World) (f : FindsAltered w.tier s alter place) → Tries (AltersTo alter.state place f.group) w w' (reply_of result) → Executes (statement.Alter alter) s w w' (reply_of result)
    does s w w' f (inl d) = inl (subst (λ o. Unless o (DoesStatement s (statement.Alter alter)) w w' (reply_of result)) (sym f.free) (record { place = place; group = f.group; there = f.called; is = f.there; does = d }))
    does s w w' f (inr m) = inr m

-- with what was made ready for the group that is stored at the place
pub altered_ready : {D : Type 0} (state : D → SiteState) (possible : D → ℕ → Held → Type 0) (t new : Stored) (k mid k' : Option TierJournal) (d d' : D) (ready : Ready) (to : RefreshState) (place : ℕ) (reply : Reply) → IsReadyAt (groups_in t.catalog) mid place to ready → StaysKept k mid
    → AltersReady state possible t new mid k' d d' ready to place reply → AltersHere state possible t new k k' d d' to place reply
altered_ready state possible t new k mid k' d d' ready to place reply is stays alters = λ w g at stands apart keeps there reads.
    alters w g at stands apart (keeps_stays state possible d k mid w stays keeps) (is w.tier.schema (without_list g) (group_stored t w.tier place g stands.stored there)) there reads

-- memory was wanting, and at most room came to the journal
pub not_ready : {D : Type 0} (state : D → SiteState) (possible : D → ℕ → Held → Type 0) (t : Stored) (k k' : Option TierJournal) (d : D) (to : RefreshState) (place : ℕ) (e : Refused) → StaysKept k k' → e ≡ refused.Memory → AltersHere state possible t t k k' d d to place (reply_of (Err e))
not_ready state possible t k k' d to place e stays is = λ w g at stands apart keeps there reads. record {
  world = w;
  at = at;
  is = inr (refl, ap (λ x. reply_of (Err x)) is);
  stands = λ whole. stands;
  keeps = kept_unless (keeps_stays state possible d k k' w stays keeps);
}

-- the STATE alone

pub record IsRestated (t t' : Stored) (place : ℕ) (st : RefreshState) : Type 0 where
  pub beside : IsBeside t t'
  pub groups : groups_in t'.catalog ≡ changed_from (alone place) (with_state st) 0 (groups_in t.catalog)
  pub stores : t'.stores.items ≡ t.stores.items
  pub hidden : t'.hidden.items ≡ t.hidden.items
  pub was : AreKept t.schema (groups_in t.catalog) t.stores.items
  pub kept : AreKept t'.schema (groups_in t'.catalog) t'.stores.items

module _ (t t' : Stored) (w : World) (place : ℕ) (st : RefreshState) (x : StandsFor t w) (is : IsRestated t t' place st) where
  abbrev final : List Group
  final = changed_from (alone place) (with_state st) 0 w.tier.groups

  abbrev last : ℕ → Group → Group
  last k g = cond (nat_eq k place) (with_state st g) g

  last_there : (k : ℕ) (g : Group) → slice_get w.tier.groups k ≡ Some g → slice_get final k ≡ Some (last k g)
  last_there k g at = changed_at (alone place) (with_state st) w.tier.groups k g at

  final_long : length final ≡ length w.tier.groups
  final_long = changed_long (alone place) (with_state st) 0 w.tier.groups

  still : (k : ℕ) (g : Group) → shown w.history w.tier.log (last k g) ≡ shown w.history w.tier.log g
  still k g = by (nat_eq k place)
    where
      by : (b : Bool) → shown w.history w.tier.log (cond b (with_state st g) g) ≡ shown w.history w.tier.log g
      by true = stateless (state_behind w.history w.tier.log g) g st
      by false = refl

  last_becomes : (k : ℕ) (g : Group) → Becomes w g (last k g)
  last_becomes k g = by (nat_eq k place)
    where
      by : (b : Bool) → Becomes w g (cond b (with_state st g) g)
      by true = record {
        kept = record { def = refl; first = refl };
        distinct = λ d. d;
        within = λ before. before;
        keys = λ writes. refl;
        rows = λ writes p. ap (λ ts. kept_at ts p) (stateless (state_behind w.history w.tier.log g) g st);
      }
      by false = record { kept = record { def = refl; first = refl }; distinct = λ d. d; within = λ before. before; keys = λ writes. refl; rows = λ writes p. refl }

  become : AllBecome w final
  become = record { long = final_long; one = λ k g h at there. subst (Becomes w g) (sym (same_there final k h (last k g) there (last_there k g at))) (last_becomes k g) }

  groups_then : map without_list final ≡ groups_in t'.catalog
  groups_then =
      changed_mapped (alone place) (with_state st) (with_state st) 0 w.tier.groups (λ k g. refl) (λ g. refl)
      ∙ ap (changed_from (alone place) (with_state st) 0) x.stored.groups ∙ sym is.groups

  shows_before : EachShows w.history w.tier.log w.tier.groups t.stores.items
  shows_before = each_shows t.schema w.history w.tier t.stores.items x.stored.schema x.stands.catalog (subst (λ l. AreKept t.schema l t.stores.items) (sym x.stored.groups) is.was) x.shows

  shows_then : EachShows w.history w.tier.log final t.stores.items
  shows_then k h s u p at there spot =
      let (g, was) = there_too final w.tier.groups k h (sym final_long) at in
      let same : h ≡ last k g = same_there final k h (last k g) at (last_there k g was) in
      let spot_before : place_of g.def.tree u ≡ Some p = ap (λ (d : GroupDef). place_of d.tree u) (sym (become.one k g h was at).kept.def) ∙ spot in
      shows_before k g s u p was there spot_before
      ∙ sym (ap (λ ts. kept_at ts p) (still k g))
      ∙ ap (λ (y : Group). kept_at (shown w.history w.tier.log y) p) (sym same)

  stored_then : IsStoredAs t' (changed (alone place) (with_state st) w.tier)
  stored_then = record {
    schema = x.stored.schema ∙ sym is.beside.schema;
    stale = x.stored.stale ∙ sym is.beside.stale;
    groups = groups_then;
    lists = subst (AreListed final t'.stores.items) (sym is.hidden) (subst (λ ss. AreListed final ss t.hidden.items) (sym is.stores)
        (listed_changed (alone place) (with_state st) 0 w.tier.groups t.stores.items t.hidden.items (λ g. refl) (λ g. refl) x.stored.lists));
    sessions = x.stored.sessions ∙ ap (λ ss. map Rattle.tier_statements.specs.Seen.session_seen (seen_all ss)) (sym is.beside.sessions);
    unsettled = x.stored.unsettled ∙ ap (λ q. q.items) (sym is.beside.unsettled);
    next = x.stored.next ∙ sym is.beside.next;
    doubt = x.stored.doubt;
    time = subst (λ c. Rattle.stored_tier.specs.Stored.KeepsTime c w.tier.now w.tier.added w.tier.round w.tier.sets w.tier.settings) (sym is.beside.clock) x.stored.time;
  }

  hidden : (g : Group) → (is_on st && has_something g) ≡ false → Hidden (with_state st g)
  hidden g none = by (is_on st) refl none
    where
      by : (b : Bool) → is_on st ≡ b → (b && has_something g) ≡ false → Hidden (with_state st g)
      by true on e = hidden_empty (with_state st g) e
      by false on e = hidden_state (with_state st g) on

  module _ (g : Group) (there : slice_get w.tier.groups place ≡ Some g) (none : (is_on st && has_something g) ≡ false) where
    positions : OnePosition final
    positions = alone_one w.tier.groups place (with_state st) (λ h at. inr (hidden h (ap (λ y. is_on st && has_something y) (same_there w.tier.groups place h g at there) ∙ none))) x.stands.read.one

    stands_then : StandsFor t' (record w { tier = changed (alone place) (with_state st) w.tier })
    stands_then = record {
      stored = stored_then;
      shows = all_shown t'.schema w.history (changed (alone place) (with_state st) w.tier) t'.stores.items (x.stored.schema ∙ sym is.beside.schema) (subst (λ l. AreKept t'.schema l t'.stores.items) (sym groups_then) is.kept)
          (subst (EachShows w.history w.tier.log final) (sym is.stores) shows_then);
      hides = hides_changed t t' w.history (alone place) (with_state st) (λ y. record { def = refl; position = refl }) is.groups is.hidden x.hides;
      stands = stands_after w x.stands final become positions;
      waits = x.waits;
    }

    module _ {D : Type 0} (state : D → SiteState) (possible : D → ℕ → Held → Type 0) (k k' : Option TierJournal) (d d' : D) (ready : Ready) (at : IsAt (state d) w) (keeps : KeepsOver state possible d k w) (of : IsReadyFor w.tier.schema k ready (altered_entries g st)) where
      pub set_alone : (told reply : Reply) → AnswersBehind state possible k k' d d' ready told reply → told ≡ only (Done 0) → IsPerformedOver state possible t' k' d' (Some reply) (λ w'. SetsStateAlone place g st w w' reply)
      set_alone told reply answers is = answers t' w (altered_entries g st) (state_answer place st) at keeps of stands_then refl (λ j faults moment. refl) is

-- 119 of the journal
pub alone_full : {D : Type 0} (state : D → SiteState) (possible : D → ℕ → Held → Type 0) (t : Stored) (k : Option TierJournal) (d : D) (ready : Ready) (st : RefreshState) (place : ℕ) (reply : Reply) → is_full_ready ready ≡ true → reply ≡ only (No (past limit.JournalSlot))
    → AltersAlone state possible t t k k d d ready st place reply
alone_full state possible t k d ready st place reply full told = λ w g at stands keeps of there none. record {
  world = w;
  at = at;
  is = full_then state possible k d w ready (altered_entries g st) (Answers (state_answer place st)) reply keeps of full told;
  stands = λ whole. stands;
  keeps = kept_unless keeps;
}

-- the STATE behind a refresh

plain_or : (b : Bool) → b ≡ (b || false)
plain_or true = refl
plain_or false = refl

same_choice : (st : RefreshState) (interval place k : ℕ) (g : Group) → altered_with st interval place k (without_list g) ≡ altered_with st interval place k g
same_choice On interval place k g = refl
same_choice Off interval place k g = refl
same_choice Paused interval place k g = refl

state_changes : (st : RefreshState) (interval place : ℕ) → Changes false place (altered_with st interval place) None (with_state st)
state_changes st interval place = record {
  flagged = λ g e. record { is = λ i. record g { state = st; loaded = plain_or g.loaded i } };
  loads_is = refl;
  chosen_is = λ g e. cc;
  unlisted = λ k g. same_choice st interval place k g;
}

altered_positions : (st : RefreshState) (groups : List Group) (place n : ℕ) (g : Group) (s : TableState) → slice_get groups place ≡ Some g → OnePosition groups → OnePosition (groups_behind (altered_with st g.def.interval place) place (with_state st) n s groups)
altered_positions On groups place n g s at one =
    join_one g.def.interval place n groups joins _ (join_step g.def.interval place n groups joins (with_state On) (λ x. refl) (λ x. refl) _ (join_base g.def.interval place n groups joins s)) one
  where
    joins : (x : Group) → slice_get groups place ≡ Some x → x.def.interval ≡ g.def.interval
    joins x there = ap (λ (y : Group). y.def.interval) (same_there groups place x g there at)
altered_positions Off groups place n g s at one = alone_twice groups place (at_position n s) (with_state Off) (λ x there. hidden_state (with_state Off (at_position n s x)) refl) one
altered_positions Paused groups place n g s at one = alone_twice groups place (at_position n s) (with_state Paused) (λ x there. hidden_state (with_state Paused (at_position n s x)) refl) one

only_read : (st : RefreshState) (groups : List Group) (place : ℕ) (g : Group) → slice_get groups place ≡ Some g → is_read_only g ≡ true → (k : ℕ) (x : Group) → slice_get groups k ≡ Some x → altered_with st g.def.interval place k x ≡ true → is_read_only x ≡ true
only_read st groups place g at reads k x at_k = by st
  where
    here : nat_eq k place ≡ true → is_read_only x ≡ true
    here e = ap is_read_only (same_there groups place x g (ap (slice_get groups) (sym (eqb-true k place e)) ∙ at_k) at) ∙ reads

    in_set : (b : Bool) → is_in_set g.def.interval x ≡ b → (b || nat_eq place k) ≡ true → is_read_only x ≡ true
    in_set true h e = (both_true (is_read_only x) (nat_eq x.def.interval g.def.interval) (both_true (is_read_only x && nat_eq x.def.interval g.def.interval) (is_on x.state) h).0).0
    in_set false h e = here (eq-eqb k place (sym (eqb-true place k e)))

    by : (s : RefreshState) → altered_with s g.def.interval place k x ≡ true → is_read_only x ≡ true
    by On e = in_set (is_in_set g.def.interval x) refl e
    by Off e = here e
    by Paused e = here e

module _ (t new : Stored) (behind : SiteState) (w : World) (place n : ℕ) (g : Group) (st : RefreshState) (made : List (Option Made)) (at : slice_get w.tier.groups place ≡ Some g) (reads : is_read_only g ≡ true)
    (r : IsRead t behind (Ok n) w) (fresh : AreFresh t r.world (is_filled (altered_with st g.def.interval place) None) n made) (is : IsRefreshed t new (altered_with st g.def.interval place) place (with_state st) n made)
    (told : Reply) where
  there : slice_get r.world.tier.groups place ≡ Some g
  there = ap (λ (x : Tier). slice_get x.groups place) r.tier ∙ at

  stands_last : StandsFor new (record r.world { tier = tier_behind (altered_with st g.def.interval place) place (with_state st) n (backing_at r.world n) r.world.tier })
  stands_last = stands_behind t new r.world false place (altered_with st g.def.interval place) None (with_state st) (state_changes st g.def.interval place) n made r.stands fresh is
      (only_read st r.world.tier.groups place g there reads) (λ x. refl)
      (λ s. altered_positions st r.world.tier.groups place n g s there r.stands.stands.read.one)

  module _ {D : Type 0} (state : D → SiteState) (possible : D → ℕ → Held → Type 0) (k k' : Option TierJournal) (mid d' : D) (ready : Ready) (is_mid : state mid ≡ behind) (keeps : KeepsOver state possible mid k r.world) (of : IsReadyFor r.world.tier.schema k ready (altered_entries g st)) where
    pub set_refreshed : (reply : Reply) → AnswersBehind state possible k k' mid d' ready told reply → told ≡ only (Done 0)
        → IsPerformedOver state possible new k' d' (Some reply) (λ w'. SetsStateRefreshed place g st (altered_with st g.def.interval place) as_it_was w w' reply)
    set_refreshed reply answers is_done =
        let p = answers new r.world (altered_entries g st) (refreshed_state place st (altered_with st g.def.interval place) n) (subst (λ x. IsAt x r.world) (sym is_mid) r.at) keeps of stands_last refl (λ j faults moment. refl) is_done in
        record { world = p.world; at = p.at; is = record { result = Ok n; mid = r.world; call = r.call; tier = r.tier; goes_on = inl p.is }; stands = p.stands; keeps = p.keeps }

-- so it is where these groups are the ones that it is refreshed with
module _ {D : Type 0} (state : D → SiteState) (possible : D → ℕ → Held → Type 0) (t : Stored) (k : Option TierJournal) (d mid : D) (w : World) (place n : ℕ) (g : Group) (st : RefreshState) (ready : Ready) (chosen : Choice) (certain : KeepsCertain state possible d mid)
    (keeps : KeepsOver state possible d k w) (of : IsReadyFor w.tier.schema k ready (altered_entries g st)) where
  keeps_read : (told : Result ℕ BankError) (r : IsRead t (state mid) told w) → KeepsOver state possible mid k r.world
  keeps_read told r = keeps_called state possible k d mid w r.world keeps certain r.call.journal (ap (λ (x : Tier). x.schema) r.tier) r.at

  ready_read : (told : Result ℕ BankError) (r : IsRead t (state mid) told w) → IsReadyFor r.world.tier.schema k ready (altered_entries g st)
  ready_read told r = subst (λ (x : Tier). IsReadyFor x.schema k ready (altered_entries g st)) (sym r.tier) of

  pub refreshed_with : (new : Stored) (k' : Option TierJournal) (d' : D) (made : List (Option Made)) (told reply : Reply) → slice_get w.tier.groups place ≡ Some g → is_read_only g ≡ true → chosen ≡ altered_with st g.def.interval place
      → (r : IsRead t (state mid) (Ok n) w) → AreFresh t r.world (is_filled chosen None) n made → IsRefreshed t new chosen place (with_state st) n made → AnswersBehind state possible k k' mid d' ready told reply → told ≡ only (Done 0)
      → IsPerformedOver state possible new k' d' (Some reply) (λ w'. SetsStateRefreshed place g st chosen as_it_was w w' reply)
  refreshed_with new k' d' made told reply at reads chosen_is r fresh is answers is_done =
      subst (λ (c : Choice). IsPerformedOver state possible new k' d' (Some reply) (λ w'. SetsStateRefreshed place g st c as_it_was w w' reply)) (sym chosen_is)
      (set_refreshed t new (state mid) w place n g st made at reads r (subst (λ (c : Choice). AreFresh t r.world (is_filled c None) n made) chosen_is fresh)
      (subst (λ (c : Choice). IsRefreshed t new c place (with_state st) n made) chosen_is is) told state possible k k' mid d' ready refl (keeps_read (Ok n) r) (ready_read (Ok n) r) reply answers is_done)

  -- 119 of the journal
  pub full_with : (reply : Reply) → (r : IsRead t (state mid) (Ok n) w) → is_full_ready ready ≡ true → reply ≡ only (No (past limit.JournalSlot)) → IsPerformedOver state possible t k mid (Some reply) (λ w'. SetsStateRefreshed place g st chosen as_it_was w w' reply)
  full_with reply r full told = record {
    world = r.world;
    at = r.at;
    is = record {
      result = Ok n;
      mid = r.world;
      call = r.call;
      tier = r.tier;
      goes_on = inl (full_then state possible k mid r.world ready (altered_entries g st) (Answers (refreshed_state place st chosen n)) reply (keeps_read (Ok n) r) (ready_read (Ok n) r) full told);
    };
    stands = λ whole. r.stands;
    keeps = kept_unless (keeps_read (Ok n) r);
  }

  -- the call failed
  pub not_refreshed : (e : BankError) (reply : Reply) → (r : IsRead t (state mid) (Err e) w) → reply ≡ bank_fault e → IsPerformedOver state possible t k mid (Some reply) (λ w'. SetsStateRefreshed place g st chosen as_it_was w w' reply)
  not_refreshed e reply r told = record {
    world = r.world;
    at = r.at;
    is = record { result = Err e; mid = r.world; call = r.call; tier = r.tier; goes_on = (refl, told) };
    stands = λ whole. r.stands;
    keeps = kept_unless (keeps_read (Err e) r);
  }

-- to each STATE

-- the STATE that is given
pub of_state : {D : Type 0} (state : D → SiteState) (possible : D → ℕ → Held → Type 0) (old new : Stored) (k k' : Option TierJournal) (d d' : D) (ready : Ready) (place : ℕ) (reply : Reply) (given st : RefreshState) → given ≡ st → AltersReady state possible old new k k' d d' ready st place reply
    → AltersReady state possible old new k k' d d' ready given place reply
of_state state possible old new k k' d d' ready place reply given st is alters = subst (λ x. AltersReady state possible old new k k' d d' ready x place reply) (sym is) alters

-- the group that is stored at the place
seen_there : (t : Stored) (w : World) (place : ℕ) (seen g : Group) → StandsFor t w → slice_get (groups_in t.catalog) place ≡ Some seen → slice_get w.tier.groups place ≡ Some g → without_list g ≡ seen
seen_there t w place seen g stands at there = same_there (groups_in t.catalog) place (without_list g) seen (group_stored t w.tier place g stands.stored there) at

pub was_off : (st : RefreshState) → same_state st Off ≡ is_off st
was_off On = refl
was_off Off = refl
was_off Paused = refl

-- what is asked of a place where no group is
pub joins_none : (t : Stored) (place : ℕ) → None ≡ slice_get (groups_in t.catalog) place → TellsJoining t place false
joins_none t place none a g is at = absurd (no_group_stored t a place g is at none)

pub leaves_none : (t : Stored) (place : ℕ) → None ≡ slice_get (groups_in t.catalog) place → TellsLeaving t place false
leaves_none t place none a g is at = absurd (no_group_stored t a place g is at none)

-- what is asked of the group that is there
abbrev pub TellsHaving : Stored → ℕ → Bool → Type 0
TellsHaving t place has = (a : Tier) (g : Group) → IsStoredAs t a → slice_get a.groups place ≡ Some g → has ≡ has_something g

pub joins_alone : (t : Stored) (place : ℕ) (has : Bool) → TellsHaving t place has → has ≡ true → TellsJoining t place true
joins_alone t place has tells so a g is at = sym (ap (λ b. b || shows_something g.def.interval a.groups) (sym (tells a g is at) ∙ so))

pub joins_set : (t : Stored) (place : ℕ) (has shows : Bool) (seen : Group) → Some seen ≡ slice_get (groups_in t.catalog) place → TellsHaving t place has → has ≡ false → ((a : Tier) → IsStoredAs t a → shows ≡ shows_something seen.def.interval a.groups) → TellsJoining t place shows
joins_set t place has shows seen there tells so set a g is at =
    set a is
    ∙ ap (λ (y : Group). shows_something y.def.interval a.groups) (stored_group t a place g seen is at there)
    ∙ sym (ap (λ b. b || shows_something g.def.interval a.groups) (sym (tells a g is at) ∙ so))

pub leaves_not : (t : Stored) (place : ℕ) (seen : Group) → Some seen ≡ slice_get (groups_in t.catalog) place → is_off seen.state ≡ false → TellsLeaving t place false
leaves_not t place seen there on a g is at =
    let off : is_off g.state ≡ false = ap (λ (y : Group). is_off y.state) (sym (stored_group t a place g seen is at there)) ∙ on in
    sym (ap (λ b. b && has_something g) (was_off g.state ∙ off))

pub leaves_so : (t : Stored) (place : ℕ) (has : Bool) (seen : Group) → Some seen ≡ slice_get (groups_in t.catalog) place → is_off seen.state ≡ true → TellsHaving t place has → TellsLeaving t place has
leaves_so t place has seen there off tells a g is at =
    let now : is_off g.state ≡ true = ap (λ (y : Group). is_off y.state) (sym (stored_group t a place g seen is at there)) ∙ off in
    tells a g is at ∙ sym (ap (λ b. b && has_something g) (was_off g.state ∙ now))

pub on_alone : {D : Type 0} (state : D → SiteState) (possible : D → ℕ → Held → Type 0) (t new : Stored) (k k' : Option TierJournal) (d d' : D) (ready : Ready) (place : ℕ) (joins : Bool) (reply : Reply) → TellsJoining t place joins → joins ≡ false
    → AltersAlone state possible t new k k' d d' ready On place reply → AltersReady state possible t new k k' d d' ready On place reply
on_alone state possible t new k k' d d' ready place joins reply told none alters = λ w g at_w stands apart keeps of there reads.
    let nothing : joins_something place g w.tier ≡ false = sym (told w.tier g stands.stored there) ∙ none in
    let p = alters w g at_w stands keeps of there (unloaded (has_something g) (shows_something g.def.interval w.tier.groups) nothing) in
    record {
      world = p.world;
      at = p.at;
      stands = p.stands;
      keeps = p.keeps;
      is = inl (subst (λ b. MatchBool b (SetsStateRefreshed place g On (of_set g.def.interval (Some place)) (refresh_tried g.def.interval) w p.world reply) (SetsStateAlone place g On w p.world reply)) (sym nothing) p.is);
    }
  where
    unloaded : (a b : Bool) → (a || b) ≡ false → a ≡ false
    unloaded true b e = e
    unloaded false b e = refl

one_call : (step : List Rattle.table_state.specs.declared.history.Entry.Entry → List Rattle.table_state.specs.declared.history.Entry.Entry → Type 0) (w mid : World) (a : Tier) → BankCall step (record w { tier = a }) mid → BankCall step w mid
one_call step w mid a c = record { history = c.history; journal = c.journal; faults = c.faults; disk = c.disk; moment = c.moment; shared = c.shared }

tried_so : (place : ℕ) (g : Group) (st : RefreshState) (chosen : Choice) (interval : ℕ) (w w' : World) (reply : Reply) → SetsStateRefreshed place g st chosen as_it_was (record w { tier = refresh_tried interval w.tier }) w' reply
    → SetsStateRefreshed place g st chosen (refresh_tried interval) w w' reply
tried_so place g st chosen interval w w' reply r = record { result = r.result; mid = r.mid; call = one_call (TellsPosition r.result) w r.mid (refresh_tried interval w.tier) r.call; tier = r.tier; goes_on = r.goes_on }

pub on_joined : {D : Type 0} (state : D → SiteState) (possible : D → ℕ → Held → Type 0) (t noted new : Stored) (k k' : Option TierJournal) (d d' : D) (ready : Ready) (place : ℕ) (seen : Group) (joins : Bool) (reply : Reply) → slice_get (groups_in t.catalog) place ≡ Some seen → TellsJoining t place joins → joins ≡ true
    → ((w : World) → StandsFor t w → StandsFor noted (record w { tier = refresh_tried seen.def.interval w.tier })) → AltersWith state possible noted new k k' d d' ready On place (of_set seen.def.interval (Some place)) reply → AltersReady state possible t new k k' d d' ready On place reply
on_joined state possible t noted new k k' d d' ready place seen joins reply at told some notes alters = λ w g at_w stands apart keeps of there reads.
    let same = seen_there t w place seen g stands at there in
    let interval : seen.def.interval ≡ g.def.interval = ap (λ (y : Group). y.def.interval) (sym same) in
    let p = alters (record w { tier = refresh_tried seen.def.interval w.tier }) g (record { there = at_w.there; told = at_w.told; history = at_w.history; faults = at_w.faults; moment = at_w.moment; shared = at_w.shared }) (notes w stands) apart (keeps_tier state possible d k w (refresh_tried seen.def.interval w.tier) refl keeps) of there reads
    (ap (λ i. of_set i (Some place)) interval) in
    record {
      world = p.world;
      at = p.at;
      stands = p.stands;
      keeps = p.keeps;
      is = inl (subst (λ b. MatchBool b (SetsStateRefreshed place g On (of_set g.def.interval (Some place)) (refresh_tried g.def.interval) w p.world reply) (SetsStateAlone place g On w p.world reply)) (sym (sym (told w.tier g stands.stored there) ∙ some))
          (subst (λ i. SetsStateRefreshed place g On (of_set i (Some place)) (refresh_tried i) w p.world reply) interval
          (tried_so place g On (of_set seen.def.interval (Some place)) seen.def.interval w p.world reply p.is)));
    }

pub off_alone : {D : Type 0} (state : D → SiteState) (possible : D → ℕ → Held → Type 0) (t new : Stored) (k k' : Option TierJournal) (d d' : D) (ready : Ready) (place : ℕ) (reply : Reply) → AltersAlone state possible t new k k' d d' ready Off place reply → AltersReady state possible t new k k' d d' ready Off place reply
off_alone state possible t new k k' d d' ready place reply alters = λ w g at stands apart keeps of there reads.
    let p = alters w g at stands keeps of there refl in
    record { world = p.world; at = p.at; is = inl p.is; stands = p.stands; keeps = p.keeps }

pub paused_alone : {D : Type 0} (state : D → SiteState) (possible : D → ℕ → Held → Type 0) (t new : Stored) (k k' : Option TierJournal) (d d' : D) (ready : Ready) (place : ℕ) (leaves : Bool) (reply : Reply) → TellsLeaving t place leaves → leaves ≡ false
    → AltersAlone state possible t new k k' d d' ready Paused place reply → AltersReady state possible t new k k' d d' ready Paused place reply
paused_alone state possible t new k k' d d' ready place leaves reply told none alters = λ w g at_w stands apart keeps of there reads.
    let p = alters w g at_w stands keeps of there refl in
    record {
      world = p.world;
      at = p.at;
      stands = p.stands;
      keeps = p.keeps;
      is = inl (subst (λ b. MatchBool b (SetsStateRefreshed place g Paused (alone place) as_it_was w p.world reply) (SetsStateAlone place g Paused w p.world reply)) (sym (sym (told w.tier g stands.stored there) ∙ none)) p.is);
    }

pub paused_with : {D : Type 0} (state : D → SiteState) (possible : D → ℕ → Held → Type 0) (t new : Stored) (k k' : Option TierJournal) (d d' : D) (ready : Ready) (place : ℕ) (leaves : Bool) (reply : Reply) → TellsLeaving t place leaves → leaves ≡ true
    → AltersWith state possible t new k k' d d' ready Paused place (alone place) reply → AltersReady state possible t new k k' d d' ready Paused place reply
paused_with state possible t new k k' d d' ready place leaves reply told some alters = λ w g at_w stands apart keeps of there reads.
    let p = alters w g at_w stands apart keeps of there reads refl in
    record {
      world = p.world;
      at = p.at;
      stands = p.stands;
      keeps = p.keeps;
      is = inl (subst (λ b. MatchBool b (SetsStateRefreshed place g Paused (alone place) as_it_was w p.world reply) (SetsStateAlone place g Paused w p.world reply)) (sym (sym (told w.tier g stands.stored there) ∙ some)) p.is);
    }
