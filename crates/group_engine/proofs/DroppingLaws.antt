-- DROP CACHE GROUP over what is stored.
use Rattle.std.proofs.Common.{◌≡◌, ℕ, Bool, true, false, Option, Some, None, Result, Ok, Err, List, [], ◌∷◌, find, map, remove, slice_get, unwrap_or, refl, sym, ap, subst, ◌∙◌, inl, inr}
use Rattle.std.specs.Bool.{MatchBool}
use Rattle.std.specs.Option.{option_map}
use Rattle.row_types.specs.declared.rule.Refused.{Refused}
use Rattle.row_types.specs.declared.rule.Refused.TheVariants as refused
use Rattle.table_defs.specs.Declarations.{IsRefusedBy}
use Rattle.tier_base.specs.declared.limit.Limit.TheVariants as limit
use Rattle.tier_base.specs.declared.number.SessionId.{SessionId}
use Rattle.open_sessions.specs.Lookups.{of_label, open_ops}
use Rattle.open_sessions.specs.Opening.{seen_all}
use Rattle.sql_subset.specs.declared.stmt.Stmt.TheVariants as statement
use Rattle.std.proofs.lemmas.Slice.Eq.{bytes_eq-Decides}
use Rattle.group_catalog.specs.Catalogs.{groups_in}
use Rattle.tier_statements.specs.Seen.{session_seen}
use Rattle.cache_tier.specs.declared.reply.Last.TheVariants.{Done, No}
use Rattle.cache_tier.specs.declared.reply.Reply.{Reply}
use Rattle.cache_tier.specs.DropSteps.{DropsAt, DropsGroup, DropsRest, drop_answer, drop_fault, without_group}
use Rattle.cache_tier.specs.declared.group.GroupDef.{GroupDef}
use Rattle.cache_tier.specs.Groups.{Group, is_called, is_writethrough, place_called}
use Rattle.cache_tier.specs.Journals.{Drops}
use Rattle.cache_tier.specs.JournalSteps.{FlushesSome}
use Rattle.cache_tier.specs.Locks.{group_lock}
use Rattle.cache_tier.specs.Order.{refusal}
use Rattle.cache_tier.specs.Reading.{Answers}
use Rattle.cache_tier.specs.Rounds.{Round}
use Rattle.cache_tier.specs.Rules.{past}
use Rattle.cache_tier.specs.Steps.{DoesStatement}
use Rattle.cache_tier.specs.TierStates.{Session, Tier, is_labelled, session_of}
use Rattle.cache_tier.specs.Worlds.{Passes, Then, Tries, Unless, World, only}
use Rattle.cache_tier.specs.Dropping.{ShowsWithout}
use Rattle.cache_tier.specs.Events.{with_tier}
use Rattle.cache_tier.specs.StandingBetween.{Stands}
use Rattle.cache_tier.specs.Statements.{IsDroppable}
use Rattle.stored_tier.specs.declared.tier.Tier.{Tier as Stored}
use Rattle.group_engine.specs.Dropping.{DropsHere, IsFreeAt, IsReadyToGo, IsWithoutGroup, RoundFor, is_written_at}
use Rattle.group_engine.specs.declared.ready.Ready.{Ready}
use Rattle.group_engine.specs.Ready.{AnswersBehind, IsReadyFor, is_full_ready}
use Rattle.group_engine.proofs.ReadyLaws.{full_then, kept_here, refused_over, wanting_over}
use Rattle.group_engine.proofs.GroupRows.{same_there}
use Rattle.table_defs.specs.declared.definition.TableDef.{TableDef}
use Rattle.tier_journal.specs.Drafts.{StaysKept}
use Rattle.tier_journal.specs.declared.journal.TierJournal.{TierJournal}
use Rattle.tier_journal.proofs.WayLaws.{kept_unless}
use Rattle.outside.specs.Holding.{Held}
use Rattle.stored_tier.proofs.OverLaws.{keeps_stays}
use Rattle.stored_tier.specs.Lists.{AreListed}
use Rattle.stored_tier.proofs.HiddenRows.{hides_less}
use Rattle.stored_tier.proofs.ListLaws.{hiding_less, kept_long, listed_less}
use Rattle.stored_tier.specs.Grouping.{KeepsGroups}
use Rattle.stored_tier.specs.Performing.{Executes, PerformsInOver, PerformsOver, StandsFor, reply_of}
use Rattle.outside.specs.Sites.{SiteState}
use Rattle.stored_tier.proofs.LaterLaws.{later_less}
use Rattle.stored_tier.specs.Stored.{HasSession, IsSound, IsStoredAs, are_later, without_list}
use Rattle.group_engine.proofs.CalmLaws.{NumberLaw, own_here}
use Rattle.group_engine.proofs.DropLocks.{group_stored, group_within, place_stored, place_within, written_stored}
use Rattle.group_engine.proofs.GroupComes.{sound_grouped, stands_kept, time_kept}
use Rattle.group_engine.proofs.GroupGoes.{filtered, kept_less, map_less, names_less, plain_less, shows_less, whole_less}
use Rattle.stored_tier.proofs.SeenLaws.{find_seen}

abbrev pub DropLaw : Type 0
DropLaw =
    (w : World) (s : Session) (name : List ℕ) (place : ℕ) (g : Group) → Stands w → IsDroppable w s name place g → ShowsWithout g w (with_tier (drop_answer name w).0 w)

-- the session is one of the tier's
pub session_there : (t : Stored) (a : Tier) (id : SessionId) (s : Session) → IsStoredAs t a → HasSession t id s → session_of a s.label ≡ Some s
session_there t a id s is has =
    ap (find (is_labelled s.label)) is.sessions ∙ find_seen s.label (seen_all t.sessions) ∙ ap (option_map session_seen) has.found ∙ ap Some has.is

-- the parts are sound without the group
pub sound_without : (t new : Stored) (place : ℕ) → IsSound t → (is_written_at (groups_in t.catalog) place ≡ true → t.unsettled.items ≡ []) → IsWithoutGroup t new place → IsSound new
sound_without t new place sound settled without =
    sound_grouped t new (remove (groups_in t.catalog) place) (remove t.stores.items place) (remove t.hidden.items place) sound without.has
    (kept_less t.schema (groups_in t.catalog) t.stores.items place sound.kept)
    (hiding_less t.schema (groups_in t.catalog) t.stores.items t.hidden.items place sound.hiding (kept_long t.schema (groups_in t.catalog) t.stores.items sound.kept)) (plain_less (groups_in t.catalog) place sound.plain)
    (names_less (groups_in t.catalog) place sound.named) (whole_less t.stores.items place sound.whole) (later (is_written_at (groups_in t.catalog) place) refl) without.unverified
  where
    later : (b : Bool) → is_written_at (groups_in t.catalog) place ≡ b → are_later (remove (groups_in t.catalog) place) t.unsettled.items ≡ true
    later true writes = ap (are_later (remove (groups_in t.catalog) place)) (settled writes)
    later false reads = later_less (groups_in t.catalog) place t.unsettled.items reads sound.later

module _ (law : DropLaw) (numbers : NumberLaw) (t new : Stored) (id : SessionId) (place : ℕ) (sound : IsSound t) (rests : open_ops id (seen_all t.sessions) ≡ [])
    (settled : is_written_at (groups_in t.catalog) place ≡ true → t.unsettled.items ≡ []) (s : Session) (w : World) (g : Group) (has : HasSession t id s) (stands : StandsFor t w) (at : slice_get w.tier.groups place ≡ Some g) where
  called_itself : is_called g.def.name g ≡ true
  called_itself = (bytes_eq-Decides g.def.name g.def.name).1 refl

  alone : (other : ℕ) (h : Group) → slice_get w.tier.groups other ≡ Some h → is_called g.def.name h ≡ true → other ≡ place
  alone other h there e =
      sound.named other place (without_list h) (without_list g) (group_stored t w.tier other h stands.stored there) (group_stored t w.tier place g stands.stored at)
      ((bytes_eq-Decides h.def.name g.def.name).0 e)

  droppable : drop_fault s g w ≡ None → IsDroppable w s g.def.name place g
  droppable free = record {
    there = at;
    called = called_itself;
    alone = alone;
    settled = λ e. stands.stored.unsettled ∙ settled (sym (written_stored t w.tier place stands.stored) ∙ ap (λ o. unwrap_or (option_map is_writethrough o) false) at ∙ e);
    session = session_there t w.tier id s stands.stored has;
    rests = sym (own_here numbers t id s sound has) ∙ rests;
    unlocked = free;
  }

  left : (without_group g.def.name w.tier).groups ≡ remove w.tier.groups place
  left = filtered g.def.name w.tier.groups place g at called_itself alone

  module _ (free : drop_fault s g w ≡ None) (without : IsWithoutGroup t new place) where
    shows : ShowsWithout g w (with_tier (without_group g.def.name w.tier) w)
    shows = law w s g.def.name place g stands.stands (droppable free)

    stored : IsStoredAs new (without_group g.def.name w.tier)
    stored = record {
      schema = stands.stored.schema ∙ sym without.has.beside.schema;
      stale = stands.stored.stale ∙ sym without.has.beside.stale;
      groups = ap (map without_list) left ∙ map_less without_list w.tier.groups place ∙ ap (λ gs. remove gs place) stands.stored.groups ∙ sym without.has.groups;
      lists = subst (λ gs. AreListed gs new.stores.items new.hidden.items) (sym left) (subst (AreListed (remove w.tier.groups place) new.stores.items) (sym without.has.hidden)
          (subst (λ ss. AreListed (remove w.tier.groups place) ss (remove t.hidden.items place)) (sym without.has.stores) (listed_less w.tier.groups t.stores.items t.hidden.items place stands.stored.lists)));
      sessions = stands.stored.sessions ∙ ap (λ y. map session_seen (seen_all y)) (sym without.has.beside.sessions);
      unsettled = stands.stored.unsettled ∙ ap (λ u. u.items) (sym without.has.beside.unsettled);
      next = stands.stored.next ∙ sym without.has.beside.next;
      doubt = stands.stored.doubt;
      time = time_kept t new w.tier without.has.beside.clock stands.stored.time;
    }

    pub stands_without : StandsFor new (with_tier (without_group g.def.name w.tier) w)
    stands_without = record {
      stored = stored;
      shows = shows_less t new w (with_tier (without_group g.def.name w.tier) w) place g sound stands at without.has.beside.schema refl left without.has.stores shows;
      hides = hides_less t new w.history place without.has.groups without.has.hidden stands.hides;
      stands = shows.stands;
      waits = stands.waits;
    }

-- the rest of DROP where no other session has written on the tables
rest_so : (s : Session) (g : Group) (w w' : World) (reply : Reply) → drop_fault s g w ≡ None → Then (FlushesSome (Drops g.def.name ∷ [])) (Answers (drop_answer g.def.name)) w w' reply → DropsRest s g w w' reply
rest_so s g w w' reply free then = subst (λ o. Unless o (Then (FlushesSome (Drops g.def.name ∷ [])) (Answers (drop_answer g.def.name))) w w' reply) (sym free) then

module _ {D : Type 0} (state : D → SiteState) (possible : D → ℕ → Held → Type 0) where
  pub dropped : DropLaw → NumberLaw → (t new : Stored) (k k' : Option TierJournal) (d d' : D) (ready : Ready) (id : SessionId) (place : ℕ) (told reply : Reply) → IsSound t → open_ops id (seen_all t.sessions) ≡ [] → (is_written_at (groups_in t.catalog) place ≡ true → t.unsettled.items ≡ [])
      → IsFreeAt t id place → IsWithoutGroup t new place → IsReadyToGo (groups_in t.catalog) k place ready → AnswersBehind state possible k k' d d' ready told reply → told ≡ only (Done 0) → DropsHere state possible t new k k' d d' id place reply
  dropped law numbers t new k k' d d' ready id place told reply sound rests settled free without of answers is = λ s w g has at stands keeps there.
      let unlocked = free w.tier s g stands.stored has there in
      let p = answers new w (Drops g.def.name ∷ []) (drop_answer g.def.name) at keeps (of w.tier.schema (without_list g) (group_stored t w.tier place g stands.stored there))
      (stands_without law numbers t new id place sound rests settled s w g has stands there unlocked without) refl (λ j faults moment. refl) is in
      record { world = p.world; at = p.at; is = inl (rest_so s g w p.world reply unlocked p.is); stands = p.stands; keeps = p.keeps }

  -- 119 of the journal
  pub drop_full : (t : Stored) (k : Option TierJournal) (d : D) (ready : Ready) (id : SessionId) (place : ℕ) (reply : Reply) → IsFreeAt t id place → IsReadyToGo (groups_in t.catalog) k place ready → is_full_ready ready ≡ true → reply ≡ only (No (past limit.JournalSlot))
      → DropsHere state possible t t k k d d id place reply
  drop_full t k d ready id place reply free of full told = λ s w g has at stands keeps there.
      let unlocked = free w.tier s g stands.stored has there in
      let ready_for = of w.tier.schema (without_list g) (group_stored t w.tier place g stands.stored there) in
      record {
        world = w;
        at = at;
        is = inl (rest_so s g w w reply unlocked (full_then state possible k d w ready (Drops g.def.name ∷ []) (Answers (drop_answer g.def.name)) reply keeps ready_for full told));
        stands = λ whole. stands;
        keeps = kept_unless keeps;
      }

  -- 111, or memory was wanting
  pub drop_refused : (t : Stored) (k : Option TierJournal) (d : D) (id : SessionId) (place : ℕ) (e : Refused) → ((a : Tier) (s : Session) (g : Group) → IsStoredAs t a → HasSession t id s → slice_get a.groups place ≡ Some g → IsRefusedBy (group_lock s.label a g) e) → DropsHere state possible t t k k d d id place (reply_of (Err e))
  drop_refused t k d id place e is = λ s w g has at stands keeps there. record { world = w; at = at; is = by s w g e (is w.tier s g stands.stored has there); stands = λ whole. stands; keeps = kept_unless keeps }
    where
      by : (s : Session) (w : World) (g : Group) (e : Refused) → IsRefusedBy (group_lock s.label w.tier g) e → Tries (DropsRest s g) w w (reply_of (Err e))
      by s w g (refused.Rule rule) told = inl (subst (λ o. Unless o (Then (FlushesSome (Drops g.def.name ∷ [])) (Answers (drop_answer g.def.name))) w w (only (No rule))) (sym told) (refl, refl))
      by s w g refused.Memory told = inr (refl, refl)

  pub drop_wanting : (t new : Stored) (k k' : Option TierJournal) (d : D) (id : SessionId) (place : ℕ) (e : Refused) → StaysKept k k' → KeepsGroups t new → e ≡ refused.Memory → DropsHere state possible t new k k' d d id place (reply_of (Err e))
  drop_wanting t new k k' d id place e stays kept is = λ s w g has at stands keeps there. record {
    world = w;
    at = at;
    is = inr (refl, ap (λ x. reply_of (Err x)) is);
    stands = λ whole. stands_kept t new w stands kept;
    keeps = kept_unless (keeps_stays state possible d k k' w stays keeps);
  }

  -- with what was made ready
  pub drop_moved : (t new : Stored) (k mid k' : Option TierJournal) (d d' : D) (id : SessionId) (place : ℕ) (reply : Reply) → StaysKept k mid → DropsHere state possible t new mid k' d d' id place reply → DropsHere state possible t new k k' d d' id place reply
  drop_moved t new k mid k' d d' id place reply stays drops = λ s w g has at stands keeps there. drops s w g has at stands (keeps_stays state possible d k mid w stays keeps) there

-- DROP, behind what refuses it

on_group : (t : Stored) (w : World) (s : Session) (name : List ℕ) (place : ℕ) (g : Group) (w' : World) (reply : Reply) → IsStoredAs t w.tier → refusal w.tier s (statement.DropGroup name) ≡ None → place_called (groups_in t.catalog) name ≡ Some place → slice_get w.tier.groups place ≡ Some g → DropsAt s place g w w' reply
    → Unless (refusal w.tier s (statement.DropGroup name)) (DoesStatement s (statement.DropGroup name)) w w' reply
on_group t w s name place g w' reply is free called there does =
    subst (λ o. Unless o (DoesStatement s (statement.DropGroup name)) w w' reply) (sym free) here
  where
    here : DropsGroup s name w w' reply
    here = record { place = place; group = g; there = place_stored t w.tier name is ∙ called; is = there; does = does }

group_there : (t : Stored) (a : Tier) (name : List ℕ) (place : ℕ) → IsStoredAs t a → place_called (groups_in t.catalog) name ≡ Some place → (g : Group) × (slice_get a.groups place ≡ Some g)
group_there t a name place is called = group_within t a place is (place_within (groups_in t.catalog) name place called)

is_written : (groups : List Group) (place : ℕ) (g : Group) → slice_get groups place ≡ Some g → is_written_at groups place ≡ is_writethrough g
is_written groups place g there = ap (λ o. unwrap_or (option_map is_writethrough o) false) there

-- the round ended the line
pub ended : {D : Type 0} (state : D → SiteState) (possible : D → ℕ → Held → Type 0) (t mid : Stored) (k k' : Option TierJournal) (d d' : D) (id : SessionId) (name : List ℕ) (place : ℕ) (reply : Reply) → IsSound t
    → ((a : Tier) (s : Session) → IsStoredAs t a → HasSession t id s → refusal a s (statement.DropGroup name) ≡ None) → place_called (groups_in t.catalog) name ≡ Some place
    → PerformsOver state possible t mid k k' d d' (Some reply) (λ w w'. RoundFor place w w' (Some reply)) → PerformsInOver state possible t mid k k' d d' id (Executes (statement.DropGroup name)) (Ok reply)
ended state possible t mid k k' d d' id name place reply sound free called rounds = λ s has w at stands unshared keeps. (
    let p = rounds w at stands unshared keeps in
    let g = group_there t w.tier name place stands.stored called in
    record {
      world = p.world;
      at = p.at;
      is = inl (on_group t w s name place g.0 p.world reply stands.stored (free w.tier s stands.stored has) called g.1 (does s w p.world g.0 (is_writethrough g.0) refl
          (subst (λ b. MatchBool b (Round w p.world (Some reply)) (Passes w p.world (Some reply))) (is_written w.tier.groups place g.0 g.1) p.is)));
      stands = p.stands;
      keeps = p.keeps;
    })
  where
    does : (s : Session) (w w1 : World) (g : Group) (b : Bool) → is_writethrough g ≡ b → MatchBool (is_writethrough g) (Round w w1 (Some reply)) (Passes w w1 (Some reply)) → DropsAt s place g w w1 reply
    does s w w1 g true e is =
        let round : Round w w1 (Some reply) = subst (λ b. MatchBool b (Round w w1 (Some reply)) (Passes w w1 (Some reply))) e is in
        let then : Then Round (Tries (DropsRest s g)) w w1 reply = record { mid = w1; stop = Some reply; first = round; next = (refl, refl) } in
        subst (λ b. MatchBool b (Then Round (Tries (DropsRest s g)) w w1 reply) (DropsRest s g w w1 reply)) (sym e) then
    does s w w1 g false e is =
        let passes : Passes w w1 (Some reply) = subst (λ b. MatchBool b (Round w w1 (Some reply)) (Passes w w1 (Some reply))) e is in
        let wrong : Some reply ≡ None = passes.1 in
        cc

-- what a round leaves: the same but what is unsettled, and the clock
pub record SettlesOnly (t mid : Stored) : Type 0 where
  pub catalog : mid.catalog ≡ t.catalog
  pub sessions : mid.sessions ≡ t.sessions

-- and then the group goes, or 111
pub went : {D : Type 0} (state : D → SiteState) (possible : D → ℕ → Held → Type 0) (t mid new : Stored) (k km k' : Option TierJournal) (d dm d' : D) (id : SessionId) (name : List ℕ) (place : ℕ) (result : Result Reply Refused) → IsSound t → SettlesOnly t mid
    → ((a : Tier) (s : Session) → IsStoredAs t a → HasSession t id s → refusal a s (statement.DropGroup name) ≡ None) → place_called (groups_in t.catalog) name ≡ Some place
    → PerformsOver state possible t mid k km d dm None (λ w w'. RoundFor place w w' None) → DropsHere state possible mid new km k' dm d' id place (reply_of result) → PerformsInOver state possible t new k k' d d' id (Executes (statement.DropGroup name)) result
went state possible t mid new k km k' d dm d' id name place result sound same free called rounds drops = λ s has w at stands unshared keeps. (
    let p = rounds w at stands unshared keeps in
    let stands_mid = p.stands refl in
    let g = group_there t w.tier name place stands.stored called in
    let g1 = group_there mid p.world.tier name place stands_mid.stored (ap (λ c. place_called (groups_in c) name) same.catalog ∙ called) in
    let q = drops s p.world g1.0 (session_same s has) p.at stands_mid (p.keeps.over refl) g1.1 in
    let defs : g1.0.def ≡ g.0.def = same_def w.tier p.world.tier g.0 g1.0 stands.stored stands_mid.stored g.1 g1.1 in
    record {
      world = q.world;
      at = q.at;
      is = does s w p.world q.world g.0 stands.stored (free w.tier s stands.stored has) g.1 (is_writethrough g.0) refl
          (subst (λ b. MatchBool b (Round w p.world None) (Passes w p.world None)) (is_written w.tier.groups place g.0 g.1) p.is)
          (subst (λ (d : GroupDef). Tries (DropsRest s (record g1.0 { def = d })) p.world q.world (reply_of result)) defs q.is);
      stands = q.stands;
      keeps = q.keeps;
    })
  where
    session_same : (s : Session) → HasSession t id s → HasSession mid id s
    session_same s has = record { seen = has.seen; found = ap (λ x. of_label s.label (seen_all x)) same.sessions ∙ has.found; number = has.number; is = has.is }

    same_def : (a b : Tier) (g g1 : Group) → IsStoredAs t a → IsStoredAs mid b → slice_get a.groups place ≡ Some g → slice_get b.groups place ≡ Some g1 → g1.def ≡ g.def
    same_def a b g g1 is there at then =
        let both : Some (without_list g1) ≡ Some (without_list g) = sym (group_stored mid b place g1 there then) ∙ ap (λ k. slice_get (groups_in k) place) same.catalog ∙ group_stored t a place g is at in
        let one : without_list g1 ≡ without_list g = cc in
        ap (λ (x : Group). x.def) one

    does : (s : Session) (w w1 w' : World) (g : Group) → IsStoredAs t w.tier → refusal w.tier s (statement.DropGroup name) ≡ None → slice_get w.tier.groups place ≡ Some g → (b : Bool) → is_writethrough g ≡ b
        → MatchBool (is_writethrough g) (Round w w1 None) (Passes w w1 None) → Tries (DropsRest s g) w1 w' (reply_of result) → Executes (statement.DropGroup name) s w w' (reply_of result)
    does s w w1 w' g is none there true e rounds tries =
        let round : Round w w1 None = subst (λ b. MatchBool b (Round w w1 None) (Passes w w1 None)) e rounds in
        let then : Then Round (Tries (DropsRest s g)) w w' (reply_of result) = record { mid = w1; stop = None; first = round; next = tries } in
        inl (on_group t w s name place g w' (reply_of result) is none called there (subst (λ b. MatchBool b (Then Round (Tries (DropsRest s g)) w w' (reply_of result)) (DropsRest s g w w' (reply_of result))) (sym e) then))
    does s w w1 w' g is none there false e rounds tries =
        let passes : Passes w w1 None = subst (λ b. MatchBool b (Round w w1 None) (Passes w w1 None)) e rounds in
        here (subst (λ x. Tries (DropsRest s g) x w' (reply_of result)) passes.0 tries)
      where
        here : Tries (DropsRest s g) w w' (reply_of result) → Executes (statement.DropGroup name) s w w' (reply_of result)
        here (inl rest) = inl (on_group t w s name place g w' (reply_of result) is none called there (subst (λ b. MatchBool b (Then Round (Tries (DropsRest s g)) w w' (reply_of result)) (DropsRest s g w w' (reply_of result))) (sym e) rest))
        here (inr wants) = inr wants

-- what was made ready for the group that is stored at a place
pub gone_there : (groups : List Group) (k : Option TierJournal) (place : ℕ) (seen : Group) (ready : Ready) → slice_get groups place ≡ Some seen → ((schema : List TableDef) → IsReadyFor schema k ready (Drops seen.def.name ∷ [])) → IsReadyToGo groups k place ready
gone_there groups k place seen ready at is = λ schema g there. subst (λ (x : Group). IsReadyFor schema k ready (Drops x.def.name ∷ [])) (same_there groups place seen g at there) (is schema)

-- nothing changed
pub same_groups : (t : Stored) → KeepsGroups t t
same_groups t = record {
  beside = record { schema = refl; stale = refl; sessions = refl; unsettled = refl; writers = refl; next = refl; clock = refl };
  groups = refl;
  stores = refl;
  hidden = refl;
  visible = refl;
  directory = refl;
  verified = refl;
}

-- a rule refuses it, or memory was wanting
pub not_dropped : {D : Type 0} (state : D → SiteState) (possible : D → ℕ → Held → Type 0) (t : Stored) (k : Option TierJournal) (d : D) (id : SessionId) (name : List ℕ) (e : Refused)
    → ((a : Tier) (s : Session) → IsStoredAs t a → HasSession t id s → IsRefusedBy (refusal a s (statement.DropGroup name)) e) → PerformsInOver state possible t t k k d d id (Executes (statement.DropGroup name)) (Err e)
not_dropped state possible t k d id name (refused.Rule rule) is = refused_over state possible t k d id (statement.DropGroup name) rule (λ s w has stored. is w.tier s stored has)
not_dropped state possible t k d id name refused.Memory is = wanting_over state possible t t k k d id (statement.DropGroup name) (kept_here k) (λ w stands. stands)
