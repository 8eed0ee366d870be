-- How the parts of a line make its step.
use Rattle.std.proofs.Common.{◌≡◌, ◌∙◌, ◌||◌, ℕ, Bool, true, false, not, cond, Option, Some, None, Result, Err, List, [], ◌∷◌, length, refl, sym, ap, subst, inl, inr, find}
use Rattle.std.specs.Bool.{MatchBool}
use Rattle.std.specs.List.{list_any}
use Rattle.std.specs.Option.{is_none, option_or}
use Rattle.std.proofs.lemmas.List.{length-map}
use Rattle.table_defs.specs.Names.{same_name}
use Rattle.tier_base.specs.declared.code.Code.TheVariants as code
use Rattle.tier_base.specs.declared.limit.Limit.TheVariants as limit
use Rattle.tier_base.specs.declared.number.SessionId.{SessionId}
use Rattle.row_types.specs.declared.rule.Refused.{Refused}
use Rattle.row_types.specs.declared.rule.Refused.TheVariants as refused
use Rattle.table_defs.specs.Declarations.{IsRefusedBy}
use Rattle.sql_subset.specs.declared.request.ConsoleRequest.{ConsoleRequest}
use Rattle.sql_subset.specs.declared.request.Line.{Line}
use Rattle.sql_subset.specs.declared.request.Line.TheVariants as says
use Rattle.sql_subset.specs.declared.request.OpenOptions.{OpenOptions}
use Rattle.sql_subset.specs.declared.request.Request.{Request}
use Rattle.sql_subset.specs.declared.request.Request.TheVariants as asks_for
use Rattle.sql_subset.specs.declared.stmt.Stmt.{Stmt}
use Rattle.cache_tier.specs.declared.reply.Last.TheVariants.{Done, No}
use Rattle.cache_tier.specs.declared.reply.Note.{Note}
use Rattle.cache_tier.specs.declared.reply.Reply.{Reply}
use Rattle.cache_tier.specs.ConsoleSteps.{AsksSchema, DoesConsole}
use Rattle.cache_tier.specs.DueWork.{DueWork}
use Rattle.cache_tier.specs.Rules.{at_limit, broken_if, labelled, wrong_at}
use Rattle.cache_tier.specs.SessionSteps.{close_answer, open_answer, open_fault}
use Rattle.cache_tier.specs.Steps.{Answered, Does, ForSession, Heeds, Parts, Says, clock_fault, early_fault, session_fault, with_moment, with_notes}
use Rattle.cache_tier.specs.TierStates.{Session, Tier, is_labelled, session_of}
use Rattle.cache_tier.specs.Undone.{is_undone}
use Rattle.cache_tier.specs.Worlds.{Quiet, Refuses, Tries, Unless, World, only}
use Rattle.tier_statements.specs.Replies.{reply_to}
use Rattle.stored_tier.specs.declared.tier.Tier.{Tier as Stored}
use Rattle.stored_tier.specs.Answering.{IsSessionOf}
use Rattle.outside.specs.Holding.{Held}
use Rattle.propagators.specs.Certainty.{KeepsCertain}
use Rattle.propagators.proofs.CertainLaws.{same_certain}
use Rattle.tier_journal.specs.declared.journal.TierJournal.{TierJournal}
use Rattle.tier_journal.specs.KeptOver.{is_broken}
use Rattle.stored_tier.proofs.OverLaws.{over_here, over_so}
use Rattle.stored_tier.specs.Performing.{ClosesSession, Executes, OpensSession, Performs, PerformsIn, PerformsOver, StaysWritten, reply_of}
use Rattle.cache_engine.specs.Serving.{AsksAndDoes, DoesAdmitted, IsAdmitted, WorksAndAnswers}
use Rattle.outside.specs.Sites.{SiteState}
use Rattle.stored_tier.specs.Stored.{IsStoredAs}
use Rattle.cache_engine.proofs.DueLaws.{KeepsWho, asked_keeps, due_keeps, labels_of, still_unshared, who_on}
use Rattle.cache_engine.proofs.EngineLaws.{ended, led, led_none, left_stored}
use Rattle.session_engine.specs.Doubting.{EndsInOver, EndsOver, IsLeft, LeadsOver}
use Rattle.tier_journal.specs.Ways.{HasBecome}
use Rattle.tier_journal.proofs.WayLaws.{kept_unless}
use Rattle.cache_engine.proofs.StillLaws.{asked_journal, console_journal, over_grown, over_still, quiet_still}
use Rattle.session_engine.specs.declared.doubt.Doubt.{Doubt}
use Rattle.cache_engine.proofs.WantLaws.{told_as}

-- one after the other, where nothing is in doubt between them
module _ {D : Type 0} (state : D → SiteState) (possible : D → ℕ → Held → Type 0) where
  pub then_led : (old mid new : Stored) (was doubt : Option Doubt) (k n l : Option TierJournal) (before between behind : D) (stop : Option Reply) (one other both : World → World → Type 0)
      → ((w w' : World) → one w w' → KeepsWho w w') → ((w x w' : World) → one w x → other x w' → both w w')
      → LeadsOver state possible old was mid None k n before between None one → EndsOver state possible mid new doubt n l between behind stop other → LeadsOver state possible old was new doubt k l before behind stop both
  then_led old mid new was doubt k n l before between behind stop one other both same joins p q w at left unshared keeps =
      let d = p w at left unshared keeps in
      let e = q d.world d.at (d.left refl) (still_unshared w d.world (same w d.world d.is) unshared) (d.keeps.over refl) in
      record { world = e.world; at = e.at; is = joins w d.world e.world d.is e.is; left = e.left; keeps = e.keeps }

-- SESSIONS

-- no session has the label where none of the list does
none_found : (label : List ℕ) (ss : List Session) → list_any (is_labelled label) ss ≡ false → find (is_labelled label) ss ≡ None
none_found label [] e = refl
none_found label (s ∷ ss) e = by (is_labelled label s) refl (none_found label ss)
  where
    by : (b : Bool) → is_labelled label s ≡ b → (list_any (is_labelled label) ss ≡ false → find (is_labelled label) ss ≡ None) → find (is_labelled label) (s ∷ ss) ≡ None
    by true is rest = let both : true ≡ false = ap (λ b. b || list_any (is_labelled label) ss) (sym is) ∙ e in absurd (Prim.cc both)
    by false is rest = ap (λ b. cond b (Some s) (find (is_labelled label) ss)) is ∙ rest (ap (λ b. b || list_any (is_labelled label) ss) (sym is) ∙ e)

open_free : (t : Tier) (label : List ℕ) → open_fault t label ≡ None → session_of t label ≡ None
open_free t label e = by (list_any (is_labelled label) t.sessions) refl
  where
    by : (b : Bool) → list_any (is_labelled label) t.sessions ≡ b → session_of t label ≡ None
    by true is =
        absurd
        (Prim.cc (ap (λ b. option_or (broken_if b (labelled code.NameInUse label)) (at_limit limit.Sessions (length t.sessions))) (sym is) ∙ e))
    by false is = none_found label t.sessions is

open_does : (label : List ℕ) (options : OpenOptions) (w w' : World) (reply : Reply) → Tries (OpensSession label options) w w' reply → DoesAdmitted (says.Session label (asks_for.Open options)) w w' reply
open_does label options w w' reply (inl q) = λ free.
    inl
    (subst (λ o. ForSession label o (asks_for.Open options) w w' reply) (sym (open_free w.tier label free))
    (subst (λ f. Unless f (Quiet (open_answer w.tier label options)) w w' reply) free q))
open_does label options w w' reply (inr q) = λ free. inr q

pub open_performed : {D : Type 0} (state : D → SiteState) (possible : D → ℕ → Held → Type 0) (old new : Stored) (k : Option TierJournal) (d : D) (label : List ℕ) (options : OpenOptions) (result : Result Reply Refused)
    → ((there : SiteState) → Performs old new there there (λ w w'. Tries (OpensSession label options) w w' (reply_of result)))
    → PerformsOver state possible old new k k d d (Some (reply_of result)) (λ w w'. DoesAdmitted (says.Session label (asks_for.Open options)) w w' (reply_of result))
open_performed state possible old new k d label options result p =
    over_so state possible old new k k d d (Some (reply_of result)) (λ w w'. Tries (OpensSession label options) w w' (reply_of result)) (λ w w'. DoesAdmitted (says.Session label (asks_for.Open options)) w w' (reply_of result))
    (λ w w' stands did. open_does label options w w' (reply_of result) did)
    (over_still state possible old new k d d (Some (reply_of result)) (λ w w'. Tries (OpensSession label options) w w' (reply_of result)) (same_certain state possible d)
    (λ w w' did. quiet_still (open_fault w.tier label) (open_answer w.tier label options) w w' (reply_of result) refl did) (p (state d)))

close_does : (label : List ℕ) (s : Session) (w w' : World) (reply : Reply) → session_of w.tier label ≡ Some s → s.label ≡ label → Tries (ClosesSession s) w w' reply → Tries (Does (says.Session label asks_for.Close)) w w' reply
close_does label s w w' reply is named (inl q) =
    inl
    (subst (λ o. ForSession label o asks_for.Close w w' reply) (sym is)
    (subst (λ l. Quiet (close_answer w.tier l) w w' reply) named q))
close_does label s w w' reply is named (inr q) = inr q

statement_does : (label : List ℕ) (st : Stmt) (s : Session) (w w' : World) (reply : Reply) → session_of w.tier label ≡ Some s → Executes st s w w' reply → Tries (Does (says.Session label (asks_for.Statement st))) w w' reply
statement_does label st s w w' reply is (inl q) = inl (subst (λ o. ForSession label o (asks_for.Statement st) w w' reply) (sym is) q)
statement_does label st s w w' reply is (inr q) = inr q

abbrev pub Finds : Stored → List ℕ → SessionId → Type 0
Finds t label id = (a : Tier) → IsStoredAs t a → IsSessionOf t a label id

close_still : (s : Session) (w w' : World) (reply : Reply) → Tries (ClosesSession s) w w' reply → StaysWritten w w'
close_still s w w' reply did = quiet_still None (close_answer w.tier s.label) w w' reply refl did

module _ {D : Type 0} (state : D → SiteState) (possible : D → ℕ → Held → Type 0) where
  pub close_performed : (old new : Stored) (k : Option TierJournal) (d : D) (label : List ℕ) (id : SessionId) (result : Result Reply Refused) → Finds old label id
      → PerformsIn old new (state d) (state d) id (λ s. Tries (ClosesSession s)) result
      → PerformsOver state possible old new k k d d (Some (reply_of result)) (λ w w'. DoesAdmitted (says.Session label asks_for.Close) w w' (reply_of result))
  close_performed old new k d label id result finds p w at stands unshared keeps =
      let o = finds w.tier stands.stored in
      let it = over_still state possible old new k d d (Some (reply_of result)) (λ w w'. Tries (ClosesSession o.session) w w' (reply_of result)) (same_certain state possible d) (λ x x' did. close_still o.session x x' (reply_of result) did) (p o.session o.has) w at stands unshared keeps in
      record { world = it.world; at = it.at; is = λ free. close_does label o.session w it.world (reply_of result) o.is o.named it.is; stands = it.stands; keeps = it.keeps }

  pub statement_led : (old new : Stored) (doubt : Option Doubt) (k k' : Option TierJournal) (d d' : D) (label : List ℕ) (id : SessionId) (st : Stmt) (result : Result Reply Refused) → Finds old label id
      → EndsInOver state possible old new doubt k k' d d' id (Executes st) result
      → EndsOver state possible old new doubt k k' d d' (Some (reply_of result)) (λ w w'. DoesAdmitted (says.Session label (asks_for.Statement st)) w w' (reply_of result))
  statement_led old new doubt k k' d d' label id st result finds p w at stands unshared keeps =
      let o = finds w.tier stands.stored in
      let it = p o.session o.has w at stands unshared keeps in
      record { world = it.world; at = it.at; is = λ free. statement_does label st o.session w it.world (reply_of result) o.is it.is; left = it.left; keeps = it.keeps }

  pub console_performed : (old new : Stored) (k : Option TierJournal) (d d' : D) (request : ConsoleRequest) (reply : Reply) → KeepsCertain state possible d d' → HasBecome old.schema new.schema
      → Performs old new (state d) (state d') (λ w w'. Tries (DoesConsole request) w w' reply) → PerformsOver state possible old new k k d d' (Some reply) (λ w w'. DoesAdmitted (says.Console request) w w' reply)
  console_performed old new k d d' request reply certain grows p =
      over_so state possible old new k k d d' (Some reply) (λ w w'. Tries (DoesConsole request) w w' reply) (λ w w'. DoesAdmitted (says.Console request) w w' reply)
      (λ w w' stands done free. done)
      (over_grown state possible old new k d d' (Some reply) (λ w w'. Tries (DoesConsole request) w w' reply) certain grows (λ w w' did. console_journal request w w' reply did) p)

  -- the sum of the additions
  pub clock_told : (t : Stored) (k : Option TierJournal) (d : D) (ms : ℕ) (reply : Reply) → reply ≡ only (Done t.clock.added) → PerformsOver state possible t t k k d d (Some reply) (λ w w'. DoesAdmitted (says.Clock ms) w w' reply)
  clock_told t k d ms reply e =
      over_here state possible t k d (Some reply) (λ w w'. DoesAdmitted (says.Clock ms) w w' reply)
      (λ w stands free. inl (refl, e ∙ ap (λ n. only (Done n)) (sym stands.stored.time.additions)))

-- what refuses a session's request is told by the labels of the sessions

any_labelled : (label : List ℕ) (ss : List Session) → list_any (is_labelled label) ss ≡ list_any (λ l. same_name l label) (labels_of ss)
any_labelled label [] = refl
any_labelled label (s ∷ ss) = ap (λ b. same_name s.label label || b) (any_labelled label ss)

none_labelled : (label : List ℕ) (ss : List Session) → is_none (find (is_labelled label) ss) ≡ not (list_any (is_labelled label) ss)
none_labelled label [] = refl
none_labelled label (s ∷ ss) = by (is_labelled label s) (none_labelled label ss)
  where
    by : (b : Bool) → is_none (find (is_labelled label) ss) ≡ not (list_any (is_labelled label) ss) → is_none (cond b (Some s) (find (is_labelled label) ss)) ≡ not (b || list_any (is_labelled label) ss)
    by true rest = refl
    by false rest = rest

any_same : (t t' : Tier) (label : List ℕ) → labels_of t'.sessions ≡ labels_of t.sessions → list_any (is_labelled label) t'.sessions ≡ list_any (is_labelled label) t.sessions
any_same t t' label e = any_labelled label t'.sessions ∙ ap (list_any (λ l. same_name l label)) e ∙ sym (any_labelled label t.sessions)

open_same : (t t' : Tier) (label : List ℕ) → labels_of t'.sessions ≡ labels_of t.sessions → session_fault t' label asks_for.Close ≡ session_fault t label asks_for.Close
open_same t t' label e =
    ap (λ b. broken_if b (labelled code.UnknownSession label)) (none_labelled label t'.sessions ∙ ap not (any_same t t' label e) ∙ sym (none_labelled label t.sessions))

fault_same : (t t' : Tier) (label : List ℕ) (request : Request) → labels_of t'.sessions ≡ labels_of t.sessions → session_fault t' label request ≡ session_fault t label request
fault_same t t' label (asks_for.Open options) e =
    let used = any_same t t' label e in
    let count = sym (length-map t'.sessions (λ (s : Session). s.label)) ∙ ap length e ∙ length-map t.sessions (λ (s : Session). s.label) in
    λ i. option_or (broken_if (used i) (labelled code.NameInUse label)) (at_limit limit.Sessions (count i))
fault_same t t' label asks_for.Close e = open_same t t' label e
fault_same t t' label (asks_for.Statement st) e = open_same t t' label e

-- and what refuses a line at the second place by the additions of the clock, too
early_same : (base : ℕ) (l : Line) (t t' : Tier) → labels_of t'.sessions ≡ labels_of t.sessions → t'.added ≡ t.added → early_fault base l t' ≡ early_fault base l t
early_same base (says.Session label request) t t' e f = fault_same t t' label request e
early_same base (says.Console request) t t' e f = refl
early_same base (says.Clock ms) t t' e f = ap (λ n. clock_fault base (says.Clock ms) (record t { added = n })) f

still_admitted : (l : Line) (t t' : Tier) → labels_of t'.sessions ≡ labels_of t.sessions → IsAdmitted l t → IsAdmitted l t'
still_admitted (says.Session label request) t t' e free = fault_same t t' label request e ∙ free
still_admitted (says.Console request) t t' e free = tt
still_admitted (says.Clock ms) t t' e free = tt

early_admits : (base : ℕ) (l : Line) (t : Tier) → early_fault base l t ≡ None → IsAdmitted l t
early_admits base (says.Session label request) t e = e
early_admits base (says.Console request) t e = tt
early_admits base (says.Clock ms) t e = tt

-- THE QUESTION FOR THE SCHEMA, AND THE STATEMENT

module _ {D : Type 0} (state : D → SiteState) (possible : D → ℕ → Held → Type 0) where
  pub asked_end : (old new : Stored) (doubt : Option Doubt) (k : Option TierJournal) (d d' : D) (l : Line) (reply : Reply) → doubt ≡ None → KeepsCertain state possible d d' → HasBecome old.schema new.schema
      → Performs old new (state d) (state d') (λ w w'. AsksSchema l w w' (Some reply)) → EndsOver state possible old new doubt k k d d' (Some reply) (λ w w'. AsksAndDoes l w w' reply)
  asked_end old new doubt k d d' l reply none certain grows p =
      ended state possible old new doubt k k d d' (Some reply) (λ w w'. AsksAndDoes l w w' reply) none
      (over_so state possible old new k k d d' (Some reply) (λ w w'. AsksSchema l w w' (Some reply)) (λ w w'. AsksAndDoes l w w' reply)
      (λ w w' stands asks free. inl (record { mid = w'; stop = Some reply; first = asks; next = (refl, refl) }))
      (over_grown state possible old new k d d' (Some reply) (λ w w'. AsksSchema l w w' (Some reply)) certain grows (λ w w' asks. asked_journal l w w' (Some reply) asks) p))

  pub asked_on : (old mid new : Stored) (doubt : Option Doubt) (k k' : Option TierJournal) (before between behind : D) (l : Line) (reply : Reply) → KeepsCertain state possible before between → HasBecome old.schema mid.schema
      → Performs old mid (state before) (state between) (λ w w'. AsksSchema l w w' None) → EndsOver state possible mid new doubt k k' between behind (Some reply) (λ w w'. DoesAdmitted l w w' reply)
      → EndsOver state possible old new doubt k k' before behind (Some reply) (λ w w'. AsksAndDoes l w w' reply)
  asked_on old mid new doubt k k' before between behind l reply certain grows p q =
      then_led state possible old mid new None doubt k k k' before between behind (Some reply) (λ w w'. AsksSchema l w w' None) (λ w w'. DoesAdmitted l w w' reply) (λ w w'. AsksAndDoes l w w' reply)
      (λ w w' asks. asked_keeps l w w' None asks)
      (λ w x w' asks does free.
      inl
      (record {
        mid = x;
        stop = None;
        first = asks;
        next = does (still_admitted l w.tier x.tier (asked_keeps l w x None asks).sessions free);
      }))
      (ended state possible old mid None k k before between None (λ w w'. AsksSchema l w w' None) refl
      (over_grown state possible old mid k before between None (λ w w'. AsksSchema l w w' None) certain grows (λ w w' asks. asked_journal l w w' None asks) p))
      q

  pub asked_refused : (old mid new : Stored) (doubt : Option Doubt) (k k' : Option TierJournal) (before between behind : D) (l : Line) (r : Refused) (reply : Reply) → reply ≡ reply_to r → KeepsCertain state possible before between → HasBecome old.schema mid.schema
      → Performs old mid (state before) (state between) (λ w w'. AsksSchema l w w' None) → EndsOver state possible mid new doubt k k' between behind (Some (reply_of (Err r))) (λ w w'. DoesAdmitted l w w' (reply_of (Err r)))
      → EndsOver state possible old new doubt k k' before behind (Some reply) (λ w w'. AsksAndDoes l w w' reply)
  asked_refused old mid new doubt k k' before between behind l r reply e certain grows p q =
      asked_on old mid new doubt k k' before between behind l reply certain grows p
      (subst (λ told. EndsOver state possible mid new doubt k k' between behind (Some told) (λ w w'. DoesAdmitted l w w' told)) (told_as r ∙ sym e) q)

-- THE WORK THAT IS DUE

worked_keeps : (base : ℕ) (l : Line) (notes : List Note) (stop : Option Reply) (w w' : World) → DueWork (with_moment base l w) w' notes stop → KeepsWho w w'
worked_keeps base l notes stop w w' works =
    who_on w (with_moment base l w) w' (record { sessions = refl; groups = refl; shared = refl })
    (due_keeps (with_moment base l w) w' notes stop works)

module _ {D : Type 0} (state : D → SiteState) (possible : D → ℕ → Held → Type 0) where
  pub worked_end : (old new : Stored) (was doubt : Option Doubt) (k k' : Option TierJournal) (d d' : D) (base : ℕ) (l : Line) (notes : List Note) (stop : Option Reply) (last reply : Reply) → stop ≡ Some last → reply ≡ with_notes notes last
      → LeadsOver state possible old was new doubt k k' d d' stop (λ w w'. DueWork (with_moment base l w) w' notes stop) → LeadsOver state possible old was new doubt k k' d d' (Some reply) (λ w w'. WorksAndAnswers base l w w' reply)
  worked_end old new was doubt k k' d d' base l notes stop last reply is e p =
      led state possible old new was doubt k k' d d' stop (Some reply) (λ w w'. DueWork (with_moment base l w) w' notes stop) (λ w w'. WorksAndAnswers base l w w' reply)
      (λ whole. ap is_broken is ∙ ap (λ (r : Reply). is_broken (Some r)) (sym e) ∙ whole)
      (λ w w' left works free.
      inl
      (record {
        due = w';
        notes = notes;
        stop = Some last;
        last = last;
        works = subst (λ end. DueWork (with_moment base l w) w' notes end) is works;
        does = (refl, refl);
        answer = e;
      }))
      p

  pub worked_on : (old mid new : Stored) (was between_doubt doubt : Option Doubt) (k n k' : Option TierJournal) (before between behind : D) (base : ℕ) (l : Line) (notes : List Note) (stop : Option Reply) (last reply : Reply) → stop ≡ None → between_doubt ≡ None → reply ≡ with_notes notes last
      → LeadsOver state possible old was mid between_doubt k n before between stop (λ w w'. DueWork (with_moment base l w) w' notes stop) → EndsOver state possible mid new doubt n k' between behind (Some last) (λ w w'. AsksAndDoes l w w' last)
      → LeadsOver state possible old was new doubt k k' before behind (Some reply) (λ w w'. WorksAndAnswers base l w w' reply)
  worked_on old mid new was between_doubt doubt k n k' before between behind base l notes stop last reply is none e p q =
      led state possible old new was doubt k k' before behind (Some last) (Some reply) (λ w w'. WorksAndAnswers base l w w' reply) (λ w w'. WorksAndAnswers base l w w' reply)
      (λ whole. ap (λ (r : Reply). is_broken (Some r)) (sym e) ∙ whole) (λ w w' left did. did)
      (then_led state possible old mid new was doubt k n k' before between behind (Some last) (λ w w'. DueWork (with_moment base l w) w' notes stop) (λ w w'. AsksAndDoes l w w' last) (λ w w'. WorksAndAnswers base l w w' reply)
      (λ w w' works. worked_keeps base l notes stop w w' works)
      (λ w x w' works answers free.
      inl
      (record {
        due = x;
        notes = notes;
        stop = None;
        last = last;
        works = subst (λ end. DueWork (with_moment base l w) x notes end) is works;
        does =
            answers
            (still_admitted l w.tier x.tier (worked_keeps base l notes stop w x works).sessions
            (early_admits base l w.tier free));
        answer = e;
      }))
      (led_none state possible old mid was between_doubt k n before between None (λ w w'. DueWork (with_moment base l w) w' notes stop) none
      (led state possible old mid was between_doubt k n before between stop None (λ w w'. DueWork (with_moment base l w) w' notes stop) (λ w w'. DueWork (with_moment base l w) w' notes stop) (λ whole. ap is_broken is) (λ w w' left did. did) p))
      q)

-- LINES THAT ARE READ

module _ {D : Type 0} (state : D → SiteState) (possible : D → ℕ → Held → Type 0) where
  -- nothing is done
  pub left_here : (t : Stored) (was : Option Doubt) (k : Option TierJournal) (d : D) (stop : Option Reply) (does : World → World → Type 0) → ((w : World) → IsLeft t was w → does w w) → LeadsOver state possible t was t was k k d d stop does
  left_here t was k d stop does so w at left unshared keeps = record { world = w; at = at; is = so w left; left = λ whole. left; keeps = kept_unless keeps }

  pub undone : (t : Stored) (was : Option Doubt) (k : Option TierJournal) (d : D) (base : ℕ) (l : Line) (reply : Reply) → is_undone l ≡ true → reply ≡ only (No (wrong_at 0)) → LeadsOver state possible t was t was k k d d (Some reply) (λ w w'. Heeds base (Says l) w w' reply)
  undone t was k d base l reply is e =
      left_here t was k d (Some reply) (λ w w'. Heeds base (Says l) w w' reply)
      (λ w left. subst (λ b. MatchBool b (Tries (Refuses (wrong_at 0)) w w reply) (Answered base l w w reply)) (sym is) (inl (refl, e)))

heeds_done : (base : ℕ) (l : Line) (w w' : World) (reply : Reply) → is_undone l ≡ false → Answered base l w w' reply → Heeds base (Says l) w w' reply
heeds_done base l w w' reply is q =
    subst (λ b. MatchBool b (Tries (Refuses (wrong_at 0)) w w' reply) (Answered base l w w' reply)) (sym is) q

refused_early : (base : ℕ) (l : Line) (w : World) (r : Refused) (reply : Reply) → IsRefusedBy (early_fault base l w.tier) r → reply ≡ reply_to r → Answered base l w w reply
refused_early base l w (refused.Rule rule) reply told e = inl (subst (λ f. Unless f (Parts base l) w w reply) (sym told) (refl, e))
refused_early base l w refused.Memory reply told e = inr (refl, e)

pub early : {D : Type 0} (state : D → SiteState) (possible : D → ℕ → Held → Type 0) (t : Stored) (was : Option Doubt) (k : Option TierJournal) (d : D) (base : ℕ) (l : Line) (r : Refused) (reply : Reply) → is_undone l ≡ false
    → ((a : Tier) → IsStoredAs t a → IsRefusedBy (early_fault base l a) r) → reply ≡ reply_to r
    → LeadsOver state possible t was t was k k d d (Some reply) (λ w w'. Heeds base (Says l) w w' reply)
early state possible t was k d base l r reply is told e =
    left_here state possible t was k d (Some reply) (λ w w'. Heeds base (Says l) w w' reply)
    (λ w left.
    let a = left_stored t was w left in
    let same = early_same base l a.tier w.tier a.sessions a.added in
    heeds_done base l w w reply is (refused_early base l w r reply (subst (λ f. IsRefusedBy f r) (sym same) (told a.tier a.stored)) e))

answered_free : (base : ℕ) (l : Line) (w w' : World) (reply : Reply) → early_fault base l w.tier ≡ None → Tries (Parts base l) w w' reply → Answered base l w w' reply
answered_free base l w w' reply free (inl q) = inl (subst (λ f. Unless f (Parts base l) w w' reply) (sym free) q)
answered_free base l w w' reply free (inr q) = inr q

pub heeded : {D : Type 0} (state : D → SiteState) (possible : D → ℕ → Held → Type 0) (old new : Stored) (was doubt : Option Doubt) (k k' : Option TierJournal) (d d' : D) (base : ℕ) (l : Line) (reply : Reply) → is_undone l ≡ false
    → ((a : Tier) → IsStoredAs old a → early_fault base l a ≡ None)
    → LeadsOver state possible old was new doubt k k' d d' (Some reply) (λ w w'. WorksAndAnswers base l w w' reply) → LeadsOver state possible old was new doubt k k' d d' (Some reply) (λ w w'. Heeds base (Says l) w w' reply)
heeded state possible old new was doubt k k' d d' base l reply is free p =
    led state possible old new was doubt k k' d d' (Some reply) (Some reply) (λ w w'. WorksAndAnswers base l w w' reply) (λ w w'. Heeds base (Says l) w w' reply) (λ whole. whole)
    (λ w w' left works.
    let a = left_stored old was w left in
    let none = early_same base l a.tier w.tier a.sessions a.added ∙ free a.tier a.stored in
    heeds_done base l w w' reply is (answered_free base l w w' reply none (works none)))
    p
