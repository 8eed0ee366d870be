-- COMMIT of a synchronous transaction by the stored tier: what the bank's answer makes of the tier.
use Rattle.std.proofs.Common.{◌≡◌, ◌⊎◌, ◌≤◌, ◌^◌, ◌+◌, ℕ, Bool, true, false, not, ◌||◌, slice_get, Option, Some, None, Result, Ok, Err, List, [], ◌∷◌, ◌++◌, map, inl, inr, refl, sym, ap, subst, ◌∙◌, arith}
use Rattle.std.specs.Bool.{MatchBool}
use Rattle.std.specs.List.{list_all, list_any}
use Rattle.std.specs.Option.{option_or}
use Rattle.std.proofs.lemmas.Bool.{le-leb}
use Rattle.tier_base.specs.declared.code.Code.TheVariants as code
use Rattle.tier_base.specs.declared.limit.Limit.TheVariants as limit
use Rattle.tier_base.specs.declared.number.SessionId.{SessionId}
use Rattle.tier_base.specs.declared.number.TableId.{TableId}
use Rattle.row_types.specs.declared.rule.Detail.TheVariants as detail
use Rattle.row_types.specs.declared.rule.Refused.{Refused}
use Rattle.row_types.specs.declared.rule.Refused.TheVariants as refused
use Rattle.row_types.specs.declared.rule.Rule.{Rule}
use Rattle.table_defs.specs.Declarations.{IsRefusedBy}
use Rattle.table_state.specs.declared.history.Entry.{Entry}
use Rattle.table_state.specs.declared.history.Sealed.{Sealed}
use Rattle.table_state.specs.declared.operation.Op.{Op}
use Rattle.table_state.specs.Histories.{entry_of}
use Rattle.table_state.specs.Operations.{table_of}
use Rattle.outside.specs.Bank.{AppliesOnce, Comes, Grows}
use Rattle.outside.specs.Calls as site
use Rattle.outside.specs.Faults.{BankHasCause, Rose}
use Rattle.outside.specs.Others.{AreOthers, Around}
use Rattle.outside.specs.Sites.{SiteState}
use Rattle.outside.specs.declared.fault.BankError.{BankError}
use Rattle.outside.specs.declared.fault.BankError.TheVariants.{Failed, Memory}
use Rattle.outside.specs.declared.site.Applied.{Applied}
use Rattle.outside.specs.declared.site.Applied.TheVariants.{Before, Differs, NotReady, Now}
use Rattle.order_laws.specs.Commits.{RiseBetween}
use Rattle.order_laws.proofs.TruthLaws.{both_true, never_both}
use Rattle.session_state.specs.Sessions.{at_rest as rested}
use Rattle.open_sessions.specs.Lookups.{open_ops}
use Rattle.open_sessions.specs.Opening.{seen_all}
use Rattle.group_catalog.specs.Catalogs.{groups_in}
use Rattle.sql_subset.specs.declared.stmt.Stmt.TheVariants as statement
use Rattle.cache_tier.specs.CommitSteps.{AppliesNow, CommitsLater, CommitsNow, CommitsOwn, after_applied, applied_reply, committed, is_synchronous_own, sealed_own}
use Rattle.cache_tier.specs.Groups.{is_synchronous, is_table_of}
use Rattle.cache_tier.specs.JournalSteps.{Flushes, journal_fault}
use Rattle.cache_tier.specs.Journals.{Prepares}
use Rattle.cache_tier.specs.PassedSteps.{ticket_fault, with_ticket}
use Rattle.cache_tier.specs.Recency.{with_commit}
use Rattle.cache_tier.specs.Rules.{broken_if, past}
use Rattle.cache_tier.specs.Shown.{no_rows, shown_state}
use Rattle.cache_tier.specs.Steps.{tells}
use Rattle.cache_tier.specs.TierStates.{Session, Tier, at_rest, session_of}
use Rattle.cache_tier.specs.Worlds.{BankCall, Becomes, IsUnshared, Part, Then, ThenStage, Unless, World, faulty, only}
use Rattle.cache_tier.specs.declared.reply.Last.TheVariants.{Done, Fault, No}
use Rattle.cache_tier.specs.declared.reply.Reply.{Reply}
use Rattle.cache_tier.specs.Events.{with_tier}
use Rattle.cache_tier.specs.StandingBetween.{Stands}
use Rattle.tier_statements.specs.Seen.{session_seen}
use Rattle.stored_tier.specs.declared.tier.Tier.{Tier as Stored}
use Rattle.stored_tier.specs.Lists.{AreListed}
use Rattle.stored_tier.specs.Performing.{Executes, IsCaused, IsPerformed, StandsFor, reply_of}
use Rattle.stored_tier.specs.Refusing.{TellsDifference}
use Rattle.stored_tier.specs.Sites.{IsAt}
use Rattle.stored_tier.specs.Stored.{HasSession, IsSound, IsStoredAs, KeepsHidden, KeepsTime, are_later, are_on, rows_of}
use Rattle.stored_tier.proofs.BankLaws.{behind, behind_at, call_behind, told_behind}
use Rattle.stored_tier.proofs.HiddenRows.{hidden_as, hidden_then, hides_then}
use Rattle.stored_tier.proofs.LongerLaws.{around_longer, once_longer}
use Rattle.stored_tier.proofs.OwnSeen.{NumberLaw, own_found}
use Rattle.stored_tier.proofs.QuietLaws.{its_session, stands_still}
use Rattle.stored_tier.proofs.SessionLaws.{ChangeLaw, session_changed}
use Rattle.stored_tier.proofs.SettlingLaws.{name_of_table}
use Rattle.stored_tier.proofs.WriterLaws.{writers_drawn}
use Rattle.stored_tier.proofs.StandingLaws.{last_at_once, performed_behind, slots_kept}
use Rattle.session_engine.specs.declared.at_once.Ready.{Ready}
use Rattle.session_engine.specs.declared.doubt.Doubt.{Doubt}
use Rattle.session_engine.specs.declared.doubt.Doubted.TheVariants.{Commit}
use Rattle.session_engine.specs.AtOnce.{Concludes, Draws, Finishes, Rooms}
use Rattle.session_engine.specs.Committing.{StoresCommit}
use Rattle.session_engine.specs.Doubting.{EndsIn, IsEnded, CommitIsInDoubt}
use Rattle.session_engine.specs.Using.{Uses}
use Rattle.session_engine.proofs.AtOnceLaws.{AreLaws, came_leads, came_stands, came_to, none_came, unused}
use Rattle.session_engine.proofs.CommitLaws.{groups_kept, sealed_same}
use Rattle.session_engine.proofs.CommitPerformed.{own_through, rows_then, same_shown}
use Rattle.session_engine.proofs.CommittedLists.{lists_committed}
use Rattle.session_engine.proofs.CommittedStores.{commit_drawn}
use Rattle.session_engine.proofs.UsedLists.{lists_roomed}
use Rattle.session_engine.proofs.KindLaws.{bare_later, bare_on, none_met}
use Rattle.session_engine.proofs.LegalLaws.{in_doubt_stands}

any_of_all : {X : Type 0} (p : X → Bool) (xs : List X) → (xs ≡ [] → ⊥) → list_all p xs ≡ true → list_any p xs ≡ true
any_of_all p [] some all = absurd (some refl)
any_of_all p (x ∷ xs) some all = ap (λ b. b || list_any p xs) (both_true (p x) (list_all p xs) all).0

-- a ticket more is drawn

rise_more : (low high : ℕ) (xs : List Sealed) → RiseBetween low xs high → RiseBetween low xs (high + 1)
rise_more low high [] rise = let le : low ≤ high = rise in omega (arith, le)
rise_more low high (x ∷ xs) rise = (rise.0, rise_more (x.ticket.0 + 1) high xs rise.1)

pub sound_drawn : (t : Stored) → IsSound t → IsSound (record t { next = t.next + 1 })
sound_drawn t sound = record {
  sessions = sound.sessions;
  stores = sound.stores;
  kept = sound.kept;
  whole = sound.whole;
  hiding = sound.hiding;
  plain = sound.plain;
  named = sound.named;
  visible = sound.visible;
  numbered = rise_more 1 t.next t.unsettled.items sound.numbered;
  later = sound.later;
  writers = writers_drawn t.schema t.writers t.next t.unsettled.items sound.writers;
  verified = λ e. let v = sound.verified e in record { rows = v.rows; own = v.own };
}

-- the stores have done a transaction, which has ended
pub finished_rest : (t m new : Stored) → m ≡ record t { stores = m.stores; sessions = m.sessions; verified = m.verified } → new ≡ record m { verified = new.verified } → new ≡ record t { stores = new.stores; sessions = new.sessions; verified = new.verified }
finished_rest t m new is same =
    let stores : new.stores ≡ m.stores = ap (λ (z : Stored). z.stores) same in
    let sessions : new.sessions ≡ m.sessions = ap (λ (z : Stored). z.sessions) same in
    same ∙ ap (λ (z : Stored). record z { verified = new.verified }) is
    ∙ sym (λ i. record t { stores = stores i; sessions = sessions i; verified = new.verified })

-- what the abstract tier does

own_now : (s : Session) (own : List Op) (w w' : World) (reply : Reply) → (own ≡ [] → ⊥) → is_synchronous_own w.tier s ≡ true → CommitsNow s w w' reply → CommitsOwn s own w w' reply
own_now s [] w w' reply some on now = absurd (some refl)
own_now s (op ∷ ops) w w' reply some on now = subst (λ b. MatchBool b (CommitsNow s w w' reply) (CommitsLater s w w' reply)) (sym on) now

-- what a synchronous commit may be refused with
abbrev pub now_fault : Session → World → Option Rule
now_fault s w = option_or (ticket_fault w.tier) (journal_fault w (Prepares (sealed_own w.tier s) ∷ []))

abbrev pub Applying : Session → World → Part
Applying s w = Then (ThenStage (Flushes (Prepares (sealed_own w.tier s) ∷ [])) (Becomes (λ mid. with_ticket mid.tier))) (AppliesNow (sealed_own w.tier s) s.label)

-- the call, once the ticket is drawn
abbrev pub AppliesDrawn : Session → Part
AppliesDrawn s w w' reply = AppliesNow (sealed_own w.tier s) s.label (with_tier (with_ticket w.tier) w) w' reply

recalled : (step : List Entry → List Entry → Type 0) (w w' : World) (a : Tier) → BankCall step w w' → BankCall step (with_tier a w) w'
recalled step w w' a c = record { history = c.history; journal = c.journal; faults = c.faults; disk = c.disk; moment = c.moment; shared = c.shared }

pub commits_now : (s : Session) (w w' : World) (reply : Reply) → now_fault s w ≡ None → Applying s w w w' reply → CommitsNow s w w' reply
commits_now s w w' reply free applies = subst (λ f. Unless f (Applying s w) w w' reply) (sym free) applies

refuses_now : (s : Session) (w : World) (rule : Rule) → now_fault s w ≡ Some rule → CommitsNow s w w (only (No rule))
refuses_now s w rule broken = subst (λ f. Unless f (Applying s w) w w (only (No rule))) (sym broken) (refl, refl)

-- the journal comes behind the tickets
broken_first : (a b : Option Rule) (r : Rule) → a ≡ Some r → option_or a b ≡ Some r
broken_first None b r e = cc
broken_first (Some x) b r e = e

none_first : (a b : Option Rule) → a ≡ None → option_or a b ≡ b
none_first None b e = refl
none_first (Some x) b e = cc

pub broken_now : (s : Session) (w : World) (rule : Rule) → ticket_fault w.tier ≡ Some rule → now_fault s w ≡ Some rule
broken_now s w rule e = broken_first (ticket_fault w.tier) (journal_fault w (Prepares (sealed_own w.tier s) ∷ [])) rule e

pub journal_now : (s : Session) (w : World) → ticket_fault w.tier ≡ None → now_fault s w ≡ journal_fault w (Prepares (sealed_own w.tier s) ∷ [])
journal_now s w e = none_first (ticket_fault w.tier) (journal_fault w (Prepares (sealed_own w.tier s) ∷ [])) e

pub ticket_free : (a : Tier) → a.next ≤ 9223372036854775807 → ticket_fault a ≡ None
ticket_free a fits = ap (λ b. broken_if (not b) (past limit.Tickets)) (le-leb a.next 9223372036854775807 fits)

-- a call with its answer, at a site

pub record CalledOnce (x : Sealed) (before after : SiteState) (result : Result Applied BankError) : Type 0 where
  pub told : site.Told before.held after.held (site.BankCall before.shared (AppliesOnce x [] result))
  pub later : before.bank_faults ≤ after.bank_faults
  pub moment : before.moment ≤ after.moment
  pub shares : after.shared ≡ before.shared

-- the same step, but for what is told of it
abbrev Reads : Sealed → Result Applied BankError → Type 0
Reads x result = (o n : List Entry) → AppliesOnce x [] result o n → Grows [] o n

around_step : (shared : List TableId) (one other : List Entry → List Entry → Type 0) (old new : List Entry) → ((o n : List Entry) → one o n → other o n) → Around shared one old new → Around shared other old new
around_step shared one other old new weaker a = record {
  before = a.before;
  middle = a.middle;
  behind = a.behind;
  came_before = a.came_before;
  own = weaker (old ++ a.before) a.middle a.own;
  came_behind = a.came_behind;
  is = a.is;
}

weaker_call : (one other : List Entry → List Entry → Type 0) (w w' : World) → ((o n : List Entry) → one o n → other o n) → BankCall one w w' → BankCall other w w'
weaker_call one other w w' weaker c = record {
  history = around_step w.shared one other w.history w'.history weaker c.history;
  journal = c.journal;
  faults = c.faults;
  disk = c.disk;
  moment = c.moment;
  shared = c.shared;
}

pub ended_none : (new : Stored) (doubt : Option Doubt) (seen : SiteState) (does : World → Type 0) → doubt ≡ None → IsPerformed new seen does → IsEnded new doubt seen does
ended_none new doubt seen does none p = subst (λ d. IsEnded new d seen does) (sym none) (record { world = p.world; at = p.at; left = p.stands; is = p.is })

pub hidden_finished : (old new : Stored) (id : SessionId) → Finishes old new id → KeepsHidden old new
hidden_finished old new id fin = hidden_as old (record old { stores = new.stores; sessions = new.sessions; verified = new.verified }) new fin.rest (record { groups = refl; hidden = refl })

-- what is stored with a ticket drawn

module _ (t mid : Stored) (id : SessionId) (ready : Ready) (draws : Draws t mid id ready) where
  rows_drawn : rows_of mid ≡ rows_of t
  rows_drawn = ap (λ (z : Stored). Rattle.group_store.specs.Shown.shown_by z.schema mid.stores.items) draws.rest ∙ same_shown t.schema t.stores.items mid.stores.items draws.stores

  stored_drawn : (a : Tier) → IsStoredAs t a → IsStoredAs mid (with_ticket a)
  stored_drawn a is = record {
    schema = is.schema ∙ ap (λ (z : Stored). z.schema) (sym draws.rest);
    stale = is.stale ∙ ap (λ (z : Stored). z.stale) (sym draws.rest);
    groups = is.groups ∙ ap (λ (z : Stored). groups_in z.catalog) (sym draws.rest);
    lists = subst (λ (z : Stored). AreListed a.groups mid.stores.items z.hidden.items) (sym draws.rest) (lists_roomed a.groups t.stores.items mid.stores.items t.hidden.items draws.stores is.lists);
    sessions = is.sessions ∙ ap (λ (z : Stored). map session_seen (seen_all z.sessions)) (sym draws.rest);
    unsettled = is.unsettled ∙ ap (λ (z : Stored). z.unsettled.items) (sym draws.rest);
    next = ap (λ n. n + 1) is.next ∙ ap (λ (z : Stored). z.next) (sym draws.rest);
    doubt = is.doubt;
    time = subst (λ (z : Stored). KeepsTime z.clock a.now a.added a.round a.sets a.settings) (sym draws.rest) is.time;
  }

  hidden_drawn : KeepsHidden t mid
  hidden_drawn = hidden_as t (record t { stores = mid.stores; next = t.next + 1 }) mid draws.rest (record { groups = refl; hidden = refl })

  hidden_before : KeepsHidden t (record mid { next = t.next })
  hidden_before = record { groups = hidden_drawn.groups; hidden = hidden_drawn.hidden }

  -- as if it weren't
  stored_before : (a : Tier) → IsStoredAs t a → IsStoredAs (record mid { next = t.next }) a
  stored_before a is = record {
    schema = is.schema ∙ ap (λ (z : Stored). z.schema) (sym draws.rest);
    stale = is.stale ∙ ap (λ (z : Stored). z.stale) (sym draws.rest);
    groups = is.groups ∙ ap (λ (z : Stored). groups_in z.catalog) (sym draws.rest);
    lists = subst (λ (z : Stored). AreListed a.groups mid.stores.items z.hidden.items) (sym draws.rest) (lists_roomed a.groups t.stores.items mid.stores.items t.hidden.items draws.stores is.lists);
    sessions = is.sessions ∙ ap (λ (z : Stored). map session_seen (seen_all z.sessions)) (sym draws.rest);
    unsettled = is.unsettled ∙ ap (λ (z : Stored). z.unsettled.items) (sym draws.rest);
    next = is.next;
    doubt = is.doubt;
    time = subst (λ (z : Stored). KeepsTime z.clock a.now a.added a.round a.sets a.settings) (sym draws.rest) is.time;
  }

  has_drawn : (s : Session) → HasSession t id s → HasSession mid id s
  has_drawn s has = subst (λ (z : Stored). HasSession z id s) (sym draws.rest) (record { seen = has.seen; found = has.found; number = has.number; is = has.is })

module _ (laws : AreLaws) (numbers : NumberLaw) (changes : ChangeLaw) (t mid new : Stored) (id : SessionId) (ready : Ready) (sound : IsSound t) (drawn : IsSound mid) (draws : Draws t mid id ready)
    (some : open_ops id (seen_all t.sessions) ≡ [] → ⊥) (on : are_on is_synchronous (groups_in t.catalog) (open_ops id (seen_all t.sessions)) ≡ true)
    (w : World) (s : Session) (is : StandsFor t w) (unshared : IsUnshared w) (has : HasSession t id s) where
  own : open_ops id (seen_all t.sessions) ≡ s.own
  own = own_found numbers t id s sound has

  there : session_of w.tier s.label ≡ Some s
  there = its_session t w.tier id s is.stored has

  fits : w.tier.next ≤ 9223372036854775807
  fits = let le = draws.fits in let same = is.stored.next in omega (arith, le, same)

  room : w.tier.next + 1 ≤ 2 ^ 63
  room = let le = fits in omega (arith, le)

  on_own : are_on is_synchronous w.tier.groups s.own ≡ true
  on_own =
      sym (bare_on is_synchronous (λ g. refl) w.tier.groups s.own) ∙ ap (λ gs. are_on is_synchronous gs s.own) is.stored.groups
      ∙ ap (are_on is_synchronous (groups_in t.catalog)) (sym own) ∙ on

  later : are_later w.tier.groups w.tier.unsettled ≡ true
  later =
      sym (bare_later w.tier.groups w.tier.unsettled) ∙ ap (λ gs. are_later gs w.tier.unsettled) is.stored.groups
      ∙ ap (are_later (groups_in t.catalog)) is.stored.unsettled ∙ sound.later

  sealed_is : ready.sealed ≡ sealed_own w.tier s
  sealed_is = draws.sealed ∙ sealed_same numbers t w.tier id s sound is.stored has

  executes : (w' : World) (reply : Reply) (result : Result Applied BankError) → BankCall (AppliesOnce (sealed_own w.tier s) [] result) w w' → w'.tier ≡ after_applied (sealed_own w.tier s) s.label result (with_ticket w.tier)
      → reply ≡ applied_reply (sealed_own w.tier s) result (with_ticket w.tier) → AppliesDrawn s w w' reply
  executes w' reply result call tier answer =
      record { result = result; call = recalled (AppliesOnce (sealed_own w.tier s) [] result) w w' (with_ticket w.tier) call; tier = tier; answer = answer }

  module _ (before after : SiteState) (at : IsAt before w) where
    -- the ticket alone is drawn
    not_come : (result told : Result Applied BankError) (doubt : Option Doubt) (reply : Reply) → CalledOnce (sealed_own w.tier s) before after result → Reads (sealed_own w.tier s) result
        → ((o n : List Entry) → AppliesOnce (sealed_own w.tier s) [] result o n → AppliesOnce (sealed_own w.tier s) [] told o n) → with_ticket w.tier ≡ after_applied (sealed_own w.tier s) s.label told (with_ticket w.tier)
        → new ≡ mid → doubt ≡ None → reply ≡ applied_reply (sealed_own w.tier s) told (with_ticket w.tier) → IsEnded new doubt after (λ w'. AppliesDrawn s w w' reply)
    not_come result told doubt reply called reads same tier new_is none answer =
        let now = told_behind at.there before.held after.held (site.BankCall before.shared (AppliesOnce (sealed_own w.tier s) [] result)) at.told called.told in
        let call = call_behind w (with_ticket w.tier) before after now.there (AppliesOnce (sealed_own w.tier s) [] result) at now.is called.later called.moment in
        let stays = none_came laws w s is.stands unshared there room (AppliesOnce (sealed_own w.tier s) [] result) now.there.history reads call.history in
        ended_none new doubt after (λ w'. AppliesDrawn s w w' reply) none
        (subst (λ z. IsPerformed z after (λ w'. AppliesDrawn s w w' reply)) (sym new_is)
        (performed_behind mid before after w (with_ticket w.tier) now.there (λ w'. AppliesDrawn s w w' reply) at now.told called.shares is.waits
        (stored_drawn t mid id ready draws w.tier is.stored)
        (rows_drawn t mid id ready draws ∙ is.shows ∙ sym stays.same)
        (hides_then t mid w now.there.history (hidden_drawn t mid id ready draws) is (around_longer w (AppliesOnce (sealed_own w.tier s) [] result) now.there.history (once_longer (sealed_own w.tier s) [] result) call.history)) stays.stands
        (executes (behind w (with_ticket w.tier) now.there after) reply told
        (weaker_call (AppliesOnce (sealed_own w.tier s) [] result) (AppliesOnce (sealed_own w.tier s) [] told) w (behind w (with_ticket w.tier) now.there after) same call) tier answer)))

    -- it came
    finished : (result : Result Applied BankError) (doubt : Option Doubt) (reply : Reply) → CalledOnce (sealed_own w.tier s) before after result
        → ((o n : List Entry) → AppliesOnce (sealed_own w.tier s) [] result o n → Comes (sealed_own w.tier s) [] o n)
        → committed (sealed_own w.tier s) s.label (with_ticket w.tier) ≡ after_applied (sealed_own w.tier s) s.label result (with_ticket w.tier)
        → Finishes mid new id → doubt ≡ None → reply ≡ applied_reply (sealed_own w.tier s) result (with_ticket w.tier) → IsEnded new doubt after (λ w'. AppliesDrawn s w w' reply)
    finished result doubt reply called comes tier fin none answer =
        let now = told_behind at.there before.held after.held (site.BankCall before.shared (AppliesOnce (sealed_own w.tier s) [] result)) at.told called.told in
        let a = committed (sealed_own w.tier s) s.label (with_ticket w.tier) in
        let call = call_behind w a before after now.there (AppliesOnce (sealed_own w.tier s) [] result) at now.is called.later called.moment in
        let around = call.history in
        let grew = (comes (w.history ++ around.before) around.middle around.own).grows in
        let behind_it = subst (λ h. AreOthers w.shared h around.behind) grew around.came_behind in
        let long : now.there.history ≡ ((w.history ++ around.before) ++ entry_of (sealed_own w.tier s) ∷ []) ++ around.behind = around.is ∙ ap (λ h. h ++ around.behind) grew in
        let stands = subst (λ h. Stands (came_to w s h)) (sym long) (came_stands laws w s is.stands unshared there room later on_own around.before around.behind around.came_before behind_it) in
        let leads = came_leads laws w s is.stands unshared there room later on_own around.before around.behind around.came_before behind_it ∙ ap (λ h. Some (shown_state h a)) (sym long) in
        ended_none new doubt after (λ w'. AppliesDrawn s w w' reply) none
        (performed_behind new before after w a now.there (λ w'. AppliesDrawn s w w' reply) at now.told called.shares
        (last_at_once w.tier.log w.tier.unsettled (sealed_own w.tier s) (none_met w.tier.groups s.own w.tier.unsettled is.stands.catalog.apart on_own later) is.waits)
        (stored_finished fin)
        (rows_then laws.commit numbers t new w id s sound is has (shown_state now.there.history a) (ap (λ (z : Stored). z.schema) fin.rest ∙ ap (λ (z : Stored). z.schema) draws.rest) (stores_finished fin) leads)
        (hides_then t new w now.there.history (hidden_then t mid new (hidden_drawn t mid id ready draws) (hidden_finished mid new id fin)) is (around_longer w (AppliesOnce (sealed_own w.tier s) [] result) now.there.history (once_longer (sealed_own w.tier s) [] result) around))
        stands
        (executes (behind w a now.there after) reply result call tier answer))
      where
        stores_finished : Finishes mid new id → StoresCommit t (open_ops id (seen_all t.sessions)) new.stores.items
        stores_finished fin =
            commit_drawn t mid draws.rest draws.stores (open_ops id (seen_all t.sessions)) new.stores.items
            (subst (λ (z : Stored). StoresCommit mid (open_ops id (seen_all z.sessions)) new.stores.items) draws.rest fin.stores)

        stored_finished : Finishes mid new id → IsStoredAs new (committed (sealed_own w.tier s) s.label (with_ticket w.tier))
        stored_finished fin =
            let m = stored_drawn t mid id ready draws w.tier is.stored in
            let rest = session_changed changes mid new.sessions (with_ticket w.tier) s id rested at_rest (λ x. refl) drawn m (has_drawn t mid id ready draws s has) fin.seen in
            record {
              schema = m.schema ∙ ap (λ (z : Stored). z.schema) (sym fin.rest);
              stale = m.stale ∙ ap (λ (z : Stored). z.stale) (sym fin.rest);
              groups = groups_kept (no_rows (with_ticket w.tier)) s.own w.tier.groups ∙ m.groups ∙ ap (λ (z : Stored). groups_in z.catalog) (sym fin.rest);
              lists = subst (λ h. AreListed (map (with_commit (no_rows (with_ticket w.tier)) s.own) w.tier.groups) new.stores.items h.items) (sym (ap (λ (z : Stored). z.hidden) fin.rest ∙ ap (λ (z : Stored). z.hidden) draws.rest)) (lists_committed t w.tier new.stores.items s.own sound is.stored is.stands.catalog (own_through w s is.stands there) (subst (λ ops. StoresCommit t ops new.stores.items) own (stores_finished fin)));
              sessions = rest.sessions;
              unsettled = m.unsettled ∙ ap (λ (z : Stored). z.unsettled.items) (sym fin.rest);
              next = m.next ∙ ap (λ (z : Stored). z.next) (sym fin.rest);
              doubt = m.doubt;
              time = subst (λ (z : Stored). KeepsTime z.clock w.tier.now w.tier.added w.tier.round w.tier.sets w.tier.settings) (sym fin.rest) m.time;
            }

    -- nobody knows
    unknown : (doubt : Option Doubt) (reply : Reply) → CalledOnce (sealed_own w.tier s) before after (Err Failed) → new ≡ mid → doubt ≡ Some (record { ticket = t.next; session = id; of = Commit (open_ops id (seen_all mid.sessions)); entered = ready.entered }) → reply ≡ faulty code.BackingFault
        → IsEnded new doubt after (λ w'. AppliesDrawn s w w' reply)
    unknown doubt reply called new_is some_doubt answer =
        let now = told_behind at.there before.held after.held (site.BankCall before.shared (AppliesOnce (sealed_own w.tier s) [] (Err Failed))) at.told called.told in
        let a = after_applied (sealed_own w.tier s) s.label (Err Failed) (with_ticket w.tier) in
        let w' = behind w a now.there after in
        let call = call_behind w a before after now.there (AppliesOnce (sealed_own w.tier s) [] (Err Failed)) at now.is called.later called.moment in
        let in_doubt = in_doubt_stands laws w s is.stands unshared there room later on_own now.there.history call.history in
        subst (λ d. IsEnded new d after (λ z. AppliesDrawn s w z reply)) (sym some_doubt)
        (record {
          world = w';
          at = behind_at w a before after now.there at now.told called.shares;
          left = subst (λ z. CommitIsInDoubt z (record { ticket = t.next; session = id; of = Commit (open_ops id (seen_all mid.sessions)); entered = ready.entered }) w') (sym new_is) (record {
            was = w;
            stands = stands_still t (record mid { next = t.next }) w is (stored_before t mid id ready draws w.tier is.stored) (rows_drawn t mid id ready draws) (hidden_before t mid id ready draws);
            unshared = unshared;
            session = s;
            has = has_drawn t mid id ready draws s has;
            on = on_own;
            next = ap (λ (z : Stored). z.next) draws.rest;
            room = let le = draws.fits in omega (arith, le);
            call = call;
            tier = refl;
            legal = in_doubt.legal;
            read = in_doubt.read;
          });
          is = executes w' reply (Err Failed) call refl answer;
        })

    -- by the bank's answer
    by_answer : (result : Result Applied BankError) (doubt : Option Doubt) (reply : Reply) → CalledOnce (sealed_own w.tier s) before after result → Concludes ready.entered mid new doubt id t.next result reply → IsEnded new doubt after (λ w'. AppliesDrawn s w w' reply)
    by_answer (Ok (Now receipt)) doubt reply called did =
        finished (Ok (Now receipt)) doubt reply called (λ o n step. step.0) refl did.0 did.1 (did.2 ∙ ap (λ n. only (Done n)) (sym is.stored.next))
    by_answer (Ok (Before receipt)) doubt reply called did =
        let now = told_behind at.there before.held after.held (site.BankCall before.shared (AppliesOnce (sealed_own w.tier s) [] (Ok (Before receipt)))) at.told called.told in
        let call = call_behind w (with_ticket w.tier) before after now.there (AppliesOnce (sealed_own w.tier s) [] (Ok (Before receipt))) at now.is called.later called.moment in
        absurd (never_both _ call.history.own.0 (unused laws w s is.stands unshared there room call.history.before call.history.came_before))
    by_answer (Ok (NotReady ticket)) doubt reply called did = absurd did
    by_answer (Ok (Differs table key row)) doubt reply called did = by did.2
      where
        schema_there : (x : TellsDifference mid table key reply) → slice_get w.tier.schema table.0 ≡ Some x.def
        schema_there x = ap (λ defs. slice_get defs table.0) ((stored_drawn t mid id ready draws w.tier is.stored).schema) ∙ x.there

        by : TellsDifference mid table key reply ⊎ (reply ≡ faulty code.Memory) → IsEnded new doubt after (λ w'. AppliesDrawn s w w' reply)
        by (inl tells_it) =
            not_come (Ok (Differs table key row)) (Ok (Differs table key row)) doubt reply called (λ o n step. step.3) (λ o n step. step) refl did.0 did.1
            (tells_it.is ∙ sym (ap (λ name. only (Fault (record { code = code.RowDiffers; detail = detail.Row name key }))) (name_of_table (with_ticket w.tier) table tells_it.def (schema_there tells_it))))
        by (inr wants) =
            not_come (Ok (Differs table key row)) (Err Memory) doubt reply called (λ o n step. step.3) (λ o n step. step.3) refl did.0 did.1 wants
    by_answer (Err Memory) doubt reply called did = not_come (Err Memory) (Err Memory) doubt reply called (λ o n step. step) (λ o n step. step) refl did.0 did.1 did.2
    by_answer (Err Failed) doubt reply called did = unknown doubt reply called did.0 did.1 did.2

-- COMMIT of a session that has written tables of synchronous groups alone
pub concluded : AreLaws → NumberLaw → ChangeLaw → (t mid new : Stored) (id : SessionId) (ready : Ready) → IsSound t → IsSound mid → Draws t mid id ready → (open_ops id (seen_all t.sessions) ≡ [] → ⊥)
    → are_on is_synchronous (groups_in t.catalog) (open_ops id (seen_all t.sessions)) ≡ true → (before after : SiteState) (result : Result Applied BankError) (doubt : Option Doubt) (reply : Reply)
    → CalledOnce ready.sealed before after result → Concludes ready.entered mid new doubt id ready.sealed.ticket.0 result reply → EndsIn t new doubt before after id AppliesDrawn (Ok reply)
concluded laws numbers changes t mid new id ready sound drawn draws some on before after result doubt reply called did = λ s has w at is unshared.
    by_answer laws numbers changes t mid new id ready sound drawn draws some on w s is unshared has before after at result doubt reply
    (subst (λ x. CalledOnce x before after result) (sealed_is laws numbers changes t mid new id ready sound drawn draws some on w s is unshared has) called)
    (subst (λ n. Concludes ready.entered mid new doubt id n result reply) (ap (λ (x : Sealed). x.ticket.0) draws.sealed) did)

-- the session's writes are on tables of synchronous groups
pub does_now : NumberLaw → (t : Stored) (id : SessionId) → IsSound t → (open_ops id (seen_all t.sessions) ≡ [] → ⊥) → are_on is_synchronous (groups_in t.catalog) (open_ops id (seen_all t.sessions)) ≡ true
    → (s : Session) → HasSession t id s → (w w' : World) (reply : Reply) → StandsFor t w → CommitsNow s w w' reply → Executes statement.Commit s w w' reply
does_now numbers t id sound some on s has w w' reply is now =
    let own = own_found numbers t id s sound has in
    let some_own : s.own ≡ [] → ⊥ = λ e. some (own ∙ e) in
    let on_own : are_on is_synchronous w.tier.groups s.own ≡ true =
    sym (bare_on is_synchronous (λ g. refl) w.tier.groups s.own) ∙ ap (λ gs. are_on is_synchronous gs s.own) is.stored.groups ∙ ap (are_on is_synchronous (groups_in t.catalog)) (sym own) ∙ on in
    inl (own_now s s.own w w' reply some_own (any_of_all (λ op. is_table_of is_synchronous w.tier.groups (table_of op)) s.own some_own on_own) now)

pub refused_by : NumberLaw → (t : Stored) (id : SessionId) → IsSound t → (open_ops id (seen_all t.sessions) ≡ [] → ⊥) → are_on is_synchronous (groups_in t.catalog) (open_ops id (seen_all t.sessions)) ≡ true
    → (s : Session) → HasSession t id s → (w : World) → StandsFor t w → (why : Refused) → IsRefusedBy (now_fault s w) why → Executes statement.Commit s w w (reply_of (Err why))
refused_by numbers t id sound some on s has w is (refused.Rule rule) broken = does_now numbers t id sound some on s has w w (only (No rule)) is (refuses_now s w rule broken)
refused_by numbers t id sound some on s has w is refused.Memory broken = inr (refl, refl)

-- no ticket is left, or memory was wanting
pub undrawn : (t new : Stored) → Rooms t new → (w : World) → StandsFor t w → StandsFor new w
undrawn t new rooms w is = stands_still t new w is (stored_same w.tier is.stored) rows_same
    (hidden_as t (record t { stores = new.stores }) new rooms.rest (record { groups = refl; hidden = refl }))
  where
    rows_same : rows_of new ≡ rows_of t
    rows_same = ap (λ (z : Stored). Rattle.group_store.specs.Shown.shown_by z.schema new.stores.items) rooms.rest ∙ same_shown t.schema t.stores.items new.stores.items rooms.stores

    stored_same : (a : Tier) → IsStoredAs t a → IsStoredAs new a
    stored_same a is = subst (λ z. IsStoredAs z a) (sym rooms.rest) (record {
      schema = is.schema;
      stale = is.stale;
      groups = is.groups;
      lists = lists_roomed a.groups t.stores.items new.stores.items t.hidden.items rooms.stores is.lists;
      sessions = is.sessions;
      unsettled = is.unsettled;
      next = is.next;
      doubt = is.doubt;
      time = is.time;
    })

-- there was a ticket
pub drawn_free : (t mid : Stored) (id : SessionId) (ready : Ready) → Draws t mid id ready → (a : Tier) → IsStoredAs t a → ticket_fault a ≡ None
drawn_free t mid id ready draws a is = ticket_free a (let le = draws.fits in let same = is.next in omega (arith, le, same))

-- why the call's fault is told

caused : (x : Sealed) (before after : SiteState) (result : Result Applied BankError) (reply : Reply) → CalledOnce x before after result → reply.notes ≡ [] → (tells code.BackingFault reply.last ≡ true → Rose before.bank_faults after.bank_faults) → tells code.JournalFault reply.last ≡ false → IsCaused before after reply
caused x before after result reply called bare bank disk = record {
  later = called.later;
  moment = called.moment;
  shares = called.shares;
  slots = slots_kept before.held after.held (site.BankCall before.shared (AppliesOnce x [] result)) (λ o n step. step.slots) called.told;
  bare = bare;
  bank = bank;
  disk = disk;
}

pub concluded_cause : (entered : Uses) (x : Sealed) (mid new : Stored) (doubt : Option Doubt) (id : SessionId) (before after : SiteState) (result : Result Applied BankError) (reply : Reply) → CalledOnce x before after result → BankHasCause before after result → Concludes entered mid new doubt id x.ticket.0 result reply → IsCaused before after reply
concluded_cause entered x mid new doubt id before after (Ok (Now receipt)) reply called cause did =
    subst (IsCaused before after) (sym did.2) (caused x before after (Ok (Now receipt)) (only (Done x.ticket.0)) called refl (λ told. cc) refl)
concluded_cause entered x mid new doubt id before after (Ok (Before receipt)) reply called cause did =
    subst (IsCaused before after) (sym did.2) (caused x before after (Ok (Before receipt)) (only (Done x.ticket.0)) called refl (λ told. cc) refl)
concluded_cause entered x mid new doubt id before after (Ok (NotReady ticket)) reply called cause did = absurd did
concluded_cause entered x mid new doubt id before after (Ok (Differs table key row)) reply called cause did = by did.2
  where
    by : TellsDifference mid table key reply ⊎ (reply ≡ faulty code.Memory) → IsCaused before after reply
    by (inl told) =
        subst (IsCaused before after) (sym told.is)
        (caused x before after (Ok (Differs table key row)) (only (Fault (record { code = code.RowDiffers; detail = detail.Row told.def.name key }))) called refl (λ b. cc) refl)
    by (inr wants) = subst (IsCaused before after) (sym wants) (caused x before after (Ok (Differs table key row)) (faulty code.Memory) called refl (λ b. cc) refl)
concluded_cause entered x mid new doubt id before after (Err Memory) reply called cause did =
    subst (IsCaused before after) (sym did.2) (caused x before after (Err Memory) (faulty code.Memory) called refl (λ told. cc) refl)
concluded_cause entered x mid new doubt id before after (Err Failed) reply called cause did =
    subst (IsCaused before after) (sym did.2) (caused x before after (Err Failed) (faulty code.BackingFault) called refl (λ told. cause.failed refl) refl)
