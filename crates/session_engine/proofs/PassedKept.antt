-- A write that is passed on, over a journal that the tier may keep.
use Rattle.std.proofs.Common.{◌≡◌, ◌≤◌, ℕ, true, false, Option, Some, None, Result, Ok, Err, List, [], ◌∷◌, inl, inr, refl, sym, ap, subst, ◌∙◌}
use Rattle.std.specs.Bool.{MatchBool}
use Rattle.std.specs.Option.{option_or}
use Rattle.tier_base.specs.declared.code.Code.TheVariants as code
use Rattle.tier_base.specs.declared.limit.Limit.TheVariants as limit
use Rattle.tier_base.specs.declared.number.SessionId.{SessionId}
use Rattle.row_types.specs.declared.rule.Refused.{Refused}
use Rattle.row_types.specs.declared.rule.Refused.TheVariants as refused
use Rattle.row_types.specs.declared.rule.Rule.{Rule}
use Rattle.table_defs.specs.Declarations.{IsRefusedBy}
use Rattle.table_state.specs.declared.operation.Op.{Op}
use Rattle.evaluator.specs.declared.change.Change.{Change}
use Rattle.resolution.specs.Writes.{change_seen}
use Rattle.outside.specs.Calls as site
use Rattle.outside.specs.Faults.{BankHasCause, Rose}
use Rattle.outside.specs.Holding.{Held}
use Rattle.outside.specs.Passing.{CommitsAlone}
use Rattle.outside.specs.Sites.{SiteState}
use Rattle.outside.specs.declared.fault.BankError.{BankError}
use Rattle.outside.specs.declared.fault.BankError.TheVariants.{Failed, Memory}
use Rattle.outside.specs.declared.site.Done.{Done as Wrote}
use Rattle.outside.specs.declared.site.Done.TheVariants.{Rows, Broken}
use Rattle.propagators.specs.Certainty.{KeepsCertain}
use Rattle.tier_journal.specs.declared.journal.TierJournal.{TierJournal}
use Rattle.tier_journal.specs.declared.draft.Draft.{Draft}
use Rattle.tier_journal.specs.Drafts.{IsDraftOf, StaysKept, is_full_draft}
use Rattle.tier_journal.specs.KeptOver.{DiskIsCaused, KeepsOver, WritesDraft, is_broken, over_disk}
use Rattle.tier_journal.proofs.DraftLaws.{full_so}
use Rattle.tier_journal.proofs.WayLaws.{kept_unless}
use Rattle.cache_tier.specs.Events.{with_tier}
use Rattle.cache_tier.specs.JournalSteps.{Flushes, FlushesFitting, journal_fault}
use Rattle.cache_tier.specs.Journals.{JournalEntry, Numbers}
use Rattle.cache_tier.specs.PassedSteps.{PassesOn, WritesPassed, after_passed, passed_reply, ticket_fault, with_ticket}
use Rattle.cache_tier.specs.Rules.{past}
use Rattle.cache_tier.specs.Steps.{tells}
use Rattle.cache_tier.specs.TierStates.{Session, Tier}
use Rattle.cache_tier.specs.Worlds.{Becomes, Part, Then, ThenStage, Tries, Unless, World, only}
use Rattle.cache_tier.specs.declared.reply.Last.TheVariants.{No}
use Rattle.cache_tier.specs.declared.reply.Reply.{Reply}
use Rattle.stored_tier.specs.declared.tier.Tier.{Tier as Stored}
use Rattle.stored_tier.specs.Performing.{IsCaused, StandsFor, reply_of}
use Rattle.stored_tier.specs.Stored.{IsStoredAs}
use Rattle.stored_tier.proofs.OverLaws.{at_written, flush_breaks, keeps_called, keeps_stays, never_both, stands_written}
use Rattle.stored_tier.proofs.StandingLaws.{slots_kept}
use Rattle.session_engine.specs.Doubting.{IsReady}
use Rattle.session_engine.specs.Passing.{EndsPassed, doubt_of}
use Rattle.session_engine.specs.declared.doubt.Doubt.{Doubt}
use Rattle.session_engine.proofs.AtOnceDone.{ticket_free}
use Rattle.session_engine.proofs.KeptLaws.{room_so}
use Rattle.session_engine.proofs.PassedDone.{EndsDrawn, PassedAt}

-- what a write that is passed on may be refused with before the bank is called
abbrev pub passing_fault : World → Option Rule
passing_fault w = option_or (ticket_fault w.tier) (journal_fault w (Numbers w.tier.next ∷ []))

abbrev Passing : Session → Change → World → Part
Passing s change w =
    Then (ThenStage (Flushes (Numbers w.tier.next ∷ [])) (Becomes (λ mid. with_ticket mid.tier)))
    (WritesPassed s w.tier.next (change_seen change))

broken_first : (a b : Option Rule) (r : Rule) → a ≡ Some r → option_or a b ≡ Some r
broken_first None b r e = cc
broken_first (Some x) b r e = e

none_first : (a b : Option Rule) → a ≡ None → option_or a b ≡ b
none_first None b e = refl
none_first (Some x) b e = cc

refuses : (s : Session) (change : Change) (w : World) (why : Refused) → IsRefusedBy (passing_fault w) why → Tries (PassesOn s (change_seen change)) w w (reply_of (Err why))
refuses s change w (refused.Rule rule) broken = inl (subst (λ f. Unless f (Passing s change w) w w (only (No rule))) (sym broken) (refl, refl))
refuses s change w refused.Memory broken = inr (refl, refl)

ticket_first : (w : World) (why : Refused) → IsRefusedBy (ticket_fault w.tier) why → IsRefusedBy (passing_fault w) why
ticket_first w (refused.Rule rule) broken = broken_first (ticket_fault w.tier) (journal_fault w (Numbers w.tier.next ∷ [])) rule broken
ticket_first w refused.Memory broken = tt

passes : (s : Session) (change : Change) (w w' : World) (reply : Reply) → passing_fault w ≡ None → Passing s change w w w' reply → Tries (PassesOn s (change_seen change)) w w' reply
passes s change w w' reply free does = inl (subst (λ f. Unless f (Passing s change w) w w' reply) (sym free) does)

-- what the bank answers leaves the schema
passed_schema : (s : Session) (ticket : ℕ) (ops : List Op) (result : Result Wrote BankError) (a : Tier) → (after_passed s ticket ops result a).schema ≡ a.schema
passed_schema s ticket ops (Ok (Rows n)) a = refl
passed_schema s ticket ops (Ok (Broken rule)) a = refl
passed_schema s ticket ops (Err Memory) a = refl
passed_schema s ticket ops (Err Failed) a = refl

pub left_free : (t : Stored) (a : Tier) → t.next ≤ 9223372036854775807 → IsStoredAs t a → ticket_fault a ≡ None
left_free t a left is = ticket_free a (subst (λ n. n ≤ 9223372036854775807) (sym is.next) left)

module _ {D : Type 0} (state : D → SiteState) (possible : D → ℕ → Held → Type 0) where
  -- nothing is in doubt
  pub passed_free : (t new : Stored) (doubt : Option Doubt) (k k' : Option TierJournal) (d d' : D) (id : SessionId) (change : Change) (result : Result Reply Refused) → doubt ≡ None → EndsPassed state possible t new None k k' d d' id change result
      → EndsPassed state possible t new doubt k k' d d' id change result
  passed_free t new doubt k k' d d' id change result none ends = subst (λ o. EndsPassed state possible t new o k k' d d' id change result) (sym none) ends

  -- behind room that came to the journal
  pub passed_kept : (t new : Stored) (doubt : Option Doubt) (k k' k'' : Option TierJournal) (d d' : D) (id : SessionId) (change : Change) (result : Result Reply Refused) → StaysKept k k' → EndsPassed state possible t new doubt k' k'' d d' id change result
      → EndsPassed state possible t new doubt k k'' d d' id change result
  passed_kept t new doubt k k' k'' d d' id change result stays ends w s has off at is apart keeps = ends w s has off at is apart (keeps_stays state possible d k k' w stays keeps)

  module _ (t : Stored) (id : SessionId) (change : Change) where
    -- it is refused, and all stays but for room
    stayed : (k k' : Option TierJournal) (d : D) (why : Refused) → StaysKept k k' → ((w : World) → StandsFor t w → KeepsOver state possible d k' w → IsRefusedBy (passing_fault w) why) → EndsPassed state possible t t None k k' d d id change (Err why)
    stayed k k' d why stays told w s has off at is apart keeps =
        let here = keeps_stays state possible d k k' w stays keeps in
        record { world = w; at = at; is = refuses s change w why (told w is here); left = λ whole. is; keeps = kept_unless here }

    -- no ticket is left, or memory was wanting
    pub unnumbered_over : (k k' : Option TierJournal) (d : D) (why : Refused) → StaysKept k k' → ((a : Tier) → IsStoredAs t a → IsRefusedBy (ticket_fault a) why) → EndsPassed state possible t t None k k' d d id change (Err why)
    unnumbered_over k k' d why stays told = stayed k k' d why stays (λ w is keeps. ticket_first w why (told w.tier is.stored))

    -- the entry that was made ready
    module _ (k : Option TierJournal) (draft : Draft) (of : IsDraftOf t.schema k draft (Numbers t.next)) (left : t.next ≤ 9223372036854775807) where
      draft_in : (w : World) → StandsFor t w → IsDraftOf w.tier.schema k draft (Numbers w.tier.next)
      draft_in w is =
          subst (λ n. IsDraftOf w.tier.schema k draft (Numbers n)) (sym is.stored.next)
          (subst (λ schema. IsDraftOf schema k draft (Numbers t.next)) (sym is.stored.schema) of)

      by_journal : (w : World) → StandsFor t w → passing_fault w ≡ journal_fault w (Numbers w.tier.next ∷ [])
      by_journal w is = none_first (ticket_fault w.tier) (journal_fault w (Numbers w.tier.next ∷ [])) (left_free t w.tier left is.stored)

      -- the journal has no room for it
      pub full_over : (was : Option TierJournal) (d : D) (why : Refused) → StaysKept was k → is_full_draft draft ≡ true → why ≡ refused.Rule (past limit.JournalSlot) → EndsPassed state possible t t None was k d d id change (Err why)
      full_over was d why kept full is_why =
          subst (λ r. EndsPassed state possible t t None was k d d id change (Err r)) (sym is_why)
          (stayed was k d (refused.Rule (past limit.JournalSlot)) kept
          (λ w is keeps. by_journal w is ∙ room_so state possible d k w draft (Numbers w.tier.next) true keeps (draft_in w is) full))

      -- it is flushed
      module _ (k' : Option TierJournal) (d m : D) (fits : is_full_draft draft ≡ false) where
        free : (w : World) → StandsFor t w → KeepsOver state possible d k w → passing_fault w ≡ None
        free w is keeps = by_journal w is ∙ room_so state possible d k w draft (Numbers w.tier.next) false keeps (draft_in w is) fits

        flushed_so : (w w' : World) (stop : Option Reply) → StandsFor t w → KeepsOver state possible d k w → FlushesFitting (Numbers w.tier.next ∷ []) w w' stop → Flushes (Numbers w.tier.next ∷ []) w w' stop
        flushed_so w w' stop is keeps does =
            subst (λ b. MatchBool b ((w' ≡ w) × (stop ≡ Some (only (No (past limit.JournalSlot))))) (Flushes (Numbers w.tier.next ∷ []) w w' stop))
            (full_so state possible d k w draft (Numbers w.tier.next) keeps (draft_in w is) ∙ fits) does

        -- and then the bank is called
        pub passed_over : (new : Stored) (doubt : Option Doubt) (d' : D) (reply : Reply) → ((e : JournalEntry) → WritesDraft state possible k k' d m draft e None (FlushesFitting (e ∷ []))) → DiskIsCaused k (state d) (state m) None → KeepsCertain state possible m d'
            → EndsDrawn t new doubt (state m) (state d') id change reply → EndsPassed state possible t new doubt k k' d d' id change (Ok reply)
        passed_over new doubt d' reply flushes cause certain ends w s has off at is apart keeps =
            let e = Numbers w.tier.next in
            let x = flushes e w at.moment keeps (draft_in w is) in
            let w1 : World = over_disk x.journal x.faults (state m).moment w in
            let flushed = flushed_so w w1 None is keeps x.is in
            let it = ends w1 s has off (at_written state possible k' d m w None (FlushesFitting (e ∷ [])) at x cause.bank cause.shared) (stands_written t w x.journal x.faults (state m).moment is) apart in
            let does : Passing s change w w it.world reply = record { mid = with_tier (with_ticket w.tier) w1; stop = None; first = record { mid = w1; stop = None; first = flushed; next = (refl, refl) }; next = it.is } in
            record {
              world = it.world;
              at = it.at;
              is = passes s change w it.world reply (free w is keeps) does;
              left = λ whole. it.left;
              keeps = kept_unless (keeps_called state possible k' m d' w1 it.world (x.keeps.over refl) certain it.is.call.journal
                  (ap (λ (a : Tier). a.schema) it.is.tier ∙ passed_schema s w.tier.next it.is.ops it.is.result (with_ticket w.tier)) it.at);
            }

        -- the flush failed
        pub unflushed_over : (fault : Reply) → ((e : JournalEntry) → WritesDraft state possible k k' d m draft e (Some fault) (FlushesFitting (e ∷ []))) → DiskIsCaused k (state d) (state m) (Some fault) → EndsPassed state possible t t None k k' d m id change (Ok fault)
        unflushed_over fault flushes cause w s has off at is apart keeps =
            let e = Numbers w.tier.next in
            let x = flushes e w at.moment keeps (draft_in w is) in
            let w1 : World = over_disk x.journal x.faults (state m).moment w in
            let flushed = flushed_so w w1 (Some fault) is keeps x.is in
            let broken = flush_breaks (e ∷ []) w w1 fault flushed in
            let does : Passing s change w w w1 fault = record { mid = w1; stop = Some fault; first = record { mid = w1; stop = Some fault; first = flushed; next = (refl, refl) }; next = (refl, refl) } in
            record {
              world = w1;
              at = at_written state possible k' d m w (Some fault) (FlushesFitting (e ∷ [])) at x cause.bank cause.shared;
              is = passes s change w w1 fault (free w is keeps) does;
              left = λ whole. absurd (never_both (is_broken (Some fault)) broken whole);
              keeps = x.keeps;
            }

-- why the call's fault is told

caused : (ticket : ℕ) (change : Change) (before after : SiteState) (result : Result Wrote BankError) (reply : Reply) → PassedAt ticket change before after result → reply.notes ≡ [] → (tells code.BackingFault reply.last ≡ true → Rose before.bank_faults after.bank_faults) → tells code.JournalFault reply.last ≡ false → IsCaused before after reply
caused ticket change before after result reply called bare bank disk = record {
  later = called.later;
  moment = called.moment;
  shares = called.shares;
  slots = slots_kept before.held after.held (site.BankCall before.shared (CommitsAlone ticket change result)) (λ o n step. step.slots) called.told;
  bare = bare;
  bank = bank;
  disk = disk;
}

pub passed_cause : (ticket : ℕ) (change : Change) (before after : SiteState) (result : Result Wrote BankError) (reply : Reply) → PassedAt ticket change before after result → BankHasCause before after result → reply ≡ passed_reply result → IsCaused before after reply
passed_cause ticket change before after (Ok (Rows n)) reply called cause is = subst (IsCaused before after) (sym is) (caused ticket change before after (Ok (Rows n)) (passed_reply (Ok (Rows n))) called refl (λ told. cc) refl)
passed_cause ticket change before after (Ok (Broken rule)) reply called cause is = subst (IsCaused before after) (sym is) (caused ticket change before after (Ok (Broken rule)) (passed_reply (Ok (Broken rule))) called refl (λ told. cc) refl)
passed_cause ticket change before after (Err Memory) reply called cause is = subst (IsCaused before after) (sym is) (caused ticket change before after (Err Memory) (passed_reply (Err Memory)) called refl (λ told. cc) refl)
passed_cause ticket change before after (Err Failed) reply called cause is = subst (IsCaused before after) (sym is) (caused ticket change before after (Err Failed) (passed_reply (Err Failed)) called refl (λ told. cause.failed refl) refl)

-- nothing is kept for a write in doubt
pub passed_ready : (t : Stored) (id : SessionId) (ticket : ℕ) (result : Result Wrote BankError) (doubt : Option Doubt) → doubt ≡ doubt_of id ticket result → IsReady t doubt
passed_ready t id ticket (Ok (Rows n)) doubt is = subst (IsReady t) (sym is) tt
passed_ready t id ticket (Ok (Broken rule)) doubt is = subst (IsReady t) (sym is) tt
passed_ready t id ticket (Err Memory) doubt is = subst (IsReady t) (sym is) tt
passed_ready t id ticket (Err Failed) doubt is = subst (IsReady t) (sym is) tt

-- the ticket by its number
pub passed_at : (change : Change) (ticket next : ℕ) (before after : SiteState) (result : Result Wrote BankError) → ticket ≡ next → PassedAt ticket change before after result → PassedAt next change before after result
passed_at change ticket next before after result same called = subst (λ n. PassedAt n change before after result) same called

pub passed_doubt : (id : SessionId) (ticket next : ℕ) (result : Result Wrote BankError) (doubt : Option Doubt) → ticket ≡ next → doubt ≡ doubt_of id ticket result → doubt ≡ doubt_of id next result
passed_doubt id ticket next result doubt same is = is ∙ ap (λ n. doubt_of id n result) same
