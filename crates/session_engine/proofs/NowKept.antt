-- COMMIT of synchronous writes over a journal that the tier may keep.
use Rattle.std.proofs.Common.{◌≡◌, ℕ, true, false, Option, Some, None, Result, Ok, Err, List, [], ◌∷◌, refl, sym, ap, subst, ◌∙◌}
use Rattle.std.specs.Bool.{MatchBool}
use Rattle.tier_base.specs.declared.limit.Limit.TheVariants as limit
use Rattle.tier_base.specs.declared.number.SessionId.{SessionId}
use Rattle.row_types.specs.declared.rule.Refused.{Refused}
use Rattle.row_types.specs.declared.rule.Refused.TheVariants as refused
use Rattle.table_defs.specs.Declarations.{IsRefusedBy}
use Rattle.table_state.specs.declared.history.Sealed.{Sealed}
use Rattle.sql_subset.specs.declared.stmt.Stmt.TheVariants as statement
use Rattle.outside.specs.Holding.{Held}
use Rattle.outside.specs.Sites.{SiteState}
use Rattle.outside.specs.declared.fault.BankError.{BankError}
use Rattle.outside.specs.declared.fault.BankError.TheVariants.{Failed, Memory}
use Rattle.outside.specs.declared.site.Applied.{Applied}
use Rattle.outside.specs.declared.site.Applied.TheVariants.{Before, Differs, NotReady, Now}
use Rattle.open_sessions.specs.Lookups.{open_ops}
use Rattle.open_sessions.specs.Opening.{seen_all}
use Rattle.group_catalog.specs.Catalogs.{groups_in}
use Rattle.propagators.specs.Certainty.{KeepsCertain}
use Rattle.tier_journal.specs.declared.journal.TierJournal.{TierJournal}
use Rattle.tier_journal.specs.declared.draft.Draft.{Draft}
use Rattle.tier_journal.specs.Drafts.{IsDraftOf, StaysKept, is_full_draft}
use Rattle.tier_journal.specs.KeptOver.{DiskIsCaused, KeepsOver, WritesDraft, is_broken, over_disk}
use Rattle.tier_journal.proofs.DraftLaws.{full_so}
use Rattle.tier_journal.proofs.WayLaws.{kept_unless}
use Rattle.cache_tier.specs.CommitSteps.{after_applied, sealed_own}
use Rattle.cache_tier.specs.Events.{with_tier}
use Rattle.cache_tier.specs.Groups.{is_synchronous}
use Rattle.cache_tier.specs.JournalSteps.{Flushes, FlushesFitting}
use Rattle.cache_tier.specs.Journals.{JournalEntry, Prepares}
use Rattle.cache_tier.specs.PassedSteps.{ticket_fault, with_ticket}
use Rattle.cache_tier.specs.Rules.{past}
use Rattle.cache_tier.specs.TierStates.{Session, Tier}
use Rattle.cache_tier.specs.Worlds.{World, only}
use Rattle.cache_tier.specs.declared.reply.Last.TheVariants.{No}
use Rattle.cache_tier.specs.declared.reply.Reply.{Reply}
use Rattle.stored_tier.specs.declared.tier.Tier.{Tier as Stored}
use Rattle.stored_tier.specs.Performing.{Executes, PerformsInOver, StandsFor}
use Rattle.stored_tier.specs.Stored.{HasSession, IsSound, IsStoredAs, are_on}
use Rattle.stored_tier.proofs.OverLaws.{at_written, flush_breaks, keeps_called, never_both, stands_written}
use Rattle.stored_tier.proofs.OwnSeen.{NumberLaw}
use Rattle.session_engine.specs.Committing.{sealed_next}
use Rattle.session_engine.specs.Doubting.{EndsIn, EndsInOver}
use Rattle.session_engine.specs.declared.doubt.Doubt.{Doubt}
use Rattle.session_engine.proofs.AtOnceDone.{AppliesDrawn, Applying, broken_now, commits_now, does_now, journal_now, now_fault, refused_by}
use Rattle.session_engine.proofs.KeptLaws.{draft_own, room_so, stayed_over}

-- what the bank answers leaves the schema
applied_schema : (x : Sealed) (label : List ℕ) (result : Result Applied BankError) (a : Tier) → (after_applied x label result a).schema ≡ a.schema
applied_schema x label (Ok (Now receipt)) a = refl
applied_schema x label (Ok (Before receipt)) a = refl
applied_schema x label (Ok (NotReady ticket)) a = refl
applied_schema x label (Ok (Differs table key row)) a = refl
applied_schema x label (Err Memory) a = refl
applied_schema x label (Err Failed) a = refl

-- it is refused by the tickets
ticket_first : (s : Session) (w : World) (why : Refused) → IsRefusedBy (ticket_fault w.tier) why → IsRefusedBy (now_fault s w) why
ticket_first s w (refused.Rule rule) broken = broken_now s w rule broken
ticket_first s w refused.Memory broken = tt

module _ {D : Type 0} (state : D → SiteState) (possible : D → ℕ → Held → Type 0) (numbers : NumberLaw) (t : Stored) (id : SessionId) (sound : IsSound t) (some : open_ops id (seen_all t.sessions) ≡ [] → ⊥)
    (on : are_on is_synchronous (groups_in t.catalog) (open_ops id (seen_all t.sessions)) ≡ true) where
  -- no ticket is left, or memory was wanting
  pub undrawn_over : (new : Stored) (k k' : Option TierJournal) (d : D) (why : Refused) → StaysKept k k' → ((w : World) → StandsFor t w → StandsFor new w) → ((a : Tier) → IsStoredAs t a → IsRefusedBy (ticket_fault a) why)
      → PerformsInOver state possible t new k k' d d id (Executes statement.Commit) (Err why)
  undrawn_over new k k' d why kept stays told = stayed_over state possible t new k k' d id why kept
      (λ s has w is keeps. (stays w is, refused_by numbers t id sound some on s has w is why (ticket_first s w why (told w.tier is.stored))))

  -- the entry that was made ready
  module _ (k : Option TierJournal) (draft : Draft) (of : IsDraftOf t.schema k draft (Prepares (sealed_next t id))) where
    -- the journal has no room for it
    pub full_now : (was : Option TierJournal) (d : D) (why : Refused) → StaysKept was k → ((a : Tier) → IsStoredAs t a → ticket_fault a ≡ None) → is_full_draft draft ≡ true → why ≡ refused.Rule (past limit.JournalSlot)
        → PerformsInOver state possible t t was k d d id (Executes statement.Commit) (Err why)
    full_now was d why kept none full is_why =
        subst (λ r. PerformsInOver state possible t t was k d d id (Executes statement.Commit) (Err r)) (sym is_why)
        (stayed_over state possible t t was k d id (refused.Rule (past limit.JournalSlot)) kept
        (λ s has w is keeps. (
          is,
          refused_by numbers t id sound some on s has w is (refused.Rule (past limit.JournalSlot))
              (journal_now s w (none w.tier is.stored) ∙ room_so state possible d k w draft (Prepares (sealed_own w.tier s)) true keeps (draft_own numbers t id k draft Prepares sound of s has w is) full),
        )))

    -- it is flushed
    module _ (new : Stored) (doubt : Option Doubt) (k' : Option TierJournal) (d m : D) (ticket : (a : Tier) → IsStoredAs t a → ticket_fault a ≡ None) (fits : is_full_draft draft ≡ false) where
      free : (s : Session) → HasSession t id s → (w : World) → StandsFor t w → KeepsOver state possible d k w → now_fault s w ≡ None
      free s has w is keeps =
          journal_now s w (ticket w.tier is.stored)
          ∙ room_so state possible d k w draft (Prepares (sealed_own w.tier s)) false keeps (draft_own numbers t id k draft Prepares sound of s has w is) fits

      flushed_so : (s : Session) → HasSession t id s → (w w' : World) (stop : Option Reply) → StandsFor t w → KeepsOver state possible d k w → FlushesFitting (Prepares (sealed_own w.tier s) ∷ []) w w' stop → Flushes (Prepares (sealed_own w.tier s) ∷ []) w w' stop
      flushed_so s has w w' stop is keeps does =
          subst (λ b. MatchBool b ((w' ≡ w) × (stop ≡ Some (only (No (past limit.JournalSlot))))) (Flushes (Prepares (sealed_own w.tier s) ∷ []) w w' stop))
          (full_so state possible d k w draft (Prepares (sealed_own w.tier s)) keeps (draft_own numbers t id k draft Prepares sound of s has w is) ∙ fits) does

      -- and then the bank is called
      pub applied_over : (d' : D) (reply : Reply) → ((e : JournalEntry) → WritesDraft state possible k k' d m draft e None (FlushesFitting (e ∷ []))) → DiskIsCaused k (state d) (state m) None → KeepsCertain state possible m d'
          → EndsIn t new doubt (state m) (state d') id AppliesDrawn (Ok reply) → EndsInOver state possible t new doubt k k' d d' id (Executes statement.Commit) (Ok reply)
      applied_over d' reply flushes cause certain ends = λ s has w at is apart keeps.
          let e = Prepares (sealed_own w.tier s) in
          let x = flushes e w at.moment keeps (draft_own numbers t id k draft Prepares sound of s has w is) in
          let w1 : World = over_disk x.journal x.faults (state m).moment w in
          let flushed = flushed_so s has w w1 None is keeps x.is in
          let it = ends s has w1 (at_written state possible k' d m w None (FlushesFitting (e ∷ [])) at x cause.bank cause.shared) (stands_written t w x.journal x.faults (state m).moment is) apart in
          let applying : Applying s w w it.world reply = record { mid = with_tier (with_ticket w.tier) w1; stop = None; first = record { mid = w1; stop = None; first = flushed; next = (refl, refl) }; next = it.is } in
          record {
            world = it.world;
            at = it.at;
            is = does_now numbers t id sound some on s has w it.world reply is (commits_now s w it.world reply (free s has w is keeps) applying);
            left = λ whole. it.left;
            keeps = kept_unless (keeps_called state possible k' m d' w1 it.world (x.keeps.over refl) certain it.is.call.journal
                (ap (λ (a : Tier). a.schema) it.is.tier ∙ applied_schema (sealed_own w.tier s) s.label it.is.result (with_ticket w.tier)) it.at);
          }

      -- the flush failed
      pub unflushed_over : (fault : Reply) → ((e : JournalEntry) → WritesDraft state possible k k' d m draft e (Some fault) (FlushesFitting (e ∷ []))) → DiskIsCaused k (state d) (state m) (Some fault)
          → EndsInOver state possible t new doubt k k' d m id (Executes statement.Commit) (Ok fault)
      unflushed_over fault flushes cause = λ s has w at is apart keeps.
          let e = Prepares (sealed_own w.tier s) in
          let x = flushes e w at.moment keeps (draft_own numbers t id k draft Prepares sound of s has w is) in
          let w1 : World = over_disk x.journal x.faults (state m).moment w in
          let flushed = flushed_so s has w w1 (Some fault) is keeps x.is in
          let broken = flush_breaks (e ∷ []) w w1 fault flushed in
          let applying : Applying s w w w1 fault = record { mid = w1; stop = Some fault; first = record { mid = w1; stop = Some fault; first = flushed; next = (refl, refl) }; next = (refl, refl) } in
          record {
            world = w1;
            at = at_written state possible k' d m w (Some fault) (FlushesFitting (e ∷ [])) at x cause.bank cause.shared;
            is = does_now numbers t id sound some on s has w w1 fault is (commits_now s w w1 fault (free s has w is keeps) applying);
            left = λ whole. absurd (never_both (is_broken (Some fault)) broken whole);
            keeps = x.keeps;
          }
