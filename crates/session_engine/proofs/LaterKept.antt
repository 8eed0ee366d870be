-- COMMIT of asynchronous writes over a journal that the tier may keep.
use Rattle.std.proofs.Common.{◌≡◌, ℕ, Bool, true, false, Option, Some, None, Result, Ok, Err, [], ◌∷◌, inl, inr, refl, sym, ap, subst, ◌∙◌}
use Rattle.std.specs.Bool.{MatchBool}
use Rattle.std.specs.Option.{option_map}
use Rattle.tier_base.specs.declared.limit.Limit.TheVariants as limit
use Rattle.tier_base.specs.declared.number.SessionId.{SessionId}
use Rattle.row_types.specs.declared.rule.Refused.{Refused}
use Rattle.row_types.specs.declared.rule.Refused.TheVariants as refused
use Rattle.table_defs.specs.Declarations.{IsRefusedBy}
use Rattle.sql_subset.specs.declared.stmt.Stmt.TheVariants as statement
use Rattle.outside.specs.Holding.{Held}
use Rattle.outside.specs.Sites.{SiteState}
use Rattle.open_sessions.specs.Lookups.{of_number, open_ops}
use Rattle.open_sessions.specs.Opening.{seen_all}
use Rattle.session_state.specs.Sessions.{OpenSession}
use Rattle.group_catalog.specs.Catalogs.{groups_in}
use Rattle.tier_journal.specs.declared.journal.TierJournal.{TierJournal}
use Rattle.tier_journal.specs.declared.draft.Draft.{Draft}
use Rattle.tier_journal.specs.Drafts.{IsDraftOf, StaysKept, is_full_draft}
use Rattle.tier_journal.specs.KeptOver.{DiskIsCaused, IsWrittenOver, KeepsOver, WritesDraft, is_broken, over_disk}
use Rattle.tier_journal.proofs.WayLaws.{kept_unless}
use Rattle.cache_tier.specs.CommitSteps.{ends, sealed_own}
use Rattle.cache_tier.specs.JournalSteps.{NotesKept, Records}
use Rattle.cache_tier.specs.Journals.{Commits, JournalEntry}
use Rattle.cache_tier.specs.Reading.{Answers as Quietly}
use Rattle.cache_tier.specs.Rules.{past}
use Rattle.cache_tier.specs.TierStates.{Session}
use Rattle.cache_tier.specs.Worlds.{Passes, World}
use Rattle.cache_tier.specs.declared.reply.Reply.{Reply}
use Rattle.stored_tier.specs.declared.tier.Tier.{Tier as Stored}
use Rattle.stored_tier.specs.Performing.{Executes, PerformsIn, PerformsInOver, StandsFor, reply_of}
use Rattle.stored_tier.specs.Stored.{HasSession, IsSound, IsStoredAs, KeepsHidden}
use Rattle.stored_tier.proofs.OverLaws.{answered_over, ended_over, flush_breaks, keeps_stays, keeps_tier}
use Rattle.stored_tier.proofs.OwnSeen.{NumberLaw, number_found, own_found}
use Rattle.session_engine.specs.Committing.{AnswersInWorlds, StoresOps, are_deferred, bare_all, commit_answer, commit_fault, sealed_next}
use Rattle.session_engine.proofs.CommitPerformed.{CommitLaw, broken_later, done_so, ends_commit, journal_later, later_answer, refused_by, stands_then, stays}
use Rattle.session_engine.proofs.KeptLaws.{draft_own, kept_same, room_so, stayed_over}

-- whether a session's commits are durable
pub durable_found : NumberLaw → (t : Stored) (id : SessionId) (s : Session) (b : Bool) → IsSound t → HasSession t id s → option_map (λ (x : OpenSession). x.durable) (of_number id (seen_all t.sessions)) ≡ Some b → b ≡ s.durable
durable_found numbers t id s b sound has is =
    same (sym is ∙ ap (option_map (λ (x : OpenSession). x.durable)) (number_found numbers t id s sound has)) ∙ ap (λ (x : Session). x.durable) has.is
  where
    same : Some b ≡ Some has.seen.durable → b ≡ has.seen.durable
    same e = cc

pub durable_none : NumberLaw → (t : Stored) (id : SessionId) (s : Session) → IsSound t → HasSession t id s → None ≡ of_number id (seen_all t.sessions) → false ≡ s.durable
durable_none numbers t id s sound has none = absurd (never (none ∙ number_found numbers t id s sound has))
  where
    never : None ≡ Some has.seen → ⊥
    never e = cc

-- what is recorded ends a line only by a fault of the disk
record_breaks : (durable : Bool) (e : JournalEntry) (w w' : World) (reply : Reply) → Records durable e w w' (Some reply) → is_broken (Some reply) ≡ true
record_breaks true e w w' reply does = flush_breaks (e ∷ []) w w' reply does
record_breaks false e w w' reply does = by w.journal.kept does
  where
    never : Some reply ≡ None → is_broken (Some reply) ≡ true
    never none = cc

    by : (kept : Bool) → MatchBool kept (NotesKept e w w' (Some reply)) (Passes w w' (Some reply)) → is_broken (Some reply) ≡ true
    by true is = never is.1
    by false is = never is.1

-- without writes
keeps_rest : {D : Type 0} (state : D → SiteState) (possible : D → ℕ → Held → Type 0) (k : Option TierJournal) (d : D) (s : Session) (reply : Reply) (w w' : World) → Executes statement.Rollback s w w' reply → KeepsOver state possible d k w → KeepsOver state possible d k w'
keeps_rest state possible k d s reply w w' (inl does) keeps = subst (KeepsOver state possible d k) (sym does.0) (keeps_tier state possible d k w (ends s w.tier) refl keeps)
keeps_rest state possible k d s reply w w' (inr wants) keeps = subst (KeepsOver state possible d k) (sym wants.0) keeps

pub unwritten_over : {D : Type 0} (state : D → SiteState) (possible : D → ℕ → Held → Type 0) → NumberLaw → (t new : Stored) (k : Option TierJournal) (d : D) (id : SessionId) (result : Result Reply Refused) → IsSound t → open_ops id (seen_all t.sessions) ≡ []
    → PerformsIn t new (state d) (state d) id (Executes statement.Rollback) result → PerformsInOver state possible t new k k d d id (Executes statement.Commit) result
unwritten_over state possible numbers t new k d id result sound none rolls = λ s has w at is apart keeps.
    let r = rolls s has w at is apart in
    record {
      world = r.world;
      at = r.at;
      is = ends_commit s (reply_of result) (sym (own_found numbers t id s sound has) ∙ none) w r.world r.is;
      stands = λ whole. r.stands;
      keeps = kept_unless (keeps_rest state possible k d s (reply_of result) w r.world r.is keeps);
    }

-- want of memory changes nothing
pub wanting_over : {D : Type 0} (state : D → SiteState) (possible : D → ℕ → Held → Type 0) (t : Stored) (k : Option TierJournal) (d : D) (id : SessionId) → PerformsInOver state possible t t k k d d id (Executes statement.Commit) (Err refused.Memory)
wanting_over state possible t k d id = stayed_over state possible t t k k d id refused.Memory (kept_same k) (λ s has w is keeps. (is, inr (refl, refl)))

-- COMMIT of a session with asynchronous writes
module _ {D : Type 0} (state : D → SiteState) (possible : D → ℕ → Held → Type 0) (law : CommitLaw) (numbers : NumberLaw) (t : Stored) (id : SessionId) (sound : IsSound t) (some : open_ops id (seen_all t.sessions) ≡ [] → ⊥)
    (deferred : are_deferred (groups_in t.catalog) (open_ops id (seen_all t.sessions)) ≡ true) (k k' : Option TierJournal) (kept : StaysKept k k') where
  -- it is refused before the journal is asked for its room
  pub unfit_over : (d : D) (why : Refused) → ((a : Rattle.cache_tier.specs.TierStates.Tier) (s : Session) → IsStoredAs t a → IsRefusedBy (commit_fault s a) why)
      → PerformsInOver state possible t t k k' d d id (Executes statement.Commit) (Err why)
  unfit_over d why told = stayed_over state possible t t k k' d id why kept (λ s has w is keeps. (is, by s has w is why (told w.tier s is.stored)))
    where
      by : (s : Session) → HasSession t id s → (w : World) → StandsFor t w → (why : Refused) → IsRefusedBy (commit_fault s w.tier) why → Executes statement.Commit s w w (reply_of (Err why))
      by s has w is (refused.Rule rule) broken = refused_by law numbers t t w id s sound is has some deferred rule (broken_later s w rule broken)
      by s has w is refused.Memory broken = inr (refl, refl)

  -- the entry that was made ready
  module _ (draft : Draft) (of : IsDraftOf t.schema k' draft (Commits (sealed_next t id))) where
    -- the journal has no room for it
    pub full_later : (d : D) (why : Refused) → ((a : Rattle.cache_tier.specs.TierStates.Tier) (s : Session) → IsStoredAs t a → commit_fault s a ≡ None) → is_full_draft draft ≡ true → why ≡ refused.Rule (past limit.JournalSlot)
        → PerformsInOver state possible t t k k' d d id (Executes statement.Commit) (Err why)
    full_later d why none full is_why =
        subst (λ r. PerformsInOver state possible t t k k' d d id (Executes statement.Commit) (Err r)) (sym is_why)
        (stayed_over state possible t t k k' d id (refused.Rule (past limit.JournalSlot)) kept
        (λ s has w is keeps. (
          is,
          refused_by law numbers t t w id s sound is has some deferred (past limit.JournalSlot)
              (journal_later s w (none w.tier s is.stored) ∙ room_so state possible d k' w draft (Commits (sealed_own w.tier s)) true keeps (draft_own numbers t id k' draft Commits sound of s has w is) full),
        )))

    -- it is refused behind that
    pub unanswered_over : (new : Stored) (d : D) (why : Refused) → AnswersInWorlds t new id commit_fault commit_answer (Err why) → StoresOps t new id (Err why) → KeepsHidden t new → PerformsInOver state possible t new k k' d d id (Executes statement.Commit) (Err why)
    unanswered_over new d why answers bares hidden = stayed_over state possible t new k k' d id why kept (λ s has w is keeps. by s has w is why (answers w s is has) bares)
      where
        by : (s : Session) → HasSession t id s → (w : World) → StandsFor t w → (why : Refused) → Rattle.stored_tier.specs.Answering.Replies new w.tier (commit_fault s w.tier) (commit_answer s w.tier) (Err why) → bare_all new.stores.items ≡ bare_all t.stores.items
            → StandsFor new w × Executes statement.Commit s w w (reply_of (Err why))
        by s has w is (refused.Rule rule) replies same = (stays law numbers t new w id s sound is has replies.1 same hidden, refused_by law numbers t new w id s sound is has some deferred rule (broken_later s w rule replies.0))
        by s has w is refused.Memory replies same = (stays law numbers t new w id s sound is has replies same hidden, inr (refl, refl))

    -- it is done, and its entry is recorded
    module _ (new : Stored) (k'' : Option TierJournal) (d d' : D) (durable : Bool) (reply : Reply) (fits : is_full_draft draft ≡ false) (durable_is : (s : Session) → HasSession t id s → durable ≡ s.durable)
        (answers : AnswersInWorlds t new id commit_fault commit_answer (Ok reply)) (bares : StoresOps t new id (Ok reply)) (hidden : KeepsHidden t new) where
      written_in : (stop : Option Reply) → ((e : JournalEntry) → WritesDraft state possible k' k'' d d' draft e stop (Records durable e)) → (s : Session) → HasSession t id s → (w : World) → w.moment ≡ (state d).moment → StandsFor t w → KeepsOver state possible d k' w
          → IsWrittenOver state possible k'' d d' stop (Records s.durable (Commits (sealed_own w.tier s))) w
      written_in stop writes s has w now is keeps =
          subst (λ b. IsWrittenOver state possible k'' d d' stop (Records b (Commits (sealed_own w.tier s))) w) (durable_is s has)
          (writes (Commits (sealed_own w.tier s)) w now keeps (draft_own numbers t id k' draft Commits sound of s has w is))

      free : (s : Session) → HasSession t id s → (w : World) → StandsFor t w → KeepsOver state possible d k' w → Rattle.session_engine.proofs.CommitPerformed.later_fault s w ≡ None
      free s has w is keeps =
          journal_later s w (answers w s is has).0
          ∙ room_so state possible d k' w draft (Commits (sealed_own w.tier s)) false keeps (draft_own numbers t id k' draft Commits sound of s has w is) fits

      pub recorded : ((e : JournalEntry) → WritesDraft state possible k' k'' d d' draft e None (Records durable e)) → DiskIsCaused k' (state d) (state d') None → PerformsInOver state possible t new k k'' d d' id (Executes statement.Commit) (Ok reply)
      recorded writes cause = λ s has w at is apart keeps.
          let here = keeps_stays state possible d k k' w kept keeps in
          let x = written_in None writes s has w at.moment is here in
          let said = answers w s is has in
          let it = answered_over state possible new k'' d d' w (Records s.durable (Commits (sealed_own w.tier s))) (later_answer s w) reply at x cause.bank cause.shared
          (stands_then law numbers t new w id s sound is has said.0 said.1 bares hidden) refl refl said.2 in
          record {
            world = it.world;
            at = it.at;
            is = done_so law numbers t new w id s sound is has some deferred it.world reply (free s has w is here) it.is;
            stands = it.stands;
            keeps = it.keeps;
          }

      pub unrecorded : (fault : Reply) → ((e : JournalEntry) → WritesDraft state possible k' k'' d d' draft e (Some fault) (Records durable e)) → DiskIsCaused k' (state d) (state d') (Some fault) → PerformsInOver state possible t new k k'' d d' id (Executes statement.Commit) (Ok fault)
      unrecorded fault writes cause = λ s has w at is apart keeps.
          let here = keeps_stays state possible d k k' w kept keeps in
          let x = written_in (Some fault) writes s has w at.moment is here in
          let broken = record_breaks s.durable (Commits (sealed_own w.tier s)) w (over_disk x.journal x.faults (state d').moment w) fault x.is in
          let it = ended_over state possible new k'' d d' w (Records s.durable (Commits (sealed_own w.tier s))) (Quietly (later_answer s w)) fault at x cause.bank cause.shared broken in
          record {
            world = it.world;
            at = it.at;
            is = done_so law numbers t new w id s sound is has some deferred it.world fault (free s has w is here) it.is;
            stands = it.stands;
            keeps = it.keeps;
          }
