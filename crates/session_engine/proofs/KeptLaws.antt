-- What a COMMIT makes ready for the journal, and what is refused behind that.
use Rattle.std.proofs.Common.{◌≡◌, ℕ, Bool, Option, Some, None, Result, Err, [], ◌∷◌, refl, sym, ap, subst, ◌∙◌, arith}
use Rattle.tier_base.specs.declared.code.Code.TheVariants as code
use Rattle.tier_base.specs.declared.limit.Limit.TheVariants as limit
use Rattle.tier_base.specs.declared.number.SessionId.{SessionId}
use Rattle.row_types.specs.declared.rule.Refused.{Refused}
use Rattle.table_state.specs.declared.history.Sealed.{Sealed}
use Rattle.sql_subset.specs.declared.stmt.Stmt.TheVariants as statement
use Rattle.outside.specs.Holding.{Held}
use Rattle.outside.specs.Sites.{SiteState}
use Rattle.tier_journal.specs.declared.journal.TierJournal.{TierJournal}
use Rattle.tier_journal.specs.declared.draft.Draft.{Draft}
use Rattle.tier_journal.specs.Drafts.{IsDraftOf, StaysKept, is_full_draft}
use Rattle.tier_journal.specs.KeptOver.{KeepsOver}
use Rattle.tier_journal.proofs.DraftLaws.{full_so}
use Rattle.tier_journal.proofs.WayLaws.{kept_unless}
use Rattle.cache_tier.specs.JournalSteps.{journal_fault}
use Rattle.cache_tier.specs.Journals.{JournalEntry}
use Rattle.cache_tier.specs.Rules.{broken_if, past}
use Rattle.cache_tier.specs.Steps.{tells}
use Rattle.cache_tier.specs.TierStates.{Session}
use Rattle.cache_tier.specs.Worlds.{World}
use Rattle.cache_tier.specs.CommitSteps.{sealed_own}
use Rattle.cache_tier.specs.declared.reply.Reply.{Reply}
use Rattle.stored_tier.specs.declared.tier.Tier.{Tier as Stored}
use Rattle.stored_tier.specs.Performing.{Executes, IsCalm, IsCausedOver, PerformsInOver, StandsFor, reply_of}
use Rattle.stored_tier.specs.Stored.{HasSession, IsSound}
use Rattle.stored_tier.proofs.OverLaws.{keeps_stays, never_both}
use Rattle.stored_tier.proofs.OwnSeen.{NumberLaw}
use Rattle.session_engine.specs.Committing.{sealed_next}
use Rattle.session_engine.specs.Doubting.{EndsInOver}
use Rattle.session_engine.specs.declared.doubt.Doubt.{Doubt}
use Rattle.session_engine.proofs.CommitLaws.{sealed_same}

-- a journal stays as it is
pub kept_same : (k : Option TierJournal) → StaysKept k k
kept_same None = tt
kept_same (Some t) = record {
  keeps = λ schema slots j keeps. keeps;
  same = record { tail = refl; slot = refl; generation = refl; version = refl; standing = refl };
}

-- the entry that was made ready is the one that the abstract tier writes
pub draft_own : NumberLaw → (t : Stored) (id : SessionId) (k : Option TierJournal) (draft : Draft) (entry : Sealed → JournalEntry) → IsSound t → IsDraftOf t.schema k draft (entry (sealed_next t id))
    → (s : Session) → HasSession t id s → (w : World) → StandsFor t w → IsDraftOf w.tier.schema k draft (entry (sealed_own w.tier s))
draft_own numbers t id k draft entry sound of s has w is =
    subst (λ x. IsDraftOf w.tier.schema k draft (entry x)) (sealed_same numbers t w.tier id s sound is.stored has)
    (subst (λ schema. IsDraftOf schema k draft (entry (sealed_next t id))) (sym is.stored.schema) of)

-- a site that isn't called
pub calm_over : (k : Option TierJournal) (site : SiteState) (reply : Reply) → IsCalm reply → IsCausedOver k site site reply
calm_over k site reply calm = record {
  later = omega arith;
  moment = omega arith;
  shares = refl;
  slots = λ none. (calm site).slots;
  bare = (calm site).bare;
  bank = (calm site).bank;
  disk_later = omega arith;
  disk = λ told. absurd (never_both (tells code.JournalFault reply.last) told (calm site).disk);
  whole = λ none. (calm site).disk;
}

none_kept : (k k' : Option TierJournal) → StaysKept k k' → k ≡ None → k' ≡ None
none_kept None None stays e = refl
none_kept None (Some t) stays e = absurd stays
none_kept (Some t) k' stays e = cc

-- what is caused behind room that came to the journal
pub caused_kept : (k k' : Option TierJournal) (before behind : SiteState) (reply : Reply) → StaysKept k k' → IsCausedOver k' before behind reply → IsCausedOver k before behind reply
caused_kept k k' before behind reply stays c = record {
  later = c.later;
  moment = c.moment;
  shares = c.shares;
  slots = λ none. c.slots (none_kept k k' stays none);
  bare = c.bare;
  bank = c.bank;
  disk_later = c.disk_later;
  disk = c.disk;
  whole = λ none. c.whole (none_kept k k' stays none);
}

module _ {D : Type 0} (state : D → SiteState) (possible : D → ℕ → Held → Type 0) where
  -- whether 119 of the journal is broken
  pub room_so : (d : D) (k : Option TierJournal) (w : World) (draft : Draft) (e : JournalEntry) (b : Bool) → KeepsOver state possible d k w → IsDraftOf w.tier.schema k draft e → is_full_draft draft ≡ b → journal_fault w (e ∷ []) ≡ broken_if b (past limit.JournalSlot)
  room_so d k w draft e b keeps of is = ap (λ full. broken_if full (past limit.JournalSlot)) (full_so state possible d k w draft e keeps of ∙ is)

  -- it is refused, and all stays but for room
  pub stayed_over : (t new : Stored) (k k' : Option TierJournal) (d : D) (id : SessionId) (why : Refused) → StaysKept k k'
      → ((s : Session) → HasSession t id s → (w : World) → StandsFor t w → KeepsOver state possible d k' w → StandsFor new w × Executes statement.Commit s w w (reply_of (Err why)))
      → PerformsInOver state possible t new k k' d d id (Executes statement.Commit) (Err why)
  stayed_over t new k k' d id why stays so = λ s has w at is apart keeps.
      let here = keeps_stays state possible d k k' w stays keeps in
      let it = so s has w is here in
      record { world = w; at = at; is = it.1; stands = λ whole. it.0; keeps = kept_unless here }

  -- nothing is in doubt then
  pub settled_over : (t new : Stored) (doubt : Option Doubt) (k k' : Option TierJournal) (d d' : D) (id : SessionId) (result : Result Reply Refused) → doubt ≡ None → PerformsInOver state possible t new k k' d d' id (Executes statement.Commit) result
      → EndsInOver state possible t new doubt k k' d d' id (Executes statement.Commit) result
  settled_over t new doubt k k' d d' id result none performs =
      subst (λ o. EndsInOver state possible t new o k k' d d' id (Executes statement.Commit) result) (sym none)
      (λ s has w at left apart keeps. let it = performs s has w at left apart keeps in record { world = it.world; at = it.at; is = it.is; left = it.stands; keeps = it.keeps })

  -- behind room that came to the journal
  pub ends_kept : (t new : Stored) (doubt : Option Doubt) (k k' k'' : Option TierJournal) (d d' : D) (id : SessionId) (result : Result Reply Refused) → StaysKept k k' → EndsInOver state possible t new doubt k' k'' d d' id (Executes statement.Commit) result
      → EndsInOver state possible t new doubt k k'' d d' id (Executes statement.Commit) result
  ends_kept t new doubt k k' k'' d d' id result stays ends = λ s has w at left apart keeps. ends s has w at left apart (keeps_stays state possible d k k' w stays keeps)
