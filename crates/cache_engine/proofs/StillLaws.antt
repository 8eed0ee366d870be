-- What writes nothing to the journal, and where it is kept behind it.
use Rattle.std.proofs.Common.{◌≡◌, ℕ, Bool, true, false, Option, Some, None, List, Result, Ok, Err, refl, sym, ap, subst, ◌∙◌, inl, inr}
use Rattle.row_types.specs.declared.rule.Rule.{Rule}
use Rattle.table_defs.specs.declared.definition.TableDef.{TableDef}
use Rattle.outside.specs.Holding.{Held}
use Rattle.outside.specs.Sites.{SiteState}
use Rattle.outside.specs.declared.fault.BankError.{BankError}
use Rattle.propagators.specs.Certainty.{KeepsCertain}
use Rattle.tier_journal.specs.declared.journal.TierJournal.{TierJournal}
use Rattle.tier_journal.specs.Keeping.{Keeps}
use Rattle.tier_journal.proofs.KeepLaws.{kept_grown}
use Rattle.tier_journal.specs.KeptOver.{KeepsOver}
use Rattle.tier_journal.specs.Drafts.{StaysKept}
use Rattle.sql_subset.specs.declared.request.ConsoleRequest.{ConsoleRequest}
use Rattle.sql_subset.specs.declared.request.ConsoleRequest.TheVariants as console
use Rattle.sql_subset.specs.declared.request.Line.{Line}
use Rattle.cache_tier.specs.ConsoleSteps.{Asked, AsksSchema, Creates, DoesConsole, WritesAll, asks_schema}
use Rattle.cache_tier.specs.DoubtSteps.{SettlesDoubt, settled, settled_committed, settled_rolled_back, stood}
use Rattle.cache_tier.specs.Reading.{StageFollowsAt, backing_at}
use Rattle.cache_tier.specs.Sets.{RefreshesIfShown, RefreshesSet, of_set, refreshed, shows_something}
use Rattle.cache_tier.specs.TierStates.{ACommit, APassedWrite, Doubt, Doubted, Tier}
use Rattle.cache_tier.specs.Worlds.{Answer, Becomes, OnlyWhere, Part, Quiet, Stage, Tries, Unless, World}
use Rattle.cache_tier.specs.declared.reply.Note.{Note}
use Rattle.cache_tier.specs.declared.reply.Reply.{Reply}
use Rattle.stored_tier.specs.declared.tier.Tier.{Tier as Stored}
use Rattle.stored_tier.specs.Performing.{Performs, PerformsOver, StaysWritten}
use Rattle.stored_tier.specs.Sites.{IsAt}
use Rattle.stored_tier.proofs.OverLaws.{keeps_called, over_quiet}
use Rattle.stored_tier.proofs.WayLaws.{at_history_of, grown_leaves}
use Rattle.session_engine.specs.Doubting.{Leads, LeadsOver}
use Rattle.session_engine.specs.declared.doubt.Doubt as kept
use Rattle.tier_journal.specs.Ways.{HasBecome}
use Rattle.tier_journal.proofs.WayLaws.{kept_unless}

-- the journal and the schema stay

pub still_same : (w w' : World) → w' ≡ w → StaysWritten w w'
still_same w w' e = record { journal = ap (λ (x : World). x.journal) e; schema = ap (λ (x : World). x.tier.schema) e }

pub still_on : (a b c : World) → StaysWritten a b → StaysWritten b c → StaysWritten a c
still_on a b c p q = record { journal = q.journal ∙ p.journal; schema = q.schema ∙ p.schema }

still_tier : (w w' : World) (t : Tier) → w'.journal ≡ w.journal → w'.tier ≡ t → t.schema ≡ w.tier.schema → StaysWritten w w'
still_tier w w' t journal is schema = record { journal = journal; schema = ap (λ (x : Tier). x.schema) is ∙ schema }

where_still : (stage : Stage) (w w' : World) (stop : Option Reply) → ((a b : World) (end : Option Reply) → stage a b end → StaysWritten a b) → (wanted : Bool) → OnlyWhere wanted stage w w' stop → StaysWritten w w'
where_still stage w w' stop still true p = still w w' stop p
where_still stage w w' stop still false p = still_same w w' p.0

-- a quiet answer
pub quiet_still : (f : Option Rule) (answer : Answer) (w w' : World) (reply : Reply) → answer.0.schema ≡ w.tier.schema → Tries (Unless f (Quiet answer)) w w' reply → StaysWritten w w'
quiet_still None answer w w' reply schema (inl p) = still_on w (record w { tier = answer.0 }) w' (record { journal = refl; schema = schema }) (still_same (record w { tier = answer.0 }) w' p.0)
quiet_still (Some rule) answer w w' reply schema (inl p) = still_on w (record w { tier = w.tier }) w' (record { journal = refl; schema = refl }) (still_same (record w { tier = w.tier }) w' p.0)
quiet_still f answer w w' reply schema (inr p) = still_same w w' p.0

-- what is refused at any rate
pub refused_still : (f : Option Rule) (w w' : World) (reply : Reply) → Tries (Unless f (λ x x' r. ⊥)) w w' reply → StaysWritten w w'
refused_still None w w' reply (inl p) = absurd p
refused_still (Some rule) w w' reply (inl p) = still_on w (record w { tier = w.tier }) w' (record { journal = refl; schema = refl }) (still_same (record w { tier = w.tier }) w' p.0)
refused_still f w w' reply (inr p) = still_same w w' p.0

-- a refresh of a set
read_still : (interval : ℕ) (result : Result ℕ BankError) (w w' : World) (stop : Option Reply) → StageFollowsAt result (λ n. Becomes (λ x. refreshed (of_set interval None) n (backing_at x n) x.tier)) w w' stop → StaysWritten w w'
read_still interval (Err e) w w' stop p = still_same w w' p.0
read_still interval (Ok n) w w' stop (inl p) =
    let t = refreshed (of_set interval None) n (backing_at w n) w.tier in
    still_on w (record w { tier = t }) w' (record { journal = refl; schema = refl }) (still_same (record w { tier = t }) w' p.0)
read_still interval (Ok n) w w' stop (inr p) = still_same w w' p.0

pub refresh_still : (interval : ℕ) (w w' : World) (stop : Option Reply) → RefreshesIfShown interval w w' stop → StaysWritten w w'
refresh_still interval w w' stop p =
    where_still (RefreshesSet interval) w w' stop
    (λ a b end q. still_on a q.mid b (still_tier a q.mid _ (q.call).journal q.tier refl) (read_still interval q.result q.mid b end q.goes_on))
    (shows_something interval w.tier.groups) p

-- a doubt
committed_still : (of : Doubted) (d : Doubt) (w w' : World) → w'.journal ≡ w.journal → w'.tier ≡ settled_committed of (stood d w'.history) d.session w.tier → StaysWritten w w'
committed_still ACommit d w w' journal tier = still_tier w w' _ journal tier refl
committed_still APassedWrite d w w' journal tier = still_tier w w' _ journal tier refl

rolled_back_still : (of : Doubted) (d : Doubt) (w w' : World) → w'.journal ≡ w.journal → w'.tier ≡ settled_rolled_back of d.session w.tier → StaysWritten w w'
rolled_back_still ACommit d w w' journal tier = still_tier w w' _ journal tier refl
rolled_back_still APassedWrite d w w' journal tier = still_tier w w' _ journal tier refl

pub doubt_still : (d : Option Doubt) (w w' : World) (notes : List Note) (stop : Option Reply) → SettlesDoubt d w w' notes stop → StaysWritten w w'
doubt_still None w w' notes stop p = still_same w w' p.0
doubt_still (Some d) w w' notes stop p = by p.result p.tier
  where
    by : (result : Result Bool BankError) → w'.tier ≡ settled d w'.history result w.tier → StaysWritten w w'
    by (Ok true) tier = committed_still d.of d w w' (p.call).journal tier
    by (Ok false) tier = rolled_back_still d.of d w w' (p.call).journal tier
    by (Err e) tier = still_tier w w' w.tier (p.call).journal tier refl

-- the journal stays where the schema may grow

pub asked_journal : (l : Line) (w w' : World) (stop : Option Reply) → AsksSchema l w w' stop → w'.journal ≡ w.journal
asked_journal l w w' stop p = by (asks_schema w.tier l) p
  where
    by : (asks : Bool) → OnlyWhere asks Asked w w' stop → w'.journal ≡ w.journal
    by true q = (q.call).journal
    by false q = ap (λ (x : World). x.journal) q.0

creates_journal : (f : Option Rule) (def : TableDef) (w w' : World) (reply : Reply) → Unless f (Creates def) w w' reply → w'.journal ≡ w.journal
creates_journal None def w w' reply p = (p.call).journal
creates_journal (Some rule) def w w' reply p = ap (λ (x : World). x.journal) p.0

writes_journal : (f : Option Rule) (part : Part) (w w' : World) (reply : Reply) → (part w w' reply → w'.journal ≡ w.journal) → Unless f part w w' reply → w'.journal ≡ w.journal
writes_journal None part w w' reply so p = so p
writes_journal (Some rule) part w w' reply so p = ap (λ (x : World). x.journal) p.0

pub console_journal : (request : ConsoleRequest) (w w' : World) (reply : Reply) → Tries (DoesConsole request) w w' reply → w'.journal ≡ w.journal
console_journal (console.CreateTable d) w w' reply (inl p) = creates_journal _ _ w w' reply p
console_journal (console.Writes writes) w w' reply (inl p) = writes_journal _ (WritesAll writes) w w' reply (λ q. (q.call).journal) p
console_journal request w w' reply (inr p) = ap (λ (x : World). x.journal) p.0

-- where the journal is kept

module _ {D : Type 0} (state : D → SiteState) (possible : D → ℕ → Held → Type 0) where
  -- under a schema that has grown
  keeps_grown : (k : Option TierJournal) (d d' : D) (w w' : World) → KeepsOver state possible d k w → KeepsCertain state possible d d' → w'.journal ≡ w.journal → HasBecome w.tier.schema w'.tier.schema → IsAt (state d') w' → KeepsOver state possible d' k w'
  keeps_grown None d d' w w' keeps certain journal grows at = ap (λ j. j.kept) journal ∙ keeps
  keeps_grown (Some t) d d' w w' keeps certain journal grows at =
      let c = certain keeps.there keeps.certain in
      record {
        there = c.now;
        certain = c.certain;
        keeps = subst (λ s. Keeps s t c.now.slots w'.journal) (sym grows.is)
            (kept_grown w.tier.schema grows.more t c.now.slots w'.journal
            (subst (λ j. Keeps w.tier.schema t c.now.slots j) (sym journal)
            (subst (λ s. Keeps w.tier.schema t s w.journal) (sym c.slots) keeps.keeps)));
        version = keeps.version;
        leaves =
            grown_leaves state possible d d' t w w' keeps.there keeps.keeps c (at_history_of (state d') w' c.now at c.certain.told) journal
            (record { more = grows.more; is = grows.is }) keeps.leaves;
      }

  -- a stage or a part that writes nothing, where the schema may grow
  pub over_grown : (old new : Stored) (k : Option TierJournal) (d d' : D) (stop : Option Reply) (does : World → World → Type 0) → KeepsCertain state possible d d' → HasBecome old.schema new.schema → ((w w' : World) → does w w' → w'.journal ≡ w.journal) → Performs old new (state d) (state d') does
      → PerformsOver state possible old new k k d d' stop does
  over_grown old new k d d' stop does certain grows still performs w at stands apart keeps =
      let it = performs w at stands apart in
      let from = subst (λ s. HasBecome s new.schema) (sym stands.stored.schema) grows in
      let to = subst (λ s. HasBecome w.tier.schema s) (sym it.stands.stored.schema) from in
      record {
        world = it.world;
        at = it.at;
        is = it.is;
        stands = λ whole. it.stands;
        keeps = kept_unless (keeps_grown k d d' w it.world keeps certain (still w it.world it.is) to it.at);
      }

  -- a journal to which nothing was done
  pub stays_kept : (k : Option TierJournal) → StaysKept k k
  stays_kept None = tt
  stays_kept (Some t) = record {
    keeps = λ schema slots j keeps. keeps;
    same = record { tail = refl; slot = refl; generation = refl; version = refl; standing = refl };
  }

  pub over_still : (old new : Stored) (k : Option TierJournal) (d d' : D) (stop : Option Reply) (does : World → World → Type 0) → KeepsCertain state possible d d' → ((w w' : World) → does w w' → StaysWritten w w') → Performs old new (state d) (state d') does
      → PerformsOver state possible old new k k d d' stop does
  over_still old new k d d' stop does certain still performs =
      over_quiet state possible old new k k d d' stop does (stays_kept k) certain still performs

  -- a doubt that is settled, or not
  pub leads_still : (old new : Stored) (was doubt : Option kept.Doubt) (k : Option TierJournal) (d d' : D) (stop : Option Reply) (does : World → World → Type 0) → KeepsCertain state possible d d' → ((w w' : World) → does w w' → StaysWritten w w') → Leads old was new doubt (state d) (state d') does
      → LeadsOver state possible old was new doubt k k d d' stop does
  leads_still old new was doubt k d d' stop does certain still leads w at left apart keeps =
      let it = leads w at left apart in
      let same = still w it.world it.is in
      record {
        world = it.world;
        at = it.at;
        is = it.is;
        left = λ whole. it.left;
        keeps = kept_unless (keeps_called state possible k d d' w it.world keeps certain same.journal same.schema it.at);
      }
