-- What an engine was left in, and what a line makes of it.
use Rattle.std.proofs.Common.{◌+◌, ◌≡◌, ◌∙◌, ◌≤◌, ◌-◌, ◌^◌, ℕ, false, Option, Some, None, Result, Ok, Err, List, [], ◌++◌, length, refl, sym, ap, subst, arith}
use Rattle.tier_base.specs.declared.code.Code.TheVariants as code
use Rattle.tier_base.specs.declared.number.SessionId.{SessionId}
use Rattle.row_types.specs.declared.rule.Refused.{Refused}
use Rattle.sql_subset.specs.declared.stmt.Stmt.{Stmt}
use Rattle.outside.specs.Sites.{SiteState}
use Rattle.outside.specs.declared.fault.BankError.{BankError}
use Rattle.outside.specs.declared.fault.BankError.TheVariants.{Failed, Memory}
use Rattle.cache_tier.specs.DueWork.{DueDoubt, DueWork}
use Rattle.cache_tier.specs.PassedSteps.{with_ticket}
use Rattle.cache_tier.specs.TierStates.{Tier}
use Rattle.cache_tier.specs.Worlds.{World, bank_fault, only}
use Rattle.cache_tier.specs.declared.reply.Note.{Note}
use Rattle.cache_tier.specs.declared.reply.Reply.{Reply}
use Rattle.stored_tier.specs.declared.tier.Tier.{Tier as Stored}
use Rattle.outside.specs.Holding.{Held}
use Rattle.propagators.specs.Certainty.{KeepsCertain}
use Rattle.tier_journal.specs.declared.journal.TierJournal.{TierJournal}
use Rattle.tier_journal.specs.KeptOver.{is_broken}
use Rattle.tier_journal.proofs.WayLaws.{kept_unless_told}
use Rattle.cache_tier.specs.TierStates.{Session}
use Rattle.stored_tier.specs.Performing.{Executes, ExecutesUnwritten, PerformsIn, PerformsInOver, PerformsOver, StandsFor, StaysWritten, reply_of}
use Rattle.stored_tier.proofs.OverLaws.{over_so}
use Rattle.stored_tier.specs.Stored.{IsStoredAs}
use Rattle.session_engine.specs.Doubting.{EndsInOver, EndsOver, IsEndedOver, IsInDoubt, IsLeft, Leads, LeadsOver}
use Rattle.session_engine.specs.Settling.{IsAsked, told_of}
use Rattle.session_engine.specs.declared.doubt.Doubt.{Doubt}
use Rattle.session_engine.specs.declared.doubt.Doubted.{Doubted}
use Rattle.session_engine.specs.declared.doubt.Doubted.TheVariants.{Commit, PassedWrite}
use Rattle.session_engine.proofs.DoubtLaws.{stored_drawn}
use Rattle.order_laws.specs.Commits.{KeepsCommitOrder}
use Rattle.cache_tier.specs.StandingBetween.{AreReadAt, Stands}
use Rattle.session_engine.proofs.LegalLaws.{legal_of}
use Rattle.cache_engine.specs.declared.engine.Engine.{Engine}
use Rattle.cache_engine.specs.Engines.{IsLeftIn}
use Rattle.cache_engine.specs.Due.{IsDueCaused}
use Rattle.cache_engine.specs.DueItems.{DoesItem, DueRest, Footing, due_of, notes_since, over}
use Rattle.cache_engine.proofs.DueItemLaws.{caused_both, rose_with}
use Rattle.cache_engine.proofs.StillLaws.{doubt_still, leads_still, over_still, quiet_still, refused_still}
use Rattle.propagators.proofs.CertainLaws.{same_certain}
use Rattle.sql_subset.specs.declared.stmt.OfGroup.{OfGroup}
use Rattle.sql_subset.specs.declared.stmt.Stmt.TheVariants as statement
use Rattle.cache_tier.specs.Order.{refusal}
use Rattle.cache_tier.specs.CommitSteps.{ends}
use Rattle.cache_tier.specs.declared.reply.Last.TheVariants.{Done}
use Rattle.cache_engine.proofs.DueLaws.{doubt_keeps, labels_of, still_unshared}

-- NOTHING IS IN DOUBT BEHIND IT

module _ {D : Type 0} (state : D → SiteState) (possible : D → ℕ → Held → Type 0) where
  -- what is done by a tier that stands then, too
  pub ended : (old new : Stored) (doubt : Option Doubt) (k k' : Option TierJournal) (d d' : D) (stop : Option Reply) (does : World → World → Type 0) → doubt ≡ None → PerformsOver state possible old new k k' d d' stop does → EndsOver state possible old new doubt k k' d d' stop does
  ended old new doubt k k' d d' stop does none p w at stands apart keeps =
      let it = p w at stands apart keeps in
      subst (λ o. IsEndedOver state possible new o k' d' stop (does w)) (sym none) (record { world = it.world; at = it.at; is = it.is; left = it.stands; keeps = it.keeps })

  pub ended_executes : (old new : Stored) (doubt : Option Doubt) (k k' : Option TierJournal) (d d' : D) (id : SessionId) (st : Stmt) (result : Result Reply Refused) → doubt ≡ None
      → PerformsInOver state possible old new k k' d d' id (Executes st) result → EndsInOver state possible old new doubt k k' d d' id (Executes st) result
  ended_executes old new doubt k k' d d' id st result none p s has = ended old new doubt k k' d d' (Some (reply_of result)) (λ w w'. Executes st s w w' (reply_of result)) none (p s has)

  -- a statement that writes nothing to the journal
  pub unwritten_executes : (old new : Stored) (doubt : Option Doubt) (k : Option TierJournal) (d d' : D) (id : SessionId) (st : Stmt) (result : Result Reply Refused) → doubt ≡ None → KeepsCertain state possible d d'
      → PerformsIn old new (state d) (state d') id (ExecutesUnwritten st) result → EndsInOver state possible old new doubt k k d d' id (Executes st) result
  unwritten_executes old new doubt k d d' id st result none certain p s has =
      ended old new doubt k k d d' (Some (reply_of result)) (λ w w'. Executes st s w w' (reply_of result)) none
      (over_so state possible old new k k d d' (Some (reply_of result)) (λ w w'. ExecutesUnwritten st s w w' (reply_of result)) (λ w w'. Executes st s w w' (reply_of result)) (λ w w' stands did. did.0)
      (over_still state possible old new k d d' (Some (reply_of result)) (λ w w'. ExecutesUnwritten st s w w' (reply_of result)) certain (λ w w' did. did.1) (p s has)))

  -- or of which the abstract tier says so
  pub still_executes : (old new : Stored) (doubt : Option Doubt) (k : Option TierJournal) (d d' : D) (id : SessionId) (st : Stmt) (result : Result Reply Refused) → doubt ≡ None → KeepsCertain state possible d d' → ((s : Session) (w w' : World) → Executes st s w w' (reply_of result) → StaysWritten w w')
      → PerformsIn old new (state d) (state d') id (Executes st) result → EndsInOver state possible old new doubt k k d d' id (Executes st) result
  still_executes old new doubt k d d' id st result none certain still p s has =
      ended old new doubt k k d d' (Some (reply_of result)) (λ w w'. Executes st s w w' (reply_of result)) none
      (over_still state possible old new k d d' (Some (reply_of result)) (λ w w'. Executes st s w w' (reply_of result)) certain (still s) (p s has))

  -- FLUSH is refused at any rate
  pub flush_executes : (old new : Stored) (doubt : Option Doubt) (k : Option TierJournal) (d : D) (id : SessionId) (u : OfGroup) (result : Result Reply Refused) → doubt ≡ None
      → PerformsIn old new (state d) (state d) id (Executes (statement.Flush u)) result → EndsInOver state possible old new doubt k k d d id (Executes (statement.Flush u)) result
  flush_executes old new doubt k d id u result none p =
      still_executes old new doubt k d d id (statement.Flush u) result none (same_certain state possible d)
      (λ s w w' did. refused_still (refusal w.tier s (statement.Flush u)) w w' (reply_of result) did) p

  pub roll_back_executes : (old new : Stored) (doubt : Option Doubt) (k : Option TierJournal) (d : D) (id : SessionId) (result : Result Reply Refused) → doubt ≡ None
      → PerformsIn old new (state d) (state d) id (Executes statement.Rollback) result → EndsInOver state possible old new doubt k k d d id (Executes statement.Rollback) result
  roll_back_executes old new doubt k d id result none p =
      still_executes old new doubt k d d id statement.Rollback result none (same_certain state possible d)
      (λ s w w' did. quiet_still (refusal w.tier s statement.Rollback) (ends s w.tier, only (Done 0)) w w' (reply_of result) refl did) p

  -- it was left in some way before
  pub led_to : (old new : Stored) (was doubt : Option Doubt) (k k' : Option TierJournal) (d d' : D) (stop : Option Reply) (does : World → World → Type 0) → doubt ≡ None → LeadsOver state possible old was new None k k' d d' stop does → LeadsOver state possible old was new doubt k k' d d' stop does
  led_to old new was doubt k k' d d' stop does none p = subst (λ o. LeadsOver state possible old was new o k k' d d' stop does) (sym none) p

  pub led_none : (old new : Stored) (was doubt : Option Doubt) (k k' : Option TierJournal) (d d' : D) (stop : Option Reply) (does : World → World → Type 0) → doubt ≡ None → LeadsOver state possible old was new doubt k k' d d' stop does → LeadsOver state possible old was new None k k' d d' stop does
  led_none old new was doubt k k' d d' stop does none p = subst (λ o. LeadsOver state possible old was new o k k' d d' stop does) none p

  -- the same of another part that these worlds meet
  pub led : (old new : Stored) (was doubt : Option Doubt) (k k' : Option TierJournal) (d d' : D) (stop told : Option Reply) (one other : World → World → Type 0) → (is_broken told ≡ false → is_broken stop ≡ false) → ((w w' : World) → IsLeft old was w → one w w' → other w w')
      → LeadsOver state possible old was new doubt k k' d d' stop one → LeadsOver state possible old was new doubt k k' d d' told other
  led old new was doubt k k' d d' stop told one other whole so p w at left apart keeps =
      let it = p w at left apart keeps in
      record { world = it.world; at = it.at; is = so w it.world left it.is; left = λ same. it.left (whole same); keeps = kept_unless_told whole it.keeps }

-- THE TIER OF A WORLD IN WHICH IT WAS LEFT SO

-- a tier that is stored so has the same sessions, and the same additions to the clock
pub record IsStoredLike (t : Stored) (w : World) : Type 0 where
  pub tier : Tier
  pub stored : IsStoredAs t tier
  pub sessions : labels_of w.tier.sessions ≡ labels_of tier.sessions
  pub added : w.tier.added ≡ tier.added

pub left_stored : (t : Stored) (was : Option Doubt) (w : World) → IsLeft t was w → IsStoredLike t w
left_stored t None w is = record { tier = w.tier; stored = is.stored; sessions = refl; added = refl }
left_stored t (Some d) w x = by d.of x
  where
    by : (of : Doubted) → IsInDoubt of t d w → IsStoredLike t w
    by (Commit ops) x = record {
      tier = with_ticket x.was.tier;
      stored = stored_drawn t d w x;
      sessions = ap (λ (a : Tier). labels_of a.sessions) x.tier;
      added = ap (λ (a : Tier). a.added) x.tier;
    }
    by PassedWrite x = record {
      tier = with_ticket x.was.tier;
      stored = record {
        schema = x.stands.stored.schema;
        stale = x.stands.stored.stale;
        groups = x.stands.stored.groups;
        lists = x.stands.stored.lists;
        sessions = x.stands.stored.sessions;
        unsettled = x.stands.stored.unsettled;
        next = ap (λ n. n + 1) x.stands.stored.next ∙ sym x.next;
        doubt = x.stands.stored.doubt;
        time = x.stands.stored.time;
      };
      sessions = ap (λ (a : Tier). labels_of a.sessions) x.tier;
      added = ap (λ (a : Tier). a.added) x.tier;
    }

-- WHAT IS KNOWN OF A WORLD IN WHICH IT WAS LEFT SO

pub record IsKnown (w : World) : Type 0 where
  pub legal : KeepsCommitOrder w.history w.tier.log
  pub read : AreReadAt (length w.history) w.tier.groups
  pub stands : w.tier.doubt ≡ None → Stands w

never_none : {X : Type 0} (y : X) → Some y ≡ None → ⊥
never_none y e = cc

pub known_of : (t : Stored) (doubt : Option Doubt) (w : World) → IsLeft t doubt w → IsKnown w
known_of t None w is = record { legal = legal_of w is.stands; read = is.stands.read; stands = λ none. is.stands }
known_of t (Some d) w x = by d.of x
  where
    by : (of : Doubted) → IsInDoubt of t d w → IsKnown w
    by (Commit ops) x = record {
      legal = x.legal;
      read = x.read;
      stands = λ none. absurd (never_none _ (sym (ap (λ (a : Tier). a.doubt) x.tier) ∙ none));
    }
    by PassedWrite x = record {
      legal = x.legal;
      read = x.read;
      stands = λ none. absurd (never_none _ (sym (ap (λ (a : Tier). a.doubt) x.tier) ∙ none));
    }

pub left_known : (e : Engine) (w : World) → IsLeftIn e w → IsKnown w
left_known e w is = known_of e.tier e.doubt w is.left

-- a tier that stands, with nothing in doubt
pub left_in : (e : Engine) (w : World) → e.doubt ≡ None → e.journal ≡ None → w.journal.kept ≡ false → StandsFor e.tier w → IsLeftIn e w
left_in e w none journal unkept stands = record { left = subst (λ o. IsLeft e.tier o w) (sym none) stands; journal = journal; unkept = unkept }

-- WORK THAT IS DUE

-- the doubt, and then the rest
module _ {D : Type 0} (state : D → SiteState) (possible : D → ℕ → Held → Type 0) where
  pub rest_led : (t mid new : Stored) (was : Option Doubt) (b : Footing D) (m : D) (a : Footing D) (told notes : List Note) (stop : Option Reply)
      → LeadsOver state possible t was mid None b.journal b.journal b.disk m None (λ w w'. DueDoubt w w' told None) → DoesItem state possible DueRest mid new (over b.journal m) a told notes stop
      → LeadsOver state possible t was new None b.journal a.journal b.disk a.disk stop (λ w w'. DueWork w w' notes stop)
  rest_led t mid new was b m a told notes stop first second w at left apart keeps =
      let p = first w at left apart keeps in
      let q = second.performs p.world p.at (p.left refl) (still_unshared w p.world (doubt_keeps w.tier.doubt w p.world told None p.is) apart) (p.keeps.over refl) in
      record {
        world = q.world;
        at = q.at;
        is = record { mid = p.world; before = told; behind = notes_since told notes; end = None; first = p.is; next = q.is; all = second.order };
        left = q.stands;
        keeps = q.keeps;
      }

told_alone : (earlier between told : List Note) → earlier ≡ [] → between ≡ earlier ++ told → between ≡ told
told_alone earlier between told none is = is ∙ ap (λ l. l ++ told) none

module _ {D : Type 0} (state : D → SiteState) (possible : D → ℕ → Held → Type 0) where
  pub rest_done : (t mid new : Stored) (was left : Option Doubt) (b : Footing D) (m : D) (a : Footing D) (told : Option Note) (earlier between notes : List Note) (stop : Option Reply) → left ≡ None → earlier ≡ [] → between ≡ earlier ++ told_of (Ok told) → KeepsCertain state possible b.disk m
      → Leads t was mid left (state b.disk) (state m) (λ w w'. DueDoubt w w' (told_of (Ok told)) None) → DoesItem state possible DueRest mid new (over b.journal m) a between notes stop
      → LeadsOver state possible t was new left b.journal a.journal b.disk a.disk stop (λ w w'. DueWork w w' notes stop)
  rest_done t mid new was left b m a told earlier between notes stop settled none is certain first second =
      led_to state possible t new was left b.journal a.journal b.disk a.disk stop (λ w w'. DueWork w w' notes stop) settled
      (rest_led state possible t mid new was b m a (told_of (Ok told)) notes stop
      (led_none state possible t mid was left b.journal b.journal b.disk m None (λ w w'. DueDoubt w w' (told_of (Ok told)) None) settled
      (leads_still state possible t mid was left b.journal b.disk m None (λ w w'. DueDoubt w w' (told_of (Ok told)) None) certain (λ w w' did. doubt_still w.tier.doubt w w' (told_of (Ok told)) None did) first))
      (subst (λ l. DoesItem state possible DueRest mid new (over b.journal m) a l notes stop) (told_alone earlier between (told_of (Ok told)) none is) second))

  -- a question that failed ends it
  pub doubt_led : (t new : Stored) (was doubt : Option Doubt) (k : Option TierJournal) (b a : D) (e : BankError) (notes : List Note) (end : Reply) → notes ≡ [] → end ≡ bank_fault e → KeepsCertain state possible b a
      → Leads t was new doubt (state b) (state a) (λ w w'. DueDoubt w w' [] (Some (bank_fault e))) → LeadsOver state possible t was new doubt k k b a (Some end) (λ w w'. DueWork w w' notes (Some end))
  doubt_led t new was doubt k b a e notes end none is certain first =
      led state possible t new was doubt k k b a (Some (bank_fault e)) (Some end) (λ w w'. DueDoubt w w' [] (Some (bank_fault e))) (λ w w'. DueWork w w' notes (Some end))
      (λ whole. ap (λ (r : Reply). is_broken (Some r)) (sym is) ∙ whole)
      (λ w w' left did.
      subst (λ l. DueWork w w' l (Some end)) (sym none)
      (subst (λ r. DueWork w w' [] (Some r)) (sym is)
      (record { mid = w'; before = []; behind = []; end = Some (bank_fault e); first = did; next = (refl, refl, refl); all = refl })))
      (leads_still state possible t new was doubt k b a (Some (bank_fault e)) (λ w w'. DueDoubt w w' [] (Some (bank_fault e))) certain (λ w w' did. doubt_still w.tier.doubt w w' [] (Some (bank_fault e)) did) first)

-- what is told of a doubt has its cause

asked_caused : (k : Option TierJournal) (b a : SiteState) (told : Option Note) → IsAsked b a (Ok told) → IsDueCaused k b a (due_of (told_of (Ok told)) None)
asked_caused k b a told asked =
    let none = asked.quiet code.BackingFault in
    let le = asked.cause.later in
    let disk : b.disk_faults ≤ a.disk_faults = let same = asked.cause.disk in omega (arith, same) in
    record {
      later = le;
      moment = asked.moment;
      shares = asked.cause.shared;
      slots = λ nobody. asked.slots;
      bank = (le, omega (arith, none, le));
      disk = asked.quiet code.JournalFault;
      stop = (disk, rose_with b.disk_faults 0 a.disk_faults (2 ^ 64 - 1) refl disk);
      whole = λ nobody. refl;
    }

pub rest_caused : {D : Type 0} (state : D → SiteState) (possible : D → ℕ → Held → Type 0) (mid new : Stored) (b : Footing D) (m : D) (a : Footing D) (told : Option Note) (earlier between notes : List Note) (stop : Option Reply) → earlier ≡ [] → between ≡ earlier ++ told_of (Ok told) → IsAsked (state b.disk) (state m) (Ok told)
    → DoesItem state possible DueRest mid new (over b.journal m) a between notes stop → IsDueCaused b.journal (state b.disk) (state a.disk) (due_of notes stop)
rest_caused state possible mid new b m a told earlier between notes stop none is asked does =
    let second = subst (λ l. DoesItem state possible DueRest mid new (over b.journal m) a l notes stop) (told_alone earlier between (told_of (Ok told)) none is) does in
    subst (λ l. IsDueCaused b.journal (state b.disk) (state a.disk) (due_of l stop)) (sym second.order)
    (caused_both b.journal b.journal (state b.disk) (state m) (state a.disk) (told_of (Ok told)) (notes_since (told_of (Ok told)) notes) stop (λ nobody. nobody) (asked_caused b.journal (state b.disk) (state m) told asked) second.cause)

-- and so has one that failed
pub failed_caused : (k : Option TierJournal) (b a : SiteState) (e : BankError) (notes : List Note) (end : Reply) → notes ≡ [] → end ≡ bank_fault e → IsAsked b a (Err e) → IsDueCaused k b a (due_of notes (Some end))
failed_caused k b a e notes end none is asked =
    subst (λ l. IsDueCaused k b a (due_of l (Some end))) (sym none) (subst (λ r. IsDueCaused k b a (due_of [] (Some r))) (sym is) (by e asked))
  where
    still : b.disk_faults ≤ a.disk_faults
    still = let same = asked.cause.disk in omega (arith, same)

    by : (e : BankError) → IsAsked b a (Err e) → IsDueCaused k b a (due_of [] (Some (bank_fault e)))
    by Failed asked = record {
      later = asked.cause.later;
      moment = asked.moment;
      shares = asked.cause.shared;
      slots = λ nobody. asked.slots;
      bank = (asked.cause.later, asked.cause.failed refl);
      disk = refl;
      stop = (still, rose_with b.disk_faults 0 a.disk_faults (2 ^ 64 - 1) refl still);
      whole = λ nobody. refl;
    }
    by Memory asked = record {
      later = asked.cause.later;
      moment = asked.moment;
      shares = asked.cause.shared;
      slots = λ nobody. asked.slots;
      bank = (asked.cause.later, rose_with b.bank_faults 0 a.bank_faults (2 ^ 64 - 1) refl asked.cause.later);
      disk = refl;
      stop = (still, rose_with b.disk_faults 0 a.disk_faults (2 ^ 64 - 1) refl still);
      whole = λ nobody. refl;
    }
