-- COMMIT, a write that is passed on, CREATE CACHE GROUP and DROP CACHE GROUP, where a call of the journal's disk failed.
use Rattle.std.proofs.Common.{◌≡◌, inl, inr, ℕ, Bool, true, false, Option, Some, None, Result, Ok, Err, List, [], ◌∷◌, refl, sym, ap, ◌∙◌, subst}
use Rattle.std.specs.Bool.{MatchBool}
use Rattle.row_types.specs.declared.rule.Rule.{Rule}
use Rattle.tier_base.specs.declared.code.Code.TheVariants as code
use Rattle.table_state.specs.declared.history.Sealed.{Sealed}
use Rattle.table_state.specs.declared.operation.Op.{Op}
use Rattle.outside.specs.declared.fault.BankError.{BankError}
use Rattle.outside.specs.declared.site.Applied.{Applied}
use Rattle.outside.specs.declared.site.Applied.TheVariants.{Now, Before, NotReady, Differs}
use Rattle.outside.specs.declared.site.Done.{Done as Wrote}
use Rattle.outside.specs.declared.site.Done.TheVariants.{Rows, Broken}
use Rattle.resolution.specs.Writes.{PlacedChange}
use Rattle.sql_subset.specs.declared.stmt.CreateGroup.{CreateGroup}
use Rattle.cache_tier.specs.CommitSteps.{AppliesNow, CommitsAll, CommitsLater, CommitsNow, CommitsOwn, applied_reply, committed_unsettled, is_synchronous_own, sealed_own}
use Rattle.cache_tier.specs.declared.reply.Last.TheVariants.{Done}
use Rattle.cache_tier.specs.declared.reply.Reply.{Reply}
use Rattle.cache_tier.specs.DefineSteps.{CreatesGroup, define_answer, with_new_group}
use Rattle.cache_tier.specs.Defining.{IsNewGroup}
use Rattle.cache_tier.specs.Definitions.{definition_names, text_of}
use Rattle.cache_tier.specs.DropSteps.{DropsGroup, DropsRest, drop_answer, drop_fault, without_group}
use Rattle.cache_tier.specs.Groups.{Group, definitions_of, is_writethrough}
use Rattle.cache_tier.specs.JournalSteps.{Flushes, FlushesSome, NotesKept, Records}
use Rattle.cache_tier.specs.Journals.{Commits, Defines, Drops, Numbers, Prepares}
use Rattle.cache_tier.specs.PassedSteps.{PassesOn, WritesPassed, passed_reply, with_ticket}
use Rattle.cache_tier.specs.Reading.{Answers}
use Rattle.cache_tier.specs.Rounds.{Round}
use Rattle.cache_tier.specs.StandingBetween.{Stands}
use Rattle.cache_tier.specs.Steps.{tells}
use Rattle.cache_tier.specs.TierStates.{Session, Tier, session_of}
use Rattle.cache_tier.specs.Worlds.{Becomes, Follows, IsUnshared, OnlyWhere, Then, ThenStage, Tries, Unless, World, only}
use Rattle.recovery.specs.Journalled.{AreAlike, IsJournalled, IsJournalledOn}
use Rattle.recovery.specs.Recalling.{group_of}
use Rattle.recovery.proofs.JournalledLaws.{alike_self, commits_kept}
use Rattle.recovery.proofs.OthersLaws.{one_journalled_on}
use Rattle.line_laws.specs.Keeping.{BreaksJournal, BreaksJournalOf, BreaksJournalWhere, IsBrokenOff, MayCreate, is_broken}
use Rattle.line_laws.proofs.AtOnceStatements.{prepared}
use Rattle.line_laws.proofs.BrokenParts.{TellsNever, answers_never, bank_tells, becomes_breaks, never, never_stops, off_same, off_then, on_off, some_broken, then_breaks, unless_breaks}
use Rattle.line_laws.proofs.CommitStatements.{MayGo, created, flushed_with_commit, gone, may_go}
use Rattle.line_laws.proofs.FlushLaws.{flushes_whole}
use Rattle.line_laws.proofs.PartWords.{unshared_still}
use Rattle.line_laws.proofs.PassedStatements.{number_flushed}
use Rattle.line_laws.proofs.RoundLaws.{Rounded, round_leaves}

-- ---- COMMIT of asynchronous writes

records_broken : (s : Session) (w mid : World) (early : List Sealed) (stop : Option Reply) → Stands w → IsJournalled w early → session_of w.tier s.label ≡ Some s → (durable : Bool) → Records durable (Commits (sealed_own w.tier s)) w mid stop → is_broken stop ≡ true → IsBrokenOff mid early
records_broken s w mid early stop stands j there false q bad = by w.journal.kept q
  where
    by : (b : Bool) → OnlyWhere b (NotesKept (Commits (sealed_own w.tier s))) w mid stop → IsBrokenOff mid early
    by true n = never_stops mid early stop None n.1 refl bad
    by false n = never_stops mid early stop None n.1 refl bad
records_broken s w mid early stop stands j there true q bad = record {
  tier = committed_unsettled (sealed_own w.tier s) s.label mid.tier;
  on = flushed_with_commit s w mid early j (commits_kept w early s stands j there) (flushes_whole (Commits (sealed_own w.tier s) ∷ []) w mid stop j.kept q);
}

pub commits_later_broken : (s : Session) → BreaksJournalOf s (CommitsLater s)
commits_later_broken s w w' early reply stands j apart there q bad =
    unless_breaks _ (Then (Records s.durable (Commits (sealed_own w.tier s))) (Answers (λ mid. (committed_unsettled (sealed_own w.tier s) s.label mid.tier, only (Done w.tier.next))))) w w' early reply
    (λ t. then_breaks (Records s.durable (Commits (sealed_own w.tier s))) (Answers (λ mid. (committed_unsettled (sealed_own w.tier s) s.label mid.tier, only (Done w.tier.next)))) w w' early reply
    (answers_never (λ mid. (committed_unsettled (sealed_own w.tier s) s.label mid.tier, only (Done w.tier.next))) (λ x. refl))
    (λ mid stop first broken. records_broken s w mid early stop stands j there s.durable first broken) t bad) q bad

-- ---- COMMIT of synchronous ones

applied_tells : (x : Sealed) (result : Result Applied BankError) (t : Tier) → tells code.JournalFault (applied_reply x result t).last ≡ false
applied_tells x (Ok (Now receipt)) t = refl
applied_tells x (Ok (Before receipt)) t = refl
applied_tells x (Ok (NotReady ticket)) t = refl
applied_tells x (Ok (Differs table key row)) t = refl
applied_tells x (Err e) t = bank_tells e

applies_never : (x : Sealed) (label : List ℕ) → TellsNever (AppliesNow x label)
applies_never x label w w' reply q = ap (λ (r : Reply). tells code.JournalFault r.last) q.answer ∙ applied_tells x q.result w.tier

-- the ticket is drawn, and the journal has what may be there
drawn : (w mid : World) (early : List Sealed) → mid.history ≡ w.history → mid.shared ≡ w.shared → IsJournalledOn (record w { tier = with_ticket w.tier; journal = mid.journal }) early → IsBrokenOff mid early
drawn w mid early history shared on = record {
  tier = with_ticket w.tier;
  on = one_journalled_on (record w { tier = with_ticket w.tier; journal = mid.journal }) (record mid { tier = with_ticket w.tier }) early (record { tier = refl; history = history; journal = refl; shared = shared }) on;
}

pub commits_now_broken : (s : Session) → BreaksJournalOf s (CommitsNow s)
commits_now_broken s w w' early reply stands j apart there q bad =
    unless_breaks _ (Then (ThenStage (Flushes (Prepares (sealed_own w.tier s) ∷ [])) (Becomes (λ mid. with_ticket mid.tier))) (AppliesNow (sealed_own w.tier s) s.label)) w w' early reply
    (λ t. then_breaks (ThenStage (Flushes (Prepares (sealed_own w.tier s) ∷ [])) (Becomes (λ mid. with_ticket mid.tier))) (AppliesNow (sealed_own w.tier s) s.label) w w' early reply (applies_never (sealed_own w.tier s) s.label)
    (λ mid stop first broken. becomes_breaks (Flushes (Prepares (sealed_own w.tier s) ∷ [])) (λ x. with_ticket x.tier) w mid early stop flushed first broken) t bad) q bad
  where
    flushed : (mid : World) (stop : Option Reply) → Flushes (Prepares (sealed_own w.tier s) ∷ []) w mid stop → is_broken stop ≡ true → IsBrokenOff mid early
    flushed mid stop f broken =
        let is = flushes_whole (Prepares (sealed_own w.tier s) ∷ []) w mid stop j.kept f in
        drawn w mid early is.history is.shared (prepared s w mid early stands j there is)

-- of either kind
pub commits_broken : (s : Session) → BreaksJournalOf s (CommitsAll s)
commits_broken s w w' early reply stands j apart there q bad = by s.own q
  where
    by : (own : List Op) → CommitsOwn s own w w' reply → IsBrokenOff w' early
    by [] q = never w' early reply _ q.1 refl bad
    by (op ∷ ops) q = kind (is_synchronous_own w.tier s) q
      where
        kind : (b : Bool) → MatchBool b (CommitsNow s w w' reply) (CommitsLater s w w' reply) → IsBrokenOff w' early
        kind true q = commits_now_broken s w w' early reply stands j apart there q bad
        kind false q = commits_later_broken s w w' early reply stands j apart there q bad

-- ---- a write that is passed on

pub passed_tells : (result : Result Wrote BankError) → tells code.JournalFault (passed_reply result).last ≡ false
passed_tells (Ok (Rows n)) = refl
passed_tells (Ok (Broken rule)) = refl
passed_tells (Err e) = bank_tells e

passed_never : (s : Session) (ticket : ℕ) (placed : PlacedChange) → TellsNever (WritesPassed s ticket placed)
passed_never s ticket placed w w' reply q = ap (λ (r : Reply). tells code.JournalFault r.last) q.answer ∙ passed_tells q.result

pub passes_on_broken : (s : Session) (placed : PlacedChange) → BreaksJournal (PassesOn s placed)
passes_on_broken s placed w w' early reply stands j apart q bad =
    unless_breaks _ (Then (ThenStage (Flushes (Numbers w.tier.next ∷ [])) (Becomes (λ mid. with_ticket mid.tier))) (WritesPassed s w.tier.next placed)) w w' early reply
    (λ t. then_breaks (ThenStage (Flushes (Numbers w.tier.next ∷ [])) (Becomes (λ mid. with_ticket mid.tier))) (WritesPassed s w.tier.next placed) w w' early reply (passed_never s w.tier.next placed)
    (λ mid stop first broken. becomes_breaks (Flushes (Numbers w.tier.next ∷ [])) (λ x. with_ticket x.tier) w mid early stop flushed first broken) t bad) q bad
  where
    flushed : (mid : World) (stop : Option Reply) → Flushes (Numbers w.tier.next ∷ []) w mid stop → is_broken stop ≡ true → IsBrokenOff mid early
    flushed mid stop f broken =
        let is = flushes_whole (Numbers w.tier.next ∷ []) w mid stop j.kept f in
        drawn w mid early is.history is.shared (number_flushed w mid early stands j is)

-- ---- CREATE

-- where the group that would come is one that may come
pub creates_made_broken : (d : CreateGroup) (w w' : World) (early : List Sealed) (reply : Reply) → Stands w → IsJournalled w early → definition_names w.tier.schema (definitions_of w.tier.groups) d ≡ None → (q : CreatesGroup d w w' reply)
    → IsNewGroup w (group_of w.tier d q.tree) → tells code.JournalFault reply.last ≡ true → IsBrokenOff w' early
creates_made_broken d w w' early reply stands j names q new bad =
    unless_breaks _ (Then (Flushes (Defines d (text_of d) ∷ [])) (Answers (define_answer d q.tree))) w w' early reply
    (λ t. then_breaks (Flushes (Defines d (text_of d) ∷ [])) (Answers (define_answer d q.tree)) w w' early reply (answers_never (define_answer d q.tree) (λ x. refl)) flushed t bad) q.does bad
  where
    flushed : (mid : World) (stop : Option Reply) → Flushes (Defines d (text_of d) ∷ []) w mid stop → is_broken stop ≡ true → IsBrokenOff mid early
    flushed mid stop f broken = record { tier = with_new_group d q.tree mid.tier; on = created d q.tree w mid early stands j names new q.is (flushes_whole (Defines d (text_of d) ∷ []) w mid stop j.kept f) }

pub creates_broken : (d : CreateGroup) → BreaksJournalWhere (MayCreate d) (CreatesGroup d)
creates_broken d w w' early reply stands j apart may q bad = creates_made_broken d w w' early reply stands j may.names q (may.new q.tree q.is) bad

-- ---- DROP

drops_rest_broken : (s : Session) (place : ℕ) (g : Group) (w w' : World) (early : List Sealed) (reply : Reply) → IsJournalled w early → IsUnshared w → MayGo s place g w → DropsRest s g w w' reply → tells code.JournalFault reply.last ≡ true → IsBrokenOff w' early
drops_rest_broken s place g w w' early reply j apart may q bad = by (drop_fault s g w) refl q
  where
    by : (o : Option Rule) → drop_fault s g w ≡ o → Unless o (Then (FlushesSome (Drops g.def.name ∷ [])) (Answers (drop_answer g.def.name))) w w' reply → IsBrokenOff w' early
    by (Some rule) e q = never w' early reply _ q.1 refl bad
    by None e t =
        then_breaks (FlushesSome (Drops g.def.name ∷ [])) (Answers (drop_answer g.def.name)) w w' early reply (answers_never (drop_answer g.def.name) (λ x. refl))
        (λ mid stop first broken. record { tier = without_group g.def.name mid.tier; on = gone s place g w mid early j apart may e (some_broken (Drops g.def.name ∷ []) w mid stop j.kept first broken) }) t bad

pub drops_broken : (s : Session) (name : List ℕ) → s.own ≡ [] → BreaksJournalOf s (DropsGroup s name)
drops_broken s name rests w w' early reply stands j apart session q bad = by (is_writethrough q.group) refl q.does
  where
    by : (b : Bool) → is_writethrough q.group ≡ b → MatchBool b (Then Round (Tries (DropsRest s q.group)) w w' reply) (DropsRest s q.group w w' reply) → IsBrokenOff w' early
    by false e d = drops_rest_broken s q.place q.group w w' early reply j apart (record { stands = stands; session = session; rests = rests; there = q.is; settled = λ t. (let so : false ≡ true = sym e ∙ t in Prim.cc) }) d bad
    by true e t = go t.stop t.first t.next
      where
        go : (stop : Option Reply) → Round w t.mid stop → Follows stop (Tries (DropsRest s q.group)) t.mid w' reply → IsBrokenOff w' early
        go (Some r) first next = off_same t.mid w' early next.0 (on_off t.mid early (round_leaves w t.mid early (Some r) stands j apart first).0.on)
        go None first next = off_then w' early r.on.now r.on.more r.on.grows (last next)
          where
            g : Rounded w t.mid early × (t.mid.tier.unsettled ≡ [])
            g = let x = round_leaves w t.mid early None stands j apart first in (x.0, x.1 refl)

            r : Rounded w t.mid early
            r = g.0

            last : Tries (DropsRest s q.group) t.mid w' reply → IsBrokenOff w' r.on.now
            last (inl d) = drops_rest_broken s q.place q.group t.mid w' r.on.now reply r.on.is (unshared_still w t.mid apart r.shared (subst (λ (x : Tier). AreAlike w.tier.groups x.groups) (sym r.tier) (alike_self w.tier.groups)))
                (may_go s q.place q.group w t.mid early session rests q.is r (λ e. g.1)) d bad
            last (inr d) = never w' r.on.now reply _ d.1 refl bad
