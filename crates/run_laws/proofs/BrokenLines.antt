-- A whole line in which a call of the journal's disk failed: the journal has what may be there.
use Rattle.std.proofs.Common.{◌≡◌, inl, inr, ℕ, Bool, true, false, Option, Some, None, List, refl, sym, ap, subst, ◌∙◌}
use Rattle.std.specs.Bool.{MatchBool}
use Rattle.tier_base.specs.declared.code.Code.TheVariants as code
use Rattle.row_types.specs.declared.rule.Rule.{Rule}
use Rattle.table_state.specs.declared.history.Sealed.{Sealed}
use Rattle.sql_subset.specs.declared.request.Line.{Line}
use Rattle.cache_tier.specs.ConsoleSteps.{AsksSchema}
use Rattle.cache_tier.specs.declared.reply.Note.{Note}
use Rattle.cache_tier.specs.declared.reply.Reply.{Reply}
use Rattle.cache_tier.specs.DueWork.{DueAging, DueDoubt, DueRound, DueSets, DueWork, ItemFollows, ThenItem}
use Rattle.cache_tier.specs.Rules.{wrong_at}
use Rattle.cache_tier.specs.Steps.{Answered, Does, GoesThrough, Heeds, Parts, Saying, Says, Silent, TooDeep, TooLong, WrongAt, early_fault, tells, with_moment}
use Rattle.cache_tier.specs.Undone.{is_undone}
use Rattle.cache_tier.specs.Worlds.{Follows, Refuses, Then, Tries, Unless, World}
use Rattle.recovery.specs.Journalled.{IsJournalled}
use Rattle.line_laws.specs.Keeping.{IsBrokenOff, is_broken}
use Rattle.line_laws.proofs.BrokenDue.{asks_broken, due_doubt_never, due_round_broken, due_sets_broken}
use Rattle.line_laws.proofs.BrokenParts.{off_then}
use Rattle.run_laws.specs.Lines.{MayBegin}
use Rattle.run_laws.specs.Runs.{StepBreaksJournal}
use Rattle.run_laws.proofs.BrokenStatements.{does_broken, never_refused, never_wants}
use Rattle.run_laws.proofs.DueLaws.{asks_ready, due_round_ready}
use Rattle.run_laws.proofs.LineLaws.{Settled, asks_none, doubt_done, due_done, moment_begins, moment_journalled}
use Rattle.run_laws.proofs.ReadyLaws.{Ready, ReadyOn}

-- ---- all that is due

due_broken : (w due : World) (early : List Sealed) (notes : List Note) (stop : Option Reply) → MayBegin w → IsJournalled w early → DueWork w due notes stop → is_broken stop ≡ true → IsBrokenOff due early
due_broken w due early notes stop m j q broken = first q.end q.first q.next
  where
    first : (end : Option Reply) → DueDoubt w q.mid q.before end → ItemFollows end (ThenItem DueRound (ThenItem DueSets DueAging)) q.mid due q.behind stop → IsBrokenOff due early
    first (Some e) d next =
        let bad : false ≡ true = sym (due_doubt_never w q.mid q.before (Some e) d) ∙ ap is_broken (sym next.2) ∙ broken in
        Prim.cc
    first None d next = off_then due early a.now a.more a.grows (second next.end next.first next.next)
      where
        a : ReadyOn q.mid early
        a = (doubt_done w q.mid early q.before None m j d refl).ready refl

        second : (end : Option Reply) → DueRound q.mid next.mid next.before end → ItemFollows end (ThenItem DueSets DueAging) next.mid due next.behind stop → IsBrokenOff due a.now
        second (Some e) r more =
            subst (λ v. IsBrokenOff v a.now) (sym more.0) (due_round_broken q.mid next.mid a.now next.before (Some e) a.is.stands a.is.journalled a.is.unshared r (ap is_broken (sym more.2) ∙ broken))
        second None r more = third (due_round_ready q.mid next.mid a.now next.before None a.is r refl) more
          where
            third : (b : ReadyOn next.mid a.now) → ThenItem DueSets DueAging next.mid due next.behind stop → IsBrokenOff due a.now
            third b s = off_then due a.now b.now b.more b.grows (last s.end s.first s.next)
              where
                last : (end : Option Reply) → DueSets next.mid s.mid s.before end → ItemFollows end DueAging s.mid due s.behind stop → IsBrokenOff due b.now
                last (Some e) sets aging =
                    subst (λ v. IsBrokenOff v b.now) (sym aging.0) (due_sets_broken next.mid s.mid b.now s.before (Some e) b.is.stands b.is.journalled b.is.unshared sets (ap is_broken (sym aging.2) ∙ broken))
                last None sets aging = let bad : false ≡ true = ap is_broken (sym aging.2) ∙ broken in Prim.cc

-- ---- the line

through : (l : Line) (due w' : World) (early : List Sealed) (last : Reply) → Ready due early → Then (AsksSchema l) (Tries (Does l)) due w' last → tells code.JournalFault last.last ≡ true → IsBrokenOff w' early
through l due w' early last r q broken = by q.stop q.first q.next
  where
    by : (stop : Option Reply) → AsksSchema l due q.mid stop → Follows stop (Tries (Does l)) q.mid w' last → IsBrokenOff w' early
    by (Some e) first next =
        subst (λ v. IsBrokenOff v early) (sym next.0) (asks_broken l due q.mid early (Some e) r.journalled r.unshared first (ap (λ (x : Reply). tells code.JournalFault x.last) (sym next.1) ∙ broken))
    by None first next = off_then w' early a.now a.more a.grows (does next)
      where
        a : ReadyOn q.mid early
        a = asks_ready l due q.mid early None r first refl

        does : Tries (Does l) q.mid w' last → IsBrokenOff w' a.now
        does (inr wants) = never_wants q.mid w' a.now last wants broken
        does (inl d) = does_broken q.mid w' a.now last a.is broken l (asks_none l due q.mid first) d

goes_through : (stop : Option Reply) (l : Line) (due w' : World) (early : List Sealed) (last : Reply) → (is_broken stop ≡ true → IsBrokenOff due early) → (is_broken stop ≡ false → Settled due stop early)
    → GoesThrough stop l due w' last → tells code.JournalFault last.last ≡ true → IsBrokenOff w' early
goes_through (Some e) l due w' early last off x q broken = subst (λ v. IsBrokenOff v early) (sym q.0) (off (ap (λ (x : Reply). tells code.JournalFault x.last) (sym q.1) ∙ broken))
goes_through None l due w' early last off x (inr wants) broken = never_wants due w' early last wants broken
goes_through None l due w' early last off x (inl q) broken =
    let r = (x refl).ready refl in
    off_then w' early r.now r.more r.grows (through l due w' r.now last r.is q broken)

parts_broken : (base : ℕ) (l : Line) (w w' : World) (early : List Sealed) (reply : Reply) → MayBegin w → IsJournalled w early → Parts base l w w' reply → tells code.JournalFault reply.last ≡ true → IsBrokenOff w' early
parts_broken base l w w' early reply m j q broken =
    let begins = moment_begins base l w m in
    let journalled = moment_journalled base l w early j in
    goes_through q.stop l q.due w' early q.last (due_broken (with_moment base l w) q.due early q.notes q.stop begins journalled q.works)
    (due_done (with_moment base l w) q.due early q.notes q.stop begins journalled q.works) q.does (ap (λ (x : Reply). tells code.JournalFault x.last) (sym q.answer) ∙ broken)

answered_broken : (base : ℕ) (l : Line) (w w' : World) (early : List Sealed) (reply : Reply) → MayBegin w → IsJournalled w early → Answered base l w w' reply → tells code.JournalFault reply.last ≡ true → IsBrokenOff w' early
answered_broken base l w w' early reply m j (inr wants) broken = never_wants w w' early reply wants broken
answered_broken base l w w' early reply m j (inl q) broken = by (early_fault base l w.tier) q
  where
    by : (o : Option Rule) → Unless o (Parts base l) w w' reply → IsBrokenOff w' early
    by (Some rule) q = never_refused rule w w' early reply q broken
    by None q = parts_broken base l w w' early reply m j q broken

refused_broken : (rule : Rule) (w w' : World) (early : List Sealed) (reply : Reply) → Tries (Refuses rule) w w' reply → tells code.JournalFault reply.last ≡ true → IsBrokenOff w' early
refused_broken rule w w' early reply (inl q) broken = never_refused rule w w' early reply q broken
refused_broken rule w w' early reply (inr q) broken = never_wants w w' early reply q broken

heeds_broken : (base : ℕ) (said : Saying) (w w' : World) (early : List Sealed) (reply : Reply) → MayBegin w → IsJournalled w early → Heeds base said w w' reply → tells code.JournalFault reply.last ≡ true → IsBrokenOff w' early
heeds_broken base Silent w w' early reply m j q broken = absurd q
heeds_broken base (Says l) w w' early reply m j q broken = by (is_undone l) q
  where
    by : (b : Bool) → MatchBool b (Tries (Refuses (wrong_at 0)) w w' reply) (Answered base l w w' reply) → IsBrokenOff w' early
    by true q = refused_broken (wrong_at 0) w w' early reply q broken
    by false q = answered_broken base l w w' early reply m j q broken
heeds_broken base (WrongAt place) w w' early reply m j q broken = refused_broken _ w w' early reply q broken
heeds_broken base TooDeep w w' early reply m j q broken = refused_broken _ w w' early reply q broken
heeds_broken base TooLong w w' early reply m j q broken = never_refused _ w w' early reply q broken

pub step_breaks : StepBreaksJournal
step_breaks base w w' said reply early m j broken q = heeds_broken base said w w' early reply m j q broken
