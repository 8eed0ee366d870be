-- A whole line keeps the journal the tier's.
use Rattle.std.proofs.Common.{◌≡◌, inl, inr, ℕ, ◌+◌, Bool, true, false, Option, Some, None, Result, Ok, Err, List, ◌++◌, refl, sym, ap, subst, ◌∙◌, arith}
use Rattle.std.specs.Bool.{MatchBool}
use Rattle.tier_base.specs.declared.code.Code.TheVariants as code
use Rattle.row_types.specs.declared.rule.Rule.{Rule}
use Rattle.table_state.specs.declared.history.Sealed.{Sealed}
use Rattle.outside.specs.declared.fault.BankError.{BankError}
use Rattle.sql_subset.specs.declared.request.Line.{Line}
use Rattle.sql_subset.specs.declared.request.Line.TheVariants as says
use Rattle.cache_tier.specs.ConsoleSteps.{Asked, AsksSchema, asks_schema, told, told_stop}
use Rattle.cache_tier.specs.declared.reply.Note.{Note}
use Rattle.cache_tier.specs.declared.reply.Reply.{Reply}
use Rattle.cache_tier.specs.DoubtSteps.{AsksRecorded, SettlesDoubt, settled, settled_stop, stood}
use Rattle.cache_tier.specs.DueWork.{DueAging, DueDoubt, DueRound, DueSets, DueWork, ItemFollows, ThenItem}
use Rattle.cache_tier.specs.PassedSteps.{with_ticket}
use Rattle.cache_tier.specs.Rules.{wrong_at}
use Rattle.cache_tier.specs.Shown.{no_rows}
use Rattle.cache_tier.specs.StandingBetween.{Each, Stands}
use Rattle.cache_tier.specs.Steps.{Answered, Does, GoesThrough, Heeds, Parts, Saying, Says, Silent, Step, TooDeep, TooLong, WrongAt, added_by, at_moment, early_fault, tells, with_moment}
use Rattle.cache_tier.specs.TierStates.{ACommit, APassedWrite, Doubt, Doubted, Session, Tier}
use Rattle.cache_tier.specs.Undone.{is_undone}
use Rattle.cache_tier.specs.Worlds.{BankCall, Follows, OnlyWhere, Refuses, Then, Tries, Unless, World}
use Rattle.order_laws.proofs.TruthLaws.{same_some}
use Rattle.recovery.specs.Journalled.{AreAlike, IsJournalled, IsJournalledOn}
use Rattle.recovery.proofs.JournalledLaws.{alike_commit, alike_self, quiet_kept}
use Rattle.recovery.proofs.OthersLaws.{on_then}
use Rattle.line_laws.specs.Keeping.{is_broken}
use Rattle.line_laws.proofs.DueStatements.{due_doubt_kept}
use Rattle.line_laws.proofs.PartWords.{stays_on}
use Rattle.run_laws.specs.Runs.{StepKeepsJournal, StepKeepsKinds}
use Rattle.run_laws.specs.Lines.{AreOfKinds, CommitIsInDoubt, IsInDoubt, IsLeft, IsLeftBy, IsOfOneKind, MayBegin, WriteIsInDoubt, are_later}
use Rattle.run_laws.proofs.CreateLaws.{IsInOrder, order_left}
use Rattle.run_laws.proofs.DoubtLaws.{doubt_is, doubt_settles, in_doubt}
use Rattle.run_laws.proofs.DueLaws.{asks_ready, due_aging_ready, due_round_ready, due_sets_ready}
use Rattle.run_laws.proofs.ReadyLaws.{Ready, ReadyOn, each_rested, ready_moved, ready_same, ready_then}
use Rattle.run_laws.proofs.StandLaws.{IsSeenAs, stands_seen}
use Rattle.run_laws.proofs.KindLines.{does_kinds}
use Rattle.run_laws.proofs.KindParts.{kinds_by}
use Rattle.run_laws.proofs.KindStatements.{commit_defs, kinds_of}
use Rattle.run_laws.proofs.StatementLaws.{does_kept}
use Rattle.run_laws.proofs.WriteDoubtLaws.{write_doubt_is, write_in_doubt, write_settles}

-- ---- the moment of a line

added_same : (l : Line) (t u : Tier) → u.added ≡ t.added → added_by l u ≡ added_by l t
added_same (says.Session label request) t u e = e
added_same (says.Console request) t u e = e
added_same (says.Clock ms) t u e = ap (λ n. n + ms) e

moment_seen : (base : ℕ) (l : Line) (t : Tier) → IsSeenAs t (at_moment base l t)
moment_seen base l t = record { schema = refl; stale = refl; groups = refl; log = refl; unsettled = refl; sessions = refl; next = refl }

moment_stands : (base : ℕ) (l : Line) (w : World) → Stands w → Stands (with_moment base l w)
moment_stands base l w x = stands_seen w (with_moment base l w) (moment_seen base l w.tier) refl x

-- the moment of a tier with a doubt is that of the tier before
moment_doubted : (base : ℕ) (l : Line) (o : Option Doubt) (t : Tier) → at_moment base l (record t { doubt = o }) ≡ record (at_moment base l t) { doubt = o }
moment_doubted base l o t =
    let same = added_same l t (record t { doubt = o }) refl in
    λ i. record t { doubt = o; added = same i; now = Rattle.cache_tier.specs.TierStates.cut (Rattle.std.specs.Prelude.max t.now (base + same i)) }

moment_drawn : (base : ℕ) (l : Line) (t : Tier) → at_moment base l (with_ticket t) ≡ with_ticket (at_moment base l t)
moment_drawn base l t =
    let same = added_same l t (with_ticket t) refl in
    λ i. record (with_ticket t) { added = same i; now = Rattle.cache_tier.specs.TierStates.cut (Rattle.std.specs.Prelude.max t.now (base + same i)) }

-- and of one whose ticket is drawn and in doubt
moment_drawn_doubted : (base : ℕ) (l : Line) (d : Doubt) (t : Tier) → at_moment base l (record (with_ticket t) { doubt = Some d }) ≡ record (with_ticket (at_moment base l t)) { doubt = Some d }
moment_drawn_doubted base l d t = moment_doubted base l (Some d) (with_ticket t) ∙ ap (λ (t : Tier). record t { doubt = Some d }) (moment_drawn base l t)

moment_of_commit : (base : ℕ) (l : Line) (w : World) → CommitIsInDoubt w → CommitIsInDoubt (with_moment base l w)
moment_of_commit base l w x = record {
  was = with_moment base l x.was;
  stands = moment_stands base l x.was x.stands;
  unshared = x.unshared;
  later = x.later;
  session = x.session;
  there = x.there;
  on = x.on;
  room = x.room;
  call = record { history = x.call.history; journal = x.call.journal; faults = x.call.faults; disk = x.call.disk; moment = x.call.moment; shared = x.call.shared };
  tier = ap (at_moment base l) x.tier ∙ moment_drawn_doubted base l (in_doubt w x) x.was.tier;
}

moment_of_write : (base : ℕ) (l : Line) (w : World) → WriteIsInDoubt w → WriteIsInDoubt (with_moment base l w)
moment_of_write base l w x = record {
  was = with_moment base l x.was;
  stands = moment_stands base l x.was x.stands;
  unshared = x.unshared;
  session = x.session;
  there = x.there;
  room = x.room;
  change = x.change;
  off = x.off;
  ops = x.ops;
  call = record { history = x.call.history; journal = x.call.journal; faults = x.call.faults; disk = x.call.disk; moment = x.call.moment; shared = x.call.shared };
  tier = ap (at_moment base l) x.tier ∙ moment_drawn_doubted base l (write_in_doubt w x) x.was.tier;
}

moment_in_doubt : (base : ℕ) (l : Line) (w : World) (k : Doubted) → IsInDoubt k w → IsInDoubt k (with_moment base l w)
moment_in_doubt base l w ACommit x = moment_of_commit base l w x
moment_in_doubt base l w APassedWrite x = moment_of_write base l w x

moment_left : (base : ℕ) (l : Line) (w : World) → IsLeft w → IsLeft (with_moment base l w)
moment_left base l w x = by w.tier.doubt x
  where
    by : (o : Option Doubt) → IsLeftBy o w → IsLeftBy o (with_moment base l w)
    by None x = moment_stands base l w x
    by (Some d) x = moment_in_doubt base l w d.of x

pub moment_begins : (base : ℕ) (l : Line) (w : World) → MayBegin w → MayBegin (with_moment base l w)
moment_begins base l w m = record {
  goes_on = record { left = moment_left base l w m.goes_on.left; unshared = m.goes_on.unshared };
  kinds = record { later = m.kinds.later; own = m.kinds.own };
}

pub moment_journalled : (base : ℕ) (l : Line) (w : World) (early : List Sealed) → IsJournalled w early → IsJournalled (with_moment base l w) early
moment_journalled base l w early j = quiet_kept w early (at_moment base l w.tier) j (record { log = refl; next = omega arith; groups = alike_self w.tier.groups })

-- ---- the doubt

-- where the line goes on the doubt is settled
pub record Settled (w : World) (stop : Option Reply) (early : List Sealed) : Type 0 where
  pub on : IsJournalledOn w early
  pub kinds : AreOfKinds w.tier
  pub ready : stop ≡ None → ReadyOn w early

-- what a line leaves
pub record Left (w : World) (early : List Sealed) : Type 0 where
  pub on : IsJournalledOn w early
  pub kinds : AreOfKinds w.tier

left_of : (w : World) (early : List Sealed) → ReadyOn w early → Left w early
left_of w early r = record { on = record { now = r.now; is = r.is.journalled; more = r.more; grows = r.grows }; kinds = r.is.kinds }

left_same : (w w' : World) (early : List Sealed) → w' ≡ w → IsJournalled w early → AreOfKinds w.tier → Left w' early
left_same w w' early e j k = subst (λ x. Left x early) (sym e) (record { on = stays_on w early j; kinds = k })

left_then : (w : World) (early mid more : List Sealed) → mid ≡ early ++ more → Left w mid → Left w early
left_then w early mid more e x = record { on = on_then w early mid more e x.on; kinds = x.kinds }

-- a passed-on write that is settled moves the log alone
record MovesLog (a b : Tier) : Type 0 where
  groups : b.groups ≡ a.groups
  unsettled : b.unsettled ≡ a.unsettled
  sessions : b.sessions ≡ a.sessions

write_moves : (w w' : World) (x : WriteIsInDoubt w) (b : Bool) → w'.tier ≡ settled (write_in_doubt w x) w'.history (Ok b) w.tier → MovesLog w.tier w'.tier
write_moves w w' x true e = subst (MovesLog w.tier) (sym e) (record { groups = refl; unsettled = refl; sessions = refl })
write_moves w w' x false e = subst (MovesLog w.tier) (sym e) (record { groups = refl; unsettled = refl; sessions = refl })

pub doubt_done : (w w' : World) (early : List Sealed) (notes : List Note) (stop : Option Reply) → MayBegin w → IsJournalled w early → DueDoubt w w' notes stop → is_broken stop ≡ false → Settled w' stop early
doubt_done w w' early notes stop m j q ok = record { on = on; kinds = kinds w.tier.doubt refl m.goes_on.left q; ready = λ end. by w.tier.doubt refl m.goes_on.left q end }
  where
    on : IsJournalledOn w' early
    on = due_doubt_kept w w' early notes stop j m.goes_on.unshared q ok

    in_it : (x : CommitIsInDoubt w) → AsksRecorded (in_doubt w x) w w' notes stop → stop ≡ None → ReadyOn w' early
    in_it x a end = answered a.result a.call a.tier a.end
      where
        answered : (result : Result Bool BankError) → BankCall (Rattle.outside.specs.Bank.TellsRecorded x.was.tier.next result) w w' → w'.tier ≡ settled (in_doubt w x) w'.history result w.tier → stop ≡ settled_stop result → ReadyOn w' early
        answered (Err e) call tier is = let bad : Some (Rattle.cache_tier.specs.Worlds.bank_fault e) ≡ None = sym is ∙ end in Prim.cc
        answered (Ok true) call tier is =
            ready_moved w w' early m.goes_on.unshared (record {
              shared = call.shared;
              alike = subst (λ (t : Tier). AreAlike w.tier.groups t.groups) (sym tier)
                  (alike_commit (no_rows w.tier) (stood (in_doubt w x) w'.history).ops w.tier.groups w.tier.groups (alike_self w.tier.groups));
              later = ap (λ (t : Tier). are_later w.tier.groups t.unsettled) tier ∙ m.kinds.later;
              own = subst (λ (t : Tier). Each (λ (s : Session). IsOfOneKind w.tier.groups s.own) t.sessions) (sym tier)
                  (each_rested w.tier.groups x.session.label w.tier.sessions m.kinds.own);
            }) (doubt_settles w x w' true call tier) on
        answered (Ok false) call tier is =
            ready_moved w w' early m.goes_on.unshared (record {
              shared = call.shared;
              alike = subst (λ (t : Tier). AreAlike w.tier.groups t.groups) (sym tier) (alike_self w.tier.groups);
              later = ap (λ (t : Tier). are_later w.tier.groups t.unsettled) tier ∙ m.kinds.later;
              own = subst (λ (t : Tier). Each (λ (s : Session). IsOfOneKind w.tier.groups s.own) t.sessions) (sym tier)
                  (each_rested w.tier.groups x.session.label w.tier.sessions m.kinds.own);
            }) (doubt_settles w x w' false call tier) on

    told_kinds : (x : CommitIsInDoubt w) (result : Result Bool BankError) → w'.tier ≡ settled (in_doubt w x) w'.history result w.tier → AreOfKinds w'.tier
    told_kinds x (Ok true) tier =
        let t = settled (in_doubt w x) w'.history (Ok true) w.tier in
        kinds_of t w'.tier tier (kinds_by w.tier t (commit_defs (no_rows w.tier) (stood (in_doubt w x) w'.history).ops w.tier.groups) m.kinds.later (each_rested w.tier.groups x.session.label w.tier.sessions m.kinds.own))
    told_kinds x (Ok false) tier =
        let t = settled (in_doubt w x) w'.history (Ok false) w.tier in
        kinds_of t w'.tier tier (kinds_by w.tier t refl m.kinds.later (each_rested w.tier.groups x.session.label w.tier.sessions m.kinds.own))
    told_kinds x (Err e) tier = kinds_of w.tier w'.tier tier m.kinds

    in_write : (x : WriteIsInDoubt w) → AsksRecorded (write_in_doubt w x) w w' notes stop → stop ≡ None → ReadyOn w' early
    in_write x a end = answered a.result a.call a.tier a.end
      where
        answered : (result : Result Bool BankError) → BankCall (Rattle.outside.specs.Bank.TellsRecorded x.was.tier.next result) w w' → w'.tier ≡ settled (write_in_doubt w x) w'.history result w.tier → stop ≡ settled_stop result → ReadyOn w' early
        answered (Err e) call tier is = let bad : Some (Rattle.cache_tier.specs.Worlds.bank_fault e) ≡ None = sym is ∙ end in Prim.cc
        answered (Ok b) call tier is =
            ready_moved w w' early m.goes_on.unshared (record {
              shared = call.shared;
              alike = subst (AreAlike w.tier.groups) (sym ((write_moves w w' x b tier).groups)) (alike_self w.tier.groups);
              later = ap (are_later w.tier.groups) ((write_moves w w' x b tier).unsettled) ∙ m.kinds.later;
              own = subst (Each (λ (s : Session). IsOfOneKind w.tier.groups s.own)) (sym ((write_moves w w' x b tier).sessions)) m.kinds.own;
            }) (write_settles w x w' b call tier) on

    write_told_kinds : (x : WriteIsInDoubt w) (result : Result Bool BankError) → w'.tier ≡ settled (write_in_doubt w x) w'.history result w.tier → AreOfKinds w'.tier
    write_told_kinds x (Ok true) tier = kinds_of (settled (write_in_doubt w x) w'.history (Ok true) w.tier) w'.tier tier (record { later = m.kinds.later; own = m.kinds.own })
    write_told_kinds x (Ok false) tier = kinds_of (settled (write_in_doubt w x) w'.history (Ok false) w.tier) w'.tier tier (record { later = m.kinds.later; own = m.kinds.own })
    write_told_kinds x (Err e) tier = kinds_of w.tier w'.tier tier m.kinds

    kinds : (o : Option Doubt) → w.tier.doubt ≡ o → IsLeftBy o w → SettlesDoubt o w w' notes stop → AreOfKinds w'.tier
    kinds None e x q = kinds_of w.tier w'.tier (ap (λ (v : World). v.tier) q.0) m.kinds
    kinds (Some d) e x q = of d.of x
      where
        of : (k : Doubted) → IsInDoubt k w → AreOfKinds w'.tier
        of ACommit x =
            let a = subst (λ (y : Doubt). AsksRecorded y w w' notes stop) (same_some (sym e ∙ doubt_is w x)) q in
            told_kinds x a.result a.tier
        of APassedWrite x =
            let a = subst (λ (y : Doubt). AsksRecorded y w w' notes stop) (same_some (sym e ∙ write_doubt_is w x)) q in
            write_told_kinds x a.result a.tier

    by : (o : Option Doubt) → w.tier.doubt ≡ o → IsLeftBy o w → SettlesDoubt o w w' notes stop → stop ≡ None → ReadyOn w' early
    by None e x q end = ready_same w w' early q.0 (record { journalled = j; stands = x; unshared = m.goes_on.unshared; kinds = m.kinds })
    by (Some d) e x q end = of d.of x
      where
        of : (k : Doubted) → IsInDoubt k w → ReadyOn w' early
        of ACommit x = in_it x (subst (λ (y : Doubt). AsksRecorded y w w' notes stop) (same_some (sym e ∙ doubt_is w x)) q) end
        of APassedWrite x = in_write x (subst (λ (y : Doubt). AsksRecorded y w w' notes stop) (same_some (sym e ∙ write_doubt_is w x)) q) end

-- ---- all that is due

pub due_done : (w due : World) (early : List Sealed) (notes : List Note) (stop : Option Reply) → MayBegin w → IsJournalled w early → DueWork w due notes stop → is_broken stop ≡ false → Settled due stop early
due_done w due early notes stop m j q ok = first q.end q.first q.next
  where
    first : (end : Option Reply) → DueDoubt w q.mid q.before end → ItemFollows end (ThenItem DueRound (ThenItem DueSets DueAging)) q.mid due q.behind stop → Settled due stop early
    first (Some e) d next =
        let x = doubt_done w q.mid early q.before (Some e) m j d (ap is_broken (sym next.2) ∙ ok) in
        record { on = subst (λ v. IsJournalledOn v early) (sym next.0) x.on; kinds = subst (λ (v : World). AreOfKinds v.tier) (sym next.0) x.kinds; ready = λ none. (let bad : Some e ≡ None = sym next.2 ∙ none in Prim.cc) }
    first None d next = record { on = made.on; kinds = made.kinds; ready = made.ready }
      where
        a : ReadyOn q.mid early
        a = (doubt_done w q.mid early q.before None m j d refl).ready refl

        second : (end : Option Reply) → DueRound q.mid next.mid next.before end → ItemFollows end (ThenItem DueSets DueAging) next.mid due next.behind stop → Settled due stop a.now
        second end r more = go end r more
          where
            go : (end : Option Reply) → DueRound q.mid next.mid next.before end → ItemFollows end (ThenItem DueSets DueAging) next.mid due next.behind stop → Settled due stop a.now
            go (Some e) r more =
                let b = due_round_ready q.mid next.mid a.now next.before (Some e) a.is r (ap is_broken (sym more.2) ∙ ok) in
                record { on = subst (λ v. IsJournalledOn v a.now) (sym more.0) (record { now = b.now; is = b.is.journalled; more = b.more; grows = b.grows }); kinds = subst (λ (v : World). AreOfKinds v.tier) (sym more.0) b.is.kinds; ready = λ none. (let bad : Some e ≡ None = sym more.2 ∙ none in Prim.cc) }
            go None r more = third (due_round_ready q.mid next.mid a.now next.before None a.is r refl) more
              where
                third : (b : ReadyOn next.mid a.now) → ThenItem DueSets DueAging next.mid due next.behind stop → Settled due stop a.now
                third b s = last s.end s.first s.next
                  where
                    last : (end : Option Reply) → DueSets next.mid s.mid s.before end → ItemFollows end DueAging s.mid due s.behind stop → Settled due stop a.now
                    last (Some e) sets aging =
                        let c = due_sets_ready next.mid s.mid b.now s.before (Some e) b.is sets (ap is_broken (sym aging.2) ∙ ok) in
                        let on = on_then s.mid a.now b.now b.more b.grows (record { now = c.now; is = c.is.journalled; more = c.more; grows = c.grows }) in
                        record { on = subst (λ v. IsJournalledOn v a.now) (sym aging.0) on; kinds = subst (λ (v : World). AreOfKinds v.tier) (sym aging.0) c.is.kinds; ready = λ none. (let bad : Some e ≡ None = sym aging.2 ∙ none in Prim.cc) }
                    last None sets aging =
                        let c = due_sets_ready next.mid s.mid b.now s.before None b.is sets refl in
                        let f = due_aging_ready s.mid due c.now s.behind stop c.is aging in
                        let all = ready_then due a.now b.now b.more b.grows (ready_then due b.now c.now c.more c.grows f) in
                        record { on = record { now = all.now; is = all.is.journalled; more = all.more; grows = all.grows }; kinds = all.is.kinds; ready = λ none. all }

        behind : Settled due stop a.now
        behind = second next.end next.first next.next

        made : Settled due stop early
        made = record { on = on_then due early a.now a.more a.grows behind.on; kinds = behind.kinds; ready = λ none. ready_then due early a.now a.more a.grows (behind.ready none) }

-- ---- the line

pub asks_none : (l : Line) (w w' : World) → AsksSchema l w w' None → asks_schema w'.tier l ≡ false
asks_none l w w' q = by (asks_schema w.tier l) refl q
  where
    by : (b : Bool) → asks_schema w.tier l ≡ b → OnlyWhere b Asked w w' None → asks_schema w'.tier l ≡ false
    by false e q = ap (λ (x : World). asks_schema x.tier l) q.0 ∙ e
    by true e q = answered q.result q.tier q.end
      where
        answered : (result : Result (List Rattle.table_defs.specs.declared.definition.TableDef.TableDef) BankError) → w'.tier ≡ told result w.tier → None ≡ told_stop result → asks_schema w'.tier l ≡ false
        answered (Ok schema) tier end = ap (λ (t : Tier). asks_schema t l) tier
        answered (Err x) tier end = Prim.cc

through : (l : Line) (due w' : World) (early : List Sealed) (last : Reply) → Ready due early → IsInOrder w'.tier → Then (AsksSchema l) (Tries (Does l)) due w' last → tells code.JournalFault last.last ≡ false → Left w' early
through l due w' early last r after q ok = by q.stop q.first q.next
  where
    by : (stop : Option Reply) → AsksSchema l due q.mid stop → Follows stop (Tries (Does l)) q.mid w' last → Left w' early
    by (Some e) first next =
        let a = asks_ready l due q.mid early (Some e) r first (ap (λ (x : Reply). tells code.JournalFault x.last) (sym next.1) ∙ ok) in
        subst (λ v. Left v early) (sym next.0) (left_of q.mid early a)
    by None first next = left_then w' early a.now a.more a.grows (does next)
      where
        a : ReadyOn q.mid early
        a = asks_ready l due q.mid early None r first refl

        does : Tries (Does l) q.mid w' last → Left w' a.now
        does (inr wants) = left_same q.mid w' a.now wants.0 a.is.journalled a.is.kinds
        does (inl d) =
            record { on = does_kept q.mid w' a.now last a.is ok after l (asks_none l due q.mid first) d; kinds = does_kinds q.mid w' a.now last a.is after l d }

goes_through : (stop : Option Reply) (l : Line) (due w' : World) (early : List Sealed) (last : Reply) → Settled due stop early → IsInOrder w'.tier → GoesThrough stop l due w' last → tells code.JournalFault last.last ≡ false → Left w' early
goes_through (Some e) l due w' early last x after q ok = subst (λ v. Left v early) (sym q.0) (record { on = x.on; kinds = x.kinds })
goes_through None l due w' early last x after (inr wants) ok = subst (λ v. Left v early) (sym wants.0) (record { on = x.on; kinds = x.kinds })
goes_through None l due w' early last x after (inl q) ok =
    let r = x.ready refl in
    left_then w' early r.now r.more r.grows (through l due w' r.now last r.is after q ok)

-- a reply that tells no fault of the journal: what ended the due work told none
stop_unbroken : (stop : Option Reply) (l : Line) (due w' : World) (last : Reply) → GoesThrough stop l due w' last → tells code.JournalFault last.last ≡ false → is_broken stop ≡ false
stop_unbroken None l due w' last q ok = refl
stop_unbroken (Some e) l due w' last q ok = ap (λ (x : Reply). tells code.JournalFault x.last) (sym q.1) ∙ ok

parts_kept : (base : ℕ) (l : Line) (w w' : World) (early : List Sealed) (reply : Reply) → MayBegin w → IsJournalled w early → IsLeft w' → Parts base l w w' reply → tells code.JournalFault reply.last ≡ false → Left w' early
parts_kept base l w w' early reply m j after q ok =
    let whole : tells code.JournalFault q.last.last ≡ false = ap (λ (x : Reply). tells code.JournalFault x.last) (sym q.answer) ∙ ok in
    goes_through q.stop l q.due w' early q.last
    (due_done (with_moment base l w) q.due early q.notes q.stop (moment_begins base l w m) (moment_journalled base l w early j) q.works (stop_unbroken q.stop l q.due w' q.last q.does whole))
    (order_left w' after) q.does whole

answered_kept : (base : ℕ) (l : Line) (w w' : World) (early : List Sealed) (reply : Reply) → MayBegin w → IsJournalled w early → IsLeft w' → Answered base l w w' reply → tells code.JournalFault reply.last ≡ false → Left w' early
answered_kept base l w w' early reply m j after (inr wants) ok = left_same w w' early wants.0 j m.kinds
answered_kept base l w w' early reply m j after (inl q) ok = by (early_fault base l w.tier) q
  where
    by : (o : Option Rule) → Unless o (Parts base l) w w' reply → Left w' early
    by (Some rule) q = left_same w w' early q.0 j m.kinds
    by None q = parts_kept base l w w' early reply m j after q ok

refused_kept : (rule : Rule) (w w' : World) (early : List Sealed) (reply : Reply) → MayBegin w → IsJournalled w early → Tries (Refuses rule) w w' reply → Left w' early
refused_kept rule w w' early reply m j (inl q) = left_same w w' early q.0 j m.kinds
refused_kept rule w w' early reply m j (inr q) = left_same w w' early q.0 j m.kinds

heeds_kept : (base : ℕ) (said : Saying) (w w' : World) (early : List Sealed) (reply : Reply) → MayBegin w → IsJournalled w early → IsLeft w' → Heeds base said w w' reply → tells code.JournalFault reply.last ≡ false → Left w' early
heeds_kept base Silent w w' early reply m j after q ok = absurd q
heeds_kept base (Says l) w w' early reply m j after q ok = by (is_undone l) q
  where
    by : (b : Bool) → MatchBool b (Tries (Refuses (wrong_at 0)) w w' reply) (Answered base l w w' reply) → Left w' early
    by true q = refused_kept (wrong_at 0) w w' early reply m j q
    by false q = answered_kept base l w w' early reply m j after q ok
heeds_kept base (WrongAt place) w w' early reply m j after q ok = refused_kept _ w w' early reply m j q
heeds_kept base TooDeep w w' early reply m j after q ok = refused_kept _ w w' early reply m j q
heeds_kept base TooLong w w' early reply m j after q ok = left_same w w' early q.0 j m.kinds

-- a line, be it silent or not
step_left : (base : ℕ) (w w' : World) (said : Saying) (reply : Option Reply) (early : List Sealed) → MayBegin w → IsJournalled w early → IsLeft w' → is_broken reply ≡ false → Step base w said w' reply → Left w' early
step_left base w w' said None early m j after whole q = left_same w w' early q.1 j m.kinds
step_left base w w' said (Some reply) early m j after whole q = heeds_kept base said w w' early reply m j after q.1 whole

pub step_kept : StepKeepsJournal
step_kept base w w' said reply early m j after whole q = (step_left base w w' said reply early m j after whole q).on

pub step_kinds : StepKeepsKinds
step_kinds base w w' said reply early m j after whole q = (step_left base w w' said reply early m j after whole q).kinds
