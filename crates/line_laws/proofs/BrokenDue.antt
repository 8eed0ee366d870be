-- Due work, the console, the end of the input, and parts that write no record, where a call of the journal's disk failed.
use Rattle.std.proofs.Common.{◌≡◌, ℕ, Bool, true, false, Option, Some, None, Result, Ok, Err, List, [], ◌∷◌, refl, sym, ap, ◌∙◌}
use Rattle.tier_base.specs.declared.code.Code.{Code}
use Rattle.tier_base.specs.declared.code.Code.TheVariants as code
use Rattle.table_defs.specs.declared.definition.TableDef.{TableDef}
use Rattle.table_state.specs.declared.history.Sealed.{Sealed}
use Rattle.outside.specs.declared.fault.BankError.{BankError}
use Rattle.sql_query.specs.declared.write.Write.{Write}
use Rattle.sql_subset.specs.declared.request.Line.{Line}
use Rattle.sql_subset.specs.declared.request.OpenOptions.{OpenOptions}
use Rattle.cache_tier.specs.CommitSteps.{RollsBack}
use Rattle.cache_tier.specs.ConsoleSteps.{Asked, AsksSchema, Creates, WritesAll, asks_schema, clock_answer, define_reply, told_stop}
use Rattle.cache_tier.specs.declared.reply.Note.{Note}
use Rattle.cache_tier.specs.declared.reply.Reply.{Reply}
use Rattle.cache_tier.specs.DoubtSteps.{SettlesDoubt, settled_stop}
use Rattle.cache_tier.specs.DueWork.{DueAging, DueDoubt, DueRound, DueSets, DueSetsOf, ItemFollows, Noted, due_sets, is_round_due, noted_code, stopped, stopped_by}
use Rattle.cache_tier.specs.Rounds.{Round}
use Rattle.cache_tier.specs.SessionSteps.{close_answer, flag_answer, open_answer}
use Rattle.cache_tier.specs.Sets.{RefreshesIfShown}
use Rattle.cache_tier.specs.StandingBetween.{Stands}
use Rattle.cache_tier.specs.Steps.{Finishes, tells}
use Rattle.cache_tier.specs.TierStates.{Doubt, Session}
use Rattle.cache_tier.specs.Worlds.{Answer, IsUnshared, OnlyWhere, Quiet, World}
use Rattle.recovery.specs.Journalled.{IsJournalled}
use Rattle.line_laws.specs.Keeping.{BreaksJournal, BreaksJournalAt, BreaksJournalDue, IsBrokenOff, NeverBreaks, is_broken}
use Rattle.line_laws.proofs.BrokenCommits.{passed_tells}
use Rattle.line_laws.proofs.BrokenGroups.{refreshes_if_shown_broken}
use Rattle.line_laws.proofs.BrokenParts.{TellsNone, bank_tells, never, never_stops, off_same, off_then, on_off, only_where_broken}
use Rattle.line_laws.proofs.BrokenRounds.{round_broken}
use Rattle.line_laws.proofs.DueStatements.{not_broken}
use Rattle.line_laws.proofs.FlushLaws.{flushes_whole, tail_flushed}
use Rattle.line_laws.proofs.GroupStatements.{refreshes_if_shown}

-- ---- an answer of the cache by itself

quiet_broken : (answer : World → Answer) → TellsNone answer → BreaksJournal (λ w w' reply. Quiet (answer w) w w' reply)
quiet_broken answer whole w w' early reply stands j apart q bad = never w' early reply (answer w).1 q.1 (whole w) bad

pub rolls_back_broken : (s : Session) → BreaksJournal (RollsBack s)
rolls_back_broken s w w' early reply stands j apart q bad = never w' early reply _ q.1 refl bad

pub opens_broken : (label : List ℕ) (options : OpenOptions) → BreaksJournal (λ w w' reply. Quiet (open_answer w.tier label options) w w' reply)
opens_broken label options = quiet_broken (λ w. open_answer w.tier label options) (λ w. refl)

pub closes_broken : (label : List ℕ) → BreaksJournal (λ w w' reply. Quiet (close_answer w.tier label) w w' reply)
closes_broken label = quiet_broken (λ w. close_answer w.tier label) (λ w. refl)

pub sets_level_broken : (label : List ℕ) (level : ℕ) → BreaksJournal (λ w w' reply. Quiet (flag_answer w.tier label level) w w' reply)
sets_level_broken label level = quiet_broken (λ w. flag_answer w.tier label level) (λ w. refl)

pub clock_broken : BreaksJournal (λ w w' reply. Quiet (clock_answer w.tier) w w' reply)
clock_broken = quiet_broken (λ w. clock_answer w.tier) (λ w. refl)

-- ---- the console, and the question for the schema

defined_tells : (result : Result (Unit {0}) BankError) → tells code.JournalFault (define_reply result).last ≡ false
defined_tells (Ok done) = refl
defined_tells (Err e) = bank_tells e

pub creates_table_broken : (def : TableDef) → BreaksJournal (Creates def)
creates_table_broken def w w' early reply stands j apart q bad = never w' early reply (define_reply q.result) q.answer (defined_tells q.result) bad

pub console_broken : (writes : List Write) → BreaksJournal (WritesAll writes)
console_broken writes w w' early reply stands j apart q bad = never w' early reply _ q.answer (passed_tells q.result) bad

asked_stops : (result : Result (List TableDef) BankError) → is_broken (told_stop result) ≡ false
asked_stops (Ok schema) = refl
asked_stops (Err e) = bank_tells e

pub asks_broken : (l : Line) → BreaksJournalAt (AsksSchema l)
asks_broken l w w' early stop j apart q bad = by (asks_schema w.tier l) q
  where
    by : (b : Bool) → OnlyWhere b Asked w w' stop → IsBrokenOff w' early
    by true a = never_stops w' early stop (told_stop a.result) a.end (asked_stops a.result) bad
    by false a = never_stops w' early stop None a.1 refl bad

-- ---- due work

settled_stops : (result : Result Bool BankError) → is_broken (settled_stop result) ≡ false
settled_stops (Ok stands) = refl
settled_stops (Err e) = bank_tells e

pub due_doubt_never : NeverBreaks DueDoubt
due_doubt_never w w' notes stop q = by w.tier.doubt q
  where
    by : (o : Option Doubt) → SettlesDoubt o w w' notes stop → is_broken stop ≡ false
    by None q = ap is_broken q.2
    by (Some d) q = ap is_broken q.end ∙ settled_stops q.result

-- what ends the line is what ended the stage
noted_broken : (end : Option Reply) → is_broken (stopped end) ≡ true → is_broken end ≡ true
noted_broken None e = e
noted_broken (Some reply) e = by (noted_code reply.last) e
  where
    by : (o : Option Code) → is_broken (stopped_by reply o) ≡ true → tells code.JournalFault reply.last ≡ true
    by None e = e
    by (Some c) e = let so : true ≡ false = sym e in Prim.cc

pub due_round_broken : BreaksJournalDue DueRound
due_round_broken w w' early notes stop stands j apart q bad =
    only_where_broken Stands (is_round_due w.tier) Round round_broken w w' early q.end j apart stands q.does (noted_broken q.end (ap is_broken (sym q.ends) ∙ bad))

sets_broken : (intervals : List ℕ) (w w' : World) (early : List Sealed) (notes : List Note) (stop : Option Reply) → IsJournalled w early → IsUnshared w → DueSetsOf intervals w w' notes stop → is_broken stop ≡ true → IsBrokenOff w' early
sets_broken [] w w' early notes stop j apart q bad = never_stops w' early stop None q.2 refl bad
sets_broken (interval ∷ more) w w' early notes stop j apart q bad = by q.end q.first q.next (λ v now j apart next. sets_broken more v w' now q.behind stop j apart next bad)
  where
    by : (end : Option Reply) → Noted (λ c. Rattle.cache_tier.specs.declared.reply.Note.TheVariants.Refresh c interval) (RefreshesIfShown interval) w q.mid q.before end → ItemFollows end (DueSetsOf more) q.mid w' q.behind stop
        → ((v : World) (now : List Sealed) → IsJournalled v now → IsUnshared v → DueSetsOf more v w' q.behind stop → IsBrokenOff w' now) → IsBrokenOff w' early
    by None first next rest =
        let g = refreshes_if_shown interval w q.mid early first.end j apart tt first.does (not_broken first.end (ap is_broken (sym first.ends))) in
        off_then w' early g.on.now g.on.more g.on.grows (rest q.mid g.on.now g.on.is g.unshared next)
    by (Some r) first next rest =
        off_same q.mid w' early next.0 (refreshes_if_shown_broken interval w q.mid early first.end j apart tt first.does (noted_broken first.end (ap is_broken (sym first.ends) ∙ ap is_broken (sym next.2) ∙ bad)))

pub due_sets_broken : BreaksJournalDue DueSets
due_sets_broken w w' early notes stop stands j apart q bad = sets_broken (due_sets w.tier) w w' early notes stop j apart q bad

pub due_aging_broken : BreaksJournalDue DueAging
due_aging_broken w w' early notes stop stands j apart q bad = never_stops w' early stop None q.2 refl bad

-- ---- the end of the input

pub finishes_broken : BreaksJournalAt Finishes
finishes_broken w w' early stop j apart q bad = on_off w' early (tail_flushed w w' early j (flushes_whole [] w w' stop j.kept q))
