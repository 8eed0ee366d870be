-- What one line does, and what a list of them does.

use Rattle.std.specs.Prelude.{◌≡◌, ◌⊎◌, ℕ, ◌+◌, ◌-◌, ◌^◌, ◌≤◌, min, max, nat_eq, nat_lt, List, [], ◌∷◌, Bool, false, Option, Some, None, Result, Ok, Err, if◌then◌else◌, count_by}
use Rattle.std.specs.Bool.{MatchBool}
use Rattle.std.specs.Option.{is_none}
use Rattle.tier_base.specs.Codes.{number_of}
use Rattle.tier_base.specs.Limits.{greatest}
use Rattle.tier_base.specs.declared.code.Code.{Code}
use Rattle.tier_base.specs.declared.code.Code.TheVariants as code
use Rattle.tier_base.specs.declared.limit.Limit.TheVariants as limit
use Rattle.row_types.specs.declared.rule.Rule.{Rule}
use Rattle.cache_tier.specs.JournalSteps.{Flushes}
use Rattle.cache_tier.specs.declared.reply.Reply.{Reply}
use Rattle.cache_tier.specs.declared.reply.Note.{Note}
use Rattle.cache_tier.specs.declared.reply.Note.TheVariants.{Committed, RolledBack, Propagate, Refresh}
use Rattle.cache_tier.specs.declared.reply.Last.{Last}
use Rattle.cache_tier.specs.declared.reply.Last.TheVariants.{Done, No, Fault}
use Rattle.sql_subset.specs.declared.request.Line.{Line}
use Rattle.sql_subset.specs.declared.request.Line.TheVariants as says
use Rattle.sql_subset.specs.declared.request.Request.{Request}
use Rattle.sql_subset.specs.declared.request.Request.TheVariants as asks_for
use Rattle.sql_subset.specs.declared.stmt.Stmt.{Stmt}
use Rattle.sql_subset.specs.declared.stmt.Stmt.TheVariants as statement
use Rattle.cache_tier.specs.Called.{called}
use Rattle.cache_tier.specs.declared.called.Called.{Called}
use Rattle.cache_tier.specs.declared.called.Called.TheVariants.{Drain, RefreshSet, SetLevel}
use Rattle.cache_tier.specs.CommitSteps.{CommitsAll, RollsBack}
use Rattle.cache_tier.specs.ConsoleSteps.{AsksSchema, DoesConsole, clock_answer}
use Rattle.cache_tier.specs.DefineSteps.{CreatesGroup}
use Rattle.cache_tier.specs.DueWork.{DueWork}
use Rattle.cache_tier.specs.LoadSteps.{Loads}
use Rattle.cache_tier.specs.RefreshSteps.{Refreshes}
use Rattle.cache_tier.specs.Order.{refusal}
use Rattle.cache_tier.specs.Reading.{Answers}
use Rattle.cache_tier.specs.Rounds.{Drains}
use Rattle.cache_tier.specs.Rules.{broken_if, labelled, past, wrong_at}
use Rattle.cache_tier.specs.SelectSteps.{Selects}
use Rattle.cache_tier.specs.SessionSteps.{close_answer, flag_answer, open_answer, open_fault}
use Rattle.cache_tier.specs.Sets.{RefreshesIfShown, set_size}
use Rattle.cache_tier.specs.TierStates.{Session, Tier, cut, session_of}
use Rattle.cache_tier.specs.Undone.{is_undone}
use Rattle.cache_tier.specs.AlterSteps.{Alters}
use Rattle.cache_tier.specs.DropSteps.{DropsGroup}
use Rattle.cache_tier.specs.UnloadSteps.{Unloads}
use Rattle.cache_tier.specs.WriteSteps.{Writes}
use Rattle.cache_tier.specs.Worlds.{Part, Quiet, Refuses, Then, Tries, Unless, WantsMemory, World, only}

-- ttCacheAutorefresh: the set is refreshed, where it has something to show; how many groups it has
abbrev pub RefreshesCalled : ℕ → Part
RefreshesCalled interval =
    Then (RefreshesIfShown interval) (Answers (λ mid. (mid.tier, only (Done (set_size interval mid.tier)))))

abbrev pub DoesCalled : Session → Result Called Rule → Part
DoesCalled s (Err rule) w w' reply = Refuses rule w w' reply
DoesCalled s (Ok Drain) w w' reply = Drains w w' reply
DoesCalled s (Ok (RefreshSet interval)) w w' reply = RefreshesCalled interval w w' reply
DoesCalled s (Ok (SetLevel level)) w w' reply = Quiet (flag_answer w.tier s.label level) w w' reply

-- a statement of an open session that no rule refuses before its first call; FLUSH is refused for every kind that
-- there is
abbrev pub DoesStatement : Session → Stmt → Part
DoesStatement s (statement.Select q) w w' reply = Selects s q w w' reply
DoesStatement s (statement.Write write) w w' reply = Writes s write w w' reply
DoesStatement s (statement.CreateGroup d) w w' reply = CreatesGroup d w w' reply
DoesStatement s (statement.CreateIndex i) w w' reply = ⊥
DoesStatement s (statement.Load load) w w' reply = Loads load w w' reply
DoesStatement s (statement.Refresh load) w w' reply = Refreshes load w w' reply
DoesStatement s (statement.Unload u) w w' reply = Unloads s u w w' reply
DoesStatement s (statement.Flush u) w w' reply = ⊥
DoesStatement s (statement.Alter a) w w' reply = Alters a w w' reply
DoesStatement s (statement.DropGroup name) w w' reply = DropsGroup s name w w' reply
DoesStatement s (statement.DropIndex name) w w' reply = ⊥
DoesStatement s (statement.Call c) w w' reply = DoesCalled s (called w.tier.groups c.procedure c.arguments) w w' reply
DoesStatement s statement.Commit w w' reply = CommitsAll s w w' reply
DoesStatement s statement.Rollback w w' reply = RollsBack s w w' reply

abbrev pub DoesRequest : List ℕ → Session → Request → Part
DoesRequest label s (asks_for.Open options) w w' reply = ⊥
DoesRequest label s asks_for.Close w w' reply = Quiet (close_answer w.tier label) w w' reply
DoesRequest label s (asks_for.Statement st) w w' reply = Unless (refusal w.tier s st) (DoesStatement s st) w w' reply

abbrev pub ForSession : List ℕ → Option Session → Request → Part
ForSession label None (asks_for.Open options) w w' reply = Quiet (open_answer w.tier label options) w w' reply
ForSession label None asks_for.Close w w' reply = ⊥
ForSession label None (asks_for.Statement st) w w' reply = ⊥
ForSession label (Some s) request w w' reply = DoesRequest label s request w w' reply

-- what a line does that isn't refused at the second place of the order
abbrev pub Does : Line → Part
Does (says.Session label request) w w' reply = ForSession label (session_of w.tier label) request w w' reply
Does (says.Console request) w w' reply = DoesConsole request w w' reply
Does (says.Clock ms) w w' reply = Quiet (clock_answer w.tier) w w' reply

-- the additions of the clock with those of the line
abbrev pub added_by : Line → Tier → ℕ
added_by (says.Session label request) t = t.added
added_by (says.Console request) t = t.added
added_by (says.Clock ms) t = t.added + ms

-- 119: the moment would pass the end of the year 9999
abbrev pub clock_fault : ℕ → Line → Tier → Option Rule
clock_fault base (says.Session label request) t = None
clock_fault base (says.Console request) t = None
clock_fault base (says.Clock ms) t =
    broken_if (nat_lt (greatest limit.Clock) (base + (t.added + ms))) (past limit.Clock)

-- 123, and of OPEN 113 and 119
abbrev pub session_fault : Tier → List ℕ → Request → Option Rule
session_fault t label (asks_for.Open options) = open_fault t label
session_fault t label asks_for.Close = broken_if (is_none (session_of t label)) (labelled code.UnknownSession label)
session_fault t label (asks_for.Statement st) =
    broken_if (is_none (session_of t label)) (labelled code.UnknownSession label)

-- the second place of the order: what is refused there does no due work, and leaves the moment
abbrev pub early_fault : ℕ → Line → Tier → Option Rule
early_fault base (says.Session label request) t = session_fault t label request
early_fault base (says.Console request) t = None
early_fault base (says.Clock ms) t = clock_fault base (says.Clock ms) t

-- the moment of a line: the greater of the last one, and the base with the additions
abbrev pub at_moment : ℕ → Line → Tier → Tier
at_moment base l t = record t { added = added_by l t; now = cut (max t.now (base + added_by l t)) }

abbrev pub with_moment : ℕ → Line → World → World
with_moment base l w = record w { tier = at_moment base l w.tier }

-- the notes of due work before a reply
abbrev pub with_notes : List Note → Reply → Reply
with_notes notes reply = record reply { notes = notes }

abbrev pub GoesThrough : Option Reply → Line → Part
GoesThrough (Some stop) l w w' reply = (w' ≡ w) × (reply ≡ stop)
GoesThrough None l w w' reply = Tries (Then (AsksSchema l) (Tries (Does l))) w w' reply

-- due work at the moment of the line, the question for the schema, the statement
pub record Parts (base : ℕ) (l : Line) (w w' : World) (reply : Reply) : Type 0 where
  pub due : World
  pub notes : List Note
  pub stop : Option Reply
  pub last : Reply
  pub works : DueWork (with_moment base l w) due notes stop
  pub does : GoesThrough stop l due w' last
  pub answer : reply ≡ with_notes notes last

-- what a line is answered that says this
abbrev pub Answered : ℕ → Line → Part
Answered base l w w' reply = Unless (early_fault base l w.tier) (Parts base l) w w' reply ⊎ WantsMemory w w' reply

-- what a line says, as it is read
pub data Saying : Type 0 where
  Silent : Saying
  Says : Line → Saying
  WrongAt : ℕ → Saying
  TooDeep : Saying
  TooLong : Saying

-- the last line of a reply tells a fault of this code
abbrev pub tells : Code → Last → Bool
tells c (Done n) = false
tells c (No rule) = false
tells c (Fault rule) = nat_eq (number_of rule.code) (number_of c)

abbrev pub note_tells : Code → Note → Bool
note_tells c (Committed ticket) = false
note_tells c (RolledBack ticket) = false
note_tells c (Propagate d) = nat_eq (number_of d) (number_of c)
note_tells c (Refresh d interval) = nat_eq (number_of d) (number_of c)

-- how many faults of a code a reply tells
abbrev pub faults_in : Code → Reply → ℕ
faults_in c reply = count_by (note_tells c) reply.notes + (if tells c reply.last then 1 else 0)

-- each fault that is told has a failed call of its own; the counts never fall
abbrev pub Rose : ℕ → ℕ → ℕ → Type 0
Rose before told now = (before ≤ now) × (min (before + told) (2 ^ 64 - 1) ≤ now)

pub record Counts (w w' : World) (reply : Reply) : Type 0 where
  pub bank : Rose w.bank_faults (faults_in code.BackingFault reply) w'.bank_faults
  pub disk : Rose w.disk_faults (faults_in code.JournalFault reply) w'.disk_faults

-- One line that says this, where the moments are counted from this base. A silent one has no reply and does nothing.
abbrev pub Heeds : ℕ → Saying → Part
Heeds base Silent w w' reply = ⊥
Heeds base (Says l) w w' reply =
    MatchBool (is_undone l) (Tries (Refuses (wrong_at 0)) w w' reply) (Answered base l w w' reply)
Heeds base (WrongAt place) w w' reply = Tries (Refuses (wrong_at place)) w w' reply
Heeds base TooDeep w w' reply = Tries (Refuses (past limit.Depth)) w w' reply
Heeds base TooLong w w' reply = Refuses (past limit.Line) w w' reply

abbrev pub Step : ℕ → World → Saying → World → Option Reply → Type 0
Step base w said w' None = (said ≡ Silent) × (w' ≡ w)
Step base w said w' (Some reply) = Counts w w' reply × Heeds base said w w' reply

-- a line with the base of its moment
pub record Asked : Type 0 where
  pub base : ℕ
  pub said : Saying

-- one line after another
abbrev pub Run : World → List Asked → List (Option Reply) → World → Type 0
Run w [] [] w' = w' ≡ w
Run w (line ∷ lines) (reply ∷ replies) w' = (mid : World) × Step line.base w line.said mid reply
    × Run mid lines replies w'
Run w [] (reply ∷ replies) w' = ⊥
Run w (line ∷ lines) [] w' = ⊥

-- the end of the input: the tail is flushed
abbrev pub Finishes : World → World → Option Reply → Type 0
Finishes = Flushes []
