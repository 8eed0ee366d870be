-- What `check` answers, and how a run of it ends.

use Rattle.std.specs.Prelude.{◌≡◌, ◌≤◌, ◌⊎◌, ⊤, ℕ, Bool, true, false, List, [], ◌∷◌, ◌++◌, Option, Some, None, Result}
use Rattle.std.specs.Prelude.{Ok, Err, take}
use Rattle.std.specs.Result.{IsErrOf}
use Rattle.outside.specs.Faults.{Rose}
use Rattle.tier_base.specs.declared.code.Code.TheVariants as code
use Rattle.tier_base.specs.declared.limit.Limit.TheVariants as limit
use Rattle.row_types.specs.declared.rule.Detail.TheVariants as detail
use Rattle.row_types.specs.declared.rule.Rule.{Rule}
use Rattle.sql_subset.specs.Lines.{Means, Saying, Silent, Says, WrongAt, TooDeep}
use Rattle.cache_tier.specs.declared.reply.Reply.{Reply}
use Rattle.cache_tier.specs.declared.reply.Last.TheVariants.{Done, No}
use Rattle.cache_tier.specs.Worlds.{only}
use Rattle.cache_tier.specs.Replying.{reply_bytes, replies_bytes}
use Rattle.cache_engine.specs.Requests.{is_long}
use Rattle.session_cli.specs.declared.checker.CheckFault.{CheckFault}
use Rattle.session_cli.specs.declared.checker.CheckFault.TheVariants as fault
use Rattle.session_cli.specs.declared.checker.Checker.{Checker}
use Rattle.session_cli.specs.declared.serving.Status.{Status}
use Rattle.session_cli.specs.declared.serving.Status.TheVariants.{Finished, SourceFailed, SinkFailed, DiskFailed}
use Rattle.session_cli.specs.declared.serving.Status.TheVariants.{SchemaFailed, NoMemory, LineUnchecked, Damaged}
use Rattle.session_cli.specs.declared.serving.Status.TheVariants.{Differs, InputTooLong}
use Rattle.session_cli.specs.Cutting.{cut, front_of, ended_lines, all_lines}
use Rattle.session_cli.specs.Ends.{Taken}
use Rattle.reply_lines.specs.Output.{Splits, Breaks}

-- a refusal, by its rule
abbrev pub broken : Rule → Option Reply
broken rule = Some (only (No rule))

-- `no 119 line`
abbrev pub too_long : Option Reply
too_long = broken (record { code = code.Limit; detail = detail.Limit limit.Line })

-- what is answered to what a line says: nothing, `ok 0`, `no 101 p` or `no 119 depth`
abbrev pub check_reply : Saying → Option Reply
check_reply Silent = None
check_reply (Says request) = Some (only (Done 0))
check_reply (WrongAt place) = broken (record { code = code.Syntax; detail = detail.Byte place })
check_reply TooDeep = broken (record { code = code.Limit; detail = detail.Limit limit.Depth })

-- what is answered to a line that is too long, or isn't
abbrev pub ChecksOr : Bool → List ℕ → Option Reply → Type 0
ChecksOr true line reply = reply ≡ too_long
ChecksOr false line reply = (saying : Saying) × Means line saying × (reply ≡ check_reply saying)

-- This is answered to the line.
abbrev pub Checks : List ℕ → Option Reply → Type 0
Checks line reply = ChecksOr (is_long line) line reply

-- These are answered to the lines, one to each.
abbrev pub AreChecked : List (List ℕ) → List (Option Reply) → Type 0
AreChecked [] [] = ⊤
AreChecked [] (reply ∷ replies) = ⊥
AreChecked (line ∷ lines) [] = ⊥
AreChecked (line ∷ lines) (reply ∷ replies) = Checks line reply × AreChecked lines replies

-- The lines are checked, and all replies written behind what was.
pub record CheckedWhole (start : List ℕ) (lines : List (List ℕ)) (sink : Option (List ℕ)) : Type 0 where
  pub replies : List (Option Reply)
  pub checked : AreChecked lines replies
  pub tells : sink ≡ Some (start ++ replies_bytes replies)

-- The lines are checked, but only a front of the replies is written.
pub record CheckedShort (start : List ℕ) (lines : List (List ℕ)) (sink : Option (List ℕ)) : Type 0 where
  pub replies : List (Option Reply)
  pub checked : AreChecked lines replies
  pub count : ℕ
  pub tells : sink ≡ Some (start ++ take count (replies_bytes replies))

-- One line was checked, and its reply passed on; or memory was wanting, and nothing was done.
abbrev pub Tells : Result (Unit {0}) CheckFault → Option (List ℕ) → Option (List ℕ) → List ℕ → List ℕ → List ℕ → Type 0
Tells (Ok done) sink sink' waiting waiting' line =
    (reply : Option Reply) × Checks line reply × Splits sink sink' (waiting ++ reply_bytes reply) waiting'
Tells (Err fault.Sink) sink sink' waiting waiting' line =
    (reply : Option Reply) × Checks line reply × Breaks sink sink' (waiting ++ reply_bytes reply)
Tells (Err fault.Memory) sink sink' waiting waiting' line = (sink' ≡ sink) × (waiting' ≡ waiting)

-- After the bytes given: each line that ended is checked, a front of the replies is written and the others wait, and of
-- the line that hasn't ended the front is kept.
pub record Checking (start given : List ℕ) (sink : Option (List ℕ)) (checker : Checker) : Type 0 where
  pub replies : List (Option Reply)
  pub checked : AreChecked (ended_lines given) replies
  pub line : checker.line ≡ front_of (cut given).1
  pub passed : Splits (Some start) sink (replies_bytes replies) checker.output

-- More bytes were taken in, or at a fault a front of them.
abbrev pub CheckFeeds : Result (Unit {0}) CheckFault → List ℕ → List ℕ → List ℕ → Option (List ℕ) → Checker → Type 0
CheckFeeds (Ok done) start given bytes sink checker = Checking start (given ++ bytes) sink checker
CheckFeeds (Err e) start given bytes sink checker =
    (n : ℕ) × CheckedShort start (ended_lines (given ++ take n bytes)) sink

-- The end of the input came: all lines are checked, a front of the replies is written and the others wait.
pub record CheckClosing (start : List ℕ) (lines : List (List ℕ)) (sink : Option (List ℕ)) (waiting : List ℕ)
    : Type 0 where
  pub replies : List (Option Reply)
  pub checked : AreChecked lines replies
  pub passed : Splits (Some start) sink (replies_bytes replies) waiting

-- All lines are checked, or those that a line feed ended, and a front of the replies is written.
abbrev pub CheckBreaks : List ℕ → List ℕ → Option (List ℕ) → Type 0
CheckBreaks start given sink = CheckedShort start (ended_lines given) sink ⊎ CheckedShort start (all_lines given) sink

abbrev pub CheckCloses : Result (Unit {0}) CheckFault → List ℕ → List ℕ → Option (List ℕ) → List ℕ → Type 0
CheckCloses (Ok done) start given sink waiting = CheckClosing start (all_lines given) sink waiting
CheckCloses (Err e) start given sink waiting = CheckBreaks start given sink

-- And all replies are written.
abbrev pub CheckFinishes : Result (Unit {0}) CheckFault → List ℕ → List ℕ → Option (List ℕ) → Type 0
CheckFinishes (Ok done) start given sink = CheckedWhole start (all_lines given) sink
CheckFinishes (Err e) start given sink = CheckBreaks start given sink

-- the sink is blamed only where the count of its faults rose, and the count never falls
pub record CheckHasCause (before now : ℕ) (result : Result (Unit {0}) CheckFault) : Type 0 where
  pub later : before ≤ now
  pub failed : IsErrOf result fault.Sink → Rose before now

-- with which status a run ends at a fault
abbrev pub status_of : CheckFault → Status
status_of fault.Sink = SinkFailed
status_of fault.Memory = LineUnchecked

-- A front of the bytes given was checked, and a front of its replies is written.
pub record CheckStops (start given : List ℕ) (sink : Option (List ℕ)) : Type 0 where
  pub front : List ℕ
  pub behind : List ℕ
  pub parts : given ≡ front ++ behind
  pub checked : CheckBreaks start front sink

-- how a run of `check` ended, by the bytes given
abbrev pub CheckOutcome : Status → List ℕ → List ℕ → Option (List ℕ) → Type 0
-- all lines are checked
CheckOutcome Finished start given sink = CheckedWhole start (all_lines given) sink
-- the lines that ended are checked
CheckOutcome SourceFailed start given sink = CheckedWhole start (ended_lines given) sink
CheckOutcome InputTooLong start given sink = CheckedWhole start (ended_lines given) sink
-- a front of the replies is written
CheckOutcome SinkFailed start given sink = CheckStops start given sink
CheckOutcome LineUnchecked start given sink = CheckStops start given sink
-- a run that checks lines doesn't end so
CheckOutcome SchemaFailed start given sink = ⊥
CheckOutcome DiskFailed start given sink = ⊥
CheckOutcome Damaged start given sink = ⊥
CheckOutcome Differs start given sink = ⊥
-- nothing is written
CheckOutcome NoMemory start given sink = sink ≡ Some start

-- The source gave a front of its bytes, and so the run ended.
pub record CheckEnded (status : Status) (start input : List ℕ) (source sink : Option (List ℕ)) : Type 0 where
  pub taken : Taken status input source
  pub outcome : CheckOutcome status start taken.given sink

-- Where source and sink tell what they hold, they tell it afterwards too, and this is what the run did.
abbrev pub CheckRuns : Status → Option (List ℕ) → Option (List ℕ) → Option (List ℕ) → Option (List ℕ) → Type 0
CheckRuns status source sink source' sink' =
    (input start : List ℕ) → source ≡ Some input → sink ≡ Some start → CheckEnded status start input source' sink'

-- A checker that has been given nothing.
pub record IsNewChecker (checker : Checker) : Type 0 where
  pub line : checker.line ≡ []
  pub output : checker.output ≡ []
