-- A run in the middle and at its end.

use Rattle.std.specs.Prelude.{◌≡◌, ◌≤◌, ◌⊎◌, ℕ, List, [], ◌∷◌, ◌++◌, true, false, Option, Some, None, Result, Ok, Err}
use Rattle.std.specs.Prelude.{length, map, take}
use Rattle.std.specs.Result.{IsErrOf}
use Rattle.outside.specs.Faults.{Rose}
use Rattle.order_laws.specs.Commits.{KeepsCommitOrder}
use Rattle.tier_journal.specs.Beginning.{begun_here}
use Rattle.tier_journal.specs.KeptOver.{is_broken}
use Rattle.cache_tier.specs.declared.reply.Reply.{Reply}
use Rattle.cache_tier.specs.Replying.{reply_bytes, replies_bytes}
use Rattle.cache_tier.specs.Rounds.{IsDrained}
use Rattle.cache_tier.specs.Steps as tier_steps
use Rattle.cache_tier.specs.Worlds.{IsUnshared, World}
use Rattle.cache_tier.specs.StandingBetween.{AreReadAt}
use Rattle.session_engine.specs.Doubting.{IsLeft}
use Rattle.cache_engine.specs.Engines.{IsInOrder}
use Rattle.cache_engine.specs.Requests.{BrokenRun, Given, LineGoes, LineRun}
use Rattle.cache_engine.specs.declared.engine.Engine.{Engine}
use Rattle.stored_tier.specs.Sites.{IsAt}
use Rattle.outside.specs.Sites.{SiteState}
use Rattle.session_cli.specs.declared.answering.Stop.{Stop}
use Rattle.session_cli.specs.declared.answering.Stop.TheVariants as stop
use Rattle.session_cli.specs.declared.session.Session.{Session}
use Rattle.session_cli.specs.Cutting.{cut, front_of, ended_lines, all_lines}
use Rattle.reply_lines.specs.Output.{Breaks, Splits}
use Rattle.session_cli.specs.Outside.{IsInSlots, IsKeptNow, Keeping, Outside}
use Rattle.session_cli.specs.Timing.{AreLeft, AreTimed, Coming, TakesBase}

-- Where a run begins: a world, what the sink holds, and what moments are counted from. The first of these is the
-- opening's, and the others are the lines'.
pub record Origin : Type 0 where
  pub world : World
  pub written : List ℕ
  pub bases : Coming

-- the bytes of lines
abbrev pub bytes_of : List Given → List (List ℕ)
bytes_of lines = map (λ g. g.bytes) lines

-- These are the replies of a run over the lines, which leads to this world: each line is counted from its base.
pub record Comes (o : Origin) (lines : List (List ℕ)) (replies : List (Option Reply)) (w : World) : Type 0 where
  pub given : List Given
  pub are : bytes_of given ≡ lines
  pub asked : ℕ
  pub timed : AreTimed o.bases 1 given asked
  pub run : LineRun o.world given replies w

-- The same of a run that ends with the last of the lines, since a failed call of the journal's disk is told.
pub record ComesBroken (o : Origin) (lines : List (List ℕ)) (replies : List (Option Reply)) (w : World) : Type 0 where
  pub given : List Given
  pub are : bytes_of given ≡ lines
  pub asked : ℕ
  pub timed : AreTimed o.bases 1 given asked
  pub run : BrokenRun o.world given replies w

-- Between two lines: an engine in order was left so in this world, in which this was so; and the world keeps a journal.
pub record WasLeft (once : World → Type 0) (w : World) : Type 0 where
  pub engine : Engine
  pub order : IsInOrder engine
  pub left : IsLeft engine.tier engine.doubt w
  pub kept : w.journal.kept ≡ true
  pub over : once w

-- So it was in the world in which a run begins, and in the world behind each of its lines. Where a line begins others
-- change no table of a writethrough group, and its reply tells no failed call of the journal's disk.
abbrev pub GoesOn : (World → Type 0) → (w : World) (lines : List Given) (replies : List (Option Reply)) (w' : World)
    → LineRun w lines replies w' → Type 0
GoesOn once w [] [] w' run = WasLeft once w'
GoesOn once w [] (reply ∷ replies) w' run = ⊥
GoesOn once w (g ∷ lines) [] w' run = ⊥
GoesOn once w (g ∷ lines) (reply ∷ replies) w' run =
    WasLeft once w × IsUnshared w × (is_broken reply ≡ false) × GoesOn once run.0 lines replies w' run.2

-- nothing is asked of a world
abbrev pub Anywhere : World → Type 0
Anywhere w = Unit {0}

-- The lines lead with these replies from the same world, in which a way of the journal begins, to one of which this
-- holds. Where it says that the journal is kept over the site's disk, a crash leaves a point of that way (LeavesOnWay),
-- at each moment since these lines began.
pub record LedSince (holds : World → Type 0) (w : World) (lines : List Given) (replies : List (Option Reply))
    : Type 0 where
  pub world : World
  pub run : LineRun (begun_here w) lines replies world
  pub goes : GoesOn Anywhere (begun_here w) lines replies world run
  pub is : holds world

-- so it is since the run began, since each of its lines did, and since the last one ended
abbrev pub LedSinceEach : (World → Type 0)
    → (w : World) (lines : List Given) (replies : List (Option Reply)) (w' : World)
    → LineRun w lines replies w' → Type 0
LedSinceEach holds w [] [] w' run = LedSince holds w' [] []
LedSinceEach holds w [] (reply ∷ replies) w' run = ⊥
LedSinceEach holds w (g ∷ lines) [] w' run = ⊥
LedSinceEach holds w (g ∷ lines) (reply ∷ replies) w' run =
    LedSince holds w (g ∷ lines) (reply ∷ replies) × LedSinceEach holds run.0 lines replies w' run.2

-- Others change no table of a writethrough group: at no end of a line of these bytes, in whatever run, is such a group
-- over a table that others change.
abbrev pub IsLeftAlone : Origin → List ℕ → Type 0
IsLeftAlone o input =
    (given left : List ℕ) (replies : List (Option Reply)) (w : World) → input ≡ given ++ left
    → Comes o (ended_lines given) replies w → IsUnshared w

-- The engine is left so in a world: its tier stands there, or a commit is in doubt. Its journal is kept over the site's
-- disk, and in its slots, and the world keeps one.
pub record StandsIn (now : Outside) (e : Engine) (w : World) : Type 0 where
  pub left : IsLeft e.tier e.doubt w
  pub keeps : now.keeps e.journal w
  pub kept : w.journal.kept ≡ true
  pub slots : IsInSlots now.site w

-- so it is in a world at the site
pub record StandsHere (now : Outside) (e : Engine) (w : World) : Type 0 where
  pub at : IsAt now.site w
  pub stands : StandsIn now e w

-- what waits and the last reply of a run are written; or a front of both, where the sink failed
abbrev pub WritesLast : Stop → Option (List ℕ) → Option (List ℕ) → List ℕ → List ℕ → Type 0
WritesLast stop.Sink sink sink' waiting bytes = Breaks sink sink' (waiting ++ bytes)
WritesLast stop.Disk sink sink' waiting bytes = Splits sink sink' (waiting ++ bytes) []

-- a reply is passed on: a front of it may wait, unless it is the last one
abbrev pub PassesReply : Result (Unit {0}) Stop → Option (List ℕ) → Option (List ℕ) → List ℕ → List ℕ → List ℕ
    → Type 0
PassesReply (Ok done) sink sink' waiting waiting' bytes = Splits sink sink' (waiting ++ bytes) waiting'
PassesReply (Err why) sink sink' waiting waiting' bytes = WritesLast why sink sink' waiting bytes

-- A fault of the journal's disk is told exactly where the run is to end for it, unless the sink failed.
abbrev pub TellsFault : Result (Unit {0}) Stop → Option Reply → Type 0
TellsFault (Ok done) reply = is_broken reply ≡ false
TellsFault (Err stop.Sink) reply = Unit {0}
TellsFault (Err stop.Disk) reply = is_broken reply ≡ true

-- A line led from a world, by its reply, to one at the site behind, where a crash leaves a point of the journal's way.
-- Unless a failed call of the journal's disk is told, the engine is left so there.
pub record LineLeads (behind : Outside) (engine' : Engine) (base : ℕ) (line : List ℕ) (reply : Option Reply) (w : World)
    : Type 0 where
  pub world : World
  pub at : IsAt behind.site world
  pub goes : LineGoes base w line world reply
  pub leaves : behind.leaves world
  pub stands : is_broken reply ≡ false → StandsIn behind engine' world

-- One line was answered: its base was taken, the request was served, and its reply passed on to the sink. So it led
-- from each world at the site before in which the engine was left so, and others change no table of a writethrough
-- group. Where the engine is left so now, a journal was kept over the site's disk at some time, as it was where it was
-- so before; and a way of the journal may begin there.
pub record Responds (result : Result (Unit {0}) Stop) (before behind : Outside) (waiting waiting' : List ℕ)
    (engine engine' : Engine) (line : List ℕ) : Type 0 where
  pub base : ℕ
  pub took : TakesBase line before.coming behind.coming base
  pub reply : Option Reply
  pub order : IsInOrder engine'
  pub leads : (w : World) → StandsHere before engine w → IsUnshared w → LineLeads behind engine' base line reply w
  pub once : (w : World) → before.kept_once w → behind.kept_once w
  pub now : (w : World) → StandsHere behind engine' w → behind.kept_once w
  pub begins : (w : World) → StandsHere behind engine' w → StandsHere behind engine' (begun_here w)
  pub tells : TellsFault result reply
  pub passed : PassesReply result before.written behind.written waiting waiting' (reply_bytes reply)

-- a count of faults rose where a call stopped for this, and it never falls
pub record HasStopCause {T : Type 0} (why : Stop) (before now : ℕ) (result : Result T Stop) : Type 0 where
  pub later : before ≤ now
  pub failed : IsErrOf result why → Rose before now

-- so it is of a stop itself
pub record IsStopCaused (why : Stop) (before now : ℕ) (result : Stop) : Type 0 where
  pub later : before ≤ now
  pub failed : result ≡ why → Rose before now

-- After the bytes given: each line that ended is answered, a front of the replies is written and the others wait, and
-- of the line that hasn't ended the session keeps the front. The engine is left so in the world to which the run has
-- led, and in those to which its lines have led since each of them began.
pub record Serving (o : Origin) (given : List ℕ) (now : Outside) (session : Session) : Type 0 where
  pub world : World
  pub replies : List (Option Reply)
  pub comes : Comes o (ended_lines given) replies world
  pub goes : GoesOn now.kept_once o.world comes.given replies world comes.run
  pub at : IsAt now.site world
  pub stands : StandsIn now session.engine world
  pub since : LedSinceEach (StandsHere now session.engine) o.world comes.given replies world comes.run
  pub left : AreLeft o.bases comes.asked now.coming
  pub line : session.line ≡ front_of (cut given).1
  pub passed : Splits (Some o.written) now.written (replies_bytes replies) session.output

-- nothing comes behind the last line
abbrev pub Rests : World → World → Type 0
Rests w w' = w' ≡ w

-- The tail of the journal is flushed behind the last line, and nothing waits in it.
pub record HasFlushed (w w' : World) : Type 0 where
  pub flushed : tier_steps.Finishes w w' None
  pub kept : w'.journal.kept ≡ true
  pub empty : w'.journal.tail ≡ []

-- What comes behind the last line leads to a world at the site, over whose disk a journal is kept. Where others change
-- no table of a writethrough group in the run's own world behind that line, they change none here.
pub record EndsKept (ends : World → World → Type 0) (site : SiteState) (keeps : Keeping) (ran w : World) : Type 0 where
  pub last : World
  pub ended : ends w last
  pub is : IsKeptNow site keeps last
  pub apart : IsUnshared ran → IsUnshared w

-- These are the replies of a run over the lines, behind each of which the engine was left so. At its end, behind what
-- comes there, the site is as the run's last world says, whose journal is kept in its slots and over its disk; and over
-- this a journal is kept in the worlds to which the lines have led since each of them began, so that what a crash has
-- left at each moment since is told. At the end each committed transaction stands once at most, and conflicting ones in
-- commit order; where nothing is in doubt and nothing unsettled, as behind a ttDrain that succeeded, each stands once,
-- and the tables of each writethrough group are what all of its transactions make in commit order; and the READONLY
-- groups of one set that have something to show have one position.
pub record Answered (ends : World → World → Type 0) (o : Origin) (lines : List (List ℕ))
    (replies : List (Option Reply)) (site : SiteState) (keeps : Keeping) (once : World → Type 0) : Type 0 where
  pub ran : World
  pub comes : Comes o lines replies ran
  pub goes : GoesOn once o.world comes.given replies ran comes.run
  pub since : LedSinceEach (EndsKept ends site keeps ran) o.world comes.given replies ran comes.run
  pub last : World
  pub ended : ends ran last
  pub at : IsAt site last
  pub now : IsKeptNow site keeps last
  pub slots : IsInSlots site last
  pub legal : KeepsCommitOrder last.history last.tier.log
  pub drained : last.tier.doubt ≡ None → last.tier.unsettled ≡ [] → IsDrained last
  pub read : AreReadAt (length last.history) last.tier.groups

-- A line led from a world to one at the site, where a crash leaves a point of the journal's way: what may be there
-- behind a call that failed is one, and what was there before it is, too. Others change no table of a writethrough
-- group where the line began.
pub record BreaksFrom (site : SiteState) (leaving : World → Type 0) (g : Given) (reply : Option Reply) (w : World)
    : Type 0 where
  pub last : World
  pub at : IsAt site last
  pub goes : LineGoes g.base w g.bytes last reply
  pub leaves : leaving last
  pub unshared : IsUnshared w

-- The run ended at the last of the lines, whose reply tells a failed call of the journal's disk. Up to there the engine
-- was left so behind each line. The site is as the world says to which the last line led; and this line led to one at
-- the site from the worlds to which the lines before it had led since each of them began, so that what a crash has left
-- at each moment since is told, in the call that failed, too.
pub record LineBroken (o : Origin) (lines : List (List ℕ)) (replies : List (Option Reply)) (site : SiteState)
    (once leaving : World → Type 0) : Type 0 where
  pub last : World
  pub comes : ComesBroken o lines replies last
  pub goes : GoesOn once o.world comes.run.before comes.run.told comes.run.mid comes.run.run
  pub since : LedSinceEach (BreaksFrom site leaving comes.run.last comes.run.reply) o.world comes.run.before
      comes.run.told comes.run.mid comes.run.run
  pub unshared : IsUnshared comes.run.mid
  pub at : IsAt site last
  pub leaves : leaving last

-- The flush at the end of the input led from a world to one at the site, and a call of the disk failed in it.
pub record FailsFrom (site : SiteState) (leaving : World → Type 0) (reply : Reply) (w : World) : Type 0 where
  pub last : World
  pub at : IsAt site last
  pub ended : tier_steps.Finishes w last (Some reply)
  pub leaves : leaving last

-- The lines are answered, but the tail of the journal couldn't be flushed behind them. The last reply says so. What a
-- crash has left is told as above.
pub record EndBroken (o : Origin) (lines : List (List ℕ)) (replies : List (Option Reply)) (site : SiteState)
    (once leaving : World → Type 0) : Type 0 where
  pub told : List (Option Reply)
  pub ran : World
  pub comes : Comes o lines told ran
  pub goes : GoesOn once o.world comes.given told ran comes.run
  pub last : World
  pub reply : Reply
  pub since : LedSinceEach (FailsFrom site leaving reply) o.world comes.given told ran comes.run
  pub ended : tier_steps.Finishes ran last (Some reply)
  pub broken : is_broken (Some reply) ≡ true
  pub at : IsAt site last
  pub leaves : leaving last
  pub are : replies ≡ told ++ Some reply ∷ []

abbrev pub Broken : Origin → List (List ℕ) → List (Option Reply) → SiteState → (World → Type 0) → (World → Type 0)
    → Type 0
Broken o lines replies site once leaving =
    LineBroken o lines replies site once leaving ⊎ EndBroken o lines replies site once leaving

-- The lines are answered, and all replies written.
pub record Whole (ends : World → World → Type 0) (o : Origin) (lines : List (List ℕ)) (now : Outside) : Type 0 where
  pub replies : List (Option Reply)
  pub answered : Answered ends o lines replies now.site now.keeps now.kept_once
  pub tells : now.written ≡ Some (o.written ++ replies_bytes replies)

-- The run ended by a failed call of the journal's disk, and all replies are written. The last one tells it.
pub record BrokenOff (o : Origin) (lines : List (List ℕ)) (now : Outside) : Type 0 where
  pub replies : List (Option Reply)
  pub broken : Broken o lines replies now.site now.kept_once now.leaves
  pub tells : now.written ≡ Some (o.written ++ replies_bytes replies)

-- The lines are answered, or the run ended by a failed call of the journal's disk; but only a front of the replies is
-- written.
pub record CutShort (o : Origin) (lines : List (List ℕ)) (now : Outside) : Type 0 where
  pub replies : List (Option Reply)
  pub answered : Answered Rests o lines replies now.site now.keeps now.kept_once
      ⊎ (Answered HasFlushed o lines replies now.site now.keeps now.kept_once
      ⊎ Broken o lines replies now.site now.kept_once now.leaves)
  pub count : ℕ
  pub tells : now.written ≡ Some (o.written ++ take count (replies_bytes replies))

-- how a run stopped at the last of the lines
abbrev pub StopsAt : Stop → Origin → List (List ℕ) → Outside → Type 0
StopsAt stop.Sink o lines now = CutShort o lines now
StopsAt stop.Disk o lines now = BrokenOff o lines now

-- More bytes were taken in, or the run stopped behind a front of them.
abbrev pub Feeds : Result (Unit {0}) Stop → Origin → List ℕ → List ℕ → Outside → Session → Type 0
Feeds (Ok done) o given bytes now session = Serving o (given ++ bytes) now session
Feeds (Err why) o given bytes now session = (n : ℕ) × StopsAt why o (ended_lines (given ++ take n bytes)) now

-- The end of the input came: the lines are answered, a front of the replies is written and the others wait.
pub record Closing (o : Origin) (lines : List (List ℕ)) (now : Outside) (engine : Engine) (waiting : List ℕ)
    : Type 0 where
  pub world : World
  pub replies : List (Option Reply)
  pub comes : Comes o lines replies world
  pub goes : GoesOn now.kept_once o.world comes.given replies world comes.run
  pub at : IsAt now.site world
  pub stands : StandsIn now engine world
  pub since : LedSinceEach (StandsHere now engine) o.world comes.given replies world comes.run
  pub passed : Splits (Some o.written) now.written (replies_bytes replies) waiting

abbrev pub Closes : Result (Unit {0}) Stop → Origin → List ℕ → Outside → Engine → List ℕ → Type 0
Closes (Ok done) o given now engine waiting = Closing o (all_lines given) now engine waiting
Closes (Err why) o given now engine waiting = StopsAt why o (all_lines given) now

-- And the tail of the journal is flushed, and all replies are written.
abbrev pub Finishes : Result (Unit {0}) Stop → Origin → List ℕ → Outside → Type 0
Finishes (Ok done) o given now = Whole HasFlushed o (all_lines given) now
Finishes (Err why) o given now = StopsAt why o (all_lines given) now
