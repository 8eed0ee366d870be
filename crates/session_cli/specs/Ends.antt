-- What a run of the program means.

use Rattle.std.specs.Prelude.{◌≡◌, ℕ, ◌^◌, ◌<◌, ◌≤◌, ◌⊎◌, List, [], ◌++◌, Option, Some, Bool, true, false, length}
use Rattle.outside.specs.Holding.{Held}
use Rattle.command_line.specs.declared.command.Command.{Command}
use Rattle.command_line.specs.Keys.{AreBad}
use Rattle.command_line.specs.Words.{Asks, Refuses}
use Rattle.commit_journal.specs.Layout.{HaveBytes}
use Rattle.cache_tier.specs.TierStates.{Settings as TierSettings}
use Rattle.cache_tier.specs.Worlds.{World}
use Rattle.cache_engine.specs.Opening.{Opens}
use Rattle.cache_engine.specs.OfTierOpening.Leaving.{EndsEarly}
use Rattle.cache_engine.specs.OfTierOpening.Opening.{IsSure, MayOpen, Onset, StartsAt}
use Rattle.stored_tier.specs.Stored.{pace_of}
use Rattle.cache_engine.specs.OfTierOpening.Telling.{FailsAs}
use Rattle.cache_engine.specs.OfTierOpening.declared.opening.OpenError.{OpenError}
use Rattle.session_cli.specs.declared.answering.Stop.{Stop}
use Rattle.session_cli.specs.declared.answering.Stop.TheVariants as stop
use Rattle.session_cli.specs.declared.serving.Status.{Status}
use Rattle.session_cli.specs.declared.session.Session.{Session}
use Rattle.session_cli.specs.declared.serving.Status.TheVariants.{Finished, SourceFailed, SinkFailed, DiskFailed}
use Rattle.session_cli.specs.declared.serving.Status.TheVariants.{SchemaFailed, NoMemory, LineUnchecked, Damaged}
use Rattle.session_cli.specs.declared.serving.Status.TheVariants.{Differs, InputTooLong}
use Rattle.session_cli.specs.Cutting.{ended_lines, all_lines}
use Rattle.session_cli.specs.Opening.{TellsWhy, begins}
use Rattle.session_cli.specs.Outside.{Outside}
use Rattle.session_cli.specs.Serving.{HasFlushed, IsLeftAlone, Origin, Rests, Serving, StopsAt, WasLeft, Whole}
use Rattle.session_cli.specs.Timing.{IsNext}

-- at most this many bytes are taken without an end
abbrev pub input_limit : ℕ
input_limit = 2 ^ 32

-- a run stopped so at the lines of a front of the bytes given
pub record Stops (why : Stop) (o : Origin) (given : List ℕ) (now : Outside) : Type 0 where
  pub front : List ℕ
  pub behind : List ℕ
  pub parts : given ≡ front ++ behind
  pub answered : StopsAt why o (ended_lines front) now ⊎ StopsAt why o (all_lines front) now

-- the status of a run that stopped so
abbrev pub status_of : Stop → Status
status_of stop.Sink = SinkFailed
status_of stop.Disk = DiskFailed

-- what a run takes of its input, by how it ended: these bytes were given, and those are left
abbrev pub Gives : Status → List ℕ → List ℕ → Type 0
Gives Finished given left = (left ≡ []) × (length given < input_limit)
Gives SourceFailed given left = length given < input_limit
Gives InputTooLong given left = length given ≡ input_limit
Gives SinkFailed given left = length given ≤ input_limit
Gives DiskFailed given left = length given ≤ input_limit
Gives SchemaFailed given left = given ≡ []
Gives NoMemory given left = given ≡ []
Gives Damaged given left = given ≡ []
Gives Differs given left = given ≡ []
Gives LineUnchecked given left = length given ≤ input_limit

-- no line is taken where a run ends so: no engine was opened, or memory was wanting before
abbrev pub takes_none : Status → Bool
takes_none Finished = false
takes_none SourceFailed = false
takes_none SinkFailed = false
takes_none DiskFailed = false
takes_none SchemaFailed = true
takes_none NoMemory = true
takes_none LineUnchecked = false
takes_none Damaged = true
takes_none Differs = true
takes_none InputTooLong = false

-- only a run over a site ends so: a call of the site failed, or what it holds doesn't go together
abbrev pub is_of_site : Status → Bool
is_of_site Finished = false
is_of_site SourceFailed = false
is_of_site SinkFailed = false
is_of_site DiskFailed = true
is_of_site SchemaFailed = true
is_of_site NoMemory = false
is_of_site LineUnchecked = false
is_of_site Damaged = true
is_of_site Differs = true
is_of_site InputTooLong = false

-- The source gave a front of its bytes.
pub record Taken (status : Status) (input : List ℕ) (source : Option (List ℕ)) : Type 0 where
  pub given : List ℕ
  pub left : List ℕ
  pub tells : source ≡ Some left
  pub parts : input ≡ given ++ left
  pub gives : Gives status given left

-- where the source tells what it holds
abbrev pub Takes : Status → Option (List ℕ) → Option (List ℕ) → Type 0
Takes status source source' = (input : List ℕ) → source ≡ Some input → Taken status input source'

-- how the run ended, by the bytes given
abbrev pub Outcome : Status → Origin → List ℕ → Outside → Type 0
-- all lines are answered, and nothing waits in the journal's tail
Outcome Finished o given now = Whole HasFlushed o (all_lines given) now
-- the lines that ended are answered
Outcome SourceFailed o given now = Whole Rests o (ended_lines given) now
Outcome InputTooLong o given now = Whole Rests o (ended_lines given) now
-- a front of the replies is written
Outcome SinkFailed o given now = Stops stop.Sink o given now
-- the last reply tells a failed call of the journal's disk
Outcome DiskFailed o given now = Stops stop.Disk o given now
-- a run that answers lines doesn't end so
Outcome LineUnchecked o given now = ⊥
Outcome SchemaFailed o given now = ⊥
Outcome NoMemory o given now = ⊥
Outcome Damaged o given now = ⊥
Outcome Differs o given now = ⊥

-- The source gave a front of its bytes, and so the run ended.
pub record Ended (status : Status) (o : Origin) (input : List ℕ) (source : Option (List ℕ)) (now : Outside)
    : Type 0 where
  pub taken : Taken status input source
  pub outcome : Outcome status o taken.given now

-- Where the source tells what is left, the session has been given nothing of a run, and others change no table of a
-- group, it is told afterwards, too, and this is what the run did.
abbrev pub Serves : Session → Status → Option (List ℕ) → Outside → Option (List ℕ) → Outside → Type 0
Serves session status source before source' behind =
    (o : Origin) (input : List ℕ) → source ≡ Some input → Serving o [] before session → IsLeftAlone o input
    → Ended status o input source' behind

-- No engine was opened, and no line is answered: nothing of the source is taken. The sink is told why, and that has its
-- cause at the moment of the opening. Where a crash left just what the site told as the run began, it is told what a
-- crash leaves.
pub record Unopened (status : Status) (settings : TierSettings) (there : Held) (input : List ℕ) (before : Outside)
    (source : Option (List ℕ)) (behind : Outside) : Type 0 where
  pub untaken : source ≡ Some input
  pub why : OpenError
  pub tells : TellsWhy status before.written behind.written why
  pub moment : ℕ
  pub next : IsNext (before.coming 0) moment
  pub failed : FailsAs moment (pace_of settings) before.site behind.site why
  pub leaves : before.certain there → EndsEarly settings moment there before.site behind.site behind.left behind.leaves

-- Before the first line the engine is opened, which may raise counts of faults, and in which transactions of others may
-- come. The run begins in the world that this leaves, in which the engine is left so, and ends so where others change
-- no table of a group. The way of the journal begins as is asked.
pub record OpenedAndEnded (onset : Onset) (status : Status) (settings : TierSettings) (there : Held)
    (start input : List ℕ) (before : Outside) (source : Option (List ℕ)) (behind : Outside) : Type 0 where
  pub first : ℕ
  pub next : IsNext (before.coming 0) first
  pub world : World
  pub opens : Opens settings first there world
  pub starts : StartsAt onset before.site.moment opens.begins
  pub kept : world.journal.kept ≡ true
  pub later : before.site.bank_faults ≤ world.bank_faults
  pub shares : world.shared ≡ before.site.shared
  pub left : WasLeft before.kept_once world
  pub ended : IsLeftAlone (begins world start before.coming) input
      → Ended status (begins world start before.coming) input source behind

-- Where source, sink and site tell what they hold, and the site's journal and history belong together, this is what the
-- run did, and what they tell afterwards. Its moments are counted from what the clock answers. What a crash leaves is
-- told since the run began, where one left just what the site told then, and else since the journal was found.
abbrev pub Runs : TierSettings → Status → Option (List ℕ) → Outside → Option (List ℕ) → Outside → Type 0
Runs settings status source before source' behind =
    (onset : Onset) (input start : List ℕ) (there : Held) → source ≡ Some input → before.written ≡ Some start
    → before.site.held ≡ Some there → HaveBytes there.slots → IsSure onset before.certain there
    → MayOpen before.site.shared there → Unopened status settings there input before source' behind
    ⊎ OpenedAndEnded onset status settings there start input before source' behind

-- Why a run doesn't begin: `clap` refuses the words, or it takes them and the settings are bad, or memory was wanting.
abbrev pub Unstarted : List (List ℕ) → List ℕ → ℕ → Type 0
Unstarted words settings status =
    ((status ≡ 1) × Refuses words) ⊎ (((status ≡ 2) × ((command : Command) × Asks words command)
    × AreBad settings) ⊎ (status ≡ 7))

-- the statuses with which a run ends
abbrev pub number_of : Status → ℕ
number_of Finished = 0
number_of SourceFailed = 3
number_of SinkFailed = 4
number_of DiskFailed = 5
number_of SchemaFailed = 6
number_of NoMemory = 7
number_of LineUnchecked = 7
number_of Damaged = 8
number_of Differs = 9
number_of InputTooLong = 10
