-- What a crash leaves at each moment of a run, over what the program's clause says of it. (This project's rule, over
-- recovery as the TimesTen Cache User's Guide, "Recovery", tells of it.)

use Rattle.std.proofs.Common.{inl, inr}
use Rattle.std.specs.Prelude.{◌≡◌, ◌⊎◌, ℕ, ◌≤◌, List, [], ◌∷◌, Option, Some, take}
use Rattle.tier_base.specs.declared.number.TableId.{TableId}
use Rattle.table_defs.specs.declared.definition.TableDef.{TableDef}
use Rattle.table_state.specs.declared.history.Entry.{Entry}
use Rattle.table_state.specs.Histories.{state_of}
use Rattle.table_state.specs.Tables.{TableState}
use Rattle.outside.specs.Calls.{Certain}
use Rattle.outside.specs.Holding.{Held}
use Rattle.outside.specs.Sites.{SiteState}
use Rattle.cache_tier.specs.declared.reply.Reply.{Reply}
use Rattle.cache_tier.specs.Journals.{JournalEntry}
use Rattle.cache_tier.specs.TierStates.{Settings}
use Rattle.cache_tier.specs.Worlds.{IsUnshared, World}
use Rattle.tier_journal.specs.Leaving.{GivesEntries}
use Rattle.tier_journal.specs.KeptOver.{IsLeftOver, KeepsOver}
use Rattle.tier_journal.specs.Ways.{HasBecome}
use Rattle.recovery.specs.SafeWays.{IsSafe, LeaveUnshared}
use Rattle.tier_opening.specs.Leaving.{EndsEarly, IsAsFound, LeftSince}
use Rattle.tier_opening.specs.Opening.{AtOpening, Onset, onset_history, onset_moment}
use Rattle.cache_engine.specs.Opening.{Opens}
use Rattle.cache_engine.specs.Requests.{Given, LineRun}
use Rattle.session_cli.specs.declared.answering.Stop.{Stop}
use Rattle.session_cli.specs.declared.answering.Stop.TheVariants as stop
use Rattle.session_cli.specs.declared.serving.Status.{Status}
use Rattle.session_cli.specs.declared.serving.Status.TheVariants.{Damaged, Differs, DiskFailed, Finished, InputTooLong}
use Rattle.session_cli.specs.declared.serving.Status.TheVariants.{LineUnchecked, NoMemory, SchemaFailed, SinkFailed}
use Rattle.session_cli.specs.declared.serving.Status.TheVariants.{SourceFailed}
use Rattle.session_cli.specs.Cutting.{all_lines, ended_lines}
use Rattle.session_cli.specs.Ends.{OpenedAndEnded, Outcome, Unopened}
use Rattle.session_cli.specs.Importing.{ImportUnopened, OpenedAndImported}
use Rattle.session_cli.specs.Opening.{begins}
use Rattle.session_cli.specs.Outside.{WasKept, seen}
use Rattle.session_cli.specs.Serving.{Answered, Broken, EndBroken, HasFlushed, IsLeftAlone, LineBroken, Origin, Rests, StopsAt}
use Rattle.session_cli.specs.Timing.{Coming}
use Rattle.reopened_laws.specs.Ending.{MayOpenAgain}

-- what is asked of others where these entries and this history are left
abbrev pub Asking : Type 1
Asking = List JournalEntry → List Entry → Type 0

-- that they change no table of a writethrough group in this world
abbrev pub LeaveAlone : World → Asking
LeaveAlone w entries history = IsUnshared w

-- The slots give entries, under a schema that has become this one. They belong together with the history, and hold each
-- commit that was held in the world in which a line began: by what was flushed there, or by its history. Where what is
-- asked of others is so, a tier may be opened over what is left, whatever others do in the opening.
pub record IsSafeLeft (w : World) (shared : List TableId) (schema : List TableDef) (asked : Asking) (p : Held)
    : Type 0 where
  pub entries : List JournalEntry
  pub early : List TableDef
  pub becomes : HasBecome early schema
  pub gives : GivesEntries early p.slots entries
  pub safe : IsSafe w.journal.flushed w.history entries p.history
  pub may : asked entries p.history → MayOpenAgain shared p

-- So it is at each moment since that world, up to the moment of the site, of whatever a crash has left of it.
abbrev pub LeavesSafe : {D : Type 0} (state : D → SiteState) (possible : D → ℕ → Held → Type 0) (d : D) (w : World)
    (schema : List TableDef) (asked : Asking) → Type 0
LeavesSafe state possible d w schema asked =
    (k : ℕ) (p : Held) → w.moment ≤ k → k ≤ (state d).moment → possible d k p
    → IsSafeLeft w (state d).shared schema asked p

-- since a run began, since each of its lines did, and since the last one ended
abbrev pub CrashesAreSafe : {D : Type 0} (state : D → SiteState) (possible : D → ℕ → Held → Type 0) (d : D)
    (schema : List TableDef) (asked : Asking) (w : World) (lines : List Given) (replies : List (Option Reply))
    (w' : World) → LineRun w lines replies w' → Type 0
CrashesAreSafe state possible d schema asked w [] [] w' run = LeavesSafe state possible d w' schema asked
CrashesAreSafe state possible d schema asked w [] (reply ∷ replies) w' run = ⊥
CrashesAreSafe state possible d schema asked w (g ∷ lines) [] w' run = ⊥
CrashesAreSafe state possible d schema asked w (g ∷ lines) (reply ∷ replies) w' run =
    LeavesSafe state possible d w schema asked
    × CrashesAreSafe state possible d schema asked run.0 lines replies w' run.2

-- the world in which the tier began, at the moment and with the history where the way of its journal begins
abbrev pub was_in : {settings : Settings} {moment : ℕ} {there : Held} {w : World} → Opens settings moment there w
    → World
was_in x = record x.begun { moment = x.begins.since; history = take x.begins.from x.begun.history }

-- since that way began, and in the run
abbrev pub OpeningIsSafe : {D : Type 0} (state : D → SiteState) (possible : D → ℕ → Held → Type 0) (d : D)
    (schema : List TableDef) (asked : Asking) (begun w : World) (lines : List Given) (replies : List (Option Reply))
    (w' : World) → LineRun w lines replies w' → Type 0
OpeningIsSafe state possible d schema asked begun w lines replies w' run =
    LeavesSafe state possible d begun schema asked × CrashesAreSafe state possible d schema asked w lines replies w' run

-- Of each run of which all lines are answered, which began with a tier opened over a site that might be opened: of the
-- site as it is at its end, under the schema of what it holds then. Where others change no table of a writethrough
-- group behind its last line, a tier may be opened over what was left.
abbrev pub CrashesWithinAreSafe : {D : Type 0} → (D → SiteState) → (D → ℕ → Held → Type 0)
    → (World → World → Type 0) → Type 0
CrashesWithinAreSafe {D = D} state possible ends =
    (settings : Settings) (moment : ℕ) (there left : Held) (s : TableState) (o : Origin) (lines : List (List ℕ))
    (replies : List (Option Reply)) (d : D) (x : Opens settings moment there o.world)
    → MayOpenAgain o.world.shared there
    → (a : Answered ends o lines replies (state d) (KeepsOver state possible d) (WasKept state possible))
    → (state d).held ≡ Some left → state_of left.history ≡ Some s
    → OpeningIsSafe state possible d s.schema (LeaveAlone a.ran) (was_in x) o.world a.comes.given replies a.ran
    a.comes.run

-- ---- where a call of the journal's disk failed

-- Of each run that ended with a line in which such a call failed, and that began with a tier opened over a site that
-- might be opened: of the site as it is then, inside the last line, too, and behind it. A tier may be opened over what
-- was left where others change no table of a writethrough group that the entries there leave.
abbrev pub BrokenLinesAreSafe : {D : Type 0} → (D → SiteState) → (D → ℕ → Held → Type 0) → Type 0
BrokenLinesAreSafe {D = D} state possible =
    (settings : Settings) (moment : ℕ) (there left : Held) (s : TableState) (o : Origin) (lines : List (List ℕ))
    (replies : List (Option Reply)) (d : D) (x : Opens settings moment there o.world)
    → MayOpenAgain o.world.shared there
    → (b : LineBroken o lines replies (state d) (WasKept state possible) (IsLeftOver state possible d))
    → (state d).held ≡ Some left → state_of left.history ≡ Some s
    → OpeningIsSafe state possible d s.schema (LeaveUnshared (state d).shared) (was_in x) o.world b.comes.run.before
    b.comes.run.told b.comes.run.mid b.comes.run.run

-- the same of a run that ended with the flush at the end of its input, in which such a call failed
abbrev pub BrokenEndsAreSafe : {D : Type 0} → (D → SiteState) → (D → ℕ → Held → Type 0) → Type 0
BrokenEndsAreSafe {D = D} state possible =
    (settings : Settings) (moment : ℕ) (there left : Held) (s : TableState) (o : Origin) (lines : List (List ℕ))
    (replies : List (Option Reply)) (d : D) (x : Opens settings moment there o.world)
    → MayOpenAgain o.world.shared there
    → (b : EndBroken o lines replies (state d) (WasKept state possible) (IsLeftOver state possible d))
    → (state d).held ≡ Some left → state_of left.history ≡ Some s
    → OpeningIsSafe state possible d s.schema (LeaveUnshared (state d).shared) (was_in x) o.world b.comes.given b.told
    b.ran b.comes.run

-- ---- a run of the program

-- so it is of a run of which all lines are answered
abbrev pub AnsweredIsSafe : {D : Type 0} (state : D → SiteState) (possible : D → ℕ → Held → Type 0) (d : D)
    (schema : List TableDef) (begun : World) (ends : World → World → Type 0) (o : Origin) (lines : List (List ℕ))
    (replies : List (Option Reply))
    → Answered ends o lines replies (state d) (KeepsOver state possible d) (WasKept state possible) → Type 0
AnsweredIsSafe state possible d schema begun ends o lines replies a =
    OpeningIsSafe state possible d schema (LeaveAlone a.ran) begun o.world a.comes.given replies a.ran a.comes.run

-- of one that a failed call of the journal's disk ended
abbrev pub BrokenIsSafe : {D : Type 0} (state : D → SiteState) (possible : D → ℕ → Held → Type 0) (d : D)
    (schema : List TableDef) (begun : World) (o : Origin) (lines : List (List ℕ)) (replies : List (Option Reply))
    → Broken o lines replies (state d) (WasKept state possible) (IsLeftOver state possible d) → Type 0
BrokenIsSafe state possible d schema begun o lines replies (inl b) =
    OpeningIsSafe state possible d schema (LeaveUnshared (state d).shared) begun o.world b.comes.run.before
    b.comes.run.told b.comes.run.mid b.comes.run.run
BrokenIsSafe state possible d schema begun o lines replies (inr b) =
    OpeningIsSafe state possible d schema (LeaveUnshared (state d).shared) begun o.world b.comes.given b.told b.ran
    b.comes.run

-- of one of whose replies a front is written
abbrev pub CutIsSafe : {D : Type 0} (state : D → SiteState) (possible : D → ℕ → Held → Type 0) (d : D)
    (schema : List TableDef) (begun : World) (o : Origin) (lines : List (List ℕ)) (replies : List (Option Reply))
    → Answered Rests o lines replies (state d) (KeepsOver state possible d) (WasKept state possible)
    ⊎ (Answered HasFlushed o lines replies (state d) (KeepsOver state possible d) (WasKept state possible)
    ⊎ Broken o lines replies (state d) (WasKept state possible) (IsLeftOver state possible d)) → Type 0
CutIsSafe state possible d schema begun o lines replies (inl a) =
    AnsweredIsSafe state possible d schema begun Rests o lines replies a
CutIsSafe state possible d schema begun o lines replies (inr (inl a)) =
    AnsweredIsSafe state possible d schema begun HasFlushed o lines replies a
CutIsSafe state possible d schema begun o lines replies (inr (inr b)) =
    BrokenIsSafe state possible d schema begun o lines replies b

-- of one that stopped so at the last of the lines, or at the end of its input
abbrev pub StopIsSafe : {D : Type 0} (state : D → SiteState) (possible : D → ℕ → Held → Type 0) (d : D)
    (written : Option (List ℕ)) (coming : Coming) (schema : List TableDef) (begun : World) (why : Stop) (o : Origin)
    (lines : List (List ℕ)) → StopsAt why o lines (seen written coming state possible d) → Type 0
StopIsSafe state possible d written coming schema begun stop.Sink o lines x =
    CutIsSafe state possible d schema begun o lines x.replies x.answered
StopIsSafe state possible d written coming schema begun stop.Disk o lines x =
    BrokenIsSafe state possible d schema begun o lines x.replies x.broken

abbrev pub StopsAreSafe : {D : Type 0} (state : D → SiteState) (possible : D → ℕ → Held → Type 0) (d : D)
    (written : Option (List ℕ)) (coming : Coming) (schema : List TableDef) (begun : World) (why : Stop) (o : Origin)
    (front : List ℕ) → StopsAt why o (ended_lines front) (seen written coming state possible d)
    ⊎ StopsAt why o (all_lines front) (seen written coming state possible d) → Type 0
StopsAreSafe state possible d written coming schema begun why o front (inl x) =
    StopIsSafe state possible d written coming schema begun why o (ended_lines front) x
StopsAreSafe state possible d written coming schema begun why o front (inr x) =
    StopIsSafe state possible d written coming schema begun why o (all_lines front) x

-- of one that ended with this status
abbrev pub OutcomeIsSafe : {D : Type 0} (state : D → SiteState) (possible : D → ℕ → Held → Type 0) (d : D)
    (written : Option (List ℕ)) (coming : Coming) (schema : List TableDef) (begun : World) (status : Status)
    (o : Origin) (given : List ℕ) → Outcome status o given (seen written coming state possible d) → Type 0
OutcomeIsSafe state possible d written coming schema begun Finished o given x =
    AnsweredIsSafe state possible d schema begun HasFlushed o (all_lines given) x.replies x.answered
OutcomeIsSafe state possible d written coming schema begun SourceFailed o given x =
    AnsweredIsSafe state possible d schema begun Rests o (ended_lines given) x.replies x.answered
OutcomeIsSafe state possible d written coming schema begun InputTooLong o given x =
    AnsweredIsSafe state possible d schema begun Rests o (ended_lines given) x.replies x.answered
OutcomeIsSafe state possible d written coming schema begun SinkFailed o given x =
    StopsAreSafe state possible d written coming schema begun stop.Sink o x.front x.answered
OutcomeIsSafe state possible d written coming schema begun DiskFailed o given x =
    StopsAreSafe state possible d written coming schema begun stop.Disk o x.front x.answered
OutcomeIsSafe state possible d written coming schema begun LineUnchecked o given x = Unit {0}
OutcomeIsSafe state possible d written coming schema begun SchemaFailed o given x = Unit {0}
OutcomeIsSafe state possible d written coming schema begun NoMemory o given x = Unit {0}
OutcomeIsSafe state possible d written coming schema begun Damaged o given x = Unit {0}
OutcomeIsSafe state possible d written coming schema begun Differs o given x = Unit {0}

-- the world in which the tier began, as it was when the run did, or where the journal was found
abbrev pub as_begun : Onset → ℕ → Held → World → World
as_begun onset moment there begun =
    record begun {
      moment = onset_moment onset moment begun.moment;
      history = onset_history onset there.history begun.history;
    }

-- Of each run of the program that was opened over a site that might be opened, whatever the status with which it ended:
-- since the run began, where a crash left just what the site told then, and else since the journal was found. An opened
-- run ends with none of the last five.
abbrev pub RunsAreSafe : {D : Type 0} → (D → SiteState) → (D → ℕ → Held → Type 0) → Type 0
RunsAreSafe {D = D} state possible =
    (onset : Onset) (status : Status) (settings : Settings) (there left : Held) (s : TableState) (start input : List ℕ)
    (written written' : Option (List ℕ)) (coming coming' : Coming) (d d' : D) (source : Option (List ℕ))
    (x : OpenedAndEnded onset status settings there start input (seen written coming state possible d) source
    (seen written' coming' state possible d')) (alone : IsLeftAlone (begins x.world start coming) input)
    → MayOpenAgain (state d).shared there → (state d').held ≡ Some left → state_of left.history ≡ Some s
    → OutcomeIsSafe state possible d' written' coming' s.schema
    (as_begun onset (state d).moment there x.opens.begun) status (begins x.world start coming)
    (x.ended alone).taken.given (x.ended alone).outcome

-- ---- in the command `import`

-- nothing
abbrev pub AskNothing : Asking
AskNothing entries history = Unit {0}

-- So it is in the command `import` that was opened over a site that might be opened, whether its rows were imported or
-- refused, or nothing was done; nothing is asked of others then.
abbrev pub ImportsAreSafe : {D : Type 0} → (D → SiteState) → (D → ℕ → Held → Type 0) → Type 0
ImportsAreSafe {D = D} state possible =
    (onset : Onset) (status : Status) (settings : Settings) (there left : Held) (s : TableState) (word input : List ℕ)
    (written written' : Option (List ℕ)) (coming coming' : Coming) (d d' : D) (source : Option (List ℕ))
    → (x : OpenedAndImported onset status settings there word input (seen written coming state possible d) source
    (seen written' coming' state possible d'))
    → MayOpenAgain (state d).shared there → (state d').held ≡ Some left → state_of left.history ≡ Some s
    → LeavesSafe state possible d' (as_begun onset (state d).moment there x.opens.begun) s.schema AskNothing

-- ---- where nothing was opened

-- The site is as it was found, but for transactions of others, and a tier may be opened over it.
pub record IsFoundAgain (shared : List TableId) (o p : Held) : Type 0 where
  pub found : IsAsFound shared o p
  pub may : MayOpenAgain shared p

-- What a crash has left of a site with this, at each moment since an opening began that failed: the site as it was
-- found; or what holds each commit that was held then, and over which a tier may be opened.
abbrev pub EarlyEndIsSafe : {D : Type 0} (state : D → SiteState) (possible : D → ℕ → Held → Type 0) (d d' : D)
    (there : Held) (schema : List TableDef) (settings : Settings) (moment : ℕ)
    → EndsEarly settings moment there (state d) (state d') (LeftSince state possible d') (IsLeftOver state possible d')
    → Type 0
EarlyEndIsSafe state possible d d' there schema settings moment (inl found) =
    LeftSince state possible d' (state d).moment (IsFoundAgain (state d).shared there)
EarlyEndIsSafe state possible d d' there schema settings moment (inr x) =
    LeavesSafe state possible d' (as_begun AtOpening (state d).moment there x.begun) schema AskNothing

-- So it is of each run that wasn't opened, over a site that might be opened, where a crash left just what the site told
-- as the run began. Nothing is asked of others.
abbrev pub UnopenedRunsAreSafe : {D : Type 0} → (D → SiteState) → (D → ℕ → Held → Type 0) → Type 0
UnopenedRunsAreSafe {D = D} state possible =
    (status : Status) (settings : Settings) (there left : Held) (s : TableState) (input : List ℕ)
    (written written' : Option (List ℕ)) (coming coming' : Coming) (d d' : D) (source : Option (List ℕ))
    (u : Unopened status settings there input (seen written coming state possible d) source
    (seen written' coming' state possible d')) (sure : Certain state possible d there)
    → MayOpenAgain (state d).shared there → (state d').held ≡ Some left → state_of left.history ≡ Some s
    → EarlyEndIsSafe state possible d d' there s.schema settings u.moment (u.leaves sure)

-- and of each `import`
abbrev pub UnopenedImportsAreSafe : {D : Type 0} → (D → SiteState) → (D → ℕ → Held → Type 0) → Type 0
UnopenedImportsAreSafe {D = D} state possible =
    (status : Status) (settings : Settings) (there left : Held) (s : TableState) (input : List ℕ)
    (written written' : Option (List ℕ)) (coming coming' : Coming) (d d' : D) (source : Option (List ℕ))
    (u : ImportUnopened status settings there input (seen written coming state possible d) source
    (seen written' coming' state possible d')) (sure : Certain state possible d there)
    → MayOpenAgain (state d).shared there → (state d').held ≡ Some left → state_of left.history ≡ Some s
    → EarlyEndIsSafe state possible d d' there s.schema settings u.moment (u.leaves sure)
