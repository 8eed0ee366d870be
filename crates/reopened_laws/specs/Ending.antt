-- What a run of the program leaves, over what the program's clause says of it. (This project's rule.)

use Rattle.std.specs.Prelude.{◌≡◌, ℕ, List, [], ◌∷◌, Option, Some}
use Rattle.tier_base.specs.declared.number.TableId.{TableId}
use Rattle.table_state.specs.Histories.{state_of}
use Rattle.table_state.specs.Tables.{TableState}
use Rattle.outside.specs.Holding.{Held}
use Rattle.outside.specs.Sites.{SiteState}
use Rattle.commit_journal.specs.Layout.{HaveBytes}
use Rattle.tier_journal.specs.KeptOver.{KeepsOver}
use Rattle.cache_tier.specs.declared.reply.Reply.{Reply}
use Rattle.cache_tier.specs.TierStates.{Settings}
use Rattle.cache_tier.specs.Worlds.{IsUnshared, World}
use Rattle.tier_opening.specs.Opening.{MayOpen, Onset}
use Rattle.cache_engine.specs.Opening.{Opens}
use Rattle.cache_engine.specs.Requests.{Given, LineRun}
use Rattle.session_cli.specs.declared.serving.Status.{Status}
use Rattle.session_cli.specs.declared.serving.Status.TheVariants.{Finished}
use Rattle.session_cli.specs.Ends.{OpenedAndEnded}
use Rattle.session_cli.specs.Importing.{OpenedAndImported}
use Rattle.session_cli.specs.Opening.{begins}
use Rattle.session_cli.specs.Outside.{WasKept, seen}
use Rattle.session_cli.specs.Timing.{Coming}
use Rattle.session_cli.specs.Serving.{Answered, GoesOn, IsLeftAlone, Origin, WasLeft}
use Rattle.reopened_laws.specs.Leaving.{HaveOwnTableNames}

-- A tier may be opened over the site, no slot of which is without bytes, and no two tables of its bank have one name.
pub record MayOpenAgain (shared : List TableId) (o : Held) : Type 0 where
  pub may : MayOpen shared o
  pub bytes : HaveBytes o.slots
  pub named : (s : TableState) → state_of o.history ≡ Some s → HaveOwnTableNames s.schema

-- A run over the lines that began with a tier opened over such a site, and of which all lines are answered, leaves one,
-- where others change no table of a writethrough group at its end.
abbrev pub LeavesSite : {D : Type 0} → (D → SiteState) → (D → ℕ → Held → Type 0)
    → (World → World → Type 0) → Type 0
LeavesSite {D = D} state possible ends =
    (settings : Settings) (moment : ℕ) (there left : Held) (o : Origin) (lines : List (List ℕ))
    (replies : List (Option Reply)) (d : D) → Opens settings moment there o.world → MayOpenAgain o.world.shared there
    → (a : Answered ends o lines replies (state d) (KeepsOver state possible d) (WasKept state possible))
    → IsUnshared a.last → (state d).held ≡ Some left → MayOpenAgain (state d).shared left

-- The same of a run of the program that was opened and ended with the status 0, and of what its site holds then.
abbrev pub RunsLeaveSites : {D : Type 0} → (D → SiteState) → (D → ℕ → Held → Type 0) → Type 0
RunsLeaveSites {D = D} state possible =
    (onset : Onset) (settings : Settings) (there left : Held) (start input : List ℕ)
    (written written' : Option (List ℕ)) (coming coming' : Coming) (d d' : D) (source : Option (List ℕ))
    (x : OpenedAndEnded onset Finished settings there start input (seen written coming state possible d) source
    (seen written' coming' state possible d')) (alone : IsLeftAlone (begins x.world start coming) input)
    → MayOpenAgain (state d).shared there → IsUnshared (x.ended alone).outcome.answered.last
    → (state d').held ≡ Some left → MayOpenAgain (state d').shared left

-- The same of the command `import` that was opened, whether its rows were imported or refused, or nothing was done.
abbrev pub ImportsLeaveSites : {D : Type 0} → (D → SiteState) → (D → ℕ → Held → Type 0) → Type 0
ImportsLeaveSites {D = D} state possible =
    (onset : Onset) (status : Status) (settings : Settings) (there left : Held) (word input : List ℕ)
    (written written' : Option (List ℕ)) (coming coming' : Coming) (d d' : D) (source : Option (List ℕ))
    → OpenedAndImported onset status settings there word input (seen written coming state possible d) source
    (seen written' coming' state possible d')
    → MayOpenAgain (state d).shared there → (state d').held ≡ Some left → MayOpenAgain (state d').shared left

-- ---- a crash between two lines

-- over whatever a crash leaves of the site as it was in this world
abbrev pub MayOpenAfterCrash : {D : Type 0} (state : D → SiteState) (possible : D → ℕ → Held → Type 0) (w : World)
    → WasLeft (WasKept state possible) w → Type 0
MayOpenAfterCrash state possible w was =
    (p : Held) → possible was.over.site (state was.over.site).moment p → MayOpenAgain w.shared p

-- So it is in the world in which a run begins, and in the world behind each of its lines; in the last of these where
-- others change no table of a writethrough group.
abbrev pub CrashesMayOpen : {D : Type 0} (state : D → SiteState) (possible : D → ℕ → Held → Type 0) (w : World)
    (lines : List Given) (replies : List (Option Reply)) (w' : World) (run : LineRun w lines replies w')
    → GoesOn (WasKept state possible) w lines replies w' run → Type 0
CrashesMayOpen state possible w [] [] w' run was = IsUnshared w' → MayOpenAfterCrash state possible w' was
CrashesMayOpen state possible w [] (reply ∷ replies) w' run goes = Unit {0}
CrashesMayOpen state possible w (g ∷ lines) [] w' run goes = Unit {0}
CrashesMayOpen state possible w (g ∷ lines) (reply ∷ replies) w' run goes =
    MayOpenAfterCrash state possible w goes.0 × CrashesMayOpen state possible run.0 lines replies w' run.2 goes.3

-- of each run that began with a tier opened over such a site
abbrev pub CrashesLeaveSites : {D : Type 0} → (D → SiteState) → (D → ℕ → Held → Type 0) → Type 0
CrashesLeaveSites state possible =
    (settings : Settings) (moment : ℕ) (there : Held) (w w' : World) (lines : List Given)
    (replies : List (Option Reply)) (run : LineRun w lines replies w') → Opens settings moment there w
    → MayOpenAgain w.shared there → (goes : GoesOn (WasKept state possible) w lines replies w' run)
    → CrashesMayOpen state possible w lines replies w' run goes
