-- A script that is run on a new site in memory.

use Rattle.std.specs.Prelude.{◌≡◌, ℕ, List, [], ◌∷◌, Bool, true, false, Option, Some, length, map}
use Rattle.table_state.specs.declared.history.Entry.{Entry}
use Rattle.table_state.specs.Histories.{state_of}
use Rattle.table_state.specs.Tables.{TableState}
use Rattle.outside.specs.Holding.{Held}
use Rattle.outside.specs.Others.{AreOthers}
use Rattle.outside.specs.Sites.{SiteState}
use Rattle.cache_tier.specs.declared.reply.Reply.{Reply}
use Rattle.cache_tier.specs.TierStates.{Settings}
use Rattle.cache_tier.specs.Worlds.{World}
use Rattle.cache_engine.specs.declared.engine.Engine.{Engine}
use Rattle.cache_engine.specs.Engines.{IsLeftIn}
use Rattle.stored_tier.specs.Sites.{IsAt}
use Rattle.cache_engine.specs.Beginning.{opened_world}
use Rattle.cache_engine.specs.Requests.{Given, LineRun, LineStep}
use Rattle.script_maker.specs.Script.{script_lines}
use Rattle.session_cli.specs.declared.counts.Counts.{Counts}
use Rattle.session_cli.specs.declared.summary.Summary.{Summary}
use Rattle.session_cli.specs.Summaries.{AreCounts, counted, greatest_ticket}

-- the settings of an empty file
abbrev pub default_settings : Settings
default_settings = record {
  workers = 1;
  propagate_ms = 0;
  lru_high = 10000;
  lru_low = 9000;
  lru_cycle_ms = 60000;
  rotate_bytes = 16777216;
}

-- a line whose moment is counted from the moment 0
abbrev pub from_zero : List ℕ → Given
from_zero line = record { base = 0; bytes = line }

-- The lines are answered one after the other, which leads to a world, and these are the counts of the replies.
pub record Ran (w : World) (lines : List (List ℕ)) (counts : Counts) (w' : World) : Type 0 where
  pub replies : List (Option Reply)
  pub run : LineRun w (map from_zero lines) replies w'
  pub counted : AreCounts replies counts

-- so they ran, and the world is at the site
pub record Ends (w : World) (lines : List (List ℕ)) (counts : Counts) (site : SiteState) : Type 0 where
  pub last : World
  pub ran : Ran w lines counts last
  pub at : IsAt site last

-- The tier's opening left this of a new site. Others change no table, so that only transactions without operations can
-- have come.
pub record IsOpened (site : SiteState) (history : List Entry) (state : TableState) : Type 0 where
  pub held : Held
  pub told : site.held ≡ Some held
  pub is : held.history ≡ history
  pub shared : site.shared ≡ []
  pub others : AreOthers [] [] history
  pub leaves : state_of history ≡ Some state

-- The script of a number was run by a tier over a new site, with default settings: the summary has the counts of its
-- replies, and of the history to which it led the greatest ticket and the length.
pub record IsSummaryOf (number : ℕ) (s : Summary) : Type 0 where
  pub site : SiteState
  pub history : List Entry
  pub state : TableState
  pub opened : IsOpened site history state
  pub last : World
  pub ran : Ran (opened_world default_settings 0 state history site) (script_lines number) s.counts last
  pub ticket : s.ticket ≡ greatest_ticket last.history
  pub entries : s.entries ≡ length last.history

-- the next line is answered and counted
pub record Answered (w : World) (line : List ℕ) (counts counts' : Counts) (engine : Engine) (site : SiteState)
    : Type 0 where
  pub reply : Option Reply
  pub world : World
  pub step : LineStep 0 w line world reply
  pub at : IsAt site world
  pub stands : IsLeftIn engine world
  pub count : counts' ≡ counted reply counts

-- so it is, unless no line is left
abbrev pub Answers : World → List (List ℕ) → List (List ℕ) → Counts → Counts → Engine → SiteState → Bool → Type 0
Answers w [] left counts counts' engine site more =
    (more ≡ false) × (left ≡ []) × (counts' ≡ counts) × IsAt site w × IsLeftIn engine w
Answers w (line ∷ lines) left counts counts' engine site more =
    (more ≡ true) × (left ≡ lines) × Answered w line counts counts' engine site
