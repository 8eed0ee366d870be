-- How a line that is read goes on. (This project's rule.)

use Rattle.std.specs.Prelude.{◌≡◌, ℕ, None}
use Rattle.tier_base.specs.declared.limit.Limit.TheVariants as limit
use Rattle.row_types.specs.declared.rule.Refused.{Refused}
use Rattle.row_types.specs.declared.rule.Refused.TheVariants as refused
use Rattle.sql_subset.specs.declared.request.Line.{Line}
use Rattle.sql_subset.specs.declared.request.Line.TheVariants as says
use Rattle.sql_subset.specs.declared.request.ParseError.{ParseError}
use Rattle.sql_subset.specs.declared.request.ParseError.TheVariants as error
use Rattle.cache_tier.specs.ConsoleSteps.{AsksSchema}
use Rattle.cache_tier.specs.Rules.{past, wrong_at}
use Rattle.cache_tier.specs.Steps.{Does, Parts, early_fault, session_fault}
use Rattle.cache_tier.specs.TierStates.{Tier}
use Rattle.cache_tier.specs.Worlds.{Part, Then, Tries}

-- No rule of the second place refuses it now: the session is there, or may be opened.
abbrev pub IsAdmitted : Line → Tier → Type 0
IsAdmitted (says.Session label request) t = session_fault t label request ≡ None
IsAdmitted (says.Console request) t = Unit {0}
IsAdmitted (says.Clock ms) t = Unit {0}

-- the statement of a line that is admitted
abbrev pub DoesAdmitted : Line → Part
DoesAdmitted l w w' reply = IsAdmitted l w.tier → Tries (Does l) w w' reply

-- the question for the schema, and the statement
abbrev pub AsksAndDoes : Line → Part
AsksAndDoes l w w' reply = IsAdmitted l w.tier → Tries (Then (AsksSchema l) (Tries (Does l))) w w' reply

-- the work that is due, and the line, where the second place of the order refuses nothing
abbrev pub WorksAndAnswers : ℕ → Line → Part
WorksAndAnswers base l w w' reply = early_fault base l w.tier ≡ None → Tries (Parts base l) w w' reply

-- why a line isn't read: 101 at a byte, 119 of its depth, or memory was wanting
abbrev pub misread : ParseError → Refused
misread (error.At place) = refused.Rule (wrong_at place)
misread error.Depth = refused.Rule (past limit.Depth)
misread error.Memory = refused.Memory
