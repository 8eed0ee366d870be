-- OPEN, CLOSE, and the passthrough flag of a transaction. (This project's rules; TimesTen built-in procedures,
-- "ttOptSetFlag".)

use Rattle.std.specs.Prelude.{ℕ, List, [], ◌∷◌, ◌++◌, length, not, Option, Some, None}
use Rattle.std.specs.List.{filter, list_any}
use Rattle.std.specs.Option.{option_or}
use Rattle.tier_base.specs.declared.code.Code.TheVariants as code
use Rattle.tier_base.specs.declared.limit.Limit.TheVariants as limit
use Rattle.row_types.specs.declared.rule.Rule.{Rule}
use Rattle.cache_tier.specs.declared.reply.Last.TheVariants.{Done}
use Rattle.sql_subset.specs.declared.request.OpenOptions.{OpenOptions}
use Rattle.cache_tier.specs.Rules.{at_limit, broken_if, labelled}
use Rattle.cache_tier.specs.TierStates.{Session, Tier, is_labelled, with_session}
use Rattle.cache_tier.specs.Worlds.{Answer, only}

abbrev pub new_session : List ℕ → OpenOptions → Session
new_session label options =
    record { label = label; level = options.passthrough; flag = None; durable = options.durable; own = [] }

-- OPEN: 113 of the label of an open session, 119
abbrev pub open_fault : Tier → List ℕ → Option Rule
open_fault t label =
    option_or (broken_if (list_any (is_labelled label) t.sessions) (labelled code.NameInUse label))
    (at_limit limit.Sessions (length t.sessions))

abbrev pub open_answer : Tier → List ℕ → OpenOptions → Answer
open_answer t label options = (record t { sessions = t.sessions ++ new_session label options ∷ [] }, only (Done 0))

-- CLOSE rolls back
abbrev pub close_answer : Tier → List ℕ → Answer
close_answer t label = (record t { sessions = filter (λ s. not (is_labelled label s)) t.sessions }, only (Done 0))

-- ttOptSetFlag
abbrev pub flag_answer : Tier → List ℕ → ℕ → Answer
flag_answer t label level = (with_session label (λ s. record s { flag = Some level }) t, only (Done 0))
