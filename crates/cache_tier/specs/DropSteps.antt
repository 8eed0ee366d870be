-- DROP CACHE GROUP. (TimesTen SQL Reference, "DROP CACHE GROUP"; that pending transactions are applied first is this
-- project's rule.)

use Rattle.std.specs.Prelude.{ℕ, List, [], ◌∷◌, not, Option}
use Rattle.std.specs.List.{filter}
use Rattle.std.specs.Bool.{MatchBool}
use Rattle.cache_tier.specs.JournalSteps.{FlushesSome}
use Rattle.cache_tier.specs.declared.reply.Last.TheVariants.{Done}
use Rattle.cache_tier.specs.Groups.{Group, is_writethrough, is_called}
use Rattle.cache_tier.specs.Journals.{Drops}
use Rattle.cache_tier.specs.Reading.{Answers}
use Rattle.cache_tier.specs.Rounds.{Round}
use Rattle.cache_tier.specs.TierStates.{Tier, Session}
use Rattle.cache_tier.specs.Worlds.{Answer, Part, Then, Unless, World, only, Tries}
use Rattle.row_types.specs.declared.rule.Rule.{Rule}
use Rattle.cache_tier.specs.Locks.{group_lock}
use Rattle.cache_tier.specs.Targets.{OnGroup}

-- the group is gone
abbrev pub without_group : List ℕ → Tier → Tier
without_group name t = record t { groups = filter (λ g. not (is_called name g)) t.groups }

abbrev pub drop_answer : List ℕ → World → Answer
drop_answer name w = (without_group name w.tier, only (Done 0))

-- 111: another session has written on a table of the group
abbrev pub drop_fault : Session → Group → World → Option Rule
drop_fault s g w = group_lock s.label w.tier g

abbrev pub DropsRest : Session → Group → Part
DropsRest s g w w' reply =
    Unless (drop_fault s g w) (Then (FlushesSome (Drops g.def.name ∷ [])) (Answers (drop_answer g.def.name))) w w'
    reply

-- a round comes first where the group is a writethrough one
abbrev pub DropsAt : Session → ℕ → Group → Part
DropsAt s place g w w' reply =
    MatchBool (is_writethrough g) (Then Round (Tries (DropsRest s g)) w w' reply) (DropsRest s g w w' reply)

-- DROP CACHE GROUP
abbrev pub DropsGroup : Session → List ℕ → Part
DropsGroup s name = OnGroup name (DropsAt s)
