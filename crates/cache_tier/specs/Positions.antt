-- The sets over all lines: each has one position.

use Rattle.std.specs.Prelude.{ℕ, List, Option}
use Rattle.cache_tier.specs.declared.reply.Reply.{Reply}
use Rattle.cache_tier.specs.Sets.{OnePosition}
use Rattle.cache_tier.specs.Steps.{Asked, Run, Saying, Step}
use Rattle.cache_tier.specs.Worlds.{World}

abbrev pub StepKeepsOnePosition : Type 0
StepKeepsOnePosition = (base : ℕ) (w w' : World) (said : Saying) (reply : Option Reply) → Step base w said w' reply
    → OnePosition w.tier.groups → OnePosition w'.tier.groups

abbrev pub RunKeepsOnePosition : Type 0
RunKeepsOnePosition = (w w' : World) (lines : List Asked) (replies : List (Option Reply)) → Run w lines replies w'
    → OnePosition w.tier.groups → OnePosition w'.tier.groups
