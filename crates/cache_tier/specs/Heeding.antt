-- What each line keeps, whether or not the faults that it tells have their causes.

use Rattle.std.specs.Prelude.{ℕ}
use Rattle.cache_tier.specs.declared.reply.Reply.{Reply}
use Rattle.cache_tier.specs.GoesOn.{LeadsTo}
use Rattle.cache_tier.specs.Steps.{Heeds, Saying}
use Rattle.cache_tier.specs.Worlds.{World}

abbrev pub HeedLeads : Type 0
HeedLeads = (base : ℕ) (w w' : World) (said : Saying) (reply : Reply) → Heeds base said w w' reply → LeadsTo w w'
