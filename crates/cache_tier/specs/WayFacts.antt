-- How a journal goes on over parts that come one after the other.

use Rattle.std.specs.Prelude.{List, ◌++◌, Option}
use Rattle.cache_tier.specs.declared.reply.Reply.{Reply}
use Rattle.cache_tier.specs.JournalWays.{IsOnTheWay, Leads, Renewal}
use Rattle.cache_tier.specs.JournalSteps.{Flushes, Notes}
use Rattle.cache_tier.specs.Journals.{Journal, JournalEntry}
use Rattle.cache_tier.specs.Rotations.{Rotates}
use Rattle.cache_tier.specs.Worlds.{World}

-- one way and then another are a way
abbrev pub WaysGoOn : Type 0
WaysGoOn = (a b c : Journal) (one other : List Renewal) → Leads a one b → Leads b other c → Leads a (one ++ other) c

-- what may be left on the first may be left on both
abbrev pub EarlierOnTheWay : Type 0
EarlierOnTheWay = (a b c : Journal) (one other : List Renewal) (entries : List JournalEntry) → Leads a one b
    → Leads b other c → IsOnTheWay a one b entries → IsOnTheWay a (one ++ other) c entries

-- and so what may be left on the second
abbrev pub LaterOnTheWay : Type 0
LaterOnTheWay = (a b c : Journal) (one other : List Renewal) (entries : List JournalEntry) → Leads a one b
    → Leads b other c → IsOnTheWay b other c entries → IsOnTheWay a (one ++ other) c entries

-- a way from one journal to another
pub record IsLed (old new : Journal) : Type 0 where
  pub renewals : List Renewal
  pub leads : Leads old renewals new

abbrev pub FlushLeads : Type 0
FlushLeads = (entries : List JournalEntry) (w w' : World) (stop : Option Reply) → Flushes entries w w' stop
    → IsLed w.journal w'.journal

abbrev pub NoteLeads : Type 0
NoteLeads = (e : JournalEntry) (w w' : World) (stop : Option Reply) → Notes e w w' stop → IsLed w.journal w'.journal

-- and of a rotation
abbrev pub RotateLeads : Type 0
RotateLeads = (w w' : World) (stop : Option Reply) → Rotates w w' stop → IsLed w.journal w'.journal
