-- What a transaction of the tier waits for. (This project's model of the backing database.)

use Rattle.std.specs.Prelude.{List, Option, Some, None, Result, Ok, Err}
use Rattle.std.specs.List.{Contains}
use Rattle.tier_base.specs.declared.number.Ticket.{Ticket}
use Rattle.outside.specs.Bank.{WaitsForOne}
use Rattle.outside.specs.declared.site.Applied.{Applied}
use Rattle.backing_sqlite.specs.Counting.{answer_of}
use Rattle.backing_sqlite.specs.declared.fault.StoreFault.{StoreFault}

-- what is missing is one of these tickets
abbrev pub MissesOne : List Ticket → Result (Option Ticket) StoreFault → Type 0
MissesOne tickets (Ok (Some ticket)) = Contains tickets ticket
MissesOne tickets (Ok None) = Unit {0}
MissesOne tickets (Err e) = Unit {0}

-- one that has to wait waits for one of these tickets
abbrev pub WaitsFor : List Ticket → Result Applied StoreFault → Type 0
WaitsFor after done = WaitsForOne after (answer_of done)
