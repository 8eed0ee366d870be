-- What the table has at the key is what its members have there.
use Rattle.std.proofs.Common.{codes, refl}
use Rattle.toml.proofs.Views.{table_get}
use Rattle.command_line.proofs.settings.clock_at.Goals as goal

pub returns-in-Some : goal.returns-in-Some
returns-in-Some c =
    let found = table_get c.get.result (codes "clock") c.args.table.now.entries c.get.ensures.value in
    rw (← rw c.in-Some.is at found) c.clock_in.ensures

pub returns-in-None : goal.returns-in-None
returns-in-None c =
    let found = table_get c.get.result (codes "clock") c.args.table.now.entries c.get.ensures.value in
    rw (← rw c.in-None.is at found) refl
