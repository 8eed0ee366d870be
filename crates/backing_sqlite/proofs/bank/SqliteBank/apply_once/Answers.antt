use Rattle.std.proofs.Common.{subst, sym}
use Rattle.outside.specs.Bank.{WaitsForOne}
use Rattle.backing_sqlite.proofs.bank.SqliteBank.apply_once.Goals as goal

pub returns-clause-waits : goal.returns-clause-waits
returns-clause-waits c =
    subst (WaitsForOne c.args.after.now) (sym c.answer.ensures.told) c.apply_once-done.ensures.waits
