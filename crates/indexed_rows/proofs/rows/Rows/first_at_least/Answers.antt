use Rattle.std.proofs.Common.{arith}
use Rattle.indexed_rows.proofs.MapLaws.{keys_below, keys_at_least}
use Rattle.indexed_rows.proofs.rows.Rows.first_at_least.Goals as goal

pub returns-in-Ok-clause-below : goal.returns-in-Ok-clause-below
returns-in-Ok-clause-below c =
    keys_below c.args.self.now c.args.key.now c.in-Ok.place c.in-Ok.ensures.split (omega (arith, c.in-Ok.ensures.bound))

pub returns-in-Ok-clause-at_least : goal.returns-in-Ok-clause-at_least
returns-in-Ok-clause-at_least c =
    keys_at_least c.args.self.now c.args.key.now c.in-Ok.place c.in-Ok.ensures.split (omega (arith, c.in-Ok.ensures.bound))

pub returns-in-Err-clause-below : goal.returns-in-Err-clause-below
returns-in-Err-clause-below c =
    keys_below c.args.self.now c.args.key.now c.in-Err.place c.in-Err.ensures.split (omega (arith, c.in-Err.ensures.bound))

pub returns-in-Err-clause-at_least : goal.returns-in-Err-clause-at_least
returns-in-Err-clause-at_least c =
    keys_at_least c.args.self.now c.args.key.now c.in-Err.place c.in-Err.ensures.split (omega (arith, c.in-Err.ensures.bound))
