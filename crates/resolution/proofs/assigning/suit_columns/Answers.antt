use Rattle.std.proofs.Common.{arith}
use Rattle.resolution.proofs.PairLaws.{columns_apart}
use Rattle.resolution.proofs.assigning.suit_columns.Goals as goal

pub returns-then-targets-values : goal.returns-then-targets-values
returns-then-targets-values c = grind (arith, columns_apart c.args.columns.now c.args.targets.now c.args.values.now c.args.families.now)
