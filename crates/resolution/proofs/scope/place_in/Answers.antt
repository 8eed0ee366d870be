-- The columns that are shown are those of the scope.
use Rattle.std.proofs.Common.{rules}
use Rattle.resolution.proofs.ScopeLaws.{placed_once}
use Rattle.resolution.proofs.scope.place_in.Goals as goal

pub returns-then-count_fitting-eq1 : goal.returns-then-count_fitting-eq1
returns-then-count_fitting-eq1 c =
    placed_once c.args.name.now c.args.scope.now c.count_fitting.result c.first_fitting.result c.count_fitting.ensures (search rules) c.first_fitting.ensures
