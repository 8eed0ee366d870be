-- Each operation so far fits.
use Rattle.std.proofs.Common.{◌≡◌, take, true}
use Rattle.std.specs.List.{list_all}
use Rattle.group_catalog.specs.Catalogs.{groups_in}
use Rattle.recalling.specs.Fitting.{op_fits}
use Rattle.recalling.specs.Steps.{is_of_kind}
use Rattle.recalling.proofs.fitting.ops_fit.Given as goal

abbrev pub invariant-loop-op : goal.invariant-loop-op
invariant-loop-op l = list_all (op_fits l.schema (groups_in l.catalog) (is_of_kind l.synchronous)) (take l.op-index l.ops) ≡ true
