-- The steps so far.
use Rattle.std.proofs.Common.{take}
use Rattle.own_rows.specs.Laying.{AreStepsOf}
use Rattle.own_rows.proofs.steps.steps_of.Given as goal

abbrev pub invariant-loop-op : goal.invariant-loop-op
invariant-loop-op l = AreStepsOf l.fn.schema (take l.op-index l.fn.ops) l.steps.items
