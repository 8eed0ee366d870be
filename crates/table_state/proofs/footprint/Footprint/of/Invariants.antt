-- The footprint is that of the operations so far.
use Rattle.std.proofs.Common.{◌≡◌, take}
use Rattle.table_state.specs.Footprints.{footprint_of}
use Rattle.table_state.proofs.footprint.Footprint.of.Given as goal

abbrev pub invariant-loop-op : goal.invariant-loop-op
invariant-loop-op l = l.footprint ≡ footprint_of l.schema (take l.op-index l.ops)
