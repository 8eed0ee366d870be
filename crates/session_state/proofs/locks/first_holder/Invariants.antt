-- Those that are left decide.
use Rattle.std.proofs.Common.{◌≡◌, drop, map}
use Rattle.session_state.specs.Kept.{seen_of}
use Rattle.session_state.specs.Locks.{first_some, holder_by}
use Rattle.session_state.proofs.locks.first_holder.Given as goal

abbrev pub invariant-loop-op : goal.invariant-loop-op
invariant-loop-op l = first_some (holder_by l.fn.but l.fn.schema (map seen_of l.fn.sessions)) (drop l.op-index l.fn.ops) ≡ first_some (holder_by l.fn.but l.fn.schema (map seen_of l.fn.sessions)) l.fn.ops
