-- The first that meets a session decides.
use Rattle.std.proofs.Common.{map}
use Rattle.session_state.specs.Kept.{seen_of}
use Rattle.session_state.specs.Locks.{holder_by}
use Rattle.session_state.proofs.LockLaws.{first_here, first_left}
use Rattle.session_state.proofs.locks.first_holder.Goals as goal

pub returns-in-Some : goal.returns-in-Some
returns-in-Some c = first_here (holder_by c.args.but c.args.schema.now (map seen_of c.args.sessions.now)) c.args.ops.now c.loop-op.op-index _ _ c.loop-op-test.true c.op-item.is c.in-Some.ensures c.loop-op.invariant

pub loop-op-preserved : goal.loop-op-preserved
loop-op-preserved c = first_left (holder_by c.args.but c.args.schema.now (map seen_of c.args.sessions.now)) c.args.ops.now c.loop-op.op-index _ c.loop-op-test.true c.op-item.is c.in-None.ensures c.loop-op.invariant
