use Rattle.std.proofs.Common.{◌&&◌, not, sym, ◌∙◌}
use Rattle.session_state.specs.Kept.{seen_of}
use Rattle.session_state.specs.Sessions.{has_id}
use Rattle.session_state.specs.declared.session.Session.{Session}
use Rattle.group_engine.specs.UnloadLocks.{leaves, writes_within}
use Rattle.group_engine.proofs.UnloadHeld.{one_found, one_more}
use Rattle.group_engine.proofs.unload_locks.writer_within.Goals as goal

pub returns-then-branch : goal.returns-then-branch
returns-then-branch g c =
    sym (one_found (λ (s : Session). not (has_id c.args.id (seen_of s)) && writes_within (g.S.Scan.state c.args.shown.now) c.args.tree.now (leaves c.args.which.now c.args.store.now) s.ops.items) c.args.sessions.now c.loop-session.session-index _
    c.loop-session-test.true c.session-item.is (sym c.in_ok-is_writer.ensures ∙ c.if-branch.true) c.loop-session.invariant)

pub loop-session-preserved : goal.loop-session-preserved
loop-session-preserved g c =
    one_more (λ (s : Session). not (has_id c.args.id (seen_of s)) && writes_within (g.S.Scan.state c.args.shown.now) c.args.tree.now (leaves c.args.which.now c.args.store.now) s.ops.items) c.args.sessions.now c.loop-session.session-index _
    c.loop-session-test.true c.session-item.is (sym c.in_ok-is_writer.ensures ∙ c.if-branch.false) c.loop-session.invariant
