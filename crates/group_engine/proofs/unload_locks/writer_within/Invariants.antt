-- None of the sessions so far has written there.
use Rattle.std.proofs.Common.{◌≡◌, ◌&&◌, None, find, not, take}
use Rattle.session_state.specs.Kept.{seen_of}
use Rattle.session_state.specs.Sessions.{has_id}
use Rattle.session_state.specs.declared.session.Session.{Session}
use Rattle.group_engine.specs.UnloadLocks.{leaves, writes_within}
use Rattle.group_engine.proofs.unload_locks.writer_within.Given as goal

abbrev pub invariant-loop-session : goal.invariant-loop-session
invariant-loop-session g l =
    find (λ (s : Session). not (has_id l.id (seen_of s)) && writes_within (g.S.Scan.state l.shown) l.tree (leaves l.which l.store) s.ops.items) (take l.session-index l.sessions) ≡ None
