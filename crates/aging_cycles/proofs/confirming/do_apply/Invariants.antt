-- The operations of the sessions so far apply.
use Rattle.std.proofs.Common.{◌≡◌, ◌<◌, ℕ, Some, is_some, slice_get, true}
use Rattle.session_state.specs.declared.session.Session.{Session}
use Rattle.table_state.specs.Operations.{applied_all}
use Rattle.aging_cycles.proofs.confirming.do_apply.Given as goal

abbrev pub invariant-loop-session : goal.invariant-loop-session
invariant-loop-session g l =
    (k : ℕ) (x : Session) → k < l.session-index → slice_get l.sessions k ≡ Some x → is_some (applied_all x.ops.items (g.S.Scan.state l.scan)) ≡ true
