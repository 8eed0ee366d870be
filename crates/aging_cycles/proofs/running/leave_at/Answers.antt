use Rattle.std.proofs.Common.{sym}
use Rattle.group_catalog.specs.Kept.{group_seen}
use Rattle.aging_cycles.proofs.LeaveLaws.{leaves_at}
use Rattle.aging_cycles.proofs.running.leave_at.Goals as goal

pub leave_from-gone-requires-clause-key : goal.leave_from-gone-requires-clause-key
leave_from-gone-requires-clause-key c = λ s h kept hid. (c.requires.hides (group_seen c.in-Some.group.now) s h (sym c.in-Some.ensures) kept hid).0

pub leave_from-gone-requires-clause-room : goal.leave_from-gone-requires-clause-room
leave_from-gone-requires-clause-room c = λ s h kept hid yes. (c.requires.hides (group_seen c.in-Some.group.now) s h (sym c.in-Some.ensures) kept hid).1.room yes

pub returns-then-gone-clause-leaves : goal.returns-then-gone-clause-leaves
returns-then-gone-clause-leaves c =
    leaves_at c.args.tier.now _ c.args.place (group_seen c.in-Some.group.now) c.as_slice.result.now c.writers-sessions.result.now c.in-Some.ensures (c.as_slice.ensures.kept c.args.tier.now.schema c.requires.sessions) c.as_slice.ensures.seen
    c.writers-sessions.ensures c.leave_from-gone.ensures.left

pub returns-else-gone-clause-leaves : goal.returns-else-gone-clause-leaves
returns-else-gone-clause-leaves c =
    leaves_at c.args.tier.now _ c.args.place (group_seen c.in-Some.group.now) c.as_slice.result.now c.writers-sessions.result.now c.in-Some.ensures (c.as_slice.ensures.kept c.args.tier.now.schema c.requires.sessions) c.as_slice.ensures.seen
    c.writers-sessions.ensures c.leave_from-gone.ensures.left
