use Rattle.std.proofs.Common.{◌-◌, ◌∙◌, ap, arith}
use Rattle.aging_cycles.specs.Busy.{is_busy_at}
use Rattle.aging_cycles.proofs.ByUseLaws.{few_leave, many_leave}
use Rattle.aging_cycles.proofs.by_use.leave_by_use.Goals as goal

pub returns-then-count-pace-clause-gone : goal.returns-then-count-pace-clause-gone
returns-then-count-pace-clause-gone c =
    let few = c.if-count-pace.true in
    let long = c.count-count.ensures in
    few_leave c.args.pace.now.lru_high c.args.pace.now.lru_low (is_busy_at c.args.sessions.now c.args.store.now) c.args.store.now (omega (arith, few, long))

pub returns-clause-gone : goal.returns-clause-gone
returns-clause-gone c =
    let many = c.if-count-pace.false in
    let long = c.count-count.ensures in
    many_leave c.args.pace.now.lru_high c.args.pace.now.lru_low c.saturating_sub.result (is_busy_at c.args.sessions.now c.args.store.now) c.args.store.now c.leave_oldest.new.store (omega (arith, many, long))
    (c.saturating_sub.ensures ∙ ap (λ n. n - c.args.pace.now.lru_low) long) c.leave_oldest.ensures.gone
