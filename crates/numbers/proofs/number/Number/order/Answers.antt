use Rattle.std.proofs.Common.{sym, ◌∙◌}
use Rattle.numbers.proofs.OrderLaws.{order_at_scale}
use Rattle.numbers.proofs.number.Number.order.Goals as goal

pub returns-then-self-other : goal.returns-then-self-other
returns-then-self-other c =
    rw (← c.self.view_is, ← c.other.view_is) (c.cmp.ensures ∙ sym (order_at_scale _ _ c.if-self-other.true))
