-- The order of the keys.
use Rattle.std.proofs.Common.{sym, ap, ◌∙◌}
use Rattle.std.specs.Ordering.{is_lt}
use Rattle.own_rows.proofs.ChildSteps.{not_less, order_is}
use Rattle.own_rows.proofs.children.is_before.Goals as goal

pub returns-in-Less : goal.returns-in-Less
returns-in-Less g c = λ a b at_a at_b. ap is_lt (sym c.in-Less.is ∙ order_is _ _ c.requires.keyed _ _ c.in-Some.ensures _ _ _ _ _ c.rows.ensures c.entry_at.ensures c.order_to_row.ensures a b at_a at_b)

pub returns-in_default : goal.returns-in_default
returns-in_default g c = λ a b at_a at_b. not_less _ c.in_default.not-Less ∙ ap is_lt (order_is _ _ c.requires.keyed _ _ c.in-Some.ensures _ _ _ _ _ c.rows.ensures c.entry_at.ensures c.order_to_row.ensures a b at_a at_b)
