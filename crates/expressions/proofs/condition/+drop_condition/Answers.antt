use Rattle.std.proofs.Common.{arith, rules}
use Rattle.expressions.proofs.ChainMeasures.{most_size-conditions}
use Rattle.expressions.proofs.condition.+drop_condition.Goals as goal

-- src/condition.rt:54:13
pub CondNode::drop-drop-self-requires-in-And-2 :
    goal.CondNode::drop-drop-self-requires-in-And-2
CondNode::drop-drop-self-requires-in-And-2 t c κs =
    (((grind (arith, most_size-conditions c.self-in-And-1.given.0.1.0.items), tt), tt), search rules)

pub CondNode::drop-drop-self-requires-in-Or-2 :
    goal.CondNode::drop-drop-self-requires-in-Or-2
CondNode::drop-drop-self-requires-in-Or-2 t c κs =
    (((grind (arith, most_size-conditions c.self-in-Or-1.given.0.1.0.items), tt), tt), search rules)
