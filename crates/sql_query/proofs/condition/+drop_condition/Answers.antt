use Rattle.std.proofs.Common.{arith, rules}
use Rattle.sql_query.proofs.DropMeasures.{most_size-conditions}
use Rattle.sql_query.proofs.condition.+drop_condition.Goals as goal

-- src/condition.rt:54:13
pub ConditionNode::drop-drop-self-requires-in-All-2 :
    goal.ConditionNode::drop-drop-self-requires-in-All-2
ConditionNode::drop-drop-self-requires-in-All-2 t c κs =
    (((grind (arith, most_size-conditions c.self-in-All-1.given.0.1.0.items), tt), tt), search rules)

pub ConditionNode::drop-drop-self-requires-in-Any-2 :
    goal.ConditionNode::drop-drop-self-requires-in-Any-2
ConditionNode::drop-drop-self-requires-in-Any-2 t c κs =
    (((grind (arith, most_size-conditions c.self-in-Any-1.given.0.1.0.items), tt), tt), search rules)
