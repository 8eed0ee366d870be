use Rattle.std.proofs.Common.{arith, rules}
use Rattle.sql_query.proofs.DropMeasures.{most_size-links}
use Rattle.sql_query.proofs.expression.+drop_expression.Goals as goal

-- src/expression.rt:53:13
pub ExpressionNode::drop-drop-self-requires-in-Chain-2 :
    goal.ExpressionNode::drop-drop-self-requires-in-Chain-2
ExpressionNode::drop-drop-self-requires-in-Chain-2 t c κs =
    (((grind (arith, most_size-links c.self-in-Chain-1.given.0.1.0.items), tt), tt), search rules)
