use Rattle.std.proofs.Common.{arith, rules}
use Rattle.expressions.proofs.ChainMeasures.{most_size-steps}
use Rattle.expressions.proofs.expression.+drop_expression.Goals as goal

-- src/expression.rt:53:13
pub ExprNode::drop-drop-self-requires-in-Chain-2 :
    goal.ExprNode::drop-drop-self-requires-in-Chain-2
ExprNode::drop-drop-self-requires-in-Chain-2 t c κs =
    (((grind (arith, most_size-steps c.self-in-Chain-1.given.0.1.0.items), tt), tt), search rules)
