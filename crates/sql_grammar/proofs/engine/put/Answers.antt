use Rattle.sql_grammar.specs.Grammar.{Over}
use Rattle.sql_grammar.proofs.Stacks.{stacked-push}
use Rattle.sql_grammar.proofs.engine.put.Goals as goal

pub returns : goal.returns
returns c = rw c.in_ok-push.ensures.items (stacked-push Over c.args.stack.now.items (record { level = c.args.level; part = c.args.part }))
