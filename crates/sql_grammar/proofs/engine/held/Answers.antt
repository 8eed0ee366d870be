use Rattle.sql_grammar.specs.Grammar.{Over}
use Rattle.sql_grammar.proofs.Stacks.{stacked-push}
use Rattle.sql_grammar.proofs.engine.held.Goals as goal

pub returns : goal.returns
returns c = stacked-push Over c.args.stack.now (record { level = c.args.level; part = c.args.part })
