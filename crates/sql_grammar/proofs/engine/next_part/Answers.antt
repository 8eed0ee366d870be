use Rattle.std.proofs.Common.{append-nil}
use Rattle.sql_grammar.specs.Grammar.{Over}
use Rattle.sql_grammar.proofs.Stacks.{stacked-pop, stacked-push}
use Rattle.sql_grammar.proofs.engine.next_part.Goals as goal

pub returns-in-Some-clause-some : goal.returns-in-Some-clause-some
returns-in-Some-clause-some c = rw c.in-Some.is (stacked-push Over c.args.stack.now.items c.in-Some.entry)

pub returns-in-None-clause-some : goal.returns-in-None-clause-some
returns-in-None-clause-some c =
    rw (c.in-None.is, append-nil) (stacked-pop c.args.stack.now.items c.pop.new.self.items c.pop.result c.pop.ensures.items)
