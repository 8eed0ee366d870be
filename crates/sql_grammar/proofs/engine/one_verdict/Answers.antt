use Rattle.sql_grammar.proofs.Unique.{unique}
use Rattle.sql_grammar.proofs.engine.one_verdict.Goals as goal

pub returns : goal.returns
returns c = unique
