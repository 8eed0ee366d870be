use Rattle.sql_grammar.proofs.engine.recognize.Goals as goal

pub returns : goal.returns
returns c = rw c.whole.ensures at c.recognize_by.ensures
