use Rattle.session_cli.proofs.session.Session.finish.Goals as goal

pub returns-in-Ok-clause-serves : goal.returns-in-Ok-clause-serves
returns-in-Ok-clause-serves g c = λ o given alone s. c.end_engine.ensures.serves o given (g.C.Clock.coming c.end_input.new.clock) (c.in-Ok.ensures.serves o given alone s)

pub returns-in-Err-clause-serves : goal.returns-in-Err-clause-serves
returns-in-Err-clause-serves g c = λ o given alone s. c.in-Err.ensures.serves o given alone s
