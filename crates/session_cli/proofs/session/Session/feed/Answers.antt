use Rattle.session_cli.specs.Outside.{seen}
use Rattle.session_cli.proofs.ServingLaws.{serving_flushed}
use Rattle.session_cli.proofs.session.Session.feed.Goals as goal

pub returns-in-Ok-clause-serves : goal.returns-in-Ok-clause-serves
returns-in-Ok-clause-serves g c = λ o given alone s.
    serving_flushed c.flush.result o given c.args.bytes.now
    (seen (g.K.Sink.written c.take_in.new.sink) (g.C.Clock.coming c.take_in.new.clock) g.P.Disk.state g.P.Disk.possible c.take_in.new.site)
    (g.K.Sink.written c.flush.new.sink) c.take_in.new.self c.flush.new.self c.flush.ensures.engine c.flush.ensures.line c.flush.ensures.sink
    (c.in-Ok.ensures.serves o given alone s) c.flush.ensures.bytes

pub returns-in-Err-clause-serves : goal.returns-in-Err-clause-serves
returns-in-Err-clause-serves g c = λ o given alone s. c.in-Err.ensures.serves o given alone s
