use Rattle.session_cli.proofs.FinishLaws.{finishes_flushed, finishes_passed}
use Rattle.session_cli.proofs.StopLaws.{end_cause}
use Rattle.session_cli.proofs.session.Session.end_engine.Goals as goal

pub returns-in-Ok-clause-serves : goal.returns-in-Ok-clause-serves
returns-in-Ok-clause-serves g c = λ o given coming closing.
    finishes_flushed g.P.Disk.state g.P.Disk.possible o given (g.K.Sink.written c.args.sink.now) (g.K.Sink.written c.flush.new.sink) coming c.args.site.now c.finish.new.site
    c.args.self.now.engine c.finish.new.engine.journal c.args.self.now.output closing c.flush.result c.flush.new.self.output c.flush.ensures.sink
    (λ w x. c.in-Ok.ensures.finishes w x.at x.stands.keeps) c.flush.ensures.bytes c.flush.ensures.empty

pub returns-in-Err-clause-serves : goal.returns-in-Err-clause-serves
returns-in-Err-clause-serves g c = λ o given coming closing.
    finishes_passed g.P.Disk.state g.P.Disk.possible o given (g.K.Sink.written c.args.sink.now) (g.K.Sink.written c.pass_on.new.sink) coming c.args.site.now c.finish.new.site
    c.args.self.now.engine c.finish.new.engine.journal c.args.self.now.output closing c.pass_on.result c.in-Err.reply c.pass_on.new.output
    (λ w x. c.in-Err.ensures.finishes w x.at x.stands.keeps) c.pass_on.ensures.tells c.pass_on.ensures.bytes

pub returns-in-Err-clause-disk : goal.returns-in-Err-clause-disk
returns-in-Err-clause-disk g c =
    end_cause c.pass_on.result c.args.self.now.engine.journal (g.P.Disk.state c.args.site.now) (g.P.Disk.state c.finish.new.site) c.in-Err.reply c.in-Err.ensures.cause c.pass_on.ensures.tells
