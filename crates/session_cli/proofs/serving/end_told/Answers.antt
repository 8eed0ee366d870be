use Rattle.std.proofs.Common.{ℕ, List, ◌++◌, subst}
use Rattle.session_cli.specs.Opening.{unopened_line}
use Rattle.reply_lines.specs.Output.{Splits}
use Rattle.session_cli.proofs.OpeningLaws.{tells_cut}
use Rattle.session_cli.proofs.serving.end_told.Goals as goal

pub returns-in-Err-clause-tells : goal.returns-in-Err-clause-tells
returns-in-Err-clause-tells g c =
    let sink = g.K.Sink.written c.args.sink.now in
    let mid = g.K.Sink.written c.write_unopened.new.sink in
    tells_cut c.args.status sink mid (g.K.Sink.written c.flush.new.sink) c.write_unopened.new.output c.args.error.now
    (subst (λ (w : List ℕ). Splits sink mid (w ++ unopened_line c.args.error.now) c.write_unopened.new.output) c.requires c.in-Ok.ensures.bytes) c.in-Err.ensures.bytes
