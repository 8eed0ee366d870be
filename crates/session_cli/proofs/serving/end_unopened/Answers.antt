use Rattle.std.proofs.Common.{sym, subst}
use Rattle.session_cli.specs.declared.serving.Status.TheVariants.{NoMemory, SchemaFailed}
use Rattle.session_cli.specs.Opening.{TellsWhy}
use Rattle.session_cli.proofs.OpeningLaws.{tells_bank, tells_memory}
use Rattle.session_cli.proofs.serving.end_unopened.Goals as goal

pub returns-in-Bank-clause-tells : goal.returns-in-Bank-clause-tells
returns-in-Bank-clause-tells g c =
    let w = g.K.Sink.written c.args.sink.now in
    subst (λ e. TellsWhy SchemaFailed w w e) (sym c.in-Bank.is) (tells_bank w)

pub returns-in-Memory-clause-tells : goal.returns-in-Memory-clause-tells
returns-in-Memory-clause-tells g c =
    let w = g.K.Sink.written c.args.sink.now in
    subst (λ e. TellsWhy NoMemory w w e) (sym c.in-Memory.is) (tells_memory w)
