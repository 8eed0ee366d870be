use Rattle.std.proofs.Common.{Err, subst}
use Rattle.sql_subset.specs.Lines.{Parses}
use Rattle.sql_subset.specs.declared.request.ParseError.{ParseError}
use Rattle.sql_subset.specs.declared.request.ParseError.TheVariants as errors
use Rattle.sql_subset.specs.declared.stmt.Stmt.TheVariants as statements
use Rattle.print_laws.proofs.Answering.{only_answer}
use Rattle.tier_journal.proofs.reading.read_text.Goals as goal

pub returns-in-Err-At : goal.returns-in-Err-At
returns-in-Err-At c = λ d h.
    only_answer c.args.text.now (statements.CreateGroup d) (Err (errors.At c.in-Err-At.field-0-0)) h
    (subst (λ (x : ParseError). Parses c.args.text.now (Err x)) c.in-Err-At.field-0-is c.in-Err-At.ensures)

pub returns : goal.returns
returns c = λ d h.
    only_answer c.args.text.now (statements.CreateGroup d) (Err errors.Depth) h
    (subst (λ (x : ParseError). Parses c.args.text.now (Err x)) c.in-Err-Depth.field-0-is c.in-Err-Depth.ensures)
