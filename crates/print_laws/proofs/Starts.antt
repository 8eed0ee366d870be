-- Where a line begins to be read.
use Rattle.std.proofs.Common.{List, []}
use Rattle.sql_print.specs.sql_tokens.specs.Lexing.{Lexeme}
use Rattle.sql_print.specs.sql_grammar.specs.declared.start.Start.{Start}
use Rattle.sql_print.specs.sql_grammar.specs.Grammar.{Over, Part}
use Rattle.sql_print.specs.sql_grammar.specs.Sql.{grammar_of}
use Rattle.sql_print.specs.sql_grammar.specs.Verdict.{IsSpelt}
use Rattle.sql_print.specs.sql_grammar.proofs.Passes.{start_decided}
use Rattle.sql_print.specs.sql_grammar.proofs.Run.{reading_none}
use Rattle.sql_print.specs.sql_subset.specs.Lines.{kinds_in}
use Rattle.print_laws.proofs.Fits.{Fits}
use Rattle.print_laws.proofs.Lists.{AllGood}
use Rattle.print_laws.proofs.State.{State}

pub begun : (x : Start) (us : List Lexeme) → AllGood Fits us → IsSpelt (grammar_of x) 32 (kinds_in us) → State (Part 0 (grammar_of x) Over) us
begun x us h d = record { fine = (reading_none (grammar_of x) [] (start_decided x)).fine; reads = d; fit = h }
