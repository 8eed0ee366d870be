use Rattle.std.proofs.Common.{◌≡◌, ◌++◌, drop}
use Rattle.sql_tokens.specs.Lexing.{lexemes_of, lexed_from, lexed}
use Rattle.sql_tokens.specs.States.{scan_of, Began}
use Rattle.sql_tokens.proofs.lexer.lex.Given as goal

-- the tokens so far, and those of what is still to be scanned, are those of the line
abbrev pub invariant-loop-i : goal.invariant-loop-i
invariant-loop-i l = record {
  so_far : lexemes_of l.line l.tokens.items ++ lexed_from (scan_of l.line l.i l.state) l.i (drop l.i l.line) ≡ lexed l.from l.line;
  began : Began l.line l.i l.state;
}
