-- What bytes spell is the only answer to them.
use Rattle.std.proofs.Common.{◌≡◌, ℕ, List, Result, Ok, Err, sym, ◌∙◌, subst}
use Rattle.sql_print.specs.sql_tokens.specs.Lexing.{lexed}
use Rattle.sql_print.specs.sql_grammar.specs.declared.engine.Verdict.{Verdict}
use Rattle.sql_print.specs.sql_grammar.specs.declared.engine.Verdict.TheVariants as verdicts
use Rattle.sql_print.specs.sql_grammar.specs.declared.start.Start.TheVariants as starts
use Rattle.sql_print.specs.sql_grammar.specs.Sql.{grammar_of}
use Rattle.sql_print.specs.sql_grammar.proofs.Unique.{unique}
use Rattle.sql_print.specs.sql_subset.specs.declared.request.ParseError.{ParseError}
use Rattle.sql_print.specs.sql_subset.specs.declared.request.ParseError.TheVariants as errors
use Rattle.sql_print.specs.sql_subset.specs.declared.stmt.Stmt.{Stmt}
use Rattle.sql_print.specs.sql_subset.specs.Lines.{Parses, Spells, Unspelt, kinds_in}
use Rattle.print_laws.specs.Laws.{IsAnswer}

fits_not_at : (i : ℕ) → ◌≡◌ {A = Verdict} verdicts.Fits (verdicts.At i) → ⊥
fits_not_at i e = absurd (cc)

fits_not_deep : ◌≡◌ {A = Verdict} verdicts.Fits verdicts.Deep → ⊥
fits_not_deep e = absurd (cc)

pub only_answer : (bytes : List ℕ) (s : Stmt) (answer : Result Stmt ParseError) → Spells bytes s → Parses bytes answer → IsAnswer answer s
only_answer bytes s (Ok x) (h, d, e) (g, c, f) = f ∙ sym e
only_answer bytes s (Err errors.Memory) h p = tt
only_answer bytes s (Err (errors.At p)) (h, d, e) u =
    let (i, z, j) = subst (λ b. Unspelt b bytes (errors.At p)) h u in fits_not_at i (unique (grammar_of starts.Statement) (kinds_in (lexed 0 bytes)) verdicts.Fits (verdicts.At i) d j)
only_answer bytes s (Err errors.Depth) (h, d, e) u =
    let j = subst (λ b. Unspelt b bytes errors.Depth) h u in fits_not_deep (unique (grammar_of starts.Statement) (kinds_in (lexed 0 bytes)) verdicts.Fits verdicts.Deep d j)
