-- What is read off the line of a session.
use Rattle.std.proofs.Common.{◌≡◌, ℕ, Bool, true, false, cond, List, drop, length, Option, Some, None, refl, sym, subst}
use Rattle.sql_print.specs.sql_tokens.specs.declared.kind.Kind.TheVariants as k
use Rattle.sql_print.specs.sql_tokens.specs.Lexing.{Lexeme, lexed}
use Rattle.sql_print.specs.sql_tokens.specs.Heads.{head_end, head_of}
use Rattle.sql_print.specs.sql_grammar.specs.declared.start.Start.{Start}
use Rattle.sql_print.specs.sql_grammar.specs.declared.start.Start.TheVariants as starts
use Rattle.sql_print.specs.sql_grammar.specs.Sql.{grammar_of}
use Rattle.sql_print.specs.sql_grammar.specs.Verdict.{IsSpelt}
use Rattle.sql_print.specs.sql_subset.specs.declared.request.Line.TheVariants.{Session}
use Rattle.sql_print.specs.sql_subset.specs.declared.request.Request.TheVariants.{Close, Open, Statement}
use Rattle.sql_print.specs.sql_subset.specs.declared.stmt.Stmt.{Stmt}
use Rattle.sql_print.specs.sql_subset.specs.Lines.{Checked, Headed, Heard, Means, Says, Spoken, is_silent, is_spoilt, kinds_in, start_of}
use Rattle.sql_print.specs.sql_subset.specs.Statements.{open_with, passthrough_of, request_of, statement_of}
use Rattle.sql_print.specs.sql_phrases.specs.Reading.{begins}
use Rattle.print_laws.proofs.Fits.{Fits, all_fit}
use Rattle.print_laws.proofs.Lists.{AllGood}
use Rattle.print_laws.proofs.Spelling.{IsStatement}
use Rattle.print_laws.proofs.Spoilt.{fine_bytes}
use Rattle.print_laws.proofs.Starts.{begun}
use Rattle.print_laws.proofs.State.{at_then, at_token, only_that}
use Rattle.print_laws.proofs.StatementReading.{statement_is}

asked : (us : List Lexeme) → AllGood Fits us → (s : Stmt) → IsSpelt (grammar_of starts.Session) 32 (kinds_in us) → Statement s ≡ request_of (drop 1 us) → IsStatement s
asked us h s d e = by (begins k.Open (drop 1 us)) (begins k.Close (drop 1 us)) refl refl e
  where
    by : (a b : Bool) → begins k.Open (drop 1 us) ≡ a → begins k.Close (drop 1 us) ≡ b
        → Statement s ≡ cond a (Open (open_with (passthrough_of (drop 1 (drop 1 us))))) (cond b Close (Statement (statement_of (drop 1 us)))) → IsStatement s
    by true b p q f = absurd (cc)
    by false true p q f = absurd (cc)
    by false false p q f =
        let same : s ≡ statement_of (drop 1 us) = cc in
        let s1 = at_then (at_token 0 us (at_then (begun starts.Session us h d))) in
        subst (λ x. IsStatement x) (sym same) (statement_is _ (drop 1 us) (only_that (drop 1 us) q (only_that (drop 1 us) p s1)))

unlabelled : (us : List Lexeme) → AllGood Fits us → (s : Stmt) → IsSpelt (grammar_of starts.Statement) 32 (kinds_in us) → Statement s ≡ request_of us → IsStatement s
unlabelled us h s d e = by (begins k.Open us) (begins k.Close us) e
  where
    by : (a b : Bool) → Statement s ≡ cond a (Open (open_with (passthrough_of (drop 1 us)))) (cond b Close (Statement (statement_of us))) → IsStatement s
    by true b f = absurd (cc)
    by false true f = absurd (cc)
    by false false f = let same : s ≡ statement_of us = cc in subst (λ x. IsStatement x) (sym same) (statement_is _ us (at_then (begun starts.Statement us h d)))

spoken : (x : Start) (head : List ℕ) (end : ℕ) (us : List Lexeme) → AllGood Fits us → (label : List ℕ) (s : Stmt) → Spoken x head end us (Says (Session label (Statement s))) → IsStatement s
spoken starts.Session head end us h label s (d, e) = let f : Statement s ≡ request_of (drop 1 us) = cc in asked us h s d f
spoken starts.Console head end us h label s (d, e) = absurd (cc)
spoken starts.Clock head end us h label s (d, e) = absurd (cc)
spoken starts.Statement head end us h label s (d, e) = let f : Statement s ≡ request_of us = cc in unlabelled us h s d f

checked : (b : Bool) (x : Start) (bytes : List ℕ) → is_spoilt bytes ≡ b → (label : List ℕ) (s : Stmt) → Checked b x bytes (Says (Session label (Statement s))) → IsStatement s
checked true x bytes h label s e = absurd (cc)
checked false x bytes h label s e = spoken x (head_of bytes) (length bytes) (lexed (head_end bytes) bytes) (all_fit (head_end bytes) bytes (fine_bytes bytes h)) label s e

headed : (o : Option Start) (bytes label : List ℕ) (s : Stmt) → Headed o bytes (Says (Session label (Statement s))) → IsStatement s
headed None bytes label s e = absurd (cc)
headed (Some x) bytes label s e = checked (is_spoilt bytes) x bytes refl label s e

heard : (b : Bool) (bytes label : List ℕ) (s : Stmt) → Heard b bytes (Says (Session label (Statement s))) → IsStatement s
heard true bytes label s e = absurd (cc)
heard false bytes label s e = headed (start_of (head_of bytes)) bytes label s e

-- a statement that a line of a session asks for
pub statement_asked : (bytes label : List ℕ) (s : Stmt) → Means bytes (Says (Session label (Statement s))) → IsStatement s
statement_asked bytes label s e = heard (is_silent bytes) bytes label s e
