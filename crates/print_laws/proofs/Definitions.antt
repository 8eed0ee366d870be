-- Tables that the console defines are printed and read back.
use Rattle.std.proofs.Common.{◌≡◌, ℕ, Bool, true, false, not, cond, ltb, List, [], ◌∷◌, ◌++◌, length, drop, codes, Option, Some, None, refl, sym, ap, subst, arith, append-nil}
use Rattle.std.proofs.lemmas.Bool.Decides.{nat_tests}
use Rattle.std.specs.List.{position_or_len}
use Rattle.sql_print.specs.tier_base.specs.Names.{is_word_byte}
use Rattle.sql_print.specs.row_types.specs.declared.declaration.TableDeclaration.{TableDeclaration}
use Rattle.sql_print.specs.sql_tokens.specs.declared.kind.Kind.{Kind}
use Rattle.sql_print.specs.sql_tokens.specs.declared.kind.Kind.TheVariants as k
use Rattle.sql_print.specs.sql_tokens.specs.Lexing.{Lexeme, is_blank, lexed}
use Rattle.sql_print.specs.sql_tokens.specs.Heads.{head_end, head_of, head_start, place_or_end}
use Rattle.sql_print.specs.sql_grammar.specs.declared.start.Start.{Start}
use Rattle.sql_print.specs.sql_grammar.specs.declared.start.Start.TheVariants as starts
use Rattle.sql_print.specs.sql_grammar.specs.Grammar.{Grammar, Over, Part, Reads, Empty, both, empty, over, that, this, token}
use Rattle.sql_print.specs.sql_grammar.specs.Notation.{choice, optional, the, ◌▸◌}
use Rattle.sql_print.specs.sql_grammar.specs.Sql.{rule}
use Rattle.sql_print.specs.sql_grammar.specs.Tables.{table}
use Rattle.sql_print.specs.sql_grammar.specs.Writes.{write}
use Rattle.sql_print.specs.sql_subset.specs.declared.request.ConsoleRequest.{ConsoleRequest}
use Rattle.sql_print.specs.sql_subset.specs.declared.request.ConsoleRequest.TheVariants.{CreateTable, Writes}
use Rattle.sql_print.specs.sql_subset.specs.declared.request.Line.TheVariants.{Console}
use Rattle.sql_print.specs.sql_subset.specs.Lines.{Checked, Headed, Heard, Means, Says, Spoken, is_silent, is_spoilt, kinds_in, start_of}
use Rattle.sql_print.specs.sql_subset.specs.Statements.{console_of, writes_of}
use Rattle.sql_print.specs.sql_phrases.specs.declared.tables.CacheTable.{CacheTable}
use Rattle.sql_print.specs.sql_phrases.specs.Reading.{begins}
use Rattle.sql_print.specs.sql_phrases.specs.Tables.{table_of}
use Rattle.sql_print.specs.sql_words.specs.Words.{Word, spaced}
use Rattle.sql_print.specs.sql_words.specs.Tables.{table_words}
use Rattle.sql_print.specs.sql_words.specs.NormalTables.{normal_table}
use Rattle.sql_print.specs.Printed.{printed_table}
use Rattle.print_laws.proofs.Fine.{IsFineText, fine_both, fine_none, fine_text, not_spoilt}
use Rattle.print_laws.proofs.Fits.{Fits, all_fit}
use Rattle.print_laws.proofs.Keywords.{create_word, table_word}
use Rattle.print_laws.proofs.Lexed.{begun_by, tokens}
use Rattle.print_laws.proofs.Lists.{AllGood}
use Rattle.print_laws.proofs.NormalTables.{table_normal}
use Rattle.print_laws.proofs.Put.{Put, put_word, put_words}
use Rattle.print_laws.proofs.Reading.{table_got}
use Rattle.print_laws.proofs.Spoilt.{fine_bytes}
use Rattle.print_laws.proofs.Starts.{begun}
use Rattle.print_laws.proofs.State.{State, at_then, at_token, only_this}
use Rattle.print_laws.proofs.Tables.{IsTable, put_table}

-- TABLE table, and a line of the console behind its colon
abbrev pub created : Grammar
created = the k.Table ▸ table ▸ optional k.Semicolon Empty

abbrev pub requested : Grammar
requested = choice k.Create created write

-- a table that a line defines
console_table : (us : List Lexeme) → State (Part 0 requested Over) us → (t : TableDeclaration) → CreateTable t ≡ console_of us → IsTable t
console_table us s t e = by (begins k.Create us) refl e
  where
    by : (b : Bool) → begins k.Create us ≡ b → CreateTable t ≡ cond b (CreateTable (table_of (drop 2 us)).0.table) (Writes (writes_of us).0) → IsTable t
    by true h f =
        let same : t ≡ (table_of (drop 2 us)).0.table = cc in
        let g = table_got _ (drop 2 us) (at_then (at_token 1 us (at_then (only_this 0 us refl h s)))) in
        subst (λ x. IsTable x) (sym same) g.good
    by false h f = absurd (cc)

spoken_table : (x : Start) (head : List ℕ) (end : ℕ) (us : List Lexeme) → AllGood Fits us → (t : TableDeclaration) → Spoken x head end us (Says (Console (CreateTable t))) → IsTable t
spoken_table starts.Console head end us h t (d, e) = let f : CreateTable t ≡ console_of (drop 1 us) = cc in console_table (drop 1 us) (at_token 0 us (at_then (begun starts.Console us h d))) t f
spoken_table starts.Session head end us h t (d, e) = absurd (cc)
spoken_table starts.Clock head end us h t (d, e) = absurd (cc)
spoken_table starts.Statement head end us h t (d, e) = absurd (cc)

checked_table : (b : Bool) (s : Start) (bytes : List ℕ) → is_spoilt bytes ≡ b → (t : TableDeclaration) → Checked b s bytes (Says (Console (CreateTable t))) → IsTable t
checked_table true s bytes h t e = absurd (cc)
checked_table false s bytes h t e = spoken_table s (head_of bytes) (length bytes) (lexed (head_end bytes) bytes) (all_fit (head_end bytes) bytes (fine_bytes bytes h)) t e

headed_table : (o : Option Start) (bytes : List ℕ) (t : TableDeclaration) → Headed o bytes (Says (Console (CreateTable t))) → IsTable t
headed_table None bytes t e = absurd (cc)
headed_table (Some s) bytes t e = checked_table (is_spoilt bytes) s bytes refl t e

heard_table : (b : Bool) (bytes : List ℕ) (t : TableDeclaration) → Heard b bytes (Says (Console (CreateTable t))) → IsTable t
heard_table true bytes t e = absurd (cc)
heard_table false bytes t e = headed_table (start_of (head_of bytes)) bytes t e

meant_table : (bytes : List ℕ) (t : TableDeclaration) → Means bytes (Says (Console (CreateTable t))) → IsTable t
meant_table bytes t e = heard_table (is_silent bytes) bytes t e

abbrev definition_words : TableDeclaration → List Word
definition_words t = codes "CREATE" ∷ codes "TABLE" ∷ table_words t None

-- CREATE TABLE table
put_definition : (t : TableDeclaration) → IsTable t → Put (λ ls. table_of (drop 2 ls)) 0 (the k.Create ▸ the k.Table ▸ table) (record { table = t; attribute = None }) (definition_words t) []
put_definition t h =
    let x : CacheTable = record { table = t; attribute = None } in
    let words : Put table_of 0 table x (table_words t None) [] = put_words table_of 0 table x (table_words t None ++ []) (table_words t None) [] (append-nil (table_words t None)) (put_table t h []) in
    put_word (λ ls. table_of (drop 2 ls)) (λ ls. table_of (drop 1 ls)) 0 (the k.Create ▸ the k.Table ▸ table) (the k.Table ▸ table) x k.Create (codes "CREATE") (codes "TABLE" ∷ table_words t None) [] create_word (λ ps r d. both (token refl d)) (λ p ls. refl)
    (put_word (λ ls. table_of (drop 1 ls)) table_of 0 (the k.Table ▸ table) table x k.Table (codes "TABLE") (table_words t None) [] table_word (λ ps r d. both (token refl d)) (λ p ls. refl) words)

nothing : (i : ℕ) → tokens i [] ≡ []
unfolding tokens
nothing i = refl

-- the `;` may be left out
requested_by : {r : List Kind} → Reads rule 32 (Part 0 (the k.Create ▸ the k.Table ▸ table) (Part 0 (optional k.Semicolon Empty) Over)) r → Reads rule 32 (Part 0 requested Over) r
requested_by (both (token p (both (token q d)))) = this p (both (token q (both d)))

-- a line that begins with the head of the console
place_is : (p : ℕ → Bool) (xs : List ℕ) (n : ℕ) → position_or_len p xs ≡ n → ltb n (length xs) ≡ true → place_or_end p xs ≡ n
place_is p xs n e l = rw (e, l) refl

abbrev pub console_line : List ℕ → List ℕ
console_line rest = codes "backing:" ++ rest

line_start : (rest : List ℕ) → head_start (console_line rest) ≡ 0
line_start rest = place_is (λ b. not (is_blank b)) (console_line rest) 0 refl (grind (arith, nat_tests))

line_end : (rest : List ℕ) → head_end (console_line rest) ≡ 7
line_end rest = rw (line_start rest, place_is (λ b. not (is_word_byte b)) (console_line rest) 7 refl (grind (arith, nat_tests))) refl

line_head : (rest : List ℕ) → head_of (console_line rest) ≡ codes "backing"
line_head rest = rw (line_end rest, line_start rest) refl

pub line_says : (ws : List Word) (x : ConsoleRequest) → IsFineText (console_line (spaced ws)) → Reads rule 32 (Part 0 requested Over) (kinds_in (tokens 8 ws)) → x ≡ console_of (tokens 8 ws) → Means (console_line (spaced ws)) (Says (Console x))
unfolding tokens
line_says ws x f d e =
    let rest : List ℕ = spaced ws in
    let start : start_of (head_of (console_line rest)) ≡ Some starts.Console = rw (line_head rest) refl in
    let spoken : Spoken starts.Console (head_of (console_line rest)) (length (console_line rest)) (lexed (head_end (console_line rest)) (console_line rest)) (Says (Console x)) = rw (line_end rest) (both (token refl d), ap Console e) in
    rw (start, not_spoilt (console_line rest) f) spoken

defines : (t : TableDeclaration) → IsTable t → CreateTable t ≡ console_of (tokens 8 (definition_words t))
defines t h =
    let s = (put_definition t h).says 8 in
    let e : begins k.Create (tokens 8 (definition_words t)) ≡ true = ap (λ (ls : List Lexeme). begins k.Create ls) (begun_by k.Create (codes "CREATE") create_word 8 (codes "TABLE" ∷ table_words t None)).1 in
    rw e (sym (ap (λ (y : CacheTable × List Lexeme). CreateTable y.0.table) s.reads))

pub table_means : (bytes : List ℕ) (t : TableDeclaration) → Means bytes (Says (Console (CreateTable t))) → Means (codes "backing: " ++ printed_table t) (Says (Console (CreateTable (normal_table t))))
table_means bytes t m =
    let n : TableDeclaration = normal_table t in
    let h = table_normal t (meant_table bytes t m) in
    let p = put_definition n h in
    let s = p.says 8 in
    let d : Reads rule 32 (Part 0 (optional k.Semicolon Empty) Over) (kinds_in (tokens s.at [])) = rw (nothing s.at) (that (empty over)) in
    line_says (definition_words n) (CreateTable n) (fine_both (codes "backing:") (spaced (definition_words n)) (fine_text (codes "backing:") refl) (p.fine fine_none).text) (requested_by (s.spells (Part 0 (optional k.Semicolon Empty) Over) d)) (defines n h)
