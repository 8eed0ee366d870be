-- What a line says: the answer is right, and no other is.
use Rattle.std.proofs.Common.{◌≡◌, ℕ, Bool, true, false, nat_lt, ◌≤◌, List, [], ◌∷◌, length, slice_range, Option, Some, None, Ok, Err, refl, sym, ap, ◌∙◌, subst, arith}
use Rattle.std.proofs.lemmas.Bool.Decides.{nat_tests}
use Rattle.sql_phrases.specs.sql_tokens.specs.declared.kind.Kind.{Kind}
use Rattle.sql_phrases.specs.sql_tokens.specs.declared.token.Token.{Token}
use Rattle.sql_phrases.specs.sql_tokens.specs.Lexing.{Lexeme, lexed, lexemes_of}
use Rattle.sql_phrases.specs.sql_tokens.specs.Heads.{head_start, head_of, head_end, good_length}
use Rattle.sql_phrases.specs.sql_grammar.specs.declared.start.Start.{Start}
use Rattle.sql_phrases.specs.sql_grammar.specs.declared.start.Start.TheVariants as starts
use Rattle.sql_phrases.specs.sql_grammar.specs.declared.engine.Verdict.{Verdict}
use Rattle.sql_phrases.specs.sql_grammar.specs.declared.engine.Verdict.TheVariants as verdicts
use Rattle.sql_phrases.specs.sql_grammar.specs.Grammar.{Grammar}
use Rattle.sql_phrases.specs.sql_grammar.specs.Sql.{grammar_of}
use Rattle.sql_phrases.specs.sql_grammar.specs.Verdict.{kinds_of, Judged}
use Rattle.sql_subset.specs.declared.request.Line.{Line}
use Rattle.sql_subset.specs.declared.request.ParseError.{ParseError}
use Rattle.sql_subset.specs.declared.request.ParseError.TheVariants as e
use Rattle.sql_subset.specs.Lines.{is_silent, start_of, kinds_in, place_at, line_of, Saying, Silent, Says, WrongAt, TooDeep, Spoken, Told, Checked, Headed, Heard, Means, Answers, is_spoilt, Unspelt, Parses}
use Rattle.sql_subset.specs.declared.stmt.Stmt.{Stmt}
use Rattle.sql_subset.specs.Statements.{statement_of}

-- Just one verdict is right.
abbrev pub OneVerdict : Type 0
OneVerdict = (g : Grammar) (ks : List Kind) (v w : Verdict) → Judged g ks v → Judged g ks w → v ≡ w

same_spoken : OneVerdict → (s : Start) (head : List ℕ) (end : ℕ) (ls : List Lexeme) (x y : Saying) → Spoken s head end ls x → Spoken s head end ls y → x ≡ y
same_spoken u s head end ls Silent y d f = absurd d
same_spoken u s head end ls (Says l) Silent d f = absurd f
same_spoken u s head end ls (WrongAt p) Silent d f = absurd f
same_spoken u s head end ls TooDeep Silent d f = absurd f
same_spoken u s head end ls (Says l) (Says m) (d, a) (f, b) = ap Says (a ∙ sym b)
same_spoken u s head end ls (Says l) (WrongAt q) (d, a) (j, b, f) = let h = u (grammar_of s) (kinds_in ls) verdicts.Fits (verdicts.At j) d f in absurd (cc)
same_spoken u s head end ls (Says l) TooDeep (d, a) f = let h = u (grammar_of s) (kinds_in ls) verdicts.Fits verdicts.Deep d f in absurd (cc)
same_spoken u s head end ls (WrongAt p) (Says m) (i, a, d) (f, b) = let h = u (grammar_of s) (kinds_in ls) (verdicts.At i) verdicts.Fits d f in absurd (cc)
same_spoken u s head end ls (WrongAt p) (WrongAt q) (i, a, d) (j, b, f) =
    let h : verdicts.At i ≡ verdicts.At j = u (grammar_of s) (kinds_in ls) (verdicts.At i) (verdicts.At j) d f in
    let g : i ≡ j = cc in
    ap WrongAt (a ∙ (ap (λ n. place_at ls n end) g ∙ sym b))
same_spoken u s head end ls (WrongAt p) TooDeep (i, a, d) f = let h = u (grammar_of s) (kinds_in ls) (verdicts.At i) verdicts.Deep d f in absurd (cc)
same_spoken u s head end ls TooDeep (Says m) d (f, b) = let h = u (grammar_of s) (kinds_in ls) verdicts.Deep verdicts.Fits d f in absurd (cc)
same_spoken u s head end ls TooDeep (WrongAt q) d (j, b, f) = let h = u (grammar_of s) (kinds_in ls) verdicts.Deep (verdicts.At j) d f in absurd (cc)
same_spoken u s head end ls TooDeep TooDeep d f = refl

same_checked : OneVerdict → (b : Bool) (s : Start) (bytes : List ℕ) (x y : Saying) → Checked b s bytes x → Checked b s bytes y → x ≡ y
same_checked u true s bytes x y d f = d ∙ sym f
same_checked u false s bytes x y d f = same_spoken u s (head_of bytes) (length bytes) (lexed (head_end bytes) bytes) x y d f

same_headed : OneVerdict → (o : Option Start) (bytes : List ℕ) (x y : Saying) → Headed o bytes x → Headed o bytes y → x ≡ y
same_headed u None bytes x y d f = d ∙ sym f
same_headed u (Some s) bytes x y d f = same_checked u (nat_lt (good_length bytes) (length bytes)) s bytes x y d f

same_heard : OneVerdict → (b : Bool) (bytes : List ℕ) (x y : Saying) → Heard b bytes x → Heard b bytes y → x ≡ y
same_heard u true bytes x y d f = d ∙ sym f
same_heard u false bytes x y d f = same_headed u (start_of (head_of bytes)) bytes x y d f

pub same_meaning : OneVerdict → (bytes : List ℕ) (x y : Saying) → Means bytes x → Means bytes y → x ≡ y
same_meaning u bytes x y d f = same_heard u (is_silent bytes) bytes x y d f

-- The kinds of tokens are those of their lexemes.
pub kinds-lexemes : (line : List ℕ) (ts : List Token) → kinds_in (lexemes_of line ts) ≡ kinds_of ts
kinds-lexemes line [] = refl
kinds-lexemes line (t ∷ ts) = ap (λ ks. t.kind ∷ ks) (kinds-lexemes line ts)

kinds_same : (line : List ℕ) (ts : List Token) (ls : List Lexeme) → lexemes_of line ts ≡ ls → kinds_of ts ≡ kinds_in ls
kinds_same line ts ls h = sym (kinds-lexemes line ts) ∙ ap (λ x. kinds_in x) h

pub told_says : (s : Start) (head line : List ℕ) (end : ℕ) (ts : List Token) (ls : List Lexeme) (l : Line) → lexemes_of line ts ≡ ls → Judged (grammar_of s) (kinds_of ts) verdicts.Fits → l ≡ line_of s head (lexemes_of line ts) → Told s head end ls (Ok l)
told_says s head line end ts ls l h d f = (subst (λ ks. Judged (grammar_of s) ks verdicts.Fits) (kinds_same line ts ls h) d, f ∙ ap (λ x. line_of s head x) h)

pub told_at : (s : Start) (head line : List ℕ) (ts : List Token) (ls : List Lexeme) (i p : ℕ) → lexemes_of line ts ≡ ls → Judged (grammar_of s) (kinds_of ts) (verdicts.At i) → p ≡ place_at (lexemes_of line ts) i (length line) → Told s head (length line) ls (Err (e.At p))
told_at s head line ts ls i p h d f = (i, f ∙ ap (λ x. place_at x i (length line)) h, subst (λ ks. Judged (grammar_of s) ks (verdicts.At i)) (kinds_same line ts ls h) d)

pub told_deep : (s : Start) (head line : List ℕ) (end : ℕ) (ts : List Token) (ls : List Lexeme) → lexemes_of line ts ≡ ls → Judged (grammar_of s) (kinds_of ts) verdicts.Deep → Told s head end ls (Err e.Depth)
told_deep s head line end ts ls h d = subst (λ ks. Judged (grammar_of s) ks verdicts.Deep) (kinds_same line ts ls h) d

-- What the tokens of a line say, the line says.
heard : (bytes : List ℕ) (s : Start) (x : Saying) → is_silent bytes ≡ false → start_of (head_of bytes) ≡ Some s → nat_lt (good_length bytes) (length bytes) ≡ false
    → Spoken s (head_of bytes) (length bytes) (lexed (head_end bytes) bytes) x → Means bytes x
heard bytes s x h i j d = rw (h, i, j) d

pub answers_err : (bytes : List ℕ) (s : Start) (x : ParseError) → is_silent bytes ≡ false → start_of (head_of bytes) ≡ Some s → nat_lt (good_length bytes) (length bytes) ≡ false
    → Told s (head_of bytes) (length bytes) (lexed (head_end bytes) bytes) (Err x) → Answers bytes (Err x)
answers_err bytes s (e.At p) h i j d = heard bytes s (WrongAt p) h i j d
answers_err bytes s e.Depth h i j d = heard bytes s TooDeep h i j d
answers_err bytes s e.Memory h i j d = h

heard_loud : (b : Bool) (bytes : List ℕ) (l : Line) → Heard b bytes (Says l) → b ≡ false
heard_loud true bytes l d = absurd (cc)
heard_loud false bytes l d = refl

-- a line that says something isn't silent
pub loud : (bytes : List ℕ) (l : Line) → Means bytes (Says l) → is_silent bytes ≡ false
loud bytes l d = heard_loud (is_silent bytes) bytes l d

not_less : (g n : ℕ) → n ≤ g → nat_lt g n ≡ false
not_less g n h = grind (arith, nat_tests)

-- the same, from what the head and the bytes were found to be
pub parsed_err : (bytes : List ℕ) (s : Start) (x : ParseError) (a b g : ℕ) → false ≡ is_silent bytes → a ≡ head_start bytes → b ≡ head_end bytes → Some s ≡ start_of (slice_range bytes a b)
    → g ≡ good_length bytes → length bytes ≤ g → Told s (slice_range bytes a b) (length bytes) (lexed b bytes) (Err x) → Answers bytes (Err x)
parsed_err bytes s x a b g h i j k l m d =
    let e : slice_range bytes a b ≡ head_of bytes = ap (λ n. slice_range bytes n b) i ∙ ap (λ n. slice_range bytes (head_start bytes) n) j in
    let o : start_of (head_of bytes) ≡ Some s = ap (λ w. start_of w) (sym e) ∙ sym k in
    let p : nat_lt (good_length bytes) (length bytes) ≡ false = ap (λ n. nat_lt n (length bytes)) (sym l) ∙ not_less g (length bytes) m in
    let q : Told s (head_of bytes) (length bytes) (lexed b bytes) (Err x) = subst (λ w. Told s w (length bytes) (lexed b bytes) (Err x)) e d in
    answers_err bytes s x (sym h) o p (subst (λ n. Told s (head_of bytes) (length bytes) (lexed n bytes) (Err x)) j q)

-- The same of the bytes of a statement.
not_spoilt : (bytes : List ℕ) (g : ℕ) → g ≡ good_length bytes → length bytes ≤ g → is_spoilt bytes ≡ false
not_spoilt bytes g l m = ap (λ n. nat_lt n (length bytes)) (sym l) ∙ not_less g (length bytes) m

pub spelt_says : (bytes : List ℕ) (g : ℕ) (ts : List Token) (x : Stmt) → g ≡ good_length bytes → length bytes ≤ g → lexemes_of bytes ts ≡ lexed 0 bytes → Judged (grammar_of starts.Statement) (kinds_of ts) verdicts.Fits
    → x ≡ statement_of (lexemes_of bytes ts) → Parses bytes (Ok x)
spelt_says bytes g ts x l m h d f =
    (not_spoilt bytes g l m, subst (λ ks. Judged (grammar_of starts.Statement) ks verdicts.Fits) (kinds_same bytes ts (lexed 0 bytes) h) d, f ∙ ap (λ y. statement_of y) h)

pub spelt_at : (bytes : List ℕ) (g : ℕ) (ts : List Token) (i p : ℕ) → g ≡ good_length bytes → length bytes ≤ g → lexemes_of bytes ts ≡ lexed 0 bytes → Judged (grammar_of starts.Statement) (kinds_of ts) (verdicts.At i)
    → p ≡ place_at (lexemes_of bytes ts) i (length bytes) → Parses bytes (Err (e.At p))
spelt_at bytes g ts i p l m h d f =
    subst (λ b. Unspelt b bytes (e.At p)) (sym (not_spoilt bytes g l m))
    (i, f ∙ ap (λ y. place_at y i (length bytes)) h, subst (λ ks. Judged (grammar_of starts.Statement) ks (verdicts.At i)) (kinds_same bytes ts (lexed 0 bytes) h) d)

pub spelt_deep : (bytes : List ℕ) (g : ℕ) (ts : List Token) → g ≡ good_length bytes → length bytes ≤ g → lexemes_of bytes ts ≡ lexed 0 bytes → Judged (grammar_of starts.Statement) (kinds_of ts) verdicts.Deep → Parses bytes (Err e.Depth)
spelt_deep bytes g ts l m h d =
    subst (λ b. Unspelt b bytes e.Depth) (sym (not_spoilt bytes g l m)) (subst (λ ks. Judged (grammar_of starts.Statement) ks verdicts.Deep) (kinds_same bytes ts (lexed 0 bytes) h) d)
