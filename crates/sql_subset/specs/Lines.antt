-- What a request line says.
use Rattle.std.specs.Prelude.{ℕ, ◌≡◌, Bool, true, false, nat_eq, nat_lt, List, [], ◌∷◌, length, slice_get, drop, map, codes, bytes_eq, Option, Some, None, Result, Ok, Err, if◌then◌else◌}
use Rattle.std.specs.Global.{Vec}
use Rattle.sql_phrases.specs.tier_base.specs.Labels.{is_label}
use Rattle.sql_phrases.specs.sql_tokens.specs.declared.kind.Kind.{Kind}
use Rattle.sql_phrases.specs.sql_tokens.specs.declared.token.Token.{Token}
use Rattle.sql_phrases.specs.sql_tokens.specs.Lexing.{Lexeme, lexed, lexemes_of}
use Rattle.sql_phrases.specs.sql_tokens.specs.Heads.{head_of, head_end, good_length}
use Rattle.sql_phrases.specs.sql_grammar.specs.declared.start.Start.{Start}
use Rattle.sql_phrases.specs.sql_grammar.specs.declared.start.Start.TheVariants as starts
use Rattle.sql_phrases.specs.sql_grammar.specs.declared.engine.Verdict.TheVariants as verdicts
use Rattle.sql_phrases.specs.sql_grammar.specs.Sql.{grammar_of}
use Rattle.sql_phrases.specs.sql_grammar.specs.Verdict.{IsSpelt, Judged}
use Rattle.sql_subset.specs.declared.line.SpeltLine.{SpeltLine}
use Rattle.sql_subset.specs.declared.stmt.Stmt.{Stmt}
use Rattle.sql_subset.specs.declared.request.Line.{Line}
use Rattle.sql_subset.specs.declared.request.Line.TheVariants as line
use Rattle.sql_subset.specs.declared.request.ParseError.{ParseError}
use Rattle.sql_subset.specs.declared.request.ParseError.TheVariants as e
use Rattle.sql_subset.specs.Statements.{statement_of, request_of, console_of, clock_of}

-- The line is empty or a comment: it has no reply (this project's rule).
abbrev pub is_silent : List ℕ → Bool
is_silent [] = true
is_silent (b ∷ bytes) = nat_eq b 35

-- who speaks: a session, the console, or the clock (this project's rule)
abbrev pub start_of : List ℕ → Option Start
start_of head =
    if bytes_eq head (codes "backing") then Some starts.Console
    else if bytes_eq head (codes "clock") then Some starts.Clock
    else if is_label head then Some starts.Session
    else None

-- what each token is
abbrev pub kinds_in : List Lexeme → List Kind
kinds_in ls = map (λ l. l.kind) ls

-- the byte at which the token stands, or the end
abbrev pub place_or : ℕ → Option Lexeme → ℕ
place_or end None = end
place_or end (Some l) = l.place

-- the byte at which the i-th token stands, or the end
abbrev pub place_at : List Lexeme → ℕ → ℕ → ℕ
place_at ls i end = place_or end (slice_get ls i)

-- what the tokens of a request say, the colon being the first
abbrev pub line_of : Start → List ℕ → List Lexeme → Line
line_of starts.Console head ls = line.Console (console_of (drop 1 ls))
line_of starts.Session head ls = line.Session head (request_of (drop 1 ls))
line_of starts.Clock head ls = line.Clock (clock_of (drop 1 ls))
line_of starts.Statement head ls = line.Session head (request_of ls)

-- What a line says.
pub data Saying : Type 0 where
  -- nothing: it is empty or a comment
  Silent : Saying
  -- this request
  Says : Line → Saying
  -- it is spelt wrong at this byte
  WrongAt : ℕ → Saying
  -- it goes on too deep
  TooDeep : Saying

-- What the tokens behind a head say, by the grammar of who speaks, in a line of this length.
abbrev pub Spoken : Start → List ℕ → ℕ → List Lexeme → Saying → Type 0
Spoken s head end ls Silent = ⊥
Spoken s head end ls (Says l) = IsSpelt (grammar_of s) 32 (kinds_in ls) × (l ≡ line_of s head ls)
Spoken s head end ls (WrongAt p) = (i : ℕ) × (p ≡ place_at ls i end)
    × Judged (grammar_of s) (kinds_in ls) (verdicts.At i)
Spoken s head end ls TooDeep = Judged (grammar_of s) (kinds_in ls) verdicts.Deep

-- The answer to tokens: what they say, or want of memory.
abbrev pub Told : Start → List ℕ → ℕ → List Lexeme → Result Line ParseError → Type 0
Told s head end ls (Ok l) = Spoken s head end ls (Says l)
Told s head end ls (Err (e.At p)) = Spoken s head end ls (WrongAt p)
Told s head end ls (Err e.Depth) = Spoken s head end ls TooDeep
Told s head end ls (Err e.Memory) = Unit {0}

-- what tokens say that were found, or why none were
abbrev pub tokens_said : Start → List ℕ → List ℕ → Result (Vec Token) ParseError → Result Line ParseError
tokens_said s head line (Ok tokens) = Ok (line_of s head (lexemes_of line tokens.items))
tokens_said s head line (Err x) = Err x

-- What a line says of which the tokens count, or not for its first bad byte.
abbrev pub Checked : Bool → Start → List ℕ → Saying → Type 0
Checked true s bytes x = x ≡ WrongAt (good_length bytes)
Checked false s bytes x = Spoken s (head_of bytes) (length bytes) (lexed (head_end bytes) bytes) x

-- What a line says of which this one speaks: without a label it is wrong at its first byte.
abbrev pub Headed : Option Start → List ℕ → Saying → Type 0
Headed None bytes x = x ≡ WrongAt 0
Headed (Some s) bytes x = Checked (nat_lt (good_length bytes) (length bytes)) s bytes x

-- What a line says that is silent, or not.
abbrev pub Heard : Bool → List ℕ → Saying → Type 0
Heard true bytes x = x ≡ Silent
Heard false bytes x = Headed (start_of (head_of bytes)) bytes x

-- What a line says (this project's rule).
abbrev pub Means : List ℕ → Saying → Type 0
Means bytes x = Heard (is_silent bytes) bytes x

-- The answer to a line: what it says, or want of memory, which no silent line meets.
abbrev pub Answers : List ℕ → Result (Option Line) ParseError → Type 0
Answers bytes (Ok None) = Means bytes Silent
Answers bytes (Ok (Some l)) = Means bytes (Says l)
Answers bytes (Err (e.At p)) = Means bytes (WrongAt p)
Answers bytes (Err e.Depth) = Means bytes TooDeep
Answers bytes (Err e.Memory) = is_silent bytes ≡ false

-- what a line says of which the tokens were found, or why none were
abbrev pub line_said : List ℕ → Result (Option SpeltLine) ParseError → Result (Option Line) ParseError
line_said bytes (Ok None) = Ok None
line_said bytes (Ok (Some l)) = Ok (Some (line_of l.start l.head.now (lexemes_of bytes l.tokens.items)))
line_said bytes (Err x) = Err x

-- The answer to whether a line says something.
abbrev pub SaysSomething : List ℕ → Result Bool ParseError → Type 0
SaysSomething bytes (Ok false) = Means bytes Silent
SaysSomething bytes (Ok true) = (l : Line) × Means bytes (Says l)
SaysSomething bytes (Err x) = Answers bytes (Err x)

-- some byte is a bad one
abbrev pub is_spoilt : List ℕ → Bool
is_spoilt bytes = nat_lt (good_length bytes) (length bytes)

-- The bytes spell this statement.
abbrev pub Spells : List ℕ → Stmt → Type 0
Spells bytes s = (is_spoilt bytes ≡ false) × IsSpelt (grammar_of starts.Statement) 32 (kinds_in (lexed 0 bytes))
    × (s ≡ statement_of (lexed 0 bytes))

-- Why the bytes spell no statement, or want of memory.
abbrev pub Unspelt : Bool → List ℕ → ParseError → Type 0
Unspelt spoilt bytes e.Memory = Unit {0}
Unspelt true bytes (e.At p) = p ≡ good_length bytes
Unspelt true bytes e.Depth = ⊥
Unspelt false bytes (e.At p) = (i : ℕ) × (p ≡ place_at (lexed 0 bytes) i (length bytes))
    × Judged (grammar_of starts.Statement) (kinds_in (lexed 0 bytes)) (verdicts.At i)
Unspelt false bytes e.Depth = Judged (grammar_of starts.Statement) (kinds_in (lexed 0 bytes)) verdicts.Deep

-- The answer to the bytes of a statement.
abbrev pub Parses : List ℕ → Result Stmt ParseError → Type 0
Parses bytes (Ok s) = Spells bytes s
Parses bytes (Err x) = Unspelt (is_spoilt bytes) bytes x
