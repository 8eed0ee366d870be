-- From bytes to tokens. (TimesTen SQL Reference, "Names, namespace and parameters" for identifiers, "Constants" for
-- numbers and texts, "Comparison predicate" for the signs; what is no token, and the byte at which a token stands, are
-- this project's rules.)
use Rattle.std.specs.Prelude.{ℕ, suc, Bool, ◌&&◌, ◌||◌, List, [], ◌∷◌, ◌++◌, map, drop, nat_eq, Option, Some, None, slice_range, if◌then◌else◌}
use Rattle.std.specs.List.{list_all}
use Rattle.std.specs.Char.{is_ascii_digit}
use Rattle.tier_base.specs.Names.{is_word_byte}
use Rattle.sql_tokens.specs.declared.kind.Kind.{Kind}
use Rattle.sql_tokens.specs.declared.kind.Kind.TheVariants.{Bad, Text, Colon, Semicolon, Comma, Dot, OpenParen, CloseParen, Star, Plus, Minus, Equals, NotEquals, LessThan, AtMost, GreaterThan, AtLeast}
use Rattle.sql_tokens.specs.declared.token.Token.{Token}
use Rattle.sql_tokens.specs.Words.{word_kind, fraction_kind}

-- A token: what it is, the place of its first byte, and its bytes.
pub record Lexeme : Type 0 where
  pub kind : Kind
  pub place : ℕ
  pub text : List ℕ

abbrev pub lexeme : Kind → ℕ → List ℕ → Lexeme
lexeme k place text = record { kind = k; place = place; text = text }

-- What is being scanned, with the place where it began and its bytes so far.
pub data Scan : Type 0 where
  -- nothing
  Blank : Scan
  -- a run of letters, digits, `_`, `$` and `#`
  InWord : ℕ → List ℕ → Scan
  -- digits, and the point at this place behind them, which is theirs where a digit follows
  AtPoint : ℕ → List ℕ → ℕ → Scan
  -- digits with their point, and the run behind it
  InFraction : ℕ → List ℕ → List ℕ → Scan
  -- a text
  InText : ℕ → List ℕ → Scan
  -- a text behind a quote, which ends it where no second one follows
  Quoted : ℕ → List ℕ → Scan
  -- `<`, `>` or `!`, which may go on
  InSign : ℕ → ℕ → Scan

-- tokens, and what is scanned behind them
abbrev pub Scanned : Type 0
Scanned = List Lexeme × Scan

-- a space or a tab
abbrev pub is_blank : ℕ → Bool
is_blank b = nat_eq b 32 || nat_eq b 9

-- `<`, `>` or `!`
abbrev pub is_open_sign : ℕ → Bool
is_open_sign b = nat_eq b 60 || nat_eq b 62 || nat_eq b 33

-- a token of one byte
abbrev pub mark_kind : ℕ → Kind
mark_kind b =
    if nat_eq b 58 then Colon else if nat_eq b 59 then Semicolon else if nat_eq b 44 then Comma else if nat_eq b 46
    then Dot
    else if nat_eq b 40 then OpenParen else if nat_eq b 41 then CloseParen else if nat_eq b 42 then Star
    else if nat_eq b 43 then Plus else if nat_eq b 45 then Minus else if nat_eq b 61 then Equals
    else if nat_eq b 60 then LessThan else if nat_eq b 62 then GreaterThan else Bad

-- a token of two bytes
abbrev pub pair_kind : ℕ → ℕ → Option Kind
pair_kind a b =
    if nat_eq b 61 then (if nat_eq a 60 then Some AtMost else if nat_eq a 62 then Some AtLeast else Some NotEquals)
    else if nat_eq b 62 then (if nat_eq a 60 then Some NotEquals else None)
    else None

-- what a byte begins at this place
abbrev pub begun : ℕ → ℕ → Scanned
begun i b =
    if is_blank b then ([], Blank) else if is_word_byte b then ([], InWord i (b ∷ [])) else if nat_eq b 39 then (
      [],
      InText i (b ∷ []),
    )
    else if is_open_sign b then ([], InSign i b) else (lexeme (mark_kind b) i (b ∷ []) ∷ [], Blank)

abbrev pub behind : Lexeme → Scanned → Scanned
behind l s = (l ∷ s.0, s.1)

-- the sign with the byte behind it
abbrev pub signed : ℕ → ℕ → ℕ → ℕ → Option Kind → Scanned
signed s a i b (Some k) = (lexeme k s (a ∷ b ∷ []) ∷ [], Blank)
signed s a i b None = behind (lexeme (mark_kind a) s (a ∷ [])) (begun i b)

-- this byte is a point behind digits
abbrev pub is_point_of : List ℕ → ℕ → Bool
is_point_of bs b = nat_eq b 46 && list_all is_ascii_digit bs

-- what is scanned takes one byte more
abbrev pub on : Scan → ℕ → ℕ → Scanned
on Blank i b = begun i b
on (InWord s bs) i b =
    if is_word_byte b then ([], InWord s (bs ++ b ∷ [])) else if is_point_of bs b then ([], AtPoint s bs i)
    else behind (lexeme (word_kind bs) s bs) (begun i b)
on (AtPoint s bs p) i b =
    if is_ascii_digit b then ([], InFraction s (bs ++ 46 ∷ []) (b ∷ [])) else behind (lexeme (word_kind bs) s bs)
    (behind (lexeme Dot p (46 ∷ [])) (begun i b))
on (InFraction s bs fs) i b =
    if is_word_byte b then ([], InFraction s bs (fs ++ b ∷ [])) else behind (lexeme (fraction_kind fs) s (bs ++ fs))
    (begun i b)
on (InText s bs) i b = if nat_eq b 39 then ([], Quoted s (bs ++ b ∷ [])) else ([], InText s (bs ++ b ∷ []))
on (Quoted s bs) i b = if nat_eq b 39 then ([], InText s (bs ++ b ∷ [])) else behind (lexeme Text s bs) (begun i b)
on (InSign s a) i b = signed s a i b (pair_kind a b)

-- what is scanned at the end of the bytes: a text without its closing quote is no token
abbrev pub at_end : Scan → List Lexeme
at_end Blank = []
at_end (InWord s bs) = lexeme (word_kind bs) s bs ∷ []
at_end (AtPoint s bs p) = lexeme (word_kind bs) s bs ∷ lexeme Dot p (46 ∷ []) ∷ []
at_end (InFraction s bs fs) = lexeme (fraction_kind fs) s (bs ++ fs) ∷ []
at_end (InText s bs) = lexeme Bad s bs ∷ []
at_end (Quoted s bs) = lexeme Text s bs ∷ []
at_end (InSign s a) = lexeme (mark_kind a) s (a ∷ []) ∷ []

-- the tokens of the bytes from this place on
abbrev pub lexed_from : Scan → ℕ → List ℕ → List Lexeme
lexed_from s i [] = at_end s
lexed_from s i (b ∷ bs) = (on s i b).0 ++ lexed_from (on s i b).1 (suc i) bs

-- The tokens of a line behind this place.
abbrev pub lexed : ℕ → List ℕ → List Lexeme
lexed from line = lexed_from Blank from (drop from line)

-- A token with its bytes in the line.
abbrev pub lexeme_of : List ℕ → Token → Lexeme
lexeme_of line t = lexeme t.kind t.start (slice_range line t.start t.end)

abbrev pub lexemes_of : List ℕ → List Token → List Lexeme
lexemes_of line ts = map (λ t. lexeme_of line t) ts
