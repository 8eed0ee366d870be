-- What the tokens at the front say: names, literals, and lists of them. (TimesTen SQL Reference, "Names, namespace and
-- parameters" and "Constants".) On tokens that no statement has these functions give some value, which no line says
-- (this project's rule).
use Rattle.std.specs.Prelude.{ℕ, zero, suc, ◌+◌, ◌-◌, ◌*◌, min, Bool, true, false, nat_eq, List, [], ◌∷◌, ◌++◌, length, drop, codes, if◌then◌else◌}
use Rattle.sql_query.specs.tier_base.specs.Names.{folded, is_name}
use Rattle.sql_grammar.specs.sql_tokens.specs.declared.kind.Kind.{Kind}
use Rattle.sql_grammar.specs.sql_tokens.specs.declared.kind.Kind.TheVariants.{Bad, Comma, Dot, Minus, Null, Text, Timestamp}
use Rattle.sql_grammar.specs.sql_tokens.specs.Kinds.{is_kind}
use Rattle.sql_grammar.specs.sql_tokens.specs.Lexing.{Lexeme}
use Rattle.sql_query.specs.declared.literal.NumberLiteral.{NumberLiteral}
use Rattle.sql_query.specs.declared.literal.Literal.{Literal}
use Rattle.sql_query.specs.declared.literal.Literal.TheVariants as literals

-- what the first token is
abbrev pub first_kind : List Lexeme → Kind
first_kind [] = Bad
first_kind (l ∷ ls) = l.kind

-- the bytes of the first token
abbrev pub first_text : List Lexeme → List ℕ
first_text [] = []
first_text (l ∷ ls) = l.text

-- the first token is of this kind
abbrev pub begins : Kind → List Lexeme → Bool
begins k ls = is_kind (first_kind ls) k

-- the bytes as a name, folded; NONAME where they are none, which no spelt line has: its grammar lets only names pass
-- where one is read
abbrev pub name_from : List ℕ → List ℕ
name_from bytes = if is_name bytes then folded bytes else codes "NONAME"

-- ident
abbrev pub identifier_of : List Lexeme → List ℕ × List Lexeme
identifier_of ls = (name_from (first_text ls), drop 1 ls)

-- ident [ "." ident ]
abbrev pub name_of : List Lexeme → List ℕ × List Lexeme
name_of ls =
    if begins Dot (drop 1 ls) then (
      name_from (first_text ls ++ 46 ∷ first_text (drop 2 ls)),
      drop 3 ls,
    ) else (name_from (first_text ls), drop 1 ls)

-- ident [ "." ident ] behind a dot, where there is one
abbrev pub past_column : List ℕ × List Lexeme → List ℕ × List Lexeme
past_column x = if begins Dot x.1 then (x.0 ++ 46 ∷ name_from (first_text (drop 1 x.1)), drop 2 x.1) else x

-- ident [ "." ident [ "." ident ] ]
abbrev pub column_of : List Lexeme → List ℕ × List Lexeme
column_of ls = past_column (name_of ls)

-- number | "-" number
abbrev pub numeral_of : List Lexeme → NumberLiteral × List Lexeme
numeral_of ls =
    if begins Minus ls then (record { negative = true; digits = first_text (drop 1 ls) }, drop 2 ls)
    else (record { negative = false; digits = first_text ls }, drop 1 ls)

-- the greatest number of 64 bits, which stands for all that is greater
abbrev pub capped : ℕ → ℕ
capped n = min n 18446744073709551615

-- the number with further digits behind it
abbrev pub number_with : ℕ → List ℕ → ℕ
number_with n [] = n
number_with n (b ∷ bs) = number_with (capped (10 * n + (b - 48))) bs

-- the number that the digits make
abbrev pub number_of : List ℕ → ℕ
number_of digits = number_with 0 digits

-- the bytes with each quote that is followed by another one as one quote, behind a quote or not
abbrev pub halved : Bool → List ℕ → List ℕ
halved behind [] = []
halved false (b ∷ bs) = if nat_eq b 39 then halved true bs else b ∷ halved false bs
halved true (b ∷ bs) = 39 ∷ halved false bs

-- the text between the quotes
abbrev pub unquoted : List ℕ → List ℕ
unquoted bytes = halved false (drop 1 bytes)

abbrev pub as_number : NumberLiteral × List Lexeme → Literal × List Lexeme
as_number x = (literals.Number x.0, x.1)

-- number | "-" number | text | NULL | TIMESTAMP text
abbrev pub literal_of : List Lexeme → Literal × List Lexeme
literal_of ls =
    if begins Text ls then (literals.Text (unquoted (first_text ls)), drop 1 ls)
    else if begins Null ls then (literals.Null, drop 1 ls)
    else if begins Timestamp ls then (literals.Time (unquoted (first_text (drop 1 ls))), drop 2 ls)
    else as_number (numeral_of ls)

-- the first token is a comma
abbrev pub at_comma : List Lexeme → Bool
at_comma ls = begins Comma ls

-- From left to right, while it goes on with a token and a part behind it: f puts one part more in, and is told the
-- token.
abbrev pub chained : {A B : Type 0} → (List Lexeme → Bool) → (Kind → A → B → A) → (List Lexeme → B × List Lexeme) → ℕ
    → A × List Lexeme → A × List Lexeme
chained g f p zero x = x
chained g f p (suc n) x =
    if g x.1 then chained g f p n (f (first_kind x.1) x.0 (p (drop 1 x.1)).0, (p (drop 1 x.1)).1) else x

-- a list with one more at its end
abbrev pub with_last : {A : Type 0} → Kind → List A → A → List A
with_last k xs x = xs ++ x ∷ []

abbrev pub as_list : {A : Type 0} → A × List Lexeme → List A × List Lexeme
as_list x = (x.0 ∷ [], x.1)

-- ident { "," ident }
abbrev pub identifiers_of : List Lexeme → List (List ℕ) × List Lexeme
identifiers_of ls = chained at_comma with_last identifier_of (length ls) (as_list (identifier_of ls))

-- literal { "," literal }
abbrev pub literals_of : List Lexeme → List Literal × List Lexeme
literals_of ls = chained at_comma with_last literal_of (length ls) (as_list (literal_of ls))

-- column { "," column }
abbrev pub columns_of : List Lexeme → List (List ℕ) × List Lexeme
columns_of ls = chained at_comma with_last column_of (length ls) (as_list (column_of ls))

-- a value, one token further
abbrev pub past_one : {A : Type 0} → A × List Lexeme → A × List Lexeme
past_one x = (x.0, drop 1 x.1)
