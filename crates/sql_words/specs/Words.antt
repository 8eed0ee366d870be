-- Words, names and literals as they are printed (this project's rule).
use Rattle.std.specs.Prelude.{ℕ, ◌+◌, Bool, nat_eq, List, [], ◌∷◌, ◌++◌, take, drop, codes, Option, Some, None, if◌then◌else◌}
use Rattle.std.specs.List.{position, flat_map}
use Rattle.sql_phrases.specs.row_types.specs.Printing.{quoted}
use Rattle.sql_phrases.specs.sql_query.specs.declared.literal.Literal.{Literal}
use Rattle.sql_phrases.specs.sql_query.specs.declared.literal.Literal.TheVariants as literals
use Rattle.sql_phrases.specs.sql_query.specs.Literals.{signed_digits}

-- one word, as its bytes
abbrev pub Word : Type 0
Word = List ℕ

-- the words, each with a space in front
abbrev pub spaced : List Word → List ℕ
spaced words = flat_map (λ word. 32 ∷ word) words

-- the words with one space between each two
abbrev pub joined : List Word → List ℕ
joined words = drop 1 (spaced words)

-- the words where the test holds
abbrev pub where_so : Bool → List Word → List Word
where_so test words = if test then words else []

-- a comma and a part for each
abbrev pub more : {A : Type 0} → (A → List Word) → List A → List Word
more f xs = flat_map (λ x. codes "," ∷ f x) xs

-- parts with a comma between each two
abbrev pub listed : {A : Type 0} → (A → List Word) → List A → List Word
listed f [] = []
listed f (x ∷ xs) = f x ++ more f xs

-- between parentheses
abbrev pub enclosed : List Word → List Word
enclosed words = codes "(" ∷ words ++ codes ")" ∷ []

-- a name that has its dot here, or none
abbrev pub name_words_at : List ℕ → Option ℕ → List Word
name_words_at name None = name ∷ []
name_words_at name (Some dot) = take dot name ∷ codes "." ∷ drop (dot + 1) name ∷ []

-- an owner, a dot and an identifier, or one identifier
abbrev pub name_words : List ℕ → List Word
name_words name = name_words_at name (position (λ b. nat_eq b 46) name)

-- a column's name that has its first dot here, or none
abbrev pub column_name_words_at : List ℕ → Option ℕ → List Word
column_name_words_at name None = name ∷ []
column_name_words_at name (Some dot) = take dot name ∷ codes "." ∷ name_words (drop (dot + 1) name)

-- one identifier, two or three, with dots between
abbrev pub column_name_words : List ℕ → List Word
column_name_words name = column_name_words_at name (position (λ b. nat_eq b 46) name)

abbrev pub identifier_words : List ℕ → List Word
identifier_words name = name ∷ []

-- a `-` and digits are one word, and a text stands in single quotes, with each quote in it twice
abbrev pub literal_words : Literal → List Word
literal_words literals.Null = codes "NULL" ∷ []
literal_words (literals.Number number) = signed_digits number ∷ []
literal_words (literals.Text text) = quoted text ∷ []
literal_words (literals.Time text) = codes "TIMESTAMP" ∷ quoted text ∷ []
