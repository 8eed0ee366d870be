-- Names of tables, columns and groups, and the words that are none. (TimesTen SQL Reference, "Names, namespace and
-- parameters"; the reserved words are this project's, and so is folding without quoted names.)

use Rattle.std.specs.Prelude.{ℕ, List, [], ◌∷◌, ◌+◌, Bool, true, false, ◌&&◌, ◌||◌, not, nat_eq, nat_le, length, map, take, drop, codes, Option, Some, None}
use Rattle.std.specs.List.{list_all, position}
use Rattle.std.specs.Char.{to_ascii_uppercase, is_ascii_alphabetic, is_ascii_alphanumeric}

-- in upper case
abbrev pub folded : List ℕ → List ℕ
folded bytes = map to_ascii_uppercase bytes

-- the bytes are the word, which is in upper case, but for the case of their letters
abbrev pub spells : List ℕ → List ℕ → Bool
spells [] [] = true
spells (b ∷ bytes) (c ∷ word) = nat_eq (to_ascii_uppercase b) c && spells bytes word
spells [] (c ∷ word) = false
spells (b ∷ bytes) [] = false

abbrev pub is_among : List (List ℕ) → List ℕ → Bool
is_among [] bytes = false
is_among (word ∷ words) bytes = spells bytes word || is_among words bytes

-- the words that are no identifiers
abbrev pub reserved : List (List ℕ)
reserved =
    codes "SELECT" ∷ codes "FROM" ∷ codes "WHERE" ∷ codes "AND" ∷ codes "OR" ∷ codes "NOT" ∷ codes "NULL" ∷ codes "IS"
    ∷ codes "IN"
    ∷ codes "BETWEEN" ∷ codes "ORDER" ∷ codes "BY" ∷ codes "ASC" ∷ codes "DESC" ∷ codes "INSERT" ∷ codes "INTO"
    ∷ codes "VALUES"
    ∷ codes "UPDATE" ∷ codes "SET" ∷ codes "DELETE" ∷ codes "CREATE" ∷ codes "ALTER" ∷ codes "DROP" ∷ codes "TABLE"
    ∷ codes "CACHE"
    ∷ codes "GROUP" ∷ codes "PRIMARY" ∷ codes "FOREIGN" ∷ codes "KEY" ∷ codes "REFERENCES" ∷ codes "ON"
    ∷ codes "CASCADE"
    ∷ codes "TIMESTAMP" ∷ codes "COUNT" ∷ codes "SUM" ∷ codes "MIN" ∷ codes "MAX" ∷ codes "CALL" ∷ codes "COMMIT"
    ∷ codes "ROLLBACK"
    ∷ codes "LOAD" ∷ codes "REFRESH" ∷ codes "UNLOAD" ∷ codes "FLUSH" ∷ codes "AGING" ∷ []

abbrev pub is_reserved_word : List ℕ → Bool
is_reserved_word bytes = is_among reserved bytes

-- a letter, a digit, _, $ or #
abbrev pub is_word_byte : ℕ → Bool
is_word_byte b = is_ascii_alphanumeric b || nat_eq b 95 || nat_eq b 36 || nat_eq b 35

abbrev pub begins_with_letter : List ℕ → Bool
begins_with_letter [] = false
begins_with_letter (b ∷ bytes) = is_ascii_alphabetic b

-- an identifier: a letter and then letters, digits, _, $ and #, up to 30 bytes, and no reserved word
abbrev pub is_identifier : List ℕ → Bool
is_identifier bytes = begins_with_letter bytes && list_all is_word_byte bytes && nat_le (length bytes) 30
    && not (is_reserved_word bytes)

-- an identifier, or with a dot an owner and an identifier (no identifier has a dot)
abbrev pub is_name_at : List ℕ → Option ℕ → Bool
is_name_at bytes None = is_identifier bytes
is_name_at bytes (Some dot) = is_identifier (take dot bytes) && is_identifier (drop (dot + 1) bytes)

abbrev pub is_name : List ℕ → Bool
is_name bytes = is_name_at bytes (position (λ b. nat_eq b 46) bytes)
