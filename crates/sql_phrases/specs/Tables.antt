-- What the tokens at the front say: tables. (TimesTen SQL Reference, "CREATE TABLE", "CREATE CACHE GROUP" and "Type
-- specifications".)
use Rattle.std.specs.Prelude.{ℕ, Bool, ◌&&◌, ◌||◌, List, [], ◌∷◌, ◌++◌, length, drop, Option, Some, None, if◌then◌else◌}
use Rattle.sql_grammar.specs.sql_tokens.specs.declared.kind.Kind.{Kind}
use Rattle.sql_grammar.specs.sql_tokens.specs.declared.kind.Kind.TheVariants as k
use Rattle.sql_grammar.specs.sql_tokens.specs.Lexing.{Lexeme}
use Rattle.sql_query.specs.row_types.specs.declared.declaration.TypeDeclaration.{TypeDeclaration}
use Rattle.sql_query.specs.row_types.specs.declared.declaration.TypeDeclaration.TheVariants as types
use Rattle.sql_query.specs.row_types.specs.declared.declaration.ColumnDeclaration.{ColumnDeclaration}
use Rattle.sql_query.specs.row_types.specs.declared.declaration.ForeignKeyDeclaration.{ForeignKeyDeclaration}
use Rattle.sql_query.specs.row_types.specs.declared.declaration.TableDeclaration.{TableDeclaration}
use Rattle.sql_phrases.specs.declared.tables.CacheTable.{CacheTable}
use Rattle.sql_phrases.specs.declared.tables.Element.{Element}
use Rattle.sql_phrases.specs.declared.tables.Element.TheVariants as elements
use Rattle.sql_phrases.specs.declared.tables.TableAttribute.TheVariants as attributes
use Rattle.sql_phrases.specs.Reading.{begins, first_text, identifier_of, name_of, identifiers_of, at_comma, chained, past_one}

-- one word, where the first is this one, is passed
abbrev pub past_word : Kind → List Lexeme → List Lexeme
past_word w ls = if begins w ls then drop 1 ls else ls

-- two words, where the first is this one, are passed
abbrev pub past_two : Kind → List Lexeme → List Lexeme
past_two w ls = if begins w ls then drop 2 ls else ls

-- "(" n [ BYTE ] ")" behind VARCHAR2
abbrev pub text_type : List Lexeme → TypeDeclaration × List Lexeme
text_type ls = (types.Varchar2 (first_text (drop 1 ls)), drop 1 (past_word k.Byte (drop 2 ls)))

-- "(" n [ "," n ] ")" behind NUMBER
abbrev pub number_type : List Lexeme → TypeDeclaration × List Lexeme
number_type ls =
    if begins k.Comma (drop 2 ls) then (
      types.Number (first_text (drop 1 ls)) (Some (first_text (drop 3 ls))),
      drop 5 ls,
    )
    else (types.Number (first_text (drop 1 ls)) None, drop 3 ls)

-- [ "(" 0 ")" ] behind TIMESTAMP
abbrev pub time_type : List Lexeme → TypeDeclaration × List Lexeme
time_type ls = if begins k.OpenParen ls then (types.Timestamp, drop 3 ls) else (types.Timestamp, ls)

-- TT_INTEGER | TT_BIGINT | VARCHAR2 .. | NUMBER .. | TIMESTAMP ..
unfoldable pub type_of : List Lexeme → TypeDeclaration × List Lexeme
type_of ls =
    if begins k.TtInteger ls then (types.TtInteger, drop 1 ls)
    else if begins k.TtBigint ls then (types.TtBigint, drop 1 ls)
    else if begins k.Varchar2 ls then text_type (drop 1 ls)
    else if begins k.Number ls then number_type (drop 1 ls)
    else time_type (drop 1 ls)

-- [ NOT NULL ] [ PRIMARY KEY ] behind a column's name and type
abbrev pub column_typed : List ℕ → TypeDeclaration × List Lexeme → ColumnDeclaration × List Lexeme
column_typed name x = (
  record { name = name; ty = x.0; not_null = begins k.Not x.1; primary_key = begins k.Primary (past_two k.Not x.1) },
  past_two k.Primary (past_two k.Not x.1),
)

abbrev pub column_named : List ℕ × List Lexeme → ColumnDeclaration × List Lexeme
column_named x = column_typed x.0 (type_of x.1)

-- ident type [ NOT NULL ] [ PRIMARY KEY ]
unfoldable pub column_of : List Lexeme → ColumnDeclaration × List Lexeme
column_of ls = column_named (identifier_of ls)

-- [ ON DELETE CASCADE ] behind the columns of the parent
abbrev pub foreign_referred : List (List ℕ) → List ℕ → List (List ℕ) × List Lexeme → ForeignKeyDeclaration × List Lexeme
foreign_referred columns parent x =
    if begins k.On (drop 1 x.1) then (
      record {
        columns = columns;
        parent = parent;
        parent_columns = x.0;
        cascade =
            begins k.On (drop 1 x.1);
      },
      drop 4 x.1,
    )
    else (
      record { columns = columns; parent = parent; parent_columns = x.0; cascade = begins k.On (drop 1 x.1) },
      drop 1 x.1,
    )

abbrev pub foreign_named : List (List ℕ) → List ℕ × List Lexeme → ForeignKeyDeclaration × List Lexeme
foreign_named columns x = foreign_referred columns x.0 (identifiers_of (drop 1 x.1))

abbrev pub foreign_columned : List (List ℕ) × List Lexeme → ForeignKeyDeclaration × List Lexeme
foreign_columned x = foreign_named x.0 (name_of (drop 2 x.1))

-- FOREIGN KEY "(" idents ")" REFERENCES name "(" idents ")" [ ON DELETE CASCADE ]
unfoldable pub foreign_key_of : List Lexeme → ForeignKeyDeclaration × List Lexeme
foreign_key_of ls = foreign_columned (identifiers_of (drop 3 ls))

-- the word closes the table: it is an attribute and no column
abbrev pub closes : Kind → List Lexeme → Bool
closes w ls = begins w ls && begins k.CloseParen (drop 1 ls)

abbrev pub as_key : List (List ℕ) × List Lexeme → Element × List Lexeme
as_key x = (elements.Key x.0, drop 1 x.1)

abbrev pub as_foreign_key : ForeignKeyDeclaration × List Lexeme → Element × List Lexeme
as_foreign_key x = (elements.ForeignKey x.0, x.1)

abbrev pub as_column : ColumnDeclaration × List Lexeme → Element × List Lexeme
as_column x = (elements.Column x.0, x.1)

-- PRIMARY KEY "(" idents ")" | FOREIGN KEY .. | READONLY | PROPAGATE | NOT PROPAGATE | column
unfoldable pub element_of : List Lexeme → Element × List Lexeme
element_of ls =
    if begins k.Primary ls then as_key (identifiers_of (drop 3 ls))
    else if begins k.Foreign ls then as_foreign_key (foreign_key_of ls)
    else if closes k.Readonly ls then (elements.Attribute attributes.ReadOnly, drop 1 ls)
    else if closes k.Propagate ls then (elements.Attribute attributes.Propagate, drop 1 ls)
    else if begins k.Not ls then (elements.Attribute attributes.NotPropagate, drop 2 ls)
    else as_column (column_of ls)

-- a table with one element more
abbrev pub with_element : Kind → CacheTable → Element → CacheTable
with_element w t (elements.Column c) = record t { table = record t.table { columns = t.table.columns ++ c ∷ [] } }
with_element w t (elements.Key names) = record t { table = record t.table { primary_key = Some names } }
with_element w t (elements.ForeignKey key) = record t { table = record t.table { foreign_key = Some key } }
with_element w t (elements.Attribute attribute) = record t { attribute = Some attribute }

-- a table with its first column
abbrev pub table_with : List ℕ → ColumnDeclaration × List Lexeme → CacheTable × List Lexeme
table_with name x = (
  record {
    table = record { name = name; columns = x.0 ∷ []; primary_key = None; foreign_key = None };
    attribute =
        None;
  },
  x.1,
)

-- the elements behind the first column
abbrev pub elements_of : List ℕ → ColumnDeclaration × List Lexeme → CacheTable × List Lexeme
elements_of name x = chained at_comma with_element element_of (length x.1) (table_with name x)

-- "(" column { "," element } ")" behind a table's name
abbrev pub table_named : List ℕ × List Lexeme → CacheTable × List Lexeme
table_named x = past_one (elements_of x.0 (column_of (drop 1 x.1)))

-- name "(" column { "," element } ")"
unfoldable pub table_of : List Lexeme → CacheTable × List Lexeme
table_of ls = table_named (name_of ls)
