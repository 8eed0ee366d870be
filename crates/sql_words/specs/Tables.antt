-- The words of a table (this project's rule).
use Rattle.std.specs.Prelude.{ℕ, Bool, List, [], ◌∷◌, ◌++◌, codes, Option, Some, None}
use Rattle.sql_phrases.specs.row_types.specs.declared.declaration.TypeDeclaration.{TypeDeclaration}
use Rattle.sql_phrases.specs.row_types.specs.declared.declaration.TypeDeclaration.TheVariants as types
use Rattle.sql_phrases.specs.row_types.specs.declared.declaration.ColumnDeclaration.{ColumnDeclaration}
use Rattle.sql_phrases.specs.row_types.specs.declared.declaration.ForeignKeyDeclaration.{ForeignKeyDeclaration}
use Rattle.sql_phrases.specs.row_types.specs.declared.declaration.TableDeclaration.{TableDeclaration}
use Rattle.sql_phrases.specs.declared.tables.TableAttribute.TheVariants as attributes
use Rattle.sql_phrases.specs.declared.tables.TableAttribute.{TableAttribute}
use Rattle.sql_words.specs.Words.{Word, where_so, enclosed, listed, name_words, identifier_words}

-- [ , n ]
abbrev pub scale_words : Option (List ℕ) → List Word
scale_words None = []
scale_words (Some scale) = codes "," ∷ scale ∷ []

abbrev pub type_words : TypeDeclaration → List Word
type_words types.TtInteger = codes "TT_INTEGER" ∷ []
type_words types.TtBigint = codes "TT_BIGINT" ∷ []
type_words (types.Varchar2 digits) = codes "VARCHAR2" ∷ enclosed (digits ∷ [])
type_words (types.Number precision scale) = codes "NUMBER" ∷ enclosed (precision ∷ scale_words scale)
type_words types.Timestamp = codes "TIMESTAMP" ∷ []

-- [NOT NULL] [PRIMARY KEY]
abbrev pub mark_words : Bool → Bool → List Word
mark_words not_null primary_key =
    where_so not_null (codes "NOT" ∷ codes "NULL" ∷ []) ++ where_so primary_key (codes "PRIMARY" ∷ codes "KEY" ∷ [])

-- name type [NOT NULL] [PRIMARY KEY]
abbrev pub column_words : ColumnDeclaration → List Word
column_words column = column.name ∷ type_words column.ty ++ mark_words column.not_null column.primary_key

-- [ , PRIMARY KEY ( columns ) ]
abbrev pub key_words : Option (List (List ℕ)) → List Word
key_words None = []
key_words (Some names) = codes "," ∷ codes "PRIMARY" ∷ codes "KEY" ∷ enclosed (listed identifier_words names)

-- [ ON DELETE CASCADE ]
abbrev pub cascade_words : Bool → List Word
cascade_words cascade = where_so cascade (codes "ON" ∷ codes "DELETE" ∷ codes "CASCADE" ∷ [])

-- REFERENCES table ( columns ) [ ON DELETE CASCADE ]
abbrev pub reference_words : ForeignKeyDeclaration → List Word
reference_words key =
    codes "REFERENCES" ∷ name_words key.parent ++ enclosed (listed identifier_words key.parent_columns)
    ++ cascade_words key.cascade

-- [ , FOREIGN KEY ( columns ) REFERENCES .. ]
abbrev pub foreign_words : Option ForeignKeyDeclaration → List Word
foreign_words None = []
foreign_words (Some key) =
    codes "," ∷ codes "FOREIGN" ∷ codes "KEY" ∷ enclosed (listed identifier_words key.columns) ++ reference_words key

-- [ , READONLY | , PROPAGATE | , NOT PROPAGATE ]
abbrev pub attribute_words : Option TableAttribute → List Word
attribute_words None = []
attribute_words (Some attributes.ReadOnly) = codes "," ∷ codes "READONLY" ∷ []
attribute_words (Some attributes.Propagate) = codes "," ∷ codes "PROPAGATE" ∷ []
attribute_words (Some attributes.NotPropagate) = codes "," ∷ codes "NOT" ∷ codes "PROPAGATE" ∷ []

-- columns and keys
abbrev pub element_words : TableDeclaration → List Word
element_words table =
    listed column_words table.columns ++ key_words table.primary_key ++ foreign_words table.foreign_key

-- name ( columns, keys, attribute )
abbrev pub table_words : TableDeclaration → Option TableAttribute → List Word
table_words table attribute = name_words table.name ++ enclosed (element_words table ++ attribute_words attribute)
