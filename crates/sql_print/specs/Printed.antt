-- What is printed.
use Rattle.std.specs.Prelude.{ℕ, List, [], ◌∷◌, ◌++◌, codes, None}
use Rattle.std.specs.List.{flat_map}
use Rattle.sql_subset.specs.row_types.specs.declared.declaration.TableDeclaration.{TableDeclaration}
use Rattle.sql_subset.specs.sql_query.specs.declared.write.Write.{Write}
use Rattle.sql_subset.specs.declared.stmt.Stmt.{Stmt}
use Rattle.sql_words.specs.Words.{Word, joined}
use Rattle.sql_words.specs.Tables.{table_words}
use Rattle.sql_words.specs.NormalTables.{normal_table}
use Rattle.sql_print.specs.Queries.{write_words}
use Rattle.sql_print.specs.Statements.{statement_words}
use Rattle.sql_print.specs.Normal.{normal}

-- The words of the statement's normal form (this project's rule).
abbrev pub printed : Stmt → List ℕ
printed s = joined (statement_words (normal s))

-- The console's definition of a table, by its normal form (this project's rule).
abbrev pub printed_table : TableDeclaration → List ℕ
printed_table table = joined (codes "CREATE" ∷ codes "TABLE" ∷ table_words (normal_table table) None)

-- a `;` and a write for each
abbrev pub more_write_words : List Write → List Word
more_write_words ws = flat_map (λ w. codes ";" ∷ write_words w) ws

-- The console's writes, with `;` between (this project's rule).
abbrev pub printed_writes : List Write → List ℕ
printed_writes [] = []
printed_writes (w ∷ ws) = joined (write_words w ++ more_write_words ws)
