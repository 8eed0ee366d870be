-- The columns so far stand behind what was there.
use Rattle.std.proofs.Common.{◌≡◌, ◌++◌, take}
use Rattle.sql_words.specs.NormalTables.{normal_column, foreign_columns}
use Rattle.sql_words.specs.Words.{spaced}
use Rattle.sql_words.specs.Words.{more}
use Rattle.sql_words.specs.Tables.{column_words}
use Rattle.sql_words.proofs.table.put_more_columns.Given as goal

abbrev pub invariant-loop-column : goal.invariant-loop-column
invariant-loop-column l = l.out.items ≡ l.fn.out.items ++ spaced (more (λ c. column_words (normal_column l.key (foreign_columns l.foreign) c)) (take l.column-index l.columns))
