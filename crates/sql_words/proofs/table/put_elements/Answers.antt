use Rattle.std.proofs.Common.{◌++◌, sym}
use Rattle.std.specs.Option.{option_or}
use Rattle.sql_words.specs.NormalTables.{foreign_columns, normal_column}
use Rattle.sql_words.specs.Words.{listed}
use Rattle.sql_words.specs.Tables.{column_words, key_words, foreign_words}
use Rattle.sql_words.proofs.Columns.{elements_by}
use Rattle.sql_words.proofs.Puts.{two, two_ok, as_ok}
use Rattle.sql_words.proofs.table.put_elements.Goals as goal

pub returns : goal.returns
returns c =
    let table = c.args.table.now in
    let key = c.args.key.now in
    let columns = listed (λ d. column_words (normal_column key (foreign_columns table.foreign_key) d)) table.columns in
    let keys = key_words (option_or key table.primary_key) in
    as_ok _ _ _ ((columns ++ keys) ++ foreign_words table.foreign_key) _
    (two_ok _ _ _ _ (columns ++ keys) (foreign_words table.foreign_key)
    (two _ _ _ columns keys (rw c.as_slice.ensures at c.in_ok-put_columns.ensures) c.in_ok-put_keys.ensures)
    c.put_foreign_key.ensures)
    (sym (elements_by key table))
