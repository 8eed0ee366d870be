use Rattle.std.proofs.Common.{[], ◌∷◌, ◌++◌, codes}
use Rattle.sql_words.specs.Words.{name_words, enclosed, listed, identifier_words}
use Rattle.sql_words.specs.Tables.{cascade_words}
use Rattle.sql_words.proofs.Puts.{two, two_ok}
use Rattle.sql_words.proofs.table.put_reference.Goals as goal

pub returns : goal.returns
returns c =
    let key = c.args.key.now in
    let words = codes "REFERENCES" ∷ name_words key.parent in
    let columns = enclosed (listed identifier_words key.parent_columns) in
    two_ok _ _ _ _ (words ++ columns) (cascade_words key.cascade)
    (two _ _ _ words columns (two _ _ _ (codes "REFERENCES" ∷ []) (name_words key.parent) c.in_ok-put.ensures c.in_ok-put_name.ensures) (rw c.as_slice.ensures at c.in_ok-put_names.ensures))
    c.put_cascade.ensures
