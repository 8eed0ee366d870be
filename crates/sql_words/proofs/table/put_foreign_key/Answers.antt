use Rattle.std.proofs.Common.{[], ◌∷◌, ◌++◌, codes}
use Rattle.sql_words.specs.Words.{enclosed, listed, identifier_words}
use Rattle.sql_words.specs.Tables.{reference_words}
use Rattle.sql_words.proofs.Puts.{two, two_ok}
use Rattle.sql_words.proofs.table.put_foreign_key.Goals as goal

pub returns-in_ok-put_names-in-Some : goal.returns-in_ok-put_names-in-Some
returns-in_ok-put_names-in-Some c =
    let words = codes "," ∷ codes "FOREIGN" ∷ codes "KEY" ∷ [] in
    let columns = enclosed (listed identifier_words c.in-Some.key.columns) in
    rw c.in-Some.is
    (two_ok _ _ _ _ (words ++ columns) (reference_words c.in-Some.key)
    (two _ _ _ words columns c.in_ok-put-in-Some.ensures (rw c.as_slice.ensures at c.in_ok-put_names-in-Some.ensures))
    c.put_reference.ensures)
