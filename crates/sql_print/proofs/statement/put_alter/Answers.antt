use Rattle.std.proofs.Common.{[], ◌∷◌, codes}
use Rattle.sql_print.specs.Groups.{state_word}
use Rattle.sql_words.specs.Words.{name_words}
use Rattle.sql_words.proofs.Puts.{one_ok, two_ok}
use Rattle.sql_print.proofs.statement.put_alter.Goals as goal

pub returns : goal.returns
returns c =
    let alter = c.args.alter.now in
    two_ok _ _ _ _ (name_words alter.group) (codes "SET" ∷ codes "AUTOREFRESH" ∷ codes "STATE" ∷ state_word alter.state ∷ []) c.in_ok-put_name.ensures
    (two_ok _ _ _ _ (codes "SET" ∷ codes "AUTOREFRESH" ∷ codes "STATE" ∷ []) (state_word alter.state ∷ []) c.in_ok-put.ensures
    (one_ok _ _ _ _ (state_word alter.state) c.put-2.ensures c.state_word.ensures))
