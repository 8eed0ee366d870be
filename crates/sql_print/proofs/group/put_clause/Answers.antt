use Rattle.std.proofs.Common.{[], ◌∷◌, ◌++◌, codes}
use Rattle.sql_print.specs.Groups.{interval_words, mode_word, state_word}
use Rattle.sql_words.proofs.Puts.{one, one_ok, two, two_ok}
use Rattle.sql_print.proofs.group.put_clause.Goals as goal

pub returns : goal.returns
returns c =
    let r = c.args.refresh in
    two_ok _ _ _ _ (codes "AUTOREFRESH" ∷ codes "MODE" ∷ mode_word r.mode ∷ interval_words r.interval ++ codes "STATE" ∷ []) (state_word r.state ∷ [])
    (two _ _ _ (codes "AUTOREFRESH" ∷ codes "MODE" ∷ mode_word r.mode ∷ interval_words r.interval) (codes "STATE" ∷ [])
    (two _ _ _ (codes "AUTOREFRESH" ∷ codes "MODE" ∷ mode_word r.mode ∷ []) (interval_words r.interval)
    (two _ _ _ (codes "AUTOREFRESH" ∷ codes "MODE" ∷ []) (mode_word r.mode ∷ []) c.in_ok-put.ensures (one _ _ _ (mode_word r.mode) c.in_ok-put-2.ensures c.mode_word.ensures))
    c.in_ok-put_interval.ensures)
    c.in_ok-put-3.ensures)
    (one_ok _ _ _ _ (state_word r.state) c.put-4.ensures c.state_word.ensures)
