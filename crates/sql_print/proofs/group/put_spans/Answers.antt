use Rattle.std.proofs.Common.{[], ◌∷◌, ◌++◌, codes}
use Rattle.sql_print.specs.Groups.{span_words}
use Rattle.sql_words.proofs.Puts.{two, two_ok}
use Rattle.sql_print.proofs.group.put_spans.Goals as goal

pub returns : goal.returns
returns c =
    let lifetime = codes "LIFETIME" ∷ span_words c.args.lifetime in
    two_ok _ _ _ _ (lifetime ++ codes "CYCLE" ∷ []) (span_words c.args.cycle)
    (two _ _ _ lifetime (codes "CYCLE" ∷ []) (two _ _ _ (codes "LIFETIME" ∷ []) (span_words c.args.lifetime) c.in_ok-put.ensures c.in_ok-put_span.ensures) c.in_ok-put-2.ensures)
    c.put_span-2.ensures
