-- The row under the key that stands at the place.
use Rattle.own_rows.proofs.StandLaws.{fresh_row, no_row_past, none_behind, own_or_under, stands_within}
use Rattle.own_rows.proofs.table_rows.row_in.Goals as goal

pub returns-then-place-len_in : goal.returns-then-place-len_in
returns-then-place-len_in g c = none_behind _ _ _ c.len_in.ensures c.if-place-len_in.true

pub entry_at-requires : goal.entry_at-requires
entry_at-requires g c = stands_within _ _ _ _ _ c.in-Fresh.ensures

pub returns-in-None : goal.returns-in-None
returns-in-None g c = absurd (no_row_past _ _ c.in-None.ensures (stands_within _ _ _ _ _ c.in-Under.ensures))

pub returns-in-Some : goal.returns-in-Some
returns-in-Some g c = own_or_under c.args.own.now _ c.requires.agrees _ _ _ _ _ c.requires.keyed c.in-Some.ensures c.in-Under.ensures c.newest.ensures

pub returns-in-Fresh : goal.returns-in-Fresh
returns-in-Fresh g c = fresh_row c.args.own.now _ c.requires.agrees _ _ _ _ _ c.entry_at.ensures c.in-Fresh.ensures c.rows.ensures c.get.ensures
