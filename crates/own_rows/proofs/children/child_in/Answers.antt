-- From the key at the place on, among own rows and those of the table.
use Rattle.std.proofs.Common.{sym, subst}
use Rattle.table_state.specs.Tables.{table_at}
use Rattle.table_state.specs.Keyed.{IsUnderKeys}
use Rattle.own_rows.proofs.StandLaws.{no_row_past, stands_within}
use Rattle.own_rows.proofs.ChildSteps.{none_from, starts_under}
use Rattle.own_rows.proofs.children.child_in.Goals as goal

pub returns-then-from-len_in : goal.returns-then-from-len_in
returns-then-from-len_in g c = none_from _ _ _ _ c.len_in.ensures c.if-from-len_in.true

pub child_of_both-requires-clause-starts : goal.child_of_both-requires-clause-starts
child_of_both-requires-clause-starts g c = starts_under c.args.own.now _ _ _ _ _ _ _ (subst (λ p. IsUnderKeys p (table_at (g.S.Scan.state c.args.under.now) c.args.table)) (sym c.as_slice-places.ensures) c.requires.keyed) c.in-Some.ensures c.in-Under.ensures c.rows.ensures c.rank_of_row-live.ensures.rank

pub entry_at-requires : goal.entry_at-requires
entry_at-requires g c = stands_within _ _ _ _ _ c.in-Fresh.ensures

pub returns-in-None : goal.returns-in-None
returns-in-None g c = absurd (no_row_past _ _ c.in-None.ensures (stands_within _ _ _ _ _ c.in-Under.ensures))
