-- The row stands at the rank of the key, where it is there.
use Rattle.std.proofs.Common.{sym, arith}
use Rattle.own_rows.proofs.TableLaws.{none_at, none_past, row_at}
use Rattle.own_rows.proofs.search.row_of_same_key.Goals as goal

pub returns-then-place-len : goal.returns-then-place-len
returns-then-place-len c = sym (none_past _ _ _ c.rank_of_row-place.ensures.rank (omega (arith, c.len.ensures.value)))

pub returns-in-Equal : goal.returns-in-Equal
returns-in-Equal c = sym (row_at _ _ _ _ _ c.entry_at.ensures c.order_to_row.ensures c.in-Equal.is)

pub returns-in_default : goal.returns-in_default
returns-in_default c = sym (none_at _ _ _ _ _ c.entry_at.ensures c.order_to_row.ensures c.in_default.not-Equal c.rank_of_row-place.ensures.rank)
