use Rattle.std.proofs.Common.{Some, ap, ◌∙◌}
use Rattle.pending_writes.proofs.MapLaws.{slice_get_read}
use Rattle.pending_writes.proofs.NoteLaws.{since_set}
use Rattle.pending_writes.proofs.pending.sweep.Goals as goal

pub returns-then-place-tables : goal.returns-then-place-tables
returns-then-place-tables c =
    since_set c.args.first.0 c.args.tables.now c.args.table.0 _ c.sweep.new.self
    (slice_get_read c.args.tables.now c.args.table.0 c.index-tables-place.result c.if-place-tables.true c.index-tables-place.is ∙ ap Some c.index-tables-place.is)
    c.sweep.ensures
