use Rattle.std.proofs.Common.{◌≡◌, Some, get_or, slice_get, ap, ◌∙◌, arith}
use Rattle.pending_writes.proofs.MapLaws.{slice_get_read}
use Rattle.pending_writes.proofs.NoteLaws.{enter_done, enter_stay, enter_told, entered_or_not}
use Rattle.pending_writes.proofs.pending.enter.Goals as goal

at : (c : goal.After-enter) → slice_get c.args.tables.now c.args.write.now.table.0 ≡ Some (get_or c.args.tables.now c.args.write.now.table.0 c.index-tables-place.result)
at c = slice_get_read c.args.tables.now c.args.write.now.table.0 c.index-tables-place.result (let within = c.if-place-tables.false in omega arith) c.index-tables-place.is ∙ ap Some c.index-tables-place.is

pub returns-clause-told : goal.returns-clause-told
returns-clause-told c = enter_told c.args.tables.now c.args.write.now.table.0 _ c.enter.new.self c.args.write.now.key (at c) (entered_or_not c.enter.result _ _ _ c.enter.ensures.ok c.enter.ensures.err)

pub returns-clause-stay : goal.returns-clause-stay
returns-clause-stay c = enter_stay c.args.tables.now c.args.write.now.table.0 _ c.enter.new.self c.args.write.now.key (at c) (entered_or_not c.enter.result _ _ _ c.enter.ensures.ok c.enter.ensures.err)

pub returns-clause-entered : goal.returns-clause-entered
returns-clause-entered c = enter_done c.enter.result c.args.tables.now _ c.enter.new.self c.args.write.now (at c) c.enter.ensures.ok
