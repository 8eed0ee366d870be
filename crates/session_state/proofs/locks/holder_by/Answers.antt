-- The rows of the operation, one after another.
use Rattle.std.proofs.Common.{map}
use Rattle.session_state.specs.Kept.{seen_of}
use Rattle.session_state.proofs.LockLaws.{of_delete, of_insert, of_update}
use Rattle.session_state.proofs.locks.holder_by.Goals as goal

pub returns-in-Insert : goal.returns-in-Insert
returns-in-Insert c = of_insert c.args.but c.args.schema.now (map seen_of c.args.sessions.now) c.args.op.now _ _ c.table-table.ensures c.get-def.ensures _ _ _ _ _ c.in-Insert.is (c.met.ensures c.args.schema.now c.requires) (c.parent_writer.ensures c.args.schema.now c.requires) c.either.ensures

pub returns-in-Delete : goal.returns-in-Delete
returns-in-Delete c = of_delete c.args.but c.args.schema.now (map seen_of c.args.sessions.now) c.args.op.now _ _ c.table-table.ensures c.get-def.ensures _ _ _ _ _ c.in-Delete.is (c.met-in-Delete.ensures c.args.schema.now c.requires) (c.parent_writer-in-Delete.ensures c.args.schema.now c.requires) c.either-in-Delete.ensures

pub returns-in-Update : goal.returns-in-Update
returns-in-Update c = of_update c.args.but c.args.schema.now (map seen_of c.args.sessions.now) c.args.op.now _ _ c.table-table.ensures c.get-def.ensures _ _ _ _ _ _ _ _ _ _ c.in-Update.is (c.met-in-Update.ensures c.args.schema.now c.requires) (c.met-in-Update-2.ensures c.args.schema.now c.requires) c.either-written.ensures (c.parent_writer-in-Update.ensures c.args.schema.now c.requires) (c.parent_writer-in-Update-2.ensures c.args.schema.now c.requires) c.either-parents.ensures c.either-in-Update.ensures
