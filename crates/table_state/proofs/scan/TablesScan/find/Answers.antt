use Rattle.table_state.proofs.EmptyTables.{no_find}
use Rattle.table_state.proofs.scan.TablesScan.find.Goals as goal

-- there is no such table
pub returns-in-None : goal.returns-in-None
returns-in-None c = no_find _ c.in-None.ensures c.args.key.now
