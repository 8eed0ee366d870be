use Rattle.table_state.proofs.EmptyTables.{no_value}
use Rattle.table_state.proofs.scan.TablesScan.row.Goals as goal

-- there is no such table
pub returns-in-None : goal.returns-in-None
returns-in-None c = no_value _ c.in-None.ensures c.args.place
