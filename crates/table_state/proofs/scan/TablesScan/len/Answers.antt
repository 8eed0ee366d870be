use Rattle.table_state.proofs.EmptyTables.{no_len}
use Rattle.table_state.proofs.scan.TablesScan.len.Goals as goal

-- there is no such table
pub returns-in-None : goal.returns-in-None
returns-in-None c = no_len _ c.in-None.ensures
