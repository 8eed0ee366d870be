use Rattle.table_state.proofs.ListLaws.{no_table}
use Rattle.table_state.proofs.tables.Tables.has_row.Goals as goal

pub returns-in-None : goal.returns-in-None
returns-in-None c = no_table c.args.self.now.tables c.args.table.0 c.args.key.now c.in-None.ensures
