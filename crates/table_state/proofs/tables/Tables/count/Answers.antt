use Rattle.std.proofs.Common.{arith, sym}
use Rattle.table_state.proofs.ListLaws.{no_rows}
use Rattle.table_state.proofs.tables.Tables.count.Goals as goal

pub returns-in-None-clause-value : goal.returns-in-None-clause-value
returns-in-None-clause-value c = sym (no_rows c.args.self.now.tables c.args.table.0 c.in-None.ensures)

pub returns-in-None-clause-fits : goal.returns-in-None-clause-fits
returns-in-None-clause-fits c = omega (arith, no_rows c.args.self.now.tables c.args.table.0 c.in-None.ensures)
