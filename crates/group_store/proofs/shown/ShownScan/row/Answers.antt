use Rattle.cache_store.specs.table_state.specs.Tables.{table_at}
use Rattle.group_store.specs.Shown.{shown_by}
use Rattle.group_store.proofs.HomeLaws.{no_rows_at}
use Rattle.group_store.proofs.shown.ShownScan.row.Goals as goal

pub returns-in-None : goal.returns-in-None
returns-in-None c = no_rows_at (table_at (shown_by c.args.self.now.schema.now c.args.self.now.stores.now) c.args.table) c.args.place c.in-None.ensures
