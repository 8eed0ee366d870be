use Rattle.std.proofs.Common.{slice_get}
use Rattle.cache_store.specs.table_state.specs.Children.{refers_to}
use Rattle.cache_store.specs.table_state.specs.Tables.{table_at}
use Rattle.group_store.specs.Shown.{shown_by}
use Rattle.group_store.proofs.HomeLaws.{no_place_at}
use Rattle.group_store.proofs.shown.ShownScan.child.Goals as goal

pub returns-in-None : goal.returns-in-None
returns-in-None c =
    let s = c.args.self.now in
    no_place_at (table_at (shown_by s.schema.now s.stores.now) c.args.table) (refers_to c.args.key.now (slice_get s.schema.now c.args.table.0)) c.args.from c.in-None.ensures
