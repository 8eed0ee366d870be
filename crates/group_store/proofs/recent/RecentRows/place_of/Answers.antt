use Rattle.std.proofs.Common.{subst}
use Rattle.slot_rows.specs.indexed_rows.specs.Rows.{key_of}
use Rattle.group_store.specs.Recent.{IsRowPlace}
use Rattle.group_store.proofs.RecentLaws.{place_is}
use Rattle.group_store.proofs.recent.RecentRows.place_of.Goals as goal

pub returns : goal.returns
returns c =
    let l = c.self.inside in
    subst (λ h. IsRowPlace h.table (key_of h.places c.args.row.now) c.place_of.result) c.self.view_is (place_is l.rows (key_of l.rows.places c.args.row.now) c.place_of.result c.place_of.ensures)
