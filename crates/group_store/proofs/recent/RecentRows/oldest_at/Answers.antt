use Rattle.std.proofs.Common.{None, slice_get, sym, subst}
use Rattle.group_store.specs.Recent.{StandsAt}
use Rattle.group_store.proofs.ByUseLaws.{first_stands, none_first}
use Rattle.group_store.proofs.recent.RecentRows.oldest_at.Goals as goal

pub returns-in-None : goal.returns-in-None
returns-in-None c =
    let l = c.self.inside in
    subst (λ h. StandsAt h.table (slice_get h.keys 0) None) c.self.view_is (none_first l.rows.slots l.recent.keys c.self.invariant.0 l.rows.table (sym c.in-None.ensures))

pub returns-in-Some : goal.returns-in-Some
returns-in-Some c =
    let l = c.self.inside in
    subst (λ h. StandsAt h.table (slice_get h.keys 0) c.place_in.result) c.self.view_is
    (first_stands l.rows.slots l.recent.keys c.self.invariant.0 l.rows.table c.place_in.result c.in-Some.slot.now (sym c.in-Some.ensures) c.place_in.ensures)
