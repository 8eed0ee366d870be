use Rattle.std.proofs.Common.{◌≡◌, sym, subst, arith}
use Rattle.std.specs.FinMap as fm
use Rattle.slot_rows.specs.indexed_rows.specs.Places.{IsKeyAt}
use Rattle.cache_store.specs.instances.specs.Views.{kept_at}
use Rattle.group_store.specs.Held.{held_at, is_instance_held}
use Rattle.group_store.specs.Joined.{layers_of, tables_of}
use Rattle.group_store.proofs.PassingLaws.{told}
use Rattle.group_store.proofs.RecentLaws.{spot_within}
use Rattle.group_store.proofs.store.Store.is_held.Goals as goal

pub returns-then-at-len-clause-held : goal.returns-then-at-len-clause-held
returns-then-at-len-clause-held g c = λ root here.
    let l = c.self.inside in
    let lt = spot_within l.rows.roots.table c.args.at root (subst (λ h. IsKeyAt (fm.entries (kept_at h.tables 0)) root c.args.at) (sym c.self.view_is) here) in
    absurd (omega (arith, lt, c.len.ensures.value, c.if-at-len.true))

pub returns-clause-held : goal.returns-clause-held
returns-clause-held g c = λ root here.
    let l = c.self.inside in
    let held = g.H.Holds.held c.args.holds.now in
    let tells = c.is_held.ensures root (subst (λ h. IsKeyAt (fm.entries (kept_at h.tables 0)) root c.args.at) (sym c.self.view_is) here) in
    subst (λ h. c.is_held.result ≡ is_instance_held held h root) c.self.view_is
    (told (held_at held l.table (layers_of l.rows)) (layers_of l.rows) (tables_of l.rows) root c.is_held.result tells)
