use Rattle.std.proofs.Common.{◌<◌, ap, sym, subst, ◌∙◌}
use Rattle.std.specs.FinMap as fm
use Rattle.slot_rows.specs.indexed_rows.specs.Places.{IsKeyAt}
use Rattle.slot_rows.specs.indexed_rows.specs.Rows.{is_same, key_of}
use Rattle.cache_store.specs.recency.specs.Rings.{keys_without}
use Rattle.group_store.proofs.RecentLaws.{not_left, spot_within, without_none}
use Rattle.group_store.proofs.recent.RecentRows.remove_for.Goals as goal

pub remove_at-requires : goal.remove_at-requires
remove_at-requires c =
    let l = c.self.inside in
    subst (λ h. c.in-Some.place < fm.len h.table) c.self.view_is (spot_within l.rows.table c.in-Some.place (key_of l.rows.places c.args.row.now) c.in-Some.ensures)

pub returns-in-None-clause-taken : goal.returns-in-None-clause-taken
returns-in-None-clause-taken c =
    let l = c.self.inside in
    let key = key_of l.rows.places c.args.row.now in
    record {
      now = ap (λ h. h.table) (sym c.self.view_is) ∙ without_none l.rows.table key c.in-None.ensures.0 ∙ ap (λ h. fm.remove h.table (key_of h.places c.args.row.now)) c.self.view_is;
      keys = ap (λ h. h.keys) (sym c.self.view_is) ∙ not_left l.rows.slots l.recent.keys c.self.invariant.0 key (λ other e. let z = c.in-None.ensures.1 other e in cc) ∙ ap (λ h. keys_without is_same (key_of h.places c.args.row.now) h.keys) c.self.view_is;
    }

pub returns-in-Some-clause-taken : goal.returns-in-Some-clause-taken
returns-in-Some-clause-taken c =
    let key = key_of c.args.self.now.places c.args.row.now in
    let t = c.remove_at.ensures.taken key (subst (λ h. IsKeyAt (fm.entries h.table) (key_of h.places c.args.row.now) c.in-Some.place) c.self.view_is c.in-Some.ensures) in
    record { now = t.now; keys = t.keys }
