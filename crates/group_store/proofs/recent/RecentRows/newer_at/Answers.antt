use Rattle.std.proofs.Common.{None, sym, subst}
use Rattle.std.specs.FinMap as fm
use Rattle.cache_store.specs.recency.specs.Rings.{next_key}
use Rattle.slot_rows.specs.indexed_rows.specs.Places.{IsKeyAt}
use Rattle.slot_rows.specs.indexed_rows.specs.Rows.{is_same}
use Rattle.group_store.specs.Recent.{StandsAt}
use Rattle.group_store.proofs.ByUseLaws.{next_stands, none_next}
use Rattle.group_store.proofs.recent.RecentRows.newer_at.Goals as goal

pub returns-in-None : goal.returns-in-None
returns-in-None c = λ key found.
    let l = c.self.inside in
    let is = c.slot_at-used.ensures key (subst (λ h. IsKeyAt (fm.entries h.table) key c.args.place) (sym c.self.view_is) found) in
    subst (λ h. StandsAt h.table (next_key is_same key h.keys) None) c.self.view_is
    (none_next l.rows.slots l.recent.keys c.self.invariant.0 l.rows.table key c.slot_at-used.result is.1 is.2 (sym c.in-None.ensures))

pub returns-in-Some : goal.returns-in-Some
returns-in-Some c = λ key found.
    let l = c.self.inside in
    let is = c.slot_at-used.ensures key (subst (λ h. IsKeyAt (fm.entries h.table) key c.args.place) (sym c.self.view_is) found) in
    subst (λ h. StandsAt h.table (next_key is_same key h.keys) c.place_in.result) c.self.view_is
    (next_stands l.rows.slots l.recent.keys c.self.invariant.0 l.rows.table c.place_in.result key c.slot_at-used.result c.in-Some.slot.now is.1 is.2 (sym c.in-Some.ensures) c.place_in.ensures)
