use Rattle.std.proofs.Common.{◌<◌, nat_eq, ap, sym, subst, ◌∙◌}
use Rattle.std.specs.List.{list_any}
use Rattle.std.specs.FinMap as fm
use Rattle.slot_rows.specs.indexed_rows.specs.Places.{IsKeyAt}
use Rattle.slot_rows.specs.indexed_rows.specs.Rows.{is_same}
use Rattle.cache_store.specs.recency.specs.Rings.{keys_without}
use Rattle.group_store.specs.Recent.{AreOnce, keys_of, orders_for}
use Rattle.group_store.proofs.OnceLaws.{once_less}
use Rattle.group_store.proofs.RecentLaws.{key_there, left_keys, left_recent}
use Rattle.group_store.proofs.recent.RecentRows.remove_at.Goals as goal

pub invariant_of-self : goal.invariant_of-self
invariant_of-self c =
    let l = c.self.inside in
    let slot = c.slot_at-slot.result in
    let k = key_there l.rows.table c.args.place (subst (λ h. c.args.place < fm.len h.table) (sym c.self.view_is) c.requires) in
    let is = c.slot_at-slot.ensures k.0 k.1 in (
      λ s. ap (list_any (nat_eq s)) c.remove.ensures.keys ∙ left_recent l.rows.slots l.recent.keys c.self.invariant.0 slot s ∙ ap (λ m. fm.contains_key m s) (sym ((c.remove_at.ensures.slots k.0 k.1).1 slot is.1).0),
      c.remove_at.ensures.orders ∙ c.self.invariant.1 ∙ ap (orders_for l.foreign) (sym c.remove_at.ensures.places),
      subst AreOnce (sym c.remove.ensures.keys) (once_less l.recent.keys slot c.self.invariant.2),
    )

pub returns-clause-taken : goal.returns-clause-taken
returns-clause-taken c = λ key found.
    let l = c.self.inside in
    let slot = c.slot_at-slot.result in
    let here = subst (λ h. IsKeyAt (fm.entries h.table) key c.args.place) (sym c.self.view_is) found in
    let is = c.slot_at-slot.ensures key here in
    let t = c.remove_at.ensures.taken key here in
    record {
      was = t.was ∙ ap (λ h. fm.get h.table key) c.self.view_is;
      now = t.now ∙ ap (λ h. fm.remove h.table key) c.self.view_is;
      keys = ap (keys_of c.remove_at.new.self.slots) c.remove.ensures.keys ∙ ap (λ m. keys_of m (keys_without nat_eq slot l.recent.keys)) ((c.remove_at.ensures.slots key here).1 slot is.1).0
          ∙ left_keys l.rows.slots l.recent.keys c.self.invariant.0 key slot is.1 is.2 ∙ ap (λ h. keys_without is_same key h.keys) c.self.view_is;
    }
