use Rattle.std.proofs.Common.{nat_eq, ap, sym, subst, ◌∙◌}
use Rattle.std.specs.List.{list_any}
use Rattle.std.specs.FinMap as fm
use Rattle.slot_rows.specs.indexed_rows.specs.Rows.{is_same}
use Rattle.cache_store.specs.recency.specs.Rings.{keys_without}
use Rattle.group_store.specs.Recent.{AreOnce, keys_of, orders_for}
use Rattle.group_store.proofs.OnceLaws.{once_less}
use Rattle.group_store.proofs.RecentLaws.{left_keys, left_recent, none_of, not_left, without_none}
use Rattle.group_store.proofs.recent.RecentRows.remove.Goals as goal

pub invariant_of-self : goal.invariant_of-self
invariant_of-self c =
    let l = c.self.inside in
    let slot = c.in-Some.slot in (
      λ s. ap (list_any (nat_eq s)) c.remove.ensures.keys ∙ left_recent l.rows.slots l.recent.keys c.self.invariant.0 slot s ∙ ap (λ m. fm.contains_key m s) (sym (c.remove-in-Some.ensures.slots.1 slot c.in-Some.ensures.1).0),
      c.remove-in-Some.ensures.orders ∙ c.self.invariant.1 ∙ ap (orders_for l.foreign) (sym c.remove-in-Some.ensures.places),
      subst AreOnce (sym c.remove.ensures.keys) (once_less l.recent.keys slot c.self.invariant.2),
    )

pub returns-in-None-clause-taken : goal.returns-in-None-clause-taken
returns-in-None-clause-taken c =
    let l = c.self.inside in
    let key = c.args.key.now in
    record {
      was = sym (none_of l.rows.table key c.in-None.ensures.0) ∙ ap (λ h. fm.get h.table key) c.self.view_is;
      now = ap (λ h. h.table) (sym c.self.view_is) ∙ without_none l.rows.table key c.in-None.ensures.0 ∙ ap (λ h. fm.remove h.table key) c.self.view_is;
      keys = ap (λ h. h.keys) (sym c.self.view_is) ∙ not_left l.rows.slots l.recent.keys c.self.invariant.0 key (λ other e. let z = c.in-None.ensures.1 other e in cc) ∙ ap (λ h. keys_without is_same key h.keys) c.self.view_is;
    }

pub returns-in-Some-clause-taken : goal.returns-in-Some-clause-taken
returns-in-Some-clause-taken c =
    let l = c.self.inside in
    let slot = c.in-Some.slot in
    let key = c.args.key.now in
    let is = c.in-Some.ensures in
    record {
      was = c.remove-in-Some.ensures.old ∙ ap (λ h. fm.get h.table key) c.self.view_is;
      now = c.remove-in-Some.ensures.table ∙ ap (λ h. fm.remove h.table key) c.self.view_is;
      keys = ap (keys_of c.remove-in-Some.new.self.slots) c.remove.ensures.keys ∙ ap (λ m. keys_of m (keys_without nat_eq slot l.recent.keys)) (c.remove-in-Some.ensures.slots.1 slot is.1).0
          ∙ left_keys l.rows.slots l.recent.keys c.self.invariant.0 key slot is.1 is.2 ∙ ap (λ h. keys_without is_same key h.keys) c.self.view_is;
    }
