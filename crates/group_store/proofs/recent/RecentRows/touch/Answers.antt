use Rattle.std.proofs.Common.{◌++◌, [], ◌∷◌, nat_eq, ap, sym, subst, ◌∙◌}
use Rattle.std.specs.List.{list_any}
use Rattle.std.specs.FinMap as fm
use Rattle.slot_rows.specs.indexed_rows.specs.Rows.{is_same}
use Rattle.cache_store.specs.recency.specs.Rings.{keys_without, touched}
use Rattle.group_store.specs.Recent.{AreOnce, keys_of}
use Rattle.group_store.proofs.OnceLaws.{newest_key, once_touched}
use Rattle.group_store.proofs.RecentLaws.{touched_keys, touched_recent, untouched}
use Rattle.group_store.proofs.recent.RecentRows.touch.Goals as goal

pub invariant_of-self : goal.invariant_of-self
invariant_of-self c = (
  λ s. ap (list_any (nat_eq s)) c.touch.ensures.keys ∙ touched_recent c.self.inside.rows.slots c.self.inside.recent.keys c.self.invariant.0 c.in-Some.slot s,
  c.self.invariant.1,
  subst AreOnce (sym c.touch.ensures.keys) (once_touched c.self.inside.recent.keys c.in-Some.slot c.self.invariant.2),
)

pub returns-in-None-clause-keys : goal.returns-in-None-clause-keys
returns-in-None-clause-keys c =
    let l = c.self.inside in
    ap (λ h. h.keys) (sym c.self.view_is) ∙ untouched l.rows.slots l.recent.keys c.self.invariant.0 c.args.key.now (λ other e. let z = c.in-None.ensures.1 other e in cc) ∙ ap (λ h. touched is_same c.args.key.now h.keys) c.self.view_is

pub returns-in-Some-clause-keys : goal.returns-in-Some-clause-keys
returns-in-Some-clause-keys c =
    let l = c.self.inside in
    ap (keys_of l.rows.slots) c.touch.ensures.keys ∙ touched_keys l.rows.slots l.recent.keys c.self.invariant.0 c.args.key.now c.in-Some.slot c.in-Some.ensures.1 c.in-Some.ensures.2 ∙ ap (λ h. touched is_same c.args.key.now h.keys) c.self.view_is

pub returns-in-None-clause-newest : goal.returns-in-None-clause-newest
returns-in-None-clause-newest c = λ has. let z = sym c.in-None.ensures.0 ∙ ap (λ h. fm.contains_key h.table c.args.key.now) c.self.view_is ∙ has in cc

pub returns-in-Some-clause-newest : goal.returns-in-Some-clause-newest
returns-in-Some-clause-newest c = λ has.
    let l = c.self.inside in
    ap (keys_of l.rows.slots) c.touch.ensures.keys ∙ newest_key l.rows.slots l.recent.keys c.self.invariant.0 c.self.invariant.2 c.args.key.now c.in-Some.slot c.in-Some.ensures.1 c.in-Some.ensures.2
    ∙ ap (λ h. keys_without is_same c.args.key.now h.keys ++ c.args.key.now ∷ []) c.self.view_is
