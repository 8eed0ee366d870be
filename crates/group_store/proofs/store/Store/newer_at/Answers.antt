use Rattle.std.proofs.Common.{◌≤◌, sym, subst, arith}
use Rattle.std.specs.FinMap as fm
use Rattle.cache_store.specs.recency.specs.Rings.{next_key}
use Rattle.slot_rows.specs.indexed_rows.specs.Places.{IsKeyAt}
use Rattle.slot_rows.specs.indexed_rows.specs.Rows.{is_same}
use Rattle.cache_store.specs.instances.specs.Views.{kept_at}
use Rattle.group_store.specs.Recent.{StandsAt}
use Rattle.group_store.proofs.RecentLaws.{spot_within}
use Rattle.group_store.proofs.store.Store.newer_at.Goals as goal

pub returns-then-at-len-clause-next : goal.returns-then-at-len-clause-next
returns-then-at-len-clause-next c = λ key here.
    let l = c.self.inside in
    let lt = spot_within l.rows.roots.table c.args.at key (subst (λ h. IsKeyAt (fm.entries (kept_at h.tables 0)) key c.args.at) (sym c.self.view_is) here) in
    absurd (omega (arith, lt, c.len.ensures.value, c.if-at-len.true))

pub returns-clause-next : goal.returns-clause-next
returns-clause-next c = λ key here.
    subst (λ h. StandsAt (kept_at h.tables 0) (next_key is_same key h.keys) c.newer_at.result) c.self.view_is
    (c.newer_at.ensures key (subst (λ h. IsKeyAt (fm.entries (kept_at h.tables 0)) key c.args.at) (sym c.self.view_is) here))

pub returns-clause-none : goal.returns-clause-none
returns-clause-none c = λ past.
    let l = c.self.inside in
    let le : fm.len l.rows.roots.table ≤ c.args.at = subst (λ h. fm.len (kept_at h.tables 0) ≤ c.args.at) (sym c.self.view_is) past in
    absurd (omega (arith, le, c.len.ensures.value, c.if-at-len.false))
