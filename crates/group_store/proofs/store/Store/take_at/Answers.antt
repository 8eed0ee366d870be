use Rattle.std.proofs.Common.{◌≤◌, refl, sym, subst, arith}
use Rattle.std.specs.FinMap as fm
use Rattle.slot_rows.specs.indexed_rows.specs.Places.{IsKeyAt}
use Rattle.cache_store.specs.instances.specs.Views.{kept_at}
use Rattle.group_store.specs.ByUse.{TakesInstance}
use Rattle.group_store.proofs.RecentLaws.{spot_within}
use Rattle.group_store.proofs.RenewLaws.{store_of}
use Rattle.group_store.proofs.store.Store.take_at.Goals as goal

pub invariant_of-self : goal.invariant_of-self
invariant_of-self c = c.cut_at.ensures.same.joined c.self.invariant

pub returns-then-at-len-clause-taken : goal.returns-then-at-len-clause-taken
returns-then-at-len-clause-taken c = λ root here.
    let l = c.self.inside in
    let lt = spot_within l.rows.roots.table c.args.at root (subst (λ h. IsKeyAt (fm.entries (kept_at h.tables 0)) root c.args.at) (sym c.self.view_is) here) in
    absurd (omega (arith, lt, c.len.ensures.value, c.if-at-len.true))

pub returns-clause-taken : goal.returns-clause-taken
returns-clause-taken c = λ root here.
    let l = c.self.inside in
    let new = c.cut_at.new.self in
    let cut = c.cut_at.ensures.cut root (subst (λ h. IsKeyAt (fm.entries (kept_at h.tables 0)) root c.args.at) (sym c.self.view_is) here) in
    let same = c.cut_at.ensures.same in
    subst (λ h. TakesInstance h (store_of l.table new) root c.cut_at.result) c.self.view_is
    (record {
      was = cut.was;
      gone = record { table = refl; key = same.places; foreign = same.foreign; layers = same.layers; tables = cut.tables; keys = cut.keys };
    })

pub returns-clause-none : goal.returns-clause-none
returns-clause-none c = λ past.
    let l = c.self.inside in
    let le : fm.len l.rows.roots.table ≤ c.args.at = subst (λ h. fm.len (kept_at h.tables 0) ≤ c.args.at) (sym c.self.view_is) past in
    absurd (omega (arith, le, c.len.ensures.value, c.if-at-len.false))

pub returns-clause-same : goal.returns-clause-same
returns-clause-same c = λ past.
    let l = c.self.inside in
    let le : fm.len l.rows.roots.table ≤ c.args.at = subst (λ h. fm.len (kept_at h.tables 0) ≤ c.args.at) (sym c.self.view_is) past in
    absurd (omega (arith, le, c.len.ensures.value, c.if-at-len.false))
