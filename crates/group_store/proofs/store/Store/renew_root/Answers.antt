use Rattle.std.proofs.Common.{◌≡◌, ◌<◌, ◌≤◌, ◌+◌, true, [], ◌∷◌, sym, subst, arith}
use Rattle.std.specs.FinMap as fm
use Rattle.slot_rows.specs.indexed_rows.specs.Rows.{key_of}
use Rattle.cache_store.specs.instances.specs.Views.{kept_at}
use Rattle.group_store.specs.Joined.{IsBared, least_spare}
use Rattle.group_store.specs.Stores.{SameButSpare, renewed_store}
use Rattle.group_store.proofs.RenewLaws.{renewed_root, store_of}
use Rattle.group_store.proofs.store.Store.renew_root.Goals as goal

pub invariant_of-self : goal.invariant_of-self
invariant_of-self c = c.replace.ensures.same.joined c.bare.ensures.same.joined

pub replace-requires-clause-room : goal.replace-requires-clause-room
replace-requires-clause-room c =
    let room : 0 < least_spare c.self.inside.rows = subst (λ h. 0 < h.spare) (sym c.self.view_is) c.requires.room in
    let more = c.bare.ensures.same.spare in omega (arith, room, more)

pub returns-clause-renewed : goal.returns-clause-renewed
returns-clause-renewed c =
    let l = c.self.inside in
    let root = c.args.root.now in
    let row = c.args.row in
    let has = subst (λ h. fm.contains_key (kept_at h.tables 0) root ≡ true) (sym c.self.view_is) c.requires.there in
    let is = subst (λ h. key_of h.key row ≡ root) (sym c.self.view_is) c.requires.under in
    subst (λ h. SameButSpare (renewed_store root ((row ∷ []) ∷ []) h) (store_of l.table c.replace.new.self)) c.self.view_is
    (renewed_root l.table l.rows c.bare.new.self c.replace.new.self root row c.bare.ensures.same
    (subst (λ k. IsBared l.rows c.bare.new.self 0 k) c.values.ensures c.bare.ensures.bared)
    c.replace.ensures.tables c.replace.ensures.same c.replace.ensures.keys has is)

pub returns-clause-spare : goal.returns-clause-spare
returns-clause-spare c =
    let one = c.bare.ensures.same.spare in
    let two = c.replace.ensures.spare in
    subst (λ h. h.spare ≤ least_spare c.replace.new.self + 1) c.self.view_is (omega (arith, one, two))
