use Rattle.std.proofs.Common.{◌<◌, ◌++◌, [], ◌∷◌, nat_eq, min, cond, ap, sym, subst, ◌∙◌, arith}
use Rattle.std.specs.List.{list_any}
use Rattle.std.specs.FinMap as fm
use Rattle.slot_rows.specs.indexed_rows.specs.Rows.{key_of}
use Rattle.group_store.specs.Recent.{AreOnce, entered_last, keys_of, orders_for}
use Rattle.group_store.proofs.OnceLaws.{once_more}
use Rattle.group_store.proofs.RecentLaws.{not_recent, more_keys, more_recent, sure}
use Rattle.group_store.proofs.recent.RecentRows.insert_reserved.Goals as goal

pub invariant_of-self-in-Some : goal.invariant_of-self-in-Some
invariant_of-self-in-Some c =
    let l = c.self.inside in
    let p = c.in-Some.ensures.slot in
    let room : 0 < min l.rows.spare l.recent.spare = subst (λ h. 0 < h.spare) (sym c.self.view_is) c.requires in
    let ok = sure c.push.result c.push.ensures.ok (c.push.ensures.succeeds (omega (arith, room))) in (
      λ s. ap (list_any (nat_eq s)) ok ∙ more_recent l.rows.slots l.recent.keys c.self.invariant.0 c.in-Some.slot (key_of l.rows.places c.args.row) p.1 s ∙ ap (λ m. fm.contains_key m s) (sym p.2),
      c.in-Some.ensures.orders ∙ c.self.invariant.1 ∙ ap (orders_for l.foreign) (sym c.in-Some.ensures.places),
      subst AreOnce (sym ok) (once_more l.recent.keys c.in-Some.slot c.self.invariant.2 (not_recent l.rows.slots l.recent.keys c.self.invariant.0 c.in-Some.slot (key_of l.rows.places c.args.row) p.1)),
    )

pub returns-in-Some-clause-keys : goal.returns-in-Some-clause-keys
returns-in-Some-clause-keys c =
    let l = c.self.inside in
    let p = c.in-Some.ensures.slot in
    let slot = c.in-Some.slot in
    let key = key_of l.rows.places c.args.row in
    let keys = keys_of l.rows.slots l.recent.keys in
    let room : 0 < min l.rows.spare l.recent.spare = subst (λ h. 0 < h.spare) (sym c.self.view_is) c.requires in
    let ok = sure c.push.result c.push.ensures.ok (c.push.ensures.succeeds (omega (arith, room))) in
    ap (keys_of c.insert_reserved.new.self.slots) ok ∙ ap (λ m. keys_of m (l.recent.keys ++ slot ∷ [])) p.2
    ∙ more_keys l.rows.slots l.recent.keys c.self.invariant.0 slot key p.1 ∙ ap (λ b. cond b keys (keys ++ key ∷ [])) (sym p.0)
    ∙ ap (λ h. entered_last h.table (key_of h.places c.args.row) h.keys) c.self.view_is
