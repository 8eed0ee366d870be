use Rattle.std.proofs.Common.{◌≤◌, subst, arith}
use Rattle.group_store.specs.Joined.{least_spare}
use Rattle.group_store.proofs.JoinedLaws.{keeps_children, least_root}
use Rattle.group_store.proofs.store.Store.touch.Goals as goal

pub invariant_of-self : goal.invariant_of-self
invariant_of-self c = (keeps_children c.self.inside.rows c.touch.new.self c.touch.ensures.places c.touch.ensures.foreign).joined c.self.invariant

pub returns-clause-spare : goal.returns-clause-spare
returns-clause-spare c =
    let t = c.self.inside.rows in
    let more = least_root t.roots.spare c.touch.new.self.spare 0 t.children.items (let s = c.touch.ensures.spare in omega (arith, s)) in
    subst (λ h. h.spare ≤ least_spare (record { roots = c.touch.new.self; children = t.children })) c.self.view_is (omega (arith, more))
