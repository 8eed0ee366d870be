use Rattle.group_store.proofs.store.Store.clear.Goals as goal

pub invariant_of-self : goal.invariant_of-self
invariant_of-self c = c.clear.ensures.same.joined c.self.invariant
