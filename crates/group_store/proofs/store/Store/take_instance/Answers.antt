use Rattle.group_store.proofs.store.Store.take_instance.Goals as goal

pub invariant_of-self : goal.invariant_of-self
invariant_of-self c = c.cut.ensures.same.joined c.self.invariant
