use Rattle.group_store.proofs.store.Store.apply_at.Goals as goal

pub invariant_of-self : goal.invariant_of-self
invariant_of-self c = c.put.ensures.same.joined c.self.invariant

pub invariant_of-self-in-Update : goal.invariant_of-self-in-Update
invariant_of-self-in-Update c = c.replace.ensures.same.joined c.self.invariant

pub invariant_of-self-in-Delete-1 : goal.invariant_of-self-in-Delete-1
invariant_of-self-in-Delete-1 c = c.take.ensures.same.joined c.self.invariant
