use Rattle.pending_writes.proofs.MapLaws.{in_range, found_key, found_gap}
use Rattle.pending_writes.proofs.writers.Writers.search.Goals as goal

pub returns-clause-bound : goal.returns-clause-bound
returns-clause-bound c = in_range c.self.inside.entries c.args.self.now c.self.invariant c.self.view_is _ c.search.ensures.bound

pub returns-clause-found : goal.returns-clause-found
returns-clause-found c = found_key c.self.inside.entries c.args.self.now c.self.invariant c.self.view_is _ _ c.search.ensures.bound c.search.ensures.position

pub returns-clause-absent : goal.returns-clause-absent
returns-clause-absent c = found_gap c.self.inside.entries c.args.self.now c.self.invariant c.self.view_is _ _ c.search.ensures.bound c.search.ensures.position
