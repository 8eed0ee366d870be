use Rattle.indexed_rows.proofs.MapLaws.{in_range, found_key, found_gap, found_split}
use Rattle.indexed_rows.proofs.rows.Rows.search.Goals as goal

pub returns-clause-bound : goal.returns-clause-bound
returns-clause-bound c = in_range c.self.inside.entries c.args.self.now c.self.invariant c.self.view_is _ c.search.ensures.bound

pub returns-clause-found : goal.returns-clause-found
returns-clause-found c = found_key c.self.inside.entries c.args.self.now c.self.invariant c.self.view_is _ _ c.search.ensures.bound c.search.ensures.position

pub returns-clause-absent : goal.returns-clause-absent
returns-clause-absent c = found_gap c.self.inside.entries c.args.self.now c.self.invariant c.self.view_is _ _ c.search.ensures.bound c.search.ensures.position

pub returns-clause-split : goal.returns-clause-split
returns-clause-split c = found_split c.self.inside.entries c.args.self.now c.self.invariant c.self.view_is _ _ c.search.ensures.bound c.search.ensures.position
