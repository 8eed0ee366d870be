use Rattle.indexed_rows.proofs.MapLaws.{in_range, found_split}
use Rattle.indexed_rows.proofs.rows.Rows.search_parts.Goals as goal

pub returns-clause-bound : goal.returns-clause-bound
returns-clause-bound c = in_range c.self.inside.entries c.args.self.now c.self.invariant c.self.view_is _ c.search.ensures.bound

pub returns-clause-split : goal.returns-clause-split
returns-clause-split c = found_split c.self.inside.entries c.args.self.now c.self.invariant c.self.view_is _ _ c.search.ensures.bound c.search.ensures.position
