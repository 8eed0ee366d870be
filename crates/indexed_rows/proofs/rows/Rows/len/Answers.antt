use Rattle.std.proofs.Common.{sym, ◌∙◌}
use Rattle.indexed_rows.proofs.MapLaws.{length_of}
use Rattle.indexed_rows.proofs.rows.Rows.len.Goals as goal

pub returns-clause-value : goal.returns-clause-value
returns-clause-value c = c.len.ensures.value ∙ sym (length_of c.self.inside.entries c.args.self.now c.self.invariant c.self.view_is)
