use Rattle.std.proofs.Common.{sym, ap, ◌∙◌, ◌==◌}
use Rattle.indexed_rows.proofs.MapLaws.{length_of}
use Rattle.indexed_rows.proofs.rows.Rows.is_empty.Goals as goal

pub returns : goal.returns
returns c = c.is_empty.ensures ∙ ap (λ n. n == 0) (sym (length_of c.self.inside.entries c.args.self.now c.self.invariant c.self.view_is))
