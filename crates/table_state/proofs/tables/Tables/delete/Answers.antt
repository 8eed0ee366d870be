use Rattle.std.proofs.Common.{Some, sym, ap, ◌∙◌}
use Rattle.table_state.proofs.ChangeLaws.{deleted}
use Rattle.table_state.proofs.tables.Tables.delete.Goals as goal

pub returns-clause-ok : goal.returns-clause-ok
returns-clause-ok c = (deleted c.args.self.now c.args.table c.args.old.now c.in_ok-key.key c.in_ok-key.ensures.judged c.in_ok-key.ensures.key).0 ∙ ap Some (sym c.take_out.ensures)
