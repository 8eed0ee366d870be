use Rattle.std.proofs.Common.{Some, sym, ap, ◌∙◌}
use Rattle.std.specs.FinMap.{remove}
use Rattle.table_state.specs.Tables.{table_at}
use Rattle.indexed_rows.specs.Rows.{put_in}
use Rattle.table_state.specs.Changes.{taken_back, with_table}
use Rattle.table_state.specs.declared.change.Undo.TheVariants.{Inserted}
use Rattle.table_state.proofs.ChangeLaws.{inserted, state_back}
use Rattle.table_state.proofs.tables.Tables.insert.Goals as goal

pub returns-clause-ok : goal.returns-clause-ok
returns-clause-ok c =
    let laws = inserted c.args.self.now c.args.table c.args.row.now c.in_ok-key.key c.in_ok-key.ensures.judged c.in_ok-key.ensures.key in
    laws.0 ∙ ap Some (ap (λ row. with_table c.args.self.now c.args.table (put_in (table_at c.args.self.now c.args.table) c.in_ok-key.key row)) (sym c.in_ok-row.ensures) ∙ sym c.in_ok-put_new.ensures.ok)

pub returns-clause-undo : goal.returns-clause-undo
returns-clause-undo c =
    let laws = inserted c.args.self.now c.args.table c.args.row.now c.in_ok-key.key c.in_ok-key.ensures.judged c.in_ok-key.ensures.key in
    ap (taken_back (Inserted c.args.table c.in_ok-key.key)) (c.in_ok-put_new.ensures.ok ∙ ap (λ row. with_table c.args.self.now c.args.table (put_in (table_at c.args.self.now c.args.table) c.in_ok-key.key row)) c.in_ok-row.ensures)
    ∙ state_back c.args.self.now c.args.table _ (λ m. remove m c.in_ok-key.key) laws.1
