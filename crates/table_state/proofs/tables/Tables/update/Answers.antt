use Rattle.std.proofs.Common.{Some, sym, ap, ◌∙◌}
use Rattle.table_state.specs.Tables.{table_at}
use Rattle.indexed_rows.specs.Rows.{put_over}
use Rattle.table_state.specs.Changes.{taken_back, with_table}
use Rattle.table_state.specs.declared.change.Undo.TheVariants.{Changed}
use Rattle.table_state.proofs.ChangeLaws.{updated, state_back}
use Rattle.table_state.proofs.tables.Tables.update.Goals as goal

pub returns-clause-ok : goal.returns-clause-ok
returns-clause-ok c =
    let laws = updated c.args.self.now c.args.table c.args.old.now c.args.new.now c.in_ok-key.key c.in_ok-key.ensures.judged c.in_ok-key.ensures.key in
    laws.0 ∙ ap Some (ap (λ row. with_table c.args.self.now c.args.table (put_over (table_at c.args.self.now c.args.table) c.in_ok-key.key row)) (sym c.in_ok-new.ensures) ∙ sym c.put_over.ensures)

pub returns-clause-undo : goal.returns-clause-undo
returns-clause-undo c =
    let laws = updated c.args.self.now c.args.table c.args.old.now c.args.new.now c.in_ok-key.key c.in_ok-key.ensures.judged c.in_ok-key.ensures.key in
    ap (λ key. taken_back (Changed c.args.table key c.in_ok-old.old) c.put_over.new.self) c.in_ok-kept.ensures
    ∙ ap (λ row. taken_back (Changed c.args.table c.in_ok-key.key row) c.put_over.new.self) c.in_ok-old.ensures
    ∙ ap (taken_back (Changed c.args.table c.in_ok-key.key c.args.old.now)) (c.put_over.ensures ∙ ap (λ row. with_table c.args.self.now c.args.table (put_over (table_at c.args.self.now c.args.table) c.in_ok-key.key row)) c.in_ok-new.ensures)
    ∙ state_back c.args.self.now c.args.table _ (λ m. put_over m c.in_ok-key.key c.args.old.now) laws.1
