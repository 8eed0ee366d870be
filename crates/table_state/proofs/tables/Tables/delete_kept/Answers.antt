use Rattle.std.proofs.Common.{Some, sym, ap, subst, ◌+◌, ◌<◌, ◌^◌, ◌∙◌}
use Rattle.std.specs.FinMap.{len}
use Rattle.table_state.specs.Tables.{table_at}
use Rattle.indexed_rows.specs.Rows.{put_in}
use Rattle.table_state.specs.Changes.{taken_back}
use Rattle.table_state.specs.declared.change.Undo.TheVariants.{Deleted}
use Rattle.table_state.proofs.ChangeLaws.{deleted, deleted_room, state_back}
use Rattle.table_state.proofs.tables.Tables.delete_kept.Goals as goal

pub returns-clause-ok : goal.returns-clause-ok
returns-clause-ok c = (deleted c.args.self.now c.args.table c.args.old.now c.in_ok-key.key c.in_ok-key.ensures.judged c.in_ok-key.ensures.key).0 ∙ ap Some (sym c.take_out.ensures)

pub returns-clause-undo : goal.returns-clause-undo
returns-clause-undo c =
    let laws = deleted c.args.self.now c.args.table c.args.old.now c.in_ok-key.key c.in_ok-key.ensures.judged c.in_ok-key.ensures.key in
    ap (λ left. taken_back (Deleted c.args.table left) c.take_out.new.self) c.in_ok-left.ensures
    ∙ ap (λ key. taken_back (Deleted c.args.table (key, c.in_ok-old.old)) c.take_out.new.self) c.in_ok-kept.ensures
    ∙ ap (λ row. taken_back (Deleted c.args.table (c.in_ok-key.key, row)) c.take_out.new.self) c.in_ok-old.ensures
    ∙ ap (taken_back (Deleted c.args.table (c.in_ok-key.key, c.args.old.now))) c.take_out.ensures
    ∙ state_back c.args.self.now c.args.table _ (λ m. put_in m c.in_ok-key.key c.args.old.now) laws.1

pub returns-clause-room : goal.returns-clause-room
returns-clause-room c =
    subst (λ s. len (table_at s c.args.table) + 1 < 2 ^ 63) (sym c.take_out.ensures)
    (deleted_room c.args.self.now c.args.table c.args.old.now c.in_ok-key.key c.in_ok-key.ensures.judged c.in_ok-key.ensures.key c.count-held.ensures.fits)
