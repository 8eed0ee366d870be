use Rattle.std.proofs.lemmas.Result.{IfErr-weaker, err_from_is_err_and}
use Rattle.table_state.specs.declared.operation.Op.TheVariants.{Insert, Update, Delete}
use Rattle.table_state.proofs.ChangeLaws.{says_none}
use Rattle.table_state.proofs.tables.Tables.apply.Goals as goal

pub returns-in_err-insert-in-Insert-clause-none : goal.returns-in_err-insert-in-Insert-clause-none
returns-in_err-insert-in-Insert-clause-none c =
    let p = err_from_is_err_and c.from_residual.result c.from_residual.ensures.1 in
    rw (p.1, p.2, c.in-Insert.is) (says_none (Insert c.in-Insert.table c.in-Insert.row) c.args.self.now _ c.in_err-insert-in-Insert.ensures.refused)

pub returns-in_err-update-in-Update-clause-none : goal.returns-in_err-update-in-Update-clause-none
returns-in_err-update-in-Update-clause-none c =
    let p = err_from_is_err_and c.from_residual-in_err-update-in-Update.result c.from_residual-in_err-update-in-Update.ensures.1 in
    rw (p.1, p.2, c.in-Update.is) (says_none (Update c.in-Update.table c.in-Update.old c.in-Update.new) c.args.self.now _ c.in_err-update-in-Update.ensures.refused)

pub returns-in-Delete-clause-none : goal.returns-in-Delete-clause-none
returns-in-Delete-clause-none c =
    rw c.in-Delete.is (IfErr-weaker c.delete.result _ _ (says_none (Delete c.in-Delete.table c.in-Delete.old) c.args.self.now) c.delete.ensures.refused)
