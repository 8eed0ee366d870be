use Rattle.std.proofs.Common.{[], ◌∷◌}
use Rattle.table_state.proofs.HistoryLaws.{fault_in_front, last_applied, last_fault}
use Rattle.table_state.proofs.tables.Tables.apply_front.Goals as goal

pub returns-in-Err-clause-refused : goal.returns-in-Err-clause-refused
returns-in-Err-clause-refused c = rw c.requires (fault_in_front c.args.front.now (c.args.last.now ∷ []) c.args.self.now c.in-Err.e c.in-Err.ensures.refused)

pub returns-in-Ok-apply-clause-ok : goal.returns-in-Ok-apply-clause-ok
returns-in-Ok-apply-clause-ok c =
    rw c.requires (last_applied c.args.front.now c.args.last.now c.args.self.now c.apply_noted.new.self c.apply.new.self c.in-Ok.ensures.ok c.in-Ok-apply.ensures.ok)

pub returns-in-Err-apply-clause-refused : goal.returns-in-Err-apply-clause-refused
returns-in-Err-apply-clause-refused c =
    rw c.requires (last_fault c.args.front.now c.args.last.now c.args.self.now c.apply_noted.new.self c.in-Ok.ensures.ok c.in-Err-apply.e c.in-Err-apply.ensures.refused)
