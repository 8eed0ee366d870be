use Rattle.std.proofs.lemmas.Result.{IfErr-weaker}
use Rattle.table_state.proofs.HistoryLaws.{says_none_all}
use Rattle.table_state.proofs.tables.Tables.apply_all.Goals as goal

pub returns-in-Some-clause-none : goal.returns-in-Some-clause-none
returns-in-Some-clause-none c = IfErr-weaker c.apply_front.result _ _ (says_none_all c.args.ops.now c.args.self.now) c.apply_front.ensures.refused
