use Rattle.table_state.proofs.ChangeLaws.{applies, refuses}
use Rattle.table_state.proofs.HistoryLaws.{none_all}
use Rattle.table_state.proofs.laws.refusal_law.Goals as goal

pub returns-clause-applies : goal.returns-clause-applies
returns-clause-applies c = applies

pub returns-clause-refuses : goal.returns-clause-refuses
returns-clause-refuses c = refuses

pub returns-clause-all_refuse : goal.returns-clause-all_refuse
returns-clause-all_refuse c = none_all
