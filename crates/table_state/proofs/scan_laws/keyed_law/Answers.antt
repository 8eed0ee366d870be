use Rattle.table_state.proofs.KeyedLaws.{history_keyed, op_keyed, ops_keyed}
use Rattle.table_state.proofs.scan_laws.keyed_law.Goals as goal

pub returns : goal.returns
returns c = record { one = op_keyed; all = ops_keyed; history = history_keyed }
