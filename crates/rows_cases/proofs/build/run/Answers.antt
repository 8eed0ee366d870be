use Rattle.std.proofs.Common.{rules}
use Rattle.evaluator.specs.table_state.proofs.KeyedLaws.{history_keyed}
use Rattle.rows_cases.proofs.build.run.Goals as goal

pub returns-in-Ok : goal.returns-in-Ok
returns-in-Ok c = history_keyed c.args.entries.now c.run.new.self (search rules)
