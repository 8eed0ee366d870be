use Rattle.std.proofs.Common.{rules}
use Rattle.transactions.proofs.TransactionLaws.{done_written}
use Rattle.transactions.proofs.writing.write_one.Goals as goal

pub returns-in_ok-apply_noted-in-Ok-clause-written : goal.returns-in_ok-apply_noted-in-Ok-clause-written
returns-in_ok-apply_noted-in-Ok-clause-written c =
    done_written c.args.room c.args.write.now c.args.tables.now c.apply_noted.new.tables c.in-Ok.ops c.as_slice.result.now c.as_slice-in-Ok.result.now c.rows_in-rows.result (search rules) (search rules) c.in_ok-apply_noted-in-Ok.ensures.ok (search rules) c.rows_in-rows.ensures
