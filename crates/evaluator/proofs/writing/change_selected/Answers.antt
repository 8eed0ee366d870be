use Rattle.std.proofs.Common.{rules}
use Rattle.evaluator.proofs.WriteLaws.{did_update}
use Rattle.evaluator.proofs.writing.change_selected.Goals as goal

pub returns-in_ok-push-in-Update : goal.returns-in_ok-push-in-Update
returns-in_ok-push-in-Update g c = did_update (g.S.Scan.state c.args.scan.now) c.args.table c.args.def.now c.args.action.now c.in-Update.exprs c.in-Update.field-1 c.args.row.now c.in_ok-new-in-Update.new c.args.out.now c.push.new.self c.in-Update.is (search rules) (search rules)
