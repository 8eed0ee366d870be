use Rattle.std.proofs.Common.{rules}
use Rattle.evaluator.proofs.WriteLaws.{did_insert}
use Rattle.evaluator.proofs.writing.add_ops.Goals as goal

pub returns-in_ok-push-in-Insert : goal.returns-in_ok-push-in-Insert
returns-in_ok-push-in-Insert g c = did_insert (g.S.Scan.state c.args.scan.now) c.args.table c.args.def.now c.args.action.now c.in-Insert.exprs c.in_ok-row-in-Insert.row c.args.out.now c.push.new.self c.in-Insert.is (search rules) (search rules)
