use Rattle.std.proofs.Common.{rules}
use Rattle.evaluator.proofs.WriteLaws.{none_found, one_found}
use Rattle.evaluator.proofs.writing.change_rows.Goals as goal

pub returns-in-None-find : goal.returns-in-None-find
returns-in-None-find g c =
    none_found (g.S.Scan.state c.args.scan.now) c.args.table c.args.def.now c.args.action.now c.args.def.now.primary_key _ (search rules) c.requires.under_keys c.requires.fit c.in-None-find.ensures c.args.out.now

pub returns : goal.returns
returns g c =
    one_found (g.S.Scan.state c.args.scan.now) c.args.table c.args.def.now c.args.action.now c.args.def.now.primary_key _ (search rules) c.requires.under_keys c.requires.fit c.in-Some-find.row.now c.in-Some-find.ensures c.change_row.result c.args.out.now c.change_row.new.out c.change_row.ensures
