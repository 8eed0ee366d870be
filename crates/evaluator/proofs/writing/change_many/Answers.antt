use Rattle.std.proofs.Common.{rules}
use Rattle.evaluator.proofs.WriteLaws.{other_parents}
use Rattle.evaluator.proofs.writing.change_many.Goals as goal

pub change_children-requires : goal.change_children-requires
change_children-requires g c = other_parents (g.S.Scan.state c.args.scan.now) c.args.table c.args.def.now c.args.action.now c.in-Some.key c.requires.its_def c.requires.fit (search rules)
