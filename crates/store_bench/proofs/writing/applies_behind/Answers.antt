use Rattle.store_bench.proofs.WriteLaws.{applies_behind, seen_keyed, seen_whole}
use Rattle.store_bench.proofs.writing.applies_behind.Goals as goal

pub judge_op-requires-clause-whole : goal.judge_op-requires-clause-whole
judge_op-requires-clause-whole g c =
    seen_whole c.args.session.now.ops.items (g.S.Scan.state c.args.scan.now) _ c.requires.readable c.overlay-seen.ensures

pub judge_op-requires-clause-keyed : goal.judge_op-requires-clause-keyed
judge_op-requires-clause-keyed g c =
    seen_keyed c.args.session.now.ops.items (g.S.Scan.state c.args.scan.now) _ c.requires.readable c.overlay-seen.ensures

pub returns-in-Ok : goal.returns-in-Ok
returns-in-Ok g c = λ _.
    applies_behind c.args.op.now _ c.in-Ok.ensures c.args.session.now.ops.items (g.S.Scan.state c.args.scan.now) c.overlay-seen.ensures
