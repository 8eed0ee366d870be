use Rattle.std.proofs.Common.{rules}
use Rattle.evaluator.proofs.WriteLaws.{fit_at, given, keyed_at, refused_effects, refused_operations, refused_rows}
use Rattle.evaluator.proofs.writing.effects.Goals as goal

pub add_ops-requires-clause-under_keys : goal.add_ops-requires-clause-under_keys
add_ops-requires-clause-under_keys g c = keyed_at (g.S.Scan.state c.args.scan.now) c.args.change.now.table c.in-Some.def.now c.requires (search rules)

pub add_ops-requires-clause-fit : goal.add_ops-requires-clause-fit
add_ops-requires-clause-fit g c = fit_at (g.S.Scan.state c.args.scan.now) c.args.change.now.table c.in-Some.def.now c.requires (search rules)

pub returns-in_err-add_ops-in-Some : goal.returns-in_err-add_ops-in-Some
returns-in_err-add_ops-in-Some g c =
    let e = refused_effects c.args.room c.args.change.now (g.S.Scan.state c.args.scan.now) c.in-Some.def.now (search rules) c.new-out.result c.new-out.ensures _ c.add_ops.new.out c.in_err-add_ops-in-Some.ensures in
    search (rules, e)

pub returns-then-out : goal.returns-then-out
returns-then-out g c =
    refused_operations c.args.room c.args.change.now (g.S.Scan.state c.args.scan.now) c.in-Some.def.now (search rules) c.new-out.result c.new-out.ensures tt c.add_ops.new.out c.in_ok-add_ops-in-Some.ensures _ c.over_limit.ensures c.if-out.true

pub returns-then-passes_rows : goal.returns-then-passes_rows
returns-then-passes_rows g c =
    refused_rows c.args.room c.args.change.now (g.S.Scan.state c.args.scan.now) c.in-Some.def.now (search rules) c.new-out.result c.new-out.ensures tt c.add_ops.new.out c.in_ok-add_ops-in-Some.ensures _ c.over_limit-then-passes_rows.ensures c.if-out.false (search rules)

pub returns-else-passes_rows : goal.returns-else-passes_rows
returns-else-passes_rows g c =
    given c.args.room c.args.change.now (g.S.Scan.state c.args.scan.now) c.in-Some.def.now (search rules) c.new-out.result c.new-out.ensures tt c.add_ops.new.out c.in_ok-add_ops-in-Some.ensures c.if-out.false (search rules)
