-- What is laid so far.
use Rattle.std.proofs.Common.{length, sym, subst, ap, ◌∙◌, arith, rules}
use Rattle.own_rows.specs.Laying.{HaveRoom}
use Rattle.own_rows.specs.OwnTables.{AreRowsOf}
use Rattle.tier_statements.proofs.JudgeLaws.{fits_now, keyed_now, laid_more, none_laid, stops, table_there, whole_now}
use Rattle.tier_statements.proofs.judging.judge_several.Goals as goal

pub loop-op-init : goal.loop-op-init
loop-op-init g c =
    let few = c.if-ops-ge-MOST.false in
    none_laid (g.S.Scan.state c.args.scan.now) c.args.ops.now c.widen.new.self
    (λ known before rows. c.widen.ensures.rows known before (subst (AreRowsOf known before) (sym c.new-own.ensures) rows))
    (λ n lt room. c.widen.ensures.room n lt (subst (HaveRoom n) (sym c.new-own.ensures) room))
    (c.in_ok-widen.ensures.wide ∙ ap length c.schema.ensures) (omega arith)

pub judge_over-requires : goal.judge_over-requires
judge_over-requires g c =
    let small = c.if-not-are_small.ensures (search rules) in
    record {
      fits = fits_now (g.S.Scan.state c.args.scan.now) c.args.ops.now c.loop-op.op-index c.loop-op.own c.requires.whole c.requires.keyed small c.loop-op.invariant;
      whole = whole_now (g.S.Scan.state c.args.scan.now) c.args.ops.now c.loop-op.op-index c.loop-op.own c.requires.whole c.requires.keyed small c.loop-op.invariant;
      keyed = keyed_now (g.S.Scan.state c.args.scan.now) c.args.ops.now c.loop-op.op-index c.loop-op.own c.requires.whole c.requires.keyed small c.loop-op.invariant;
    }

pub returns-in-Err : goal.returns-in-Err
returns-in-Err g c =
    stops (g.S.Scan.state c.args.scan.now) c.args.ops.now c.loop-op.op-index c.loop-op.own c.requires.whole c.requires.keyed (c.if-not-are_small.ensures (search rules)) c.loop-op.invariant
    _ c.loop-op-test.true c.op-item.is _ c.in-Err.ensures

pub lay_op-requires-clause-within : goal.lay_op-requires-clause-within
lay_op-requires-clause-within g c =
    let lt = table_there (g.S.Scan.state c.args.scan.now) c.args.ops.now c.loop-op.op-index c.loop-op.own c.requires.whole c.requires.keyed (c.if-not-are_small.ensures (search rules)) c.loop-op.invariant
    _ c.loop-op-test.true c.op-item.is c.in-Ok.ensures in
    let e = ap length c.schema-in-loop-op.ensures in
    omega arith

pub loop-op-preserved : goal.loop-op-preserved
loop-op-preserved g c =
    laid_more (g.S.Scan.state c.args.scan.now) c.args.ops.now c.loop-op.op-index c.loop-op.own c.requires.whole c.requires.keyed (c.if-not-are_small.ensures (search rules)) c.loop-op.invariant
    _ c.loop-op-test.true c.op-item.is c.in-Ok.ensures _ _ c.schema-in-loop-op.ensures c.in_ok-lay_op.ensures.rows c.in_ok-lay_op.ensures.room c.in_ok-lay_op.ensures.long
