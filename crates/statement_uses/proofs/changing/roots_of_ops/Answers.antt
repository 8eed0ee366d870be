-- What is laid so far.
use Rattle.std.proofs.Common.{◌+◌, ◌++◌, drop, take, length, sym, subst, ap, ◌∙◌, arith, rules}
use Rattle.own_rows.specs.Laying.{HaveRoom}
use Rattle.own_rows.specs.OwnTables.{AreRowsOf}
use Rattle.tier_statements.proofs.JudgeLaws.{fits_now, laid_more, none_laid, room_now, table_there}
use Rattle.own_rows.specs.Overlays.{overlaid}
use Rattle.cache_tier.specs.Shown.{all_over}
use Rattle.statement_uses.specs.Uses.{roots_of_ops, roots_of_row}
use Rattle.statement_uses.proofs.OpLaws.{next_unbroken, now_over, ops_start, ops_step}
use Rattle.statement_uses.proofs.changing.roots_of_ops.Goals as goal

pub loop-op-init : goal.loop-op-init
loop-op-init g c =
    let few = c.if-ops-ge-MOST.false in
    record {
      laid = none_laid (g.S.Scan.state c.args.scan.now) c.args.ops.now c.widen.new.self
          (λ known before rows. c.widen.ensures.rows known before (subst (AreRowsOf known before) (sym c.new-own.ensures) rows))
          (λ n lt room. c.widen.ensures.room n lt (subst (HaveRoom n) (sym c.new-own.ensures) room))
          (c.in_ok-widen.ensures.wide ∙ ap length c.schema.ensures) (omega arith);
      so_far = ops_start c.args.ops.now (g.S.Scan.state c.args.scan.now) c.args.tree.now _ c.new-roots.ensures.items;
    }

pub push_root-requires : goal.push_root-requires
push_root-requires g c =
    fits_now (g.S.Scan.state c.args.scan.now) c.args.ops.now c.loop-op.op-index c.loop-op.own c.requires.whole c.requires.keyed
    (c.if-not-are_small.ensures (search rules)) c.loop-op.invariant.laid

pub lay_op-requires-clause-within : goal.lay_op-requires-clause-within
lay_op-requires-clause-within g c =
    let small = c.if-not-are_small.ensures (search rules) in
    let none = next_unbroken (g.S.Scan.state c.args.scan.now) c.args.ops.now c.loop-op.op-index c.loop-op.own c.requires.whole c.requires.keyed small c.loop-op.invariant.laid c.op-item.result c.loop-op-test.true c.op-item.is c.requires.unbroken in
    let lt = table_there (g.S.Scan.state c.args.scan.now) c.args.ops.now c.loop-op.op-index c.loop-op.own c.requires.whole c.requires.keyed small c.loop-op.invariant.laid c.op-item.result c.loop-op-test.true c.op-item.is none in
    let e = ap length c.schema-in-loop-op-2.ensures in
    omega (arith, lt, e)

pub lay_op-requires-clause-room : goal.lay_op-requires-clause-room
lay_op-requires-clause-room g c =
    room_now (g.S.Scan.state c.args.scan.now) c.args.ops.now c.loop-op.op-index c.loop-op.own c.requires.whole c.requires.keyed
    (c.if-not-are_small.ensures (search rules)) c.loop-op.invariant.laid c.op-item.result c.loop-op-test.true c.op-item.is

pub push_root-requires-in-loop-op : goal.push_root-requires-in-loop-op
push_root-requires-in-loop-op g c =
    let small = c.if-not-are_small.ensures (search rules) in
    let none = next_unbroken (g.S.Scan.state c.args.scan.now) c.args.ops.now c.loop-op.op-index c.loop-op.own c.requires.whole c.requires.keyed small c.loop-op.invariant.laid c.op-item.result c.loop-op-test.true c.op-item.is c.requires.unbroken in
    fits_now (g.S.Scan.state c.args.scan.now) c.args.ops.now (c.loop-op.op-index + 1) c.lay_op.new.own c.requires.whole c.requires.keyed small
    (laid_more (g.S.Scan.state c.args.scan.now) c.args.ops.now c.loop-op.op-index c.loop-op.own c.requires.whole c.requires.keyed small c.loop-op.invariant.laid
    c.op-item.result c.loop-op-test.true c.op-item.is none _ c.lay_op.new.own c.schema-in-loop-op-2.ensures c.in_ok-lay_op.ensures.rows c.in_ok-lay_op.ensures.room c.in_ok-lay_op.ensures.long)

pub loop-op-preserved : goal.loop-op-preserved
loop-op-preserved g c =
    let i = c.loop-op.op-index in
    let small = c.if-not-are_small.ensures (search rules) in
    let none = next_unbroken (g.S.Scan.state c.args.scan.now) c.args.ops.now i c.loop-op.own c.requires.whole c.requires.keyed small c.loop-op.invariant.laid c.op-item.result c.loop-op-test.true c.op-item.is c.requires.unbroken in
    let next = laid_more (g.S.Scan.state c.args.scan.now) c.args.ops.now i c.loop-op.own c.requires.whole c.requires.keyed small c.loop-op.invariant.laid
    c.op-item.result c.loop-op-test.true c.op-item.is none _ c.lay_op.new.own c.schema-in-loop-op-2.ensures c.in_ok-lay_op.ensures.rows c.in_ok-lay_op.ensures.room c.in_ok-lay_op.ensures.long in
    record {
      laid = next;
      so_far =
          ap (λ l. l ++ roots_of_ops (drop (i + 1) c.args.ops.now) (all_over (take (i + 1) c.args.ops.now) (g.S.Scan.state c.args.scan.now)) c.args.tree.now)
          (c.in_ok-push_root-2.ensures ∙ ap (λ l. l ++ roots_of_row (overlaid c.lay_op.new.own (g.S.Scan.state c.args.scan.now)) c.args.tree.now c.in_ok-row.row) c.in_ok-push_root.ensures)
          ∙ ops_step c.args.ops.now i c.op-item.result (g.S.Scan.state c.args.scan.now) (overlaid c.loop-op.own (g.S.Scan.state c.args.scan.now)) (overlaid c.lay_op.new.own (g.S.Scan.state c.args.scan.now)) c.args.tree.now c.in_ok-row.row c.loop-op.roots.items c.loop-op-test.true c.op-item.is
          (now_over (g.S.Scan.state c.args.scan.now) c.args.ops.now i c.loop-op.own c.requires.whole c.requires.keyed small c.loop-op.invariant.laid)
          (now_over (g.S.Scan.state c.args.scan.now) c.args.ops.now (i + 1) c.lay_op.new.own c.requires.whole c.requires.keyed small next)
          (c.in_ok-row.ensures (overlaid c.loop-op.own (g.S.Scan.state c.args.scan.now)) (sym c.schema-in-loop-op.ensures)) c.loop-op.invariant.so_far;
    }
