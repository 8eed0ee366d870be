use Rattle.std.proofs.Common.{◌<◌, length, None, Option, rules, subst}
use Rattle.journal_entries.specs.declared.entry.Op as by_name
use Rattle.table_state.specs.declared.operation.Op.{Op}
use Rattle.tier_journal.specs.Reading.{IsReadOp}
use Rattle.tier_journal.proofs.ReadLaws.{no_ops}
use Rattle.tier_journal.proofs.naming.read_ops.Goals as goal

pub returns-in-None : goal.returns-in-None
returns-in-None c =
    let lt : c.loop-op.op-index < length c.args.ops.now = search rules in
    no_ops c.args.schema.now c.args.ops.now c.loop-op.op-index c.op-item.result lt
    (subst (λ (e : by_name.Op). IsReadOp c.args.schema.now e None) c.op-item.is
    (subst (λ (r : Option Op). IsReadOp c.args.schema.now c.op-item.result r) c.in-None.is c.in_ok-read_op.ensures))
