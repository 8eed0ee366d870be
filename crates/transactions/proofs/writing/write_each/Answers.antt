use Rattle.std.proofs.Common.{◌-◌, arith, rules}
use Rattle.transactions.proofs.TransactionLaws.{keyed_now, went_on_as}
use Rattle.transactions.proofs.writing.write_each.Goals as goal

pub write_one-requires : goal.write_one-requires
write_one-requires c =
    keyed_now 10000 c.args.writes.now c.args.tables.now c.loop-write.write-index (record { ops = c.loop-write.ops.items; rows = c.loop-write.rows }) c.loop-write.tables c.loop-write.invariant.done c.requires

pub loop-write-preserved : goal.loop-write-preserved
loop-write-preserved c = record {
  done =
      went_on_as 10000 c.args.writes.now c.args.tables.now c.loop-write.write-index (record { ops = c.loop-write.ops.items; rows = c.loop-write.rows }) c.loop-write.tables c.loop-write.invariant.done
      c.write-item.result c.loop-write-test.true c.write-item.is (c.most_operations.result - c.len.result) (first_of (search rules, omega arith))
      c.in_ok-more.more c.write_one.new.tables c.append.new.self.items (search rules)
      c.in_ok-more.ensures.written c.in_ok-more.ensures.limited c.in_ok-more.ensures.counted c.in_ok-more.ensures.applies;
  back = λ s leads. c.write_one.ensures.back s (c.loop-write.invariant.back s leads);
}
