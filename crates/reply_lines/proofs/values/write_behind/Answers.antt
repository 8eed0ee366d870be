use Rattle.std.proofs.Common.{rules}
use Rattle.row_types.specs.Printing.{printed_behind}
use Rattle.reply_lines.proofs.FlatMaps.{goes_on, goes_wrong}
use Rattle.reply_lines.proofs.values.write_behind.Goals as goal

pub returns-in_err-write_one_behind-clause-bytes : goal.returns-in_err-write_one_behind-clause-bytes
returns-in_err-write_one_behind-clause-bytes g c =
    goes_wrong _ printed_behind c.args.values.now c.loop-value.value-index c.value-item.result _ _ _ _ _ _ c.loop-value-test.true c.value-item.is c.from_residual.ensures.0
    c.loop-value.invariant.passed c.in_err-write_one_behind.ensures.bytes

pub loop-value-preserved : goal.loop-value-preserved
loop-value-preserved g c = record {
  passed = goes_on printed_behind c.args.values.now c.loop-value.value-index c.value-item.result _ _ _ _ _ _ c.loop-value-test.true c.value-item.is
      c.loop-value.invariant.passed c.in_ok-write_one_behind.ensures.bytes;
  later = search rules;
}
