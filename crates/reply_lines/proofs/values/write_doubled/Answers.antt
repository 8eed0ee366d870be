use Rattle.std.proofs.Common.{get_or, rules}
use Rattle.row_types.specs.Printing.{doubled_quote}
use Rattle.reply_lines.proofs.FlatMaps.{goes_on, goes_wrong, same_there}
use Rattle.reply_lines.proofs.values.write_doubled.Goals as goal

pub returns-in_err-write_in_quotes-clause-bytes : goal.returns-in_err-write_in_quotes-clause-bytes
returns-in_err-write_in_quotes-clause-bytes g c =
    let text = c.args.text.now in
    let i = c.loop-byte.byte-index in
    goes_wrong _ doubled_quote text i (get_or text i 0) _ _ _ _ _ _ c.loop-byte-test.true (same_there text i 0 (get_or text i 0) c.loop-byte-test.true) c.from_residual.ensures.0
    c.loop-byte.invariant.passed c.in_err-write_in_quotes.ensures.bytes

pub loop-byte-preserved : goal.loop-byte-preserved
loop-byte-preserved g c =
    let text = c.args.text.now in
    let i = c.loop-byte.byte-index in
    record {
      passed = goes_on doubled_quote text i (get_or text i 0) _ _ _ _ _ _ c.loop-byte-test.true (same_there text i 0 (get_or text i 0) c.loop-byte-test.true)
          c.loop-byte.invariant.passed c.in_ok-write_in_quotes.ensures.bytes;
      later = search rules;
    }
