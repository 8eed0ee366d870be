use Rattle.std.proofs.Common.{slice_range}
use Rattle.sql_subset.proofs.Meaning.{parsed_err}
use Rattle.sql_subset.proofs.line.spelt_line.Goals as goal

pub returns-in-Err : goal.returns-in-Err
returns-in-Err c =
    parsed_err c.args.bytes.now c.in-Some.start c.in-Err.error c.head-from.result.0 c.head-from.result.1 c.good_length-good.result c.if-is_silent.ensures c.head-from.ensures.start c.head-from.ensures.end c.in-Some.ensures c.good_length-good.ensures c.if-good-bytes.false
    (c.in-Err.ensures (slice_range c.args.bytes.now c.head-from.result.0 c.head-from.result.1))
