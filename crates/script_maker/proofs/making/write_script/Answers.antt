use Rattle.std.proofs.Common.{◌++◌, arith}
use Rattle.script_maker.specs.Script.{bytes_of_lines, script_bytes}
use Rattle.script_maker.proofs.MakingLaws.{made_as, made_front, made_less, made_more}
use Rattle.script_maker.proofs.making.write_script.Goals as goal

pub returns-in_default-put_line-clause-bytes : goal.returns-in_default-put_line-clause-bytes
returns-in_default-put_line-clause-bytes g c =
    made_front _ _ (script_bytes c.args.number) (c.lines.waiting.items ++ bytes_of_lines c.lines.lines) c.lines.invariant.made

pub returns-in_default-pass_on-clause-bytes : goal.returns-in_default-pass_on-clause-bytes
returns-in_default-pass_on-clause-bytes g c =
    let waits = c.put_line.new.waiting.items in
    let left = bytes_of_lines c.put_line.new.lines in
    let told = c.in_default-pass_on.ensures.bytes in
    made_less _ (g.K.Sink.written c.lines.sink) _ (script_bytes c.args.number) waits left told.0
    (made_as _ _ (script_bytes c.args.number) (c.lines.waiting.items ++ bytes_of_lines c.lines.lines) (waits ++ left) c.in-Ok-put_line.ensures.same c.lines.invariant.made) told.1

pub lines-preserved : goal.lines-preserved
lines-preserved g c =
    let waits = c.put_line.new.waiting.items in
    let left = bytes_of_lines c.put_line.new.lines in
    record {
      made = made_more _ (g.K.Sink.written c.lines.sink) _ (script_bytes c.args.number) waits c.pass_on.new.waiting.items left c.in-Ok-put_line.more
          (made_as _ _ (script_bytes c.args.number) (c.lines.waiting.items ++ bytes_of_lines c.lines.lines) (waits ++ left) c.in-Ok-put_line.ensures.same c.lines.invariant.made)
          c.in-Ok-pass_on.ensures.bytes;
      later = omega (arith, c.lines.invariant.later, c.pass_on.ensures.later);
    }
