-- What comes before the element has passed.
use Rattle.std.proofs.Common.{◌++◌, ◌≤◌, take}
use Rattle.std.specs.List.{flat_map}
use Rattle.row_types.specs.Printing.{doubled_quote}
use Rattle.reply_lines.specs.Output.{Splits}
use Rattle.reply_lines.proofs.values.write_doubled.Given as goal

abbrev pub invariant-loop-byte : goal.invariant-loop-byte
invariant-loop-byte g l = record {
  passed : Splits (g.K.Sink.written l.fn.sink) (g.K.Sink.written l.sink) (l.fn.output ++ flat_map doubled_quote (take l.byte-index l.text)) l.output;
  later : g.K.Sink.faults l.fn.sink ≤ g.K.Sink.faults l.sink;
}
