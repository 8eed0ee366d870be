-- What comes before the element has passed.
use Rattle.std.proofs.Common.{◌++◌, ◌≤◌, take}
use Rattle.std.specs.List.{flat_map}
use Rattle.row_types.specs.Printing.{printed_behind}
use Rattle.reply_lines.specs.Output.{Splits}
use Rattle.reply_lines.proofs.values.write_behind.Given as goal

abbrev pub invariant-loop-value : goal.invariant-loop-value
invariant-loop-value g l = record {
  passed : Splits (g.K.Sink.written l.fn.sink) (g.K.Sink.written l.sink) (l.fn.output ++ flat_map printed_behind (take l.value-index l.values)) l.output;
  later : g.K.Sink.faults l.fn.sink ≤ g.K.Sink.faults l.sink;
}
