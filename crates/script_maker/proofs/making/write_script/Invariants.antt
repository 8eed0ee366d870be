-- A front of the script is written; what waits and what is to come are the rest of it.
use Rattle.std.proofs.Common.{◌≤◌, ◌++◌, length}
use Rattle.script_maker.specs.Script.{bytes_of_lines, script_bytes}
use Rattle.script_maker.proofs.MakingLaws.{Made}
use Rattle.script_maker.proofs.making.write_script.Given as goal

abbrev pub invariant-lines : goal.invariant-lines
invariant-lines g l = record {
  made : Made (g.K.Sink.written l.fn.sink) (g.K.Sink.written l.sink) (script_bytes l.fn.number) (l.waiting.items ++ bytes_of_lines l.lines);
  later : g.K.Sink.faults l.fn.sink ≤ g.K.Sink.faults l.sink;
}

abbrev pub decreases-lines : goal.decreases-lines
decreases-lines g l = length l.lines
