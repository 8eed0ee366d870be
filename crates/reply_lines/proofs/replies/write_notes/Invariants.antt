-- What comes before the element has passed.
use Rattle.std.proofs.Common.{◌++◌, ◌≤◌, take}
use Rattle.std.specs.List.{flat_map}
use Rattle.cache_tier.specs.Replying.{note_bytes}
use Rattle.reply_lines.specs.Output.{Splits}
use Rattle.reply_lines.proofs.replies.write_notes.Given as goal

abbrev pub invariant-loop-note : goal.invariant-loop-note
invariant-loop-note g l = record {
  passed : Splits (g.K.Sink.written l.fn.sink) (g.K.Sink.written l.sink) (l.fn.output ++ flat_map note_bytes (take l.note-index l.notes)) l.output;
  later : g.K.Sink.faults l.fn.sink ≤ g.K.Sink.faults l.sink;
}
