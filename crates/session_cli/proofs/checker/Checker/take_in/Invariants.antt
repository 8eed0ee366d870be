-- What comes before the byte is taken in.
use Rattle.std.proofs.Common.{ℕ, List, ◌++◌, ◌≤◌, take}
use Rattle.session_cli.specs.Checking.{Checking}
use Rattle.session_cli.proofs.checker.Checker.take_in.Given as goal

abbrev pub invariant-loop-byte : goal.invariant-loop-byte
invariant-loop-byte g l = record {
  checks : (start given : List ℕ) → Checking start given (g.K.Sink.written l.fn.sink) l.fn.self → Checking start (given ++ take l.byte-index l.bytes) (g.K.Sink.written l.sink) l.self;
  later : g.K.Sink.faults l.fn.sink ≤ g.K.Sink.faults l.sink;
}
