-- Between two pieces.
use Rattle.std.proofs.Common.{◌≡◌, ℕ, List, [], ◌≤◌, ◌<◌, length, Some}
use Rattle.session_cli.proofs.CheckLaws.{CheckGoing}
use Rattle.session_cli.proofs.EndsLaws.{Taking}
use Rattle.session_cli.proofs.checking.check_pieces.Given as goal

abbrev pub invariant-loop-room : goal.invariant-loop-room
invariant-loop-room g l = record {
  going : (input start : List ℕ) → g.S.Source.left l.fn.source ≡ Some input → g.K.Sink.written l.fn.sink ≡ Some start → CheckGoing start input l.room (g.S.Source.left l.source) (g.K.Sink.written l.sink) l.checker;
  taking : (input : List ℕ) → g.S.Source.left l.fn.source ≡ Some input → Taking input l.room (g.S.Source.left l.source);
  empty : l.checker.output ≡ [];
  within : l.room ≤ 4294967296;
  space : 0 < length l.piece;
  read : g.S.Source.faults l.fn.source ≤ g.S.Source.faults l.source;
  write : g.K.Sink.faults l.fn.sink ≤ g.K.Sink.faults l.sink;
}

abbrev pub decreases-loop-room : goal.decreases-loop-room
decreases-loop-room g l = l.room
