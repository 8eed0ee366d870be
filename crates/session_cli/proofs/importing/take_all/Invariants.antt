-- Between two pieces.
use Rattle.std.proofs.Common.{◌≡◌, ℕ, List, ◌+◌, ◌≤◌, ◌<◌, length, Some}
use Rattle.session_cli.proofs.ImportingLaws.{Reading}
use Rattle.session_cli.proofs.importing.take_all.Given as goal

abbrev pub invariant-loop-room : goal.invariant-loop-room
invariant-loop-room g l = record {
  taking : (input : List ℕ) → g.S.Source.left l.fn.source ≡ Some input → Reading input l.bytes.items (g.S.Source.left l.source);
  space : 0 < length l.piece;
  counts : length l.bytes.items + l.room ≡ 4294967296;
  read : g.S.Source.faults l.fn.source ≤ g.S.Source.faults l.source;
}

abbrev pub decreases-loop-room : goal.decreases-loop-room
decreases-loop-room g l = l.room
