-- Between two pieces.
use Rattle.std.proofs.Common.{◌≡◌, ℕ, List, [], ◌≤◌, ◌<◌, length, Some}
use Rattle.cache_engine.specs.Engines.{IsInOrder}
use Rattle.session_cli.specs.Outside.{seen}
use Rattle.session_cli.specs.Serving.{IsLeftAlone, Origin, Serving}
use Rattle.session_cli.proofs.EndsLaws.{Going, Taking}
use Rattle.session_cli.proofs.serving.serve_pieces.Given as goal

abbrev pub invariant-loop-room : goal.invariant-loop-room
invariant-loop-room g l = record {
  going : (o : Origin) (input : List ℕ) → g.S.Source.left l.fn.source ≡ Some input
      → Serving o [] (seen (g.K.Sink.written l.fn.sink) (g.C.Clock.coming l.fn.clock) g.P.Disk.state g.P.Disk.possible l.fn.site) l.fn.session
      → IsLeftAlone o input
      → Going o input l.room (g.S.Source.left l.source) (seen (g.K.Sink.written l.sink) (g.C.Clock.coming l.clock) g.P.Disk.state g.P.Disk.possible l.site) l.session;
  taking : (input : List ℕ) → g.S.Source.left l.fn.source ≡ Some input → Taking input l.room (g.S.Source.left l.source);
  empty : l.session.output ≡ [];
  order : IsInOrder l.session.engine;
  within : l.room ≤ 4294967296;
  space : 0 < length l.piece;
  read : g.S.Source.faults l.fn.source ≤ g.S.Source.faults l.source;
  write : g.K.Sink.faults l.fn.sink ≤ g.K.Sink.faults l.sink;
  disk : (g.P.Disk.state l.fn.site).disk_faults ≤ (g.P.Disk.state l.site).disk_faults;
}

abbrev pub decreases-loop-room : goal.decreases-loop-room
decreases-loop-room g l = l.room
