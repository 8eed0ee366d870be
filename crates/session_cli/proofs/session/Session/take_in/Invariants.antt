-- What comes before the byte is taken in.
use Rattle.std.proofs.Common.{ℕ, List, ◌++◌, ◌≤◌, take}
use Rattle.cache_engine.specs.Engines.{IsInOrder}
use Rattle.session_cli.specs.Outside.{seen}
use Rattle.session_cli.specs.Serving.{IsLeftAlone, Origin, Serving}
use Rattle.session_cli.proofs.session.Session.take_in.Given as goal

abbrev pub invariant-loop-byte : goal.invariant-loop-byte
invariant-loop-byte g l = record {
  serves : (o : Origin) (given : List ℕ) → IsLeftAlone o (given ++ l.fn.bytes)
      → Serving o given (seen (g.K.Sink.written l.fn.sink) (g.C.Clock.coming l.fn.clock) g.P.Disk.state g.P.Disk.possible l.fn.site) l.fn.self
      → Serving o (given ++ take l.byte-index l.bytes) (seen (g.K.Sink.written l.sink) (g.C.Clock.coming l.clock) g.P.Disk.state g.P.Disk.possible l.site) l.self;
  order : IsInOrder l.self.engine;
  later : g.K.Sink.faults l.fn.sink ≤ g.K.Sink.faults l.sink;
  disk : (g.P.Disk.state l.fn.site).disk_faults ≤ (g.P.Disk.state l.site).disk_faults;
}
