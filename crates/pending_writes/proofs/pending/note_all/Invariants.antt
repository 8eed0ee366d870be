-- What is left is noted behind what was.
use Rattle.std.proofs.Common.{◌≡◌}
use Rattle.pending_writes.specs.Noting.{AreEntered, noted_all}
use Rattle.pending_writes.proofs.pending.note_all.Given as goal

abbrev pub invariant-loop-write : goal.invariant-loop-write
invariant-loop-write l = record {
  rest : noted_all l.fn.ticket l.write-iterator.rest.items l.tables ≡ noted_all l.fn.ticket l.fn.writes.items l.fn.tables;
  entered : AreEntered l.tables l.write-iterator.rest.items;
}
