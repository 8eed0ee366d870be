use Rattle.std.proofs.Common.{◌≡◌, ◌-◌, ◌≤◌, ◌<◌, length}
use Rattle.outside.specs.Calls.{Certain, Rests}
use Rattle.outside.specs.Holding.{Held, slot_of}
use Rattle.commit_journal.proofs.LookLaws.{BodiesSoFar}
use Rattle.commit_journal.proofs.looking.read_bodies.Given as goal

abbrev pub invariant-loop-place : goal.invariant-loop-place
invariant-loop-place g l = record {
  so : (o : Held) → Certain g.D.Disk.state g.D.Disk.possible l.fn.d o → 11 ≤ length (slot_of l.slot o.slots) → BodiesSoFar (slot_of l.slot o.slots) l.bodies.items l.place;
  within : (o : Held) → Certain g.D.Disk.state g.D.Disk.possible l.fn.d o → 11 ≤ length (slot_of l.slot o.slots) → l.place < l.len;
  size : (o : Held) → Certain g.D.Disk.state g.D.Disk.possible l.fn.d o → l.len ≡ length (slot_of l.slot o.slots);
  rests : Rests g.D.Disk.state g.D.Disk.possible l.fn.d l.d;
  bank : (g.D.Disk.state l.d).bank_faults ≡ (g.D.Disk.state l.fn.d).bank_faults;
  shared : (g.D.Disk.state l.d).shared ≡ (g.D.Disk.state l.fn.d).shared;
  later : (g.D.Disk.state l.fn.d).disk_faults ≤ (g.D.Disk.state l.d).disk_faults;
}

abbrev pub decreases-loop-place : goal.decreases-loop-place
decreases-loop-place g l = l.len - l.place
