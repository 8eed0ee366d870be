use Rattle.std.proofs.Common.{◌≡◌, ◌-◌, ◌≤◌, ◌<◌, length}
use Rattle.outside.specs.Calls.{Certain, Rests}
use Rattle.outside.specs.Holding.{Held, slot_of}
use Rattle.commit_journal.proofs.ScanLaws.{ScanSoFar}
use Rattle.commit_journal.proofs.scanning.read_batches.Given as goal

abbrev pub invariant-loop-place : goal.invariant-loop-place
invariant-loop-place g l = record {
  within : l.place < l.len;
  scan : (o : Held) → Certain g.D.Disk.state g.D.Disk.possible l.fn.d o → length (slot_of l.slot o.slots) ≡ l.len → ScanSoFar l.version (slot_of l.slot o.slots) l.fn.entries.items l.entries.items l.standing l.place;
  rests : Rests g.D.Disk.state g.D.Disk.possible l.fn.d l.d;
  bank : (g.D.Disk.state l.d).bank_faults ≡ (g.D.Disk.state l.fn.d).bank_faults;
  shared : (g.D.Disk.state l.d).shared ≡ (g.D.Disk.state l.fn.d).shared;
  later : (g.D.Disk.state l.fn.d).disk_faults ≤ (g.D.Disk.state l.d).disk_faults;
}

abbrev pub decreases-loop-place : goal.decreases-loop-place
decreases-loop-place g l = l.len - l.place
