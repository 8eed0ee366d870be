use Rattle.std.proofs.Common.{◌≡◌, ◌+◌, ◌-◌, ◌≤◌, length, take, drop}
use Rattle.outside.specs.Calls.{Certain, Rests}
use Rattle.outside.specs.Holding.{Held, slot_of}
use Rattle.commit_journal.proofs.reading.read_bytes.Given as goal

abbrev pub invariant-loop-done : goal.invariant-loop-done
invariant-loop-done g l = record {
  within : l.done ≤ l.len;
  size : length l.bytes.items ≡ l.done;
  bytes : (o : Held) → Certain g.D.Disk.state g.D.Disk.possible l.fn.d o → l.at + l.len ≤ length (slot_of l.slot o.slots) → l.bytes.items ≡ take l.done (drop l.at (slot_of l.slot o.slots));
  rests : Rests g.D.Disk.state g.D.Disk.possible l.fn.d l.d;
  bank : (g.D.Disk.state l.d).bank_faults ≡ (g.D.Disk.state l.fn.d).bank_faults;
  shared : (g.D.Disk.state l.d).shared ≡ (g.D.Disk.state l.fn.d).shared;
  later : (g.D.Disk.state l.fn.d).disk_faults ≤ (g.D.Disk.state l.d).disk_faults;
}

abbrev pub decreases-loop-done : goal.decreases-loop-done
decreases-loop-done g l = l.len - l.done
