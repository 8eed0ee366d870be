-- The code by which proofs tell sites in memory apart.

use Rattle.std.specs.Prelude.{ℕ, List, refl}
use Rattle.std.specs.Coded.{Coded, code_by, coded×, coded_list, coded_ℕ}
use Rattle.table_state.specs.declared.history.Entry.{Entry}
use Rattle.table_state.specs.contracts.history.Entry as entry
use Rattle.memory_disk.specs.declared.memory_disk.MemoryDisk.{MemoryDisk}
use Rattle.memory_disk.specs.contracts.memory_disk.MemoryDisk as disk
use Rattle.backing_gate.specs.declared.mark.Mark.{Mark}
use Rattle.backing_gate.specs.declared.plan.CallCounts.{CallCounts}
use Rattle.backing_gate.specs.declared.plan.Plan.{Plan}
use Rattle.backing_gate.specs.contracts.mark.Mark as mark
use Rattle.backing_gate.specs.contracts.plan.CallCounts as counts
use Rattle.backing_gate.specs.contracts.plan.Plan as plan
use Rattle.backing_gate.specs.Memory.{MemoryState}
use Rattle.backing_gate.specs.Plans.{Planned}
use Rattle.backing_gate.specs.VisitCode.{visiting_code}
use Rattle.backing_gate.specs.Visits.{Visiting}

abbrev planned_code : Coded Planned
planned_code =
    code_by (List Plan × CallCounts) (coded× (coded_list plan.the_row.coded) counts.the_row.coded)
    (λ p. (p.plans, p.calls)) (λ p. record { plans = p.0; calls = p.1 }) (λ _. refl)

-- disk, history, past, plans, visits, both counts of faults
abbrev Parts : Type 0
Parts = MemoryDisk × (List Entry × (List Mark × (Planned × (Visiting × (ℕ × ℕ)))))

abbrev counts_code : Coded (Planned × (Visiting × (ℕ × ℕ)))
counts_code = coded× planned_code (coded× visiting_code (coded× coded_ℕ coded_ℕ))

abbrev parts_code : Coded Parts
parts_code =
    coded× disk.the_row.coded
    (coded× (coded_list entry.the_row.coded) (coded× (coded_list mark.the_row.coded) counts_code))

abbrev parts_of : MemoryState → Parts
parts_of s = (s.disk, (s.history, (s.past, (s.planned, (s.visits, (s.bank_faults, s.disk_faults))))))

abbrev state_of : Parts → MemoryState
state_of p = record {
  disk = p.0;
  history = p.1.0;
  past = p.1.1.0;
  planned = p.1.1.1.0;
  visits = p.1.1.1.1.0;
  bank_faults = p.1.1.1.1.1.0;
  disk_faults = p.1.1.1.1.1.1;
}

abbrev pub site_code : Coded MemoryState
site_code = code_by Parts parts_code parts_of state_of (λ _. refl)
