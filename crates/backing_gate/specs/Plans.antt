-- Calls that are planned to fail. (This project's rule for sites in memory.)

use Rattle.std.specs.Prelude.{ℕ, ◌+◌, ◌-◌, ◌^◌, List, [], ◌∷◌, ◌++◌, Option, Bool, true, false, ◌&&◌, ◌==◌, min, find}
use Rattle.std.specs.Option.{option_map}
use Rattle.backing_gate.specs.declared.plan.CallKind.{CallKind}
use Rattle.backing_gate.specs.declared.plan.CallKind.TheVariants.{Schema, Define, ApplyOnce, Recorded, Find, Foreign, Passed, Snapshot, Reach, Changes, Len, ReadAt, WriteAt, Cut, Sync}
use Rattle.backing_gate.specs.declared.plan.CallCounts.{CallCounts}
use Rattle.backing_gate.specs.declared.plan.Outcome.{Outcome}
use Rattle.backing_gate.specs.declared.plan.Plan.{Plan}

-- the plans in the order in which they were made, and the calls so far
pub record Planned : Type 0 where
  pub plans : List Plan
  pub calls : CallCounts

abbrev pub no_calls : CallCounts
no_calls = record {
  schema = 0;
  define = 0;
  apply_once = 0;
  recorded = 0;
  find = 0;
  foreign = 0;
  passed = 0;
  snapshot = 0;
  reach = 0;
  changes = 0;
  len = 0;
  read_at = 0;
  write_at = 0;
  cut = 0;
  sync = 0;
}

abbrev pub no_plans : Planned
no_plans = record { plans = []; calls = no_calls }

abbrev pub number_of : CallKind → CallCounts → ℕ
number_of Schema calls = calls.schema
number_of Define calls = calls.define
number_of ApplyOnce calls = calls.apply_once
number_of Recorded calls = calls.recorded
number_of Find calls = calls.find
number_of Foreign calls = calls.foreign
number_of Passed calls = calls.passed
number_of Snapshot calls = calls.snapshot
number_of Reach calls = calls.reach
number_of Changes calls = calls.changes
number_of Len calls = calls.len
number_of ReadAt calls = calls.read_at
number_of WriteAt calls = calls.write_at
number_of Cut calls = calls.cut
number_of Sync calls = calls.sync

-- one more, up to the last value of a count
abbrev pub one_more : ℕ → ℕ
one_more n = min (n + 1) (2 ^ 64 - 1)

abbrev pub counted : CallKind → CallCounts → CallCounts
counted Schema calls = record calls { schema = one_more calls.schema }
counted Define calls = record calls { define = one_more calls.define }
counted ApplyOnce calls = record calls { apply_once = one_more calls.apply_once }
counted Recorded calls = record calls { recorded = one_more calls.recorded }
counted Find calls = record calls { find = one_more calls.find }
counted Foreign calls = record calls { foreign = one_more calls.foreign }
counted Passed calls = record calls { passed = one_more calls.passed }
counted Snapshot calls = record calls { snapshot = one_more calls.snapshot }
counted Reach calls = record calls { reach = one_more calls.reach }
counted Changes calls = record calls { changes = one_more calls.changes }
counted Len calls = record calls { len = one_more calls.len }
counted ReadAt calls = record calls { read_at = one_more calls.read_at }
counted WriteAt calls = record calls { write_at = one_more calls.write_at }
counted Cut calls = record calls { cut = one_more calls.cut }
counted Sync calls = record calls { sync = one_more calls.sync }

abbrev pub same_kind : CallKind → CallKind → Bool
same_kind Schema Schema = true
same_kind Define Define = true
same_kind ApplyOnce ApplyOnce = true
same_kind Recorded Recorded = true
same_kind Find Find = true
same_kind Foreign Foreign = true
same_kind Passed Passed = true
same_kind Snapshot Snapshot = true
same_kind Reach Reach = true
same_kind Changes Changes = true
same_kind Len Len = true
same_kind ReadAt ReadAt = true
same_kind WriteAt WriteAt = true
same_kind Cut Cut = true
same_kind Sync Sync = true
same_kind a b = false

-- the plan is for the call of this kind and number
abbrev pub is_for : CallKind → ℕ → Plan → Bool
is_for kind number plan = same_kind plan.kind kind && (plan.number == number)

-- what the first plan for the call says
abbrev pub outcome_of : List Plan → CallKind → ℕ → Option Outcome
outcome_of plans kind number = option_map (λ p. p.outcome) (find (is_for kind number) plans)

-- what is planned of the next call of this kind
abbrev pub planned_next : CallKind → Planned → Option Outcome
planned_next kind p = outcome_of p.plans kind (number_of kind p.calls)

abbrev pub after_call : CallKind → Planned → Planned
after_call kind p = record { plans = p.plans; calls = counted kind p.calls }

abbrev pub with_plan : Plan → Planned → Planned
with_plan plan p = record { plans = p.plans ++ plan ∷ []; calls = p.calls }
