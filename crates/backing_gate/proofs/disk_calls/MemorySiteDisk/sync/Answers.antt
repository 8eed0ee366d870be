use Rattle.std.proofs.Common.{◌∙◌, Ok, Option, subst}
use Rattle.outside.specs.Calls.{Same, Stays}
use Rattle.outside.specs.Holding.{Held}
use Rattle.backing_gate.specs.declared.plan.Outcome.{Outcome}
use Rattle.backing_gate.specs.declared.plan.CallKind.TheVariants.{Sync}
use Rattle.backing_gate.specs.Heeding.{HeedsOnDisk, IsSynced}
use Rattle.backing_gate.specs.Plans.{planned_next}
use Rattle.backing_gate.proofs.DiskCallLaws.{beside, cause, counted, crash_all, durable_all, heeds_all, told_all}
use Rattle.backing_gate.proofs.disk_calls.MemorySiteDisk.sync.Goals as goal

pub returns-clause-told : goal.returns-clause-told
returns-clause-told c = told_all Sync c.args.self.now c.begin_disk-outcome.new.self c.sync_as-done.new.self c.end_disk.new.self c.begin_disk-outcome.ensures.counted c.sync_as-done.ensures.kept c.end_disk.ensures.kept (Same) c.sync_as-done.ensures.told

pub returns-clause-crash : goal.returns-clause-crash
returns-clause-crash c = crash_all Sync c.args.self.now c.begin_disk-outcome.new.self c.sync_as-done.new.self c.end_disk.new.self c.begin_disk-outcome.ensures.counted c.sync_as-done.ensures.kept c.end_disk.ensures.kept (λ (x : Held). Stays) c.sync_as-done.ensures.crash

pub returns-clause-cause : goal.returns-clause-cause
returns-clause-cause c = cause Sync c.args.self.now c.begin_disk-outcome.new.self c.sync_as-done.new.self c.end_disk.new.self c.begin_disk-outcome.ensures.counted c.sync_as-done.ensures.kept c.end_disk.ensures.kept c.sync_as-done.result c.end_disk.ensures.later (λ failed. c.end_disk.ensures.rose (c.is_err.ensures.value ∙ failed))

pub returns-clause-counted : goal.returns-clause-counted
returns-clause-counted c = counted Sync c.args.self.now c.begin_disk-outcome.new.self c.sync_as-done.new.self c.end_disk.new.self c.begin_disk-outcome.ensures.counted c.sync_as-done.ensures.kept c.end_disk.ensures.kept

pub returns-clause-beside : goal.returns-clause-beside
returns-clause-beside c = beside Sync c.args.self.now c.begin_disk-outcome.new.self c.sync_as-done.new.self c.end_disk.new.self c.begin_disk-outcome.ensures.counted c.sync_as-done.ensures.kept c.end_disk.ensures.kept

pub returns-clause-planned : goal.returns-clause-planned
returns-clause-planned c =
    heeds_all Sync c.args.self.now c.begin_disk-outcome.new.self c.sync_as-done.new.self c.end_disk.new.self c.begin_disk-outcome.ensures.counted c.sync_as-done.ensures.kept c.end_disk.ensures.kept (planned_next Sync c.args.self.now.planned) c.sync_as-done.result (IsSynced c.args.slot c.begin_disk-outcome.new.self c.sync_as-done.new.self) (IsSynced c.args.slot c.args.self.now c.end_disk.new.self)
    (durable_all Sync c.args.self.now c.begin_disk-outcome.new.self c.sync_as-done.new.self c.end_disk.new.self c.begin_disk-outcome.ensures.counted c.sync_as-done.ensures.kept c.end_disk.ensures.kept c.args.slot (Ok (tt {0})))
    (subst (λ (o : Option Outcome). HeedsOnDisk o c.begin_disk-outcome.new.self c.sync_as-done.new.self c.sync_as-done.result (IsSynced c.args.slot c.begin_disk-outcome.new.self c.sync_as-done.new.self)) c.begin_disk-outcome.ensures.outcome c.sync_as-done.ensures.heeds)

pub returns-clause-durable : goal.returns-clause-durable
returns-clause-durable c = durable_all Sync c.args.self.now c.begin_disk-outcome.new.self c.sync_as-done.new.self c.end_disk.new.self c.begin_disk-outcome.ensures.counted c.sync_as-done.ensures.kept c.end_disk.ensures.kept c.args.slot c.sync_as-done.result c.sync_as-done.ensures.durable
