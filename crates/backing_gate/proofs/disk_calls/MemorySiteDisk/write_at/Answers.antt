use Rattle.std.proofs.Common.{◌∙◌, Ok, Option, Some, subst}
use Rattle.outside.specs.Calls.{MayWrite, Wrote}
use Rattle.outside.specs.Holding.{Held}
use Rattle.outside.specs.declared.fault.DiskFault.{DiskFault}
use Rattle.backing_gate.specs.declared.plan.Outcome.{Outcome}
use Rattle.backing_gate.specs.declared.plan.CallKind.TheVariants.{WriteAt}
use Rattle.backing_gate.specs.Heeding.{HeedsOnDisk, WroteAll}
use Rattle.backing_gate.specs.Plans.{planned_next}
use Rattle.backing_gate.proofs.DiskCallLaws.{beside, cause, counted, crash_all, heeds_all, told_all}
use Rattle.backing_gate.proofs.disk_calls.MemorySiteDisk.write_at.Goals as goal

pub returns-clause-told : goal.returns-clause-told
returns-clause-told c = told_all WriteAt c.args.self.now c.begin_disk-outcome.new.self c.write_as-done.new.self c.end_disk.new.self c.begin_disk-outcome.ensures.counted c.write_as-done.ensures.kept c.end_disk.ensures.kept (Wrote c.args.slot c.args.at c.args.bytes.now c.write_as-done.result) c.write_as-done.ensures.told

pub returns-clause-crash : goal.returns-clause-crash
returns-clause-crash c = crash_all WriteAt c.args.self.now c.begin_disk-outcome.new.self c.write_as-done.new.self c.end_disk.new.self c.begin_disk-outcome.ensures.counted c.write_as-done.ensures.kept c.end_disk.ensures.kept (λ (x : Held). MayWrite (Some x) c.args.slot c.args.at c.args.bytes.now) c.write_as-done.ensures.crash

pub returns-clause-cause : goal.returns-clause-cause
returns-clause-cause c = cause WriteAt c.args.self.now c.begin_disk-outcome.new.self c.write_as-done.new.self c.end_disk.new.self c.begin_disk-outcome.ensures.counted c.write_as-done.ensures.kept c.end_disk.ensures.kept c.write_as-done.result c.end_disk.ensures.later (λ failed. c.end_disk.ensures.rose (c.is_err.ensures.value ∙ failed))

pub returns-clause-counted : goal.returns-clause-counted
returns-clause-counted c = counted WriteAt c.args.self.now c.begin_disk-outcome.new.self c.write_as-done.new.self c.end_disk.new.self c.begin_disk-outcome.ensures.counted c.write_as-done.ensures.kept c.end_disk.ensures.kept

pub returns-clause-beside : goal.returns-clause-beside
returns-clause-beside c = beside WriteAt c.args.self.now c.begin_disk-outcome.new.self c.write_as-done.new.self c.end_disk.new.self c.begin_disk-outcome.ensures.counted c.write_as-done.ensures.kept c.end_disk.ensures.kept

pub returns-clause-planned : goal.returns-clause-planned
returns-clause-planned c =
    heeds_all WriteAt c.args.self.now c.begin_disk-outcome.new.self c.write_as-done.new.self c.end_disk.new.self c.begin_disk-outcome.ensures.counted c.write_as-done.ensures.kept c.end_disk.ensures.kept (planned_next WriteAt c.args.self.now.planned) c.write_as-done.result (WroteAll c.args.slot c.args.at c.args.bytes.now c.begin_disk-outcome.new.self c.write_as-done.new.self) (WroteAll c.args.slot c.args.at c.args.bytes.now c.args.self.now c.end_disk.new.self)
    (told_all WriteAt c.args.self.now c.begin_disk-outcome.new.self c.write_as-done.new.self c.end_disk.new.self c.begin_disk-outcome.ensures.counted c.write_as-done.ensures.kept c.end_disk.ensures.kept (Wrote {E = DiskFault} c.args.slot c.args.at c.args.bytes.now (Ok (tt {0}))))
    (subst (λ (o : Option Outcome). HeedsOnDisk o c.begin_disk-outcome.new.self c.write_as-done.new.self c.write_as-done.result (WroteAll c.args.slot c.args.at c.args.bytes.now c.begin_disk-outcome.new.self c.write_as-done.new.self)) c.begin_disk-outcome.ensures.outcome c.write_as-done.ensures.heeds)
