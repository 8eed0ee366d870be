use Rattle.std.proofs.Common.{◌∙◌}
use Rattle.outside.specs.Calls.{HasLength, Stays}
use Rattle.backing_gate.specs.declared.plan.CallKind.TheVariants.{Len}
use Rattle.backing_gate.proofs.DiskCallLaws.{beside, cause, counted, goes_undone, only_disk, told_all, undone_then}
use Rattle.backing_gate.proofs.disk_calls.MemorySiteDisk.len.Goals as goal

pub returns-clause-told : goal.returns-clause-told
returns-clause-told c = told_all Len c.args.self.now c.begin_disk-outcome.new.self c.len_as-answer.new.self c.end_disk.new.self c.begin_disk-outcome.ensures.counted (only_disk c.begin_disk-outcome.new.self c.len_as-answer.new.self c.len_as-answer.ensures.kept) c.end_disk.ensures.kept (HasLength c.args.slot c.len_as-answer.result) c.len_as-answer.ensures.told

pub returns-clause-crash : goal.returns-clause-crash
returns-clause-crash c = goes_undone Len c.args.self.now c.begin_disk-outcome.new.self c.len_as-answer.new.self c.end_disk.new.self c.begin_disk-outcome.ensures.counted (only_disk c.begin_disk-outcome.new.self c.len_as-answer.new.self c.len_as-answer.ensures.kept) c.end_disk.ensures.kept Stays c.len_as-answer.ensures.undone

pub returns-clause-cause : goal.returns-clause-cause
returns-clause-cause c = cause Len c.args.self.now c.begin_disk-outcome.new.self c.len_as-answer.new.self c.end_disk.new.self c.begin_disk-outcome.ensures.counted (only_disk c.begin_disk-outcome.new.self c.len_as-answer.new.self c.len_as-answer.ensures.kept) c.end_disk.ensures.kept c.len_as-answer.result c.end_disk.ensures.later (λ failed. c.end_disk.ensures.rose (c.is_err.ensures.value ∙ failed))

pub returns-clause-counted : goal.returns-clause-counted
returns-clause-counted c = counted Len c.args.self.now c.begin_disk-outcome.new.self c.len_as-answer.new.self c.end_disk.new.self c.begin_disk-outcome.ensures.counted (only_disk c.begin_disk-outcome.new.self c.len_as-answer.new.self c.len_as-answer.ensures.kept) c.end_disk.ensures.kept

pub returns-clause-beside : goal.returns-clause-beside
returns-clause-beside c = beside Len c.args.self.now c.begin_disk-outcome.new.self c.len_as-answer.new.self c.end_disk.new.self c.begin_disk-outcome.ensures.counted (only_disk c.begin_disk-outcome.new.self c.len_as-answer.new.self c.len_as-answer.ensures.kept) c.end_disk.ensures.kept

pub returns-clause-undone : goal.returns-clause-undone
returns-clause-undone c = undone_then Len c.args.self.now c.begin_disk-outcome.new.self c.len_as-answer.new.self c.end_disk.new.self c.begin_disk-outcome.ensures.counted (only_disk c.begin_disk-outcome.new.self c.len_as-answer.new.self c.len_as-answer.ensures.kept) c.end_disk.ensures.kept c.len_as-answer.ensures.undone
