use Rattle.std.proofs.Common.{◌∙◌}
use Rattle.outside.specs.Calls.{ReadsFrom, Stays}
use Rattle.backing_gate.specs.declared.plan.CallKind.TheVariants.{ReadAt}
use Rattle.backing_gate.proofs.DiskCallLaws.{beside, cause, counted, goes_undone, only_disk, told_all, undone_then}
use Rattle.backing_gate.proofs.disk_calls.MemorySiteDisk.read_at.Goals as goal

pub returns-clause-told : goal.returns-clause-told
returns-clause-told c = told_all ReadAt c.args.self.now c.begin_disk-outcome.new.self c.read_as-answer.new.self c.end_disk.new.self c.begin_disk-outcome.ensures.counted (only_disk c.begin_disk-outcome.new.self c.read_as-answer.new.self c.read_as-answer.ensures.kept) c.end_disk.ensures.kept (ReadsFrom c.args.slot c.args.at c.read_as-answer.new.buf c.read_as-answer.result) c.read_as-answer.ensures.told

pub returns-clause-crash : goal.returns-clause-crash
returns-clause-crash c = goes_undone ReadAt c.args.self.now c.begin_disk-outcome.new.self c.read_as-answer.new.self c.end_disk.new.self c.begin_disk-outcome.ensures.counted (only_disk c.begin_disk-outcome.new.self c.read_as-answer.new.self c.read_as-answer.ensures.kept) c.end_disk.ensures.kept Stays c.read_as-answer.ensures.undone

pub returns-clause-cause : goal.returns-clause-cause
returns-clause-cause c = cause ReadAt c.args.self.now c.begin_disk-outcome.new.self c.read_as-answer.new.self c.end_disk.new.self c.begin_disk-outcome.ensures.counted (only_disk c.begin_disk-outcome.new.self c.read_as-answer.new.self c.read_as-answer.ensures.kept) c.end_disk.ensures.kept c.read_as-answer.result c.end_disk.ensures.later (λ failed. c.end_disk.ensures.rose (c.is_err.ensures.value ∙ failed))

pub returns-clause-counted : goal.returns-clause-counted
returns-clause-counted c = counted ReadAt c.args.self.now c.begin_disk-outcome.new.self c.read_as-answer.new.self c.end_disk.new.self c.begin_disk-outcome.ensures.counted (only_disk c.begin_disk-outcome.new.self c.read_as-answer.new.self c.read_as-answer.ensures.kept) c.end_disk.ensures.kept

pub returns-clause-beside : goal.returns-clause-beside
returns-clause-beside c = beside ReadAt c.args.self.now c.begin_disk-outcome.new.self c.read_as-answer.new.self c.end_disk.new.self c.begin_disk-outcome.ensures.counted (only_disk c.begin_disk-outcome.new.self c.read_as-answer.new.self c.read_as-answer.ensures.kept) c.end_disk.ensures.kept

pub returns-clause-undone : goal.returns-clause-undone
returns-clause-undone c = undone_then ReadAt c.args.self.now c.begin_disk-outcome.new.self c.read_as-answer.new.self c.end_disk.new.self c.begin_disk-outcome.ensures.counted (only_disk c.begin_disk-outcome.new.self c.read_as-answer.new.self c.read_as-answer.ensures.kept) c.end_disk.ensures.kept c.read_as-answer.ensures.undone
