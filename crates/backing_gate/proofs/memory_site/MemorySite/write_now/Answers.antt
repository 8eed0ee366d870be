use Rattle.std.proofs.Common.{sym, subst}
use Rattle.outside.specs.Calls.{MayWrite, Told, Wrote}
use Rattle.memory_disk.specs.declared.memory_disk.MemoryDisk.{MemoryDisk}
use Rattle.memory_disk.specs.Possible.{IsUnplanned, told_of as disk_told}
use Rattle.backing_gate.specs.Memory.{told_of}
use Rattle.backing_gate.proofs.DiskCallLaws.{disk_then, goes, history, kept_all, may_write, moved, undone_all, wrote}
use Rattle.backing_gate.proofs.memory_site.MemorySite.write_now.Goals as goal

pub returns-in-Some-clause-told : goal.returns-in-Some-clause-told
returns-in-Some-clause-told c =
    wrote c.args.self.now c.close_moment.new.self (history c.args.self.now c.open_moment.new.self c.write_disk-done.new.self c.close_moment.new.self c.in-Some.mark c.in-Some.ensures.is c.in-Some.ensures.some c.write_disk-done.ensures.kept c.close_moment.ensures.past c.close_moment.ensures.kept) c.args.slot c.args.at c.args.bytes.now c.write_disk-done.result
    (moved c.args.self.now c.open_moment.new.self c.write_disk-done.new.self c.close_moment.new.self c.in-Some.mark c.in-Some.ensures.is c.in-Some.ensures.some c.write_disk-done.ensures.kept c.close_moment.ensures.past c.close_moment.ensures.kept (λ (x y : MemoryDisk). Told (disk_told x) (disk_told y) (Wrote c.args.slot c.args.at c.args.bytes.now c.write_disk-done.result)) c.write_disk-done.ensures.told)

pub returns-in-Some-clause-crash : goal.returns-in-Some-clause-crash
returns-in-Some-clause-crash c =
    goes c.args.self.now c.open_moment.new.self c.write_disk-done.new.self c.close_moment.new.self c.in-Some.mark c.in-Some.ensures.is c.in-Some.ensures.some c.write_disk-done.ensures.kept c.close_moment.ensures.past c.close_moment.ensures.kept (λ (x : MemoryDisk). MayWrite (disk_told x) c.args.slot c.args.at c.args.bytes.now) (MayWrite (told_of c.args.self.now) c.args.slot c.args.at c.args.bytes.now) c.write_disk-done.ensures.crash (may_write c.args.self.now c.args.slot c.args.at c.args.bytes.now)

pub returns-in-Some-clause-undone : goal.returns-in-Some-clause-undone
returns-in-Some-clause-undone c = λ free failed.
    undone_all c.args.self.now c.open_moment.new.self c.write_disk-done.new.self c.close_moment.new.self c.in-Some.mark c.in-Some.ensures.is c.in-Some.ensures.some c.write_disk-done.ensures.kept c.close_moment.ensures.past c.close_moment.ensures.kept
    (c.write_disk-done.ensures.undone (subst IsUnplanned (sym (disk_then c.args.self.now c.open_moment.new.self c.write_disk-done.new.self c.close_moment.new.self c.in-Some.mark c.in-Some.ensures.is c.in-Some.ensures.some c.write_disk-done.ensures.kept c.close_moment.ensures.past c.close_moment.ensures.kept)) free) failed)

pub returns-in-Some-clause-kept : goal.returns-in-Some-clause-kept
returns-in-Some-clause-kept c = kept_all c.args.self.now c.open_moment.new.self c.write_disk-done.new.self c.close_moment.new.self c.in-Some.mark c.in-Some.ensures.is c.in-Some.ensures.some c.write_disk-done.ensures.kept c.close_moment.ensures.past c.close_moment.ensures.kept
