use Rattle.std.proofs.Common.{sym, subst}
use Rattle.outside.specs.Calls.{MayCut, Told, WasCut}
use Rattle.memory_disk.specs.declared.memory_disk.MemoryDisk.{MemoryDisk}
use Rattle.memory_disk.specs.Possible.{IsUnplanned, told_of as disk_told}
use Rattle.backing_gate.specs.Memory.{told_of}
use Rattle.backing_gate.proofs.DiskCallLaws.{disk_then, goes, history, kept_all, may_cut, moved, undone_all, was_cut}
use Rattle.backing_gate.proofs.memory_site.MemorySite.cut_now.Goals as goal

pub returns-in-Some-clause-told : goal.returns-in-Some-clause-told
returns-in-Some-clause-told c =
    was_cut c.args.self.now c.close_moment.new.self (history c.args.self.now c.open_moment.new.self c.cut_disk-done.new.self c.close_moment.new.self c.in-Some.mark c.in-Some.ensures.is c.in-Some.ensures.some c.cut_disk-done.ensures.kept c.close_moment.ensures.past c.close_moment.ensures.kept) c.args.slot c.args.len c.cut_disk-done.result
    (moved c.args.self.now c.open_moment.new.self c.cut_disk-done.new.self c.close_moment.new.self c.in-Some.mark c.in-Some.ensures.is c.in-Some.ensures.some c.cut_disk-done.ensures.kept c.close_moment.ensures.past c.close_moment.ensures.kept (λ (x y : MemoryDisk). Told (disk_told x) (disk_told y) (WasCut c.args.slot c.args.len c.cut_disk-done.result)) c.cut_disk-done.ensures.told)

pub returns-in-Some-clause-crash : goal.returns-in-Some-clause-crash
returns-in-Some-clause-crash c =
    goes c.args.self.now c.open_moment.new.self c.cut_disk-done.new.self c.close_moment.new.self c.in-Some.mark c.in-Some.ensures.is c.in-Some.ensures.some c.cut_disk-done.ensures.kept c.close_moment.ensures.past c.close_moment.ensures.kept (λ (x : MemoryDisk). MayCut (disk_told x) c.args.slot c.args.len) (MayCut (told_of c.args.self.now) c.args.slot c.args.len) c.cut_disk-done.ensures.crash (may_cut c.args.self.now c.args.slot c.args.len)

pub returns-in-Some-clause-undone : goal.returns-in-Some-clause-undone
returns-in-Some-clause-undone c = λ free failed.
    undone_all c.args.self.now c.open_moment.new.self c.cut_disk-done.new.self c.close_moment.new.self c.in-Some.mark c.in-Some.ensures.is c.in-Some.ensures.some c.cut_disk-done.ensures.kept c.close_moment.ensures.past c.close_moment.ensures.kept
    (c.cut_disk-done.ensures.undone (subst IsUnplanned (sym (disk_then c.args.self.now c.open_moment.new.self c.cut_disk-done.new.self c.close_moment.new.self c.in-Some.mark c.in-Some.ensures.is c.in-Some.ensures.some c.cut_disk-done.ensures.kept c.close_moment.ensures.past c.close_moment.ensures.kept)) free) failed)

pub returns-in-Some-clause-kept : goal.returns-in-Some-clause-kept
returns-in-Some-clause-kept c = kept_all c.args.self.now c.open_moment.new.self c.cut_disk-done.new.self c.close_moment.new.self c.in-Some.mark c.in-Some.ensures.is c.in-Some.ensures.some c.cut_disk-done.ensures.kept c.close_moment.ensures.past c.close_moment.ensures.kept
