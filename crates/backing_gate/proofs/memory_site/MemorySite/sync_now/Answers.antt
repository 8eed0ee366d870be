use Rattle.std.proofs.Common.{sym, subst}
use Rattle.outside.specs.Calls.{Durable, Same, Stays, Told}
use Rattle.memory_disk.specs.declared.memory_disk.MemoryDisk.{MemoryDisk}
use Rattle.memory_disk.specs.Possible.{IsUnplanned, moment_of as disk_moment, possible_of as disk_possible, told_of as disk_told}
use Rattle.backing_gate.proofs.DiskCallLaws.{disk_then, durable, goes, history, kept_all, may_stay, moved, same, undone_all}
use Rattle.backing_gate.proofs.memory_site.MemorySite.sync_now.Goals as goal

pub returns-in-Some-clause-told : goal.returns-in-Some-clause-told
returns-in-Some-clause-told c =
    same c.args.self.now c.close_moment.new.self (history c.args.self.now c.open_moment.new.self c.sync_disk-done.new.self c.close_moment.new.self c.in-Some.mark c.in-Some.ensures.is c.in-Some.ensures.some c.sync_disk-done.ensures.kept c.close_moment.ensures.past c.close_moment.ensures.kept)
    (moved c.args.self.now c.open_moment.new.self c.sync_disk-done.new.self c.close_moment.new.self c.in-Some.mark c.in-Some.ensures.is c.in-Some.ensures.some c.sync_disk-done.ensures.kept c.close_moment.ensures.past c.close_moment.ensures.kept (λ (x y : MemoryDisk). Told (disk_told x) (disk_told y) (Same)) c.sync_disk-done.ensures.told)

pub returns-in-Some-clause-crash : goal.returns-in-Some-clause-crash
returns-in-Some-clause-crash c =
    goes c.args.self.now c.open_moment.new.self c.sync_disk-done.new.self c.close_moment.new.self c.in-Some.mark c.in-Some.ensures.is c.in-Some.ensures.some c.sync_disk-done.ensures.kept c.close_moment.ensures.past c.close_moment.ensures.kept (λ (x : MemoryDisk). Stays) Stays c.sync_disk-done.ensures.crash may_stay

pub returns-in-Some-clause-undone : goal.returns-in-Some-clause-undone
returns-in-Some-clause-undone c = λ free failed.
    undone_all c.args.self.now c.open_moment.new.self c.sync_disk-done.new.self c.close_moment.new.self c.in-Some.mark c.in-Some.ensures.is c.in-Some.ensures.some c.sync_disk-done.ensures.kept c.close_moment.ensures.past c.close_moment.ensures.kept
    (c.sync_disk-done.ensures.undone (subst IsUnplanned (sym (disk_then c.args.self.now c.open_moment.new.self c.sync_disk-done.new.self c.close_moment.new.self c.in-Some.mark c.in-Some.ensures.is c.in-Some.ensures.some c.sync_disk-done.ensures.kept c.close_moment.ensures.past c.close_moment.ensures.kept)) free) failed)

pub returns-in-Some-clause-kept : goal.returns-in-Some-clause-kept
returns-in-Some-clause-kept c = kept_all c.args.self.now c.open_moment.new.self c.sync_disk-done.new.self c.close_moment.new.self c.in-Some.mark c.in-Some.ensures.is c.in-Some.ensures.some c.sync_disk-done.ensures.kept c.close_moment.ensures.past c.close_moment.ensures.kept

pub returns-in-Some-clause-durable : goal.returns-in-Some-clause-durable
returns-in-Some-clause-durable c =
    durable c.args.self.now c.close_moment.new.self (history c.args.self.now c.open_moment.new.self c.sync_disk-done.new.self c.close_moment.new.self c.in-Some.mark c.in-Some.ensures.is c.in-Some.ensures.some c.sync_disk-done.ensures.kept c.close_moment.ensures.past c.close_moment.ensures.kept) c.args.slot c.sync_disk-done.result
    (moved c.args.self.now c.open_moment.new.self c.sync_disk-done.new.self c.close_moment.new.self c.in-Some.mark c.in-Some.ensures.is c.in-Some.ensures.some c.sync_disk-done.ensures.kept c.close_moment.ensures.past c.close_moment.ensures.kept (λ (x y : MemoryDisk). Durable (disk_told x) c.args.slot c.sync_disk-done.result (disk_possible y (disk_moment y))) c.sync_disk-done.ensures.durable)
