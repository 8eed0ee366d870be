use Rattle.std.proofs.Common.{rules, ◌≤◌, subst, length}
use Rattle.outside.specs.Calls.{MayWrite}
use Rattle.outside.specs.Holding.{Held, slot_of}
use Rattle.memory_disk.specs.Possible.{told_of}
use Rattle.memory_disk.proofs.ImageLaws.{then_idle, done_behind, idle_told, write_goes, write_told}
use Rattle.memory_disk.proofs.disk.MemoryDiskDisk.write_at.Goals as goal

pub returns-clause-told : goal.returns-clause-told
returns-clause-told c = λ within. write_told c.args.self.now c.write_slot.new.self c.args.slot c.args.at c.args.bytes.now (done_behind c.args.self.now c.planned-planned.new.self c.write_slot.new.self _ c.planned-planned.ensures.same (c.write_slot.ensures.done (search rules)))

pub returns-clause-crash : goal.returns-clause-crash
returns-clause-crash c = write_goes c.args.self.now c.write_slot.new.self c.args.slot c.args.at c.args.bytes.now
    (subst (λ (o : Held). c.args.at ≤ length (slot_of c.args.slot o.slots)) (idle_told c.args.self.now c.planned-planned.new.self c.planned-planned.ensures.same.idle) (c.write_slot.ensures.within (search rules)))
    (done_behind c.args.self.now c.planned-planned.new.self c.write_slot.new.self _ c.planned-planned.ensures.same (c.write_slot.ensures.done (search rules)))

pub returns-then-eq-2-clause-crash : goal.returns-then-eq-2-clause-crash
returns-then-eq-2-clause-crash c = then_idle c.args.self.now c.write_slot.new.self c.fault-then-eq-2.new.self (MayWrite (told_of c.args.self.now) c.args.slot c.args.at c.args.bytes.now)
    (write_goes c.args.self.now c.write_slot.new.self c.args.slot c.args.at c.args.bytes.now
    (subst (λ (o : Held). c.args.at ≤ length (slot_of c.args.slot o.slots)) (idle_told c.args.self.now c.planned-planned.new.self c.planned-planned.ensures.same.idle) (c.write_slot.ensures.within (search rules)))
    (done_behind c.args.self.now c.planned-planned.new.self c.write_slot.new.self _ c.planned-planned.ensures.same (c.write_slot.ensures.done (search rules))))
    c.fault-then-eq-2.ensures.same
