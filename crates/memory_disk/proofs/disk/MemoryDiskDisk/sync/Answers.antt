use Rattle.std.proofs.Common.{rules, ◌∙◌}
use Rattle.outside.specs.Calls.{Stays}
use Rattle.memory_disk.proofs.ImageLaws.{then_idle, idle_told, done_behind, sync_goes, sync_told, sync_durable}
use Rattle.memory_disk.proofs.disk.MemoryDiskDisk.sync.Goals as goal

pub returns-clause-told : goal.returns-clause-told
returns-clause-told c = sync_told c.args.self.now c.sync_slot.new.self c.args.slot (done_behind c.args.self.now c.planned-planned.new.self c.sync_slot.new.self _ c.planned-planned.ensures.same (c.sync_slot.ensures.done (search rules)))

pub returns-clause-crash : goal.returns-clause-crash
returns-clause-crash c = sync_goes c.args.self.now c.sync_slot.new.self c.args.slot (done_behind c.args.self.now c.planned-planned.new.self c.sync_slot.new.self _ c.planned-planned.ensures.same (c.sync_slot.ensures.done (search rules)))

pub returns-clause-durable : goal.returns-clause-durable
returns-clause-durable c = λ p h. sync_durable c.args.self.now c.sync_slot.new.self c.args.slot p (done_behind c.args.self.now c.planned-planned.new.self c.sync_slot.new.self _ c.planned-planned.ensures.same (c.sync_slot.ensures.done (search rules))) h

pub returns-then-eq-2-clause-crash : goal.returns-then-eq-2-clause-crash
returns-then-eq-2-clause-crash c = then_idle c.args.self.now c.sync_slot.new.self c.fault-then-eq-2.new.self Stays
    (sync_goes c.args.self.now c.sync_slot.new.self c.args.slot (done_behind c.args.self.now c.planned-planned.new.self c.sync_slot.new.self _ c.planned-planned.ensures.same (c.sync_slot.ensures.done (search rules))))
    c.fault-then-eq-2.ensures.same

pub returns-then-eq-2-clause-told : goal.returns-then-eq-2-clause-told
returns-then-eq-2-clause-told c = idle_told c.sync_slot.new.self c.fault-then-eq-2.new.self c.fault-then-eq-2.ensures.same ∙ sync_told c.args.self.now c.sync_slot.new.self c.args.slot (done_behind c.args.self.now c.planned-planned.new.self c.sync_slot.new.self _ c.planned-planned.ensures.same (c.sync_slot.ensures.done (search rules)))
