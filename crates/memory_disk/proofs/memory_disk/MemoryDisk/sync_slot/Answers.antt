use Rattle.std.proofs.Common.{◌∙◌, ◌∷◌, ◌++◌, [], List, ap, sym}
use Rattle.outside.specs.declared.disk.Slot.TheVariants.{First, Second}
use Rattle.memory_disk.specs.declared.call.DiskCall.TheVariants.{Sync}
use Rattle.memory_disk.proofs.ImageLaws.{tie_push}
use Rattle.memory_disk.specs.declared.call.DiskCall.{DiskCall}
use Rattle.memory_disk.proofs.memory_disk.MemoryDisk.sync_slot.Goals as goal

pub invariant_of-self-in-First : goal.invariant_of-self-in-First
invariant_of-self-in-First c = record {
  first_is = tie_push First c.args.self.now.calls.items c.push_reserved.new.self.items (Sync First) c.args.self.now.base_first.items c.args.self.now.first.items c.args.self.now.first.items c.args.self.now.first_is (c.push_reserved.ensures.items ∙ ap (λ (l : List DiskCall). l ++ (Sync First) ∷ []) c.reserve.ensures.items) (λ i e. sym e);
  second_is = tie_push Second c.args.self.now.calls.items c.push_reserved.new.self.items (Sync First) c.args.self.now.base_second.items c.args.self.now.second.items c.args.self.now.second.items c.args.self.now.second_is (c.push_reserved.ensures.items ∙ ap (λ (l : List DiskCall). l ++ (Sync First) ∷ []) c.reserve.ensures.items) (λ i e. sym e);
}

pub invariant_of-self-in-Second : goal.invariant_of-self-in-Second
invariant_of-self-in-Second c = record {
  first_is = tie_push First c.args.self.now.calls.items c.push_reserved-in-Second.new.self.items (Sync Second) c.args.self.now.base_first.items c.args.self.now.first.items c.args.self.now.first.items c.args.self.now.first_is (c.push_reserved-in-Second.ensures.items ∙ ap (λ (l : List DiskCall). l ++ (Sync Second) ∷ []) c.reserve.ensures.items) (λ i e. sym e);
  second_is = tie_push Second c.args.self.now.calls.items c.push_reserved-in-Second.new.self.items (Sync Second) c.args.self.now.base_second.items c.args.self.now.second.items c.args.self.now.second.items c.args.self.now.second_is (c.push_reserved-in-Second.ensures.items ∙ ap (λ (l : List DiskCall). l ++ (Sync Second) ∷ []) c.reserve.ensures.items) (λ i e. sym e);
}
