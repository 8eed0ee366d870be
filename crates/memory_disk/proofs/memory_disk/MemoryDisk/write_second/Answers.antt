use Rattle.std.proofs.Common.{◌∙◌, ◌∷◌, ◌++◌, [], List, ℕ, ap, sym}
use Rattle.outside.specs.declared.disk.Slot.TheVariants.{First, Second}
use Rattle.outside.specs.Calls.{patched}
use Rattle.memory_disk.specs.declared.call.DiskCall.TheVariants.{Write}
use Rattle.memory_disk.proofs.ImageLaws.{tie_push}
use Rattle.memory_disk.specs.declared.call.DiskCall.{DiskCall}
use Rattle.memory_disk.proofs.memory_disk.MemoryDisk.write_second.Goals as goal

pub invariant_of-self-2 : goal.invariant_of-self-2
invariant_of-self-2 c = record {
  first_is = tie_push First c.args.self.now.calls.items c.push_reserved.new.self.items (Write Second c.args.at c.from_vec-copy.result) c.args.self.now.base_first.items c.args.self.now.first.items c.args.self.now.first.items c.args.self.now.first_is (c.push_reserved.ensures.items ∙ ap (λ (l : List DiskCall). l ++ (Write Second c.args.at c.from_vec-copy.result) ∷ []) c.in_ok-reserve.ensures.items) (λ i e. sym e);
  second_is = tie_push Second c.args.self.now.calls.items c.push_reserved.new.self.items (Write Second c.args.at c.from_vec-copy.result) c.args.self.now.base_second.items c.args.self.now.second.items c.overwrite.new.slot.items c.args.self.now.second_is (c.push_reserved.ensures.items ∙ ap (λ (l : List DiskCall). l ++ (Write Second c.args.at c.from_vec-copy.result) ∷ []) c.in_ok-reserve.ensures.items) (λ i e. c.in_ok-overwrite.ensures.ok ∙ ap (λ (l : List ℕ). patched c.args.at c.args.bytes.now l) (sym e) ∙ ap (λ (b : List ℕ). patched c.args.at b i.seen) (sym (c.from_vec-copy.ensures ∙ c.in_ok-from_slice.ensures.items)));
}
