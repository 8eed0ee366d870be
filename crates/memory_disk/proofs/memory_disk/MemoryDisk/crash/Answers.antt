use Rattle.std.proofs.Common.{◌≡◌, subst, sym, rules}
use Rattle.outside.specs.Holding.{Held}
use Rattle.memory_disk.specs.Picking.{left_at}
use Rattle.memory_disk.specs.Possible.{held_of, possible_of}
use Rattle.memory_disk.proofs.PickLaws.{left_possible}
use Rattle.memory_disk.proofs.memory_disk.MemoryDisk.crash.Goals as goal

pub returns-clause-possible : goal.returns-clause-possible
returns-clause-possible c =
    let picked : held_of c.in_ok-left.left ≡ left_at c.args.self.now c.args.moment c.args.pick = search rules in
    subst (λ (p : Held). possible_of c.args.self.now c.args.moment p) (sym picked) (left_possible c.args.self.now c.args.moment c.args.pick)
