use Rattle.std.proofs.Common.{◌≡◌, sym, subst, rules}
use Rattle.outside.specs.Holding.{Held}
use Rattle.backing_gate.specs.Memory.{held_of, left_at, possible_of}
use Rattle.backing_gate.proofs.CrashLaws.{left_possible}
use Rattle.backing_gate.proofs.memory_site.MemorySite.crash.Goals as goal

pub returns-clause-possible : goal.returns-clause-possible
returns-clause-possible c =
    let picked : held_of c.of.result ≡ left_at c.args.self.now c.args.moment c.args.pick = search rules in
    subst (λ (p : Held). possible_of c.args.self.now c.args.moment p) (sym picked) (left_possible c.args.self.now c.args.moment c.args.pick)
