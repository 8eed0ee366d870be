use Rattle.std.proofs.Common.{◌≡◌}
use Rattle.group_store.specs.Shown.{homes_of}
use Rattle.group_store.proofs.directory.Directory.of.Given as goal

abbrev pub invariant-loop-number : goal.invariant-loop-number
invariant-loop-number l = l.homes.items ≡ homes_of l.stores l.number
