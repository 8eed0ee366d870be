use Rattle.std.proofs.Common.{◌≡◌, drop}
use Rattle.group_store.specs.Shown.{home_from, home_of}
use Rattle.group_store.proofs.directory.home_of.Given as goal

abbrev pub invariant-loop-number : goal.invariant-loop-number
invariant-loop-number l = home_of l.stores l.table ≡ home_from l.number (drop l.number l.stores) l.table
