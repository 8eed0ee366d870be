-- None of the keys so far is of such a row.
use Rattle.std.proofs.Common.{◌≡◌, false, take}
use Rattle.std.specs.List.{list_any}
use Rattle.group_engine.specs.UnloadLocks.{is_within, leaves}
use Rattle.group_engine.proofs.unload_locks.some_within.Given as goal

abbrev pub invariant-loop-key : goal.invariant-loop-key
invariant-loop-key g l = list_any (is_within (g.S.Scan.state l.scan) l.tree (leaves l.which l.store)) (take l.key-index l.keys) ≡ false
