use Rattle.std.proofs.Common.{take}
use Rattle.group_store.specs.Stores.{SameButSpare}
use Rattle.changed_sets.specs.OfAgingCycles.Running.{cut_all}
use Rattle.group_engine.proofs.unloading.cut_all.Given as goal

abbrev pub invariant-loop-key : goal.invariant-loop-key
invariant-loop-key l = SameButSpare (cut_all (take l.key-index l.keys) l.initial.store) l.store
