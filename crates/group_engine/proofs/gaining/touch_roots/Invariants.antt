use Rattle.std.proofs.Common.{take}
use Rattle.std.specs.FinMap.{keys}
use Rattle.group_store.specs.Stores.{SameButSpare}
use Rattle.stored_tier.specs.Filling.{touched_all}
use Rattle.group_engine.proofs.gaining.touch_roots.Given as goal

abbrev pub invariant-loop-place : goal.invariant-loop-place
invariant-loop-place l = SameButSpare (touched_all (take l.place (keys l.rows)) l.initial.store) l.store
