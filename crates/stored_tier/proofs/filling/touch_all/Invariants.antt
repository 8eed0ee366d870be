use Rattle.std.proofs.Common.{take}
use Rattle.group_store.specs.Stores.{SameButSpare}
use Rattle.stored_tier.specs.Filling.{touched_all}
use Rattle.stored_tier.proofs.filling.touch_all.Given as goal

abbrev pub invariant-loop-key : goal.invariant-loop-key
invariant-loop-key l = SameButSpare (touched_all (take l.key-index l.keys) l.initial.store) l.store
