use Rattle.std.proofs.Common.{take}
use Rattle.group_store.specs.Stores.{SameButSpare}
use Rattle.stored_tier.specs.Filling.{bare_front}
use Rattle.stored_tier.proofs.filling.bare_store.Given as goal

abbrev pub invariant-loop-place : goal.invariant-loop-place
invariant-loop-place l = SameButSpare (bare_front l.schema l.tree (take l.place l.tree.children)) l.store
