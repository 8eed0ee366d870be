-- The rows so far are counted.
use Rattle.std.proofs.Common.{◌≡◌, ◌+◌, drop}
use Rattle.group_store.specs.Stores.{count_all}
use Rattle.stored_tier.proofs.gathering.count_all.Given as goal

abbrev pub invariant-loop-rows : goal.invariant-loop-rows
invariant-loop-rows l = l.count + count_all (drop l.rows-index l.tables) ≡ count_all l.tables
