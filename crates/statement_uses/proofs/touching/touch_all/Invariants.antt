-- What is left of the keys makes of the store what all make of the old one.
use Rattle.std.proofs.Common.{◌≡◌, drop}
use Rattle.statement_uses.specs.Touching.{HaveRows, newest_by, roomless, touched_by}
use Rattle.statement_uses.proofs.touching.touch_all.Given as goal

abbrev pub invariant-loop-root : goal.invariant-loop-root
invariant-loop-root l = record {
  touched : touched_by (drop l.root-index l.roots) (roomless l.store) ≡ touched_by l.roots (roomless l.fn.store);
  newest : HaveRows l.roots l.fn.store → newest_by (drop l.root-index l.roots) (roomless l.store) ≡ newest_by l.roots (roomless l.fn.store);
  tables : l.store.tables ≡ l.fn.store.tables;
}
