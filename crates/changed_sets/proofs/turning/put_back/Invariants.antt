-- Those so far are in.
use Rattle.std.proofs.Common.{◌≤◌, ◌+◌, length}
use Rattle.group_store.specs.Stores.{SameButSpare}
use Rattle.changed_sets.specs.Turning.{FitTurns, count_turns, put_back}
use Rattle.changed_sets.proofs.turning.put_back.Given as goal

abbrev pub invariant-loop-turn : goal.invariant-loop-turn
invariant-loop-turn l = record {
  back : SameButSpare (put_back l.fn.turns l.fn.store) (put_back l.turn-iterator.rest.items l.store);
  fits : FitTurns (length l.store.layers + 1) l.turn-iterator.rest.items;
  room : count_turns l.turn-iterator.rest.items ≤ l.store.spare;
}
