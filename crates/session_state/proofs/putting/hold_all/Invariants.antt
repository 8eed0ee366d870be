-- What is left holds the rest.
use Rattle.std.proofs.Common.{◌≡◌, length}
use Rattle.session_state.specs.Holding.{AreWithin, KeysHaveRoom, with_marks}
use Rattle.session_state.proofs.putting.hold_all.Given as goal

abbrev pub invariant-loop-mark : goal.invariant-loop-mark
invariant-loop-mark l = record {
  rest : with_marks l.mark-iterator.rest.items l.keys ≡ with_marks l.fn.marks.items l.fn.keys;
  within : AreWithin (length l.fn.keys) l.mark-iterator.rest.items;
  room : KeysHaveRoom (length l.mark-iterator.rest.items) l.keys;
}
