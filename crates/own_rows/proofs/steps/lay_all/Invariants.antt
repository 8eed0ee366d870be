-- What is left makes the rest.
use Rattle.std.proofs.Common.{◌≡◌, length}
use Rattle.own_rows.specs.Laying.{AreReady, HaveRoom, stepped_all}
use Rattle.own_rows.proofs.steps.lay_all.Given as goal

abbrev pub invariant-loop-one : goal.invariant-loop-one
invariant-loop-one l = record {
  rest : stepped_all l.one-iterator.rest.items l.own ≡ stepped_all l.fn.steps l.fn.own;
  ready : AreReady (length l.fn.own) l.one-iterator.rest.items;
  room : HaveRoom (length l.one-iterator.rest.items) l.own;
}
