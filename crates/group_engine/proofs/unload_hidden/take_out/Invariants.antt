-- The rows so far are out.
use Rattle.std.proofs.Common.{take}
use Rattle.group_engine.specs.UnloadHidden.{AreOut}
use Rattle.group_engine.proofs.unload_hidden.take_out.Given as goal

abbrev pub invariant-loop-key : goal.invariant-loop-key
invariant-loop-key l = AreOut (take l.key-index l.keys) l.initial.hidden l.hidden
