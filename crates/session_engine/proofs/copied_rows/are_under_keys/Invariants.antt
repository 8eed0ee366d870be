-- The rows so far are as they should be.
use Rattle.session_engine.proofs.CopyLaws.{StandBelow}
use Rattle.session_engine.proofs.copied_rows.are_under_keys.Given as goal

abbrev pub invariant-loop-at : goal.invariant-loop-at
invariant-loop-at l = StandBelow l.def l.rows l.at
