-- The rows of the tables so far are as they should be.
use Rattle.session_engine.proofs.CopyLaws.{KeyedBelow}
use Rattle.session_engine.proofs.copied_rows.are_keyed.Given as goal

abbrev pub invariant-loop-place : goal.invariant-loop-place
invariant-loop-place l = KeyedBelow l.tables l.place
