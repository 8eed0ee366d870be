use Rattle.table_state.specs.Keyed.{IsKeyed}
use Rattle.backing_sqlite.proofs.loading.load.Given as goal

abbrev pub invariant-loop-place : goal.invariant-loop-place
invariant-loop-place g l = IsKeyed l.tables
