use Rattle.backing_sqlite.proofs.store.hand_over.Given as goal

abbrev pub invariant-loop : goal.invariant-loop
invariant-loop g l = g.T.TakesRows.keeps l.taker
