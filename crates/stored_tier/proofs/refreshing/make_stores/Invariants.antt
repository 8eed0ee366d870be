use Rattle.stored_tier.specs.Refreshing.{choice_of, is_filled}
use Rattle.stored_tier.proofs.RefreshSteps.{MakesUpTo}
use Rattle.stored_tier.proofs.refreshing.make_stores.Given as goal

abbrev pub invariant-loop-place : goal.invariant-loop-place
invariant-loop-place l = MakesUpTo (is_filled (choice_of l.chosen) l.loads) l.tier l.tables l.place l.made.items
