use Rattle.std.proofs.Common.{arith, length, ap}
use Rattle.changed_sets.proofs.TurnSteps.{one_instance}
use Rattle.changed_sets.proofs.turning.cut_to.Goals as goal

pub renew_instance-requires-clause-within : goal.renew_instance-requires-clause-within
renew_instance-requires-clause-within c = let long = ap length c.requires.under.is in omega (arith, long)

pub renew_instance-requires-clause-under : goal.renew_instance-requires-clause-under
renew_instance-requires-clause-under c = one_instance c.args.store.now.key c.args.root.now c.args.bare c.requires.under
