use Rattle.changed_sets.proofs.PrepareSteps.{none_bare}
use Rattle.changed_sets.proofs.preparing.bare_of.Goals as goal

pub returns-in-None-clause-bare : goal.returns-in-None-clause-bare
returns-in-None-clause-bare c = none_bare c.args.instance.now c.in-None.ensures
