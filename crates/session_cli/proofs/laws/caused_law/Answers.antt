use Rattle.session_cli.proofs.RunLaws.{line_run_caused}
use Rattle.session_cli.proofs.laws.caused_law.Goals as goal

pub returns : goal.returns
returns c = line_run_caused c.tier_law.ensures.run_is_caused
