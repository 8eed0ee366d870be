use Rattle.std.proofs.Common.{sym}
use Rattle.session_cli.specs.Opening.{tier_settings}
use Rattle.session_cli.specs.Timing.{bases_by}
use Rattle.session_cli.proofs.EndsLaws.{bases_script, bases_system, runs_based}
use Rattle.session_cli.proofs.program.run.Goals as goal

pub returns-in-Script-clause-runs : goal.returns-in-Script-clause-runs
returns-in-Script-clause-runs g c =
    let settings = c.args.settings.now in
    let coming = g.C.Clock.coming c.args.clock.now in
    runs_based (tier_settings settings) _ _ _ _ _ (bases_by settings coming) (bases_by settings coming)
    (bases_script settings coming c.in-Script.is) (c.serve.ensures.runs (tier_settings settings) (sym c.pace_in.ensures))

pub returns-in-System-clause-runs : goal.returns-in-System-clause-runs
returns-in-System-clause-runs g c =
    let settings = c.args.settings.now in
    let coming = g.C.Clock.coming c.args.clock.now in
    let left = g.C.Clock.coming c.serve-in-System.new.clock in
    runs_based (tier_settings settings) _ _ _ _ _ (bases_by settings coming) (bases_by settings left)
    (bases_system settings coming c.in-System.is) (c.serve-in-System.ensures.runs (tier_settings settings) (sym c.pace_in-in-System.ensures))
