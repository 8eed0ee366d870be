use Rattle.std.proofs.Common.{refl, inl, inr, rules}
use Rattle.command_line.specs.Keys.{AreBad}
use Rattle.session_cli.proofs.program.asked_task.Goals as goal

pub returns-in-Err-Bad : goal.returns-in-Err-Bad
returns-in-Err-Bad c =
    let bad : AreBad c.args.settings.now = search (rules, c.in-Err-Bad.ensures.bad, c.in-Err-Bad.field-0-is) in
    inr (inl (refl, (c.in-Ok.command, c.in-Ok.ensures.asks), bad))
