use Rattle.std.proofs.Common.{Some, ap, ◌∙◌}
use Rattle.std.specs.Option.{option_map}
use Rattle.session_state.specs.Sessions.{level_of}
use Rattle.open_sessions.proofs.sessions.Sessions.level.Goals as goal

pub returns-in-None : goal.returns-in-None
returns-in-None c = ap (option_map level_of) c.in-None.ensures

pub returns-in-Some : goal.returns-in-Some
returns-in-Some c = ap Some c.effective_level.ensures ∙ ap (option_map level_of) c.in-Some.ensures
