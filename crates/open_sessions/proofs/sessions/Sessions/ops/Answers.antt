use Rattle.std.proofs.Common.{[], ap, unwrap_or, ◌∙◌}
use Rattle.std.specs.Option.{option_map}
use Rattle.session_state.specs.Sessions.{OpenSession}
use Rattle.open_sessions.proofs.sessions.Sessions.ops.Goals as goal

pub returns-in-None : goal.returns-in-None
returns-in-None c = ap (λ o. unwrap_or (option_map (λ (s : OpenSession). s.ops) o) []) c.in-None.ensures

pub returns-in-Some : goal.returns-in-Some
returns-in-Some c = c.as_slice.ensures.value ∙ ap (λ o. unwrap_or (option_map (λ (s : OpenSession). s.ops) o) []) c.in-Some.ensures
