use Rattle.std.proofs.Common.{ap, sym}
use Rattle.std.specs.Option.{option_map}
use Rattle.session_state.specs.Sessions.{OpenSession}
use Rattle.session_engine.proofs.LaterKept.{durable_found, durable_none}
use Rattle.session_engine.proofs.drafting.is_durable.Goals as goal

pub returns-in-None : goal.returns-in-None
returns-in-None c = λ s has. durable_none c.label_law.ensures.number c.args.tier.now c.args.id s c.requires has c.in-None.ensures

pub returns-in-Some : goal.returns-in-Some
returns-in-Some c = λ s has. durable_found c.label_law.ensures.number c.args.tier.now c.args.id s _ c.requires has (ap (option_map (λ (x : OpenSession). x.durable)) (sym c.in-Some.ensures))
