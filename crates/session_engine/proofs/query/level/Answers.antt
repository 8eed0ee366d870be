use Rattle.session_engine.proofs.SelectLaws.{level_found}
use Rattle.session_engine.proofs.query.level.Goals as goal

pub returns-in-Some : goal.returns-in-Some
returns-in-Some c = λ s has.
    level_found c.label_law.ensures.number c.args.tier.now c.args.id s _ c.requires has c.in-Some.ensures

pub returns-in-None : goal.returns-in-None
returns-in-None c = λ s has.
    level_found c.label_law.ensures.number c.args.tier.now c.args.id s _ c.requires has c.in-None.ensures
