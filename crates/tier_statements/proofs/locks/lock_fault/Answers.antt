-- The session that is met is found by its number.
use Rattle.std.proofs.Common.{Some, sym, ap, ◌∙◌}
use Rattle.tier_statements.proofs.LockLaws.{none_met, told}
use Rattle.tier_statements.proofs.locks.lock_fault.Goals as goal

pub returns-in-None : goal.returns-in-None
returns-in-None c = none_met c.args.id c.args.schema.now _ c.args.ops.now c.in-None.ensures.is

pub returns-in_ok-rule-in-Some-numbered : goal.returns-in_ok-rule-in-Some-numbered
returns-in_ok-rule-in-Some-numbered c = λ t label has are.
    told c.args.id c.in-Some.found c.args.schema.now c.args.sessions.now c.args.ops.now c.requires.numbered c.in-Some.ensures.is
    c.in-Some-numbered.session.now c.in-Some-numbered.ensures t label has are
    ∙ ap Some (sym c.in_ok-rule-in-Some-numbered.ensures)
