use Rattle.std.proofs.Common.{◌∙◌, ◌&&◌, ap, sym}
use Rattle.group_catalog.specs.Kept.{group_seen}
use Rattle.group_engine.proofs.TouchingLaws.{may_take, never_touched, not_touched, touched_so}
use Rattle.group_engine.proofs.loading_written.is_touched.Goals as goal

pub returns-in-None-clause-taken : goal.returns-in-None-clause-taken
returns-in-None-clause-taken c = λ so g at. absurd (not_touched c.args.tier.now c.args.place g c.in-None.ensures at)

pub returns-then-refreshes-clause-touched : goal.returns-then-refreshes-clause-touched
returns-then-refreshes-clause-touched c = λ is.
    touched_so c.args.tier.now c.args.place c.args.refreshes (group_seen c.in-Some.group.now) c.in-Some.ensures (ap (λ b. b && c.in-Some.group.now.def.dynamic) c.if-refreshes.true ∙ is)

pub returns-else-refreshes-clause-touched : goal.returns-else-refreshes-clause-touched
returns-else-refreshes-clause-touched c = λ is. never_touched (sym c.if-refreshes.false ∙ is)

pub returns-then-refreshes-clause-taken : goal.returns-then-refreshes-clause-taken
returns-then-refreshes-clause-taken c = λ is.
    may_take c.args.tier.now c.args.place c.args.refreshes (group_seen c.in-Some.group.now) c.in-Some.ensures (ap (λ b. b && c.in-Some.group.now.def.dynamic) c.if-refreshes.true ∙ is)

pub returns-else-refreshes-clause-taken : goal.returns-else-refreshes-clause-taken
returns-else-refreshes-clause-taken c = λ is.
    may_take c.args.tier.now c.args.place c.args.refreshes (group_seen c.in-Some.group.now) c.in-Some.ensures (ap (λ b. b && c.in-Some.group.now.def.dynamic) c.if-refreshes.false)
