use Rattle.std.proofs.Common.{◌<◌, ◌∙◌, List, ap, length, subst, sym}
use Rattle.group_catalog.specs.Catalogs.{groups_in}
use Rattle.cache_tier.specs.Groups.{Group}
use Rattle.stored_tier.specs.declared.tier.Tier.{Tier}
use Rattle.aging_cycles.specs.Running.{turned}
use Rattle.aging_cycles.proofs.Steps.{runs_left, runs_none}
use Rattle.aging_cycles.proofs.running.run_at.Goals as goal

pub returns-in-None : goal.returns-in-None
returns-in-None c = runs_none c.args.tier.now c.args.place c.in-None.ensures

pub turn_at-requires : goal.turn_at-requires
turn_at-requires c = subst (λ (gs : List Group). c.args.place < length gs) (sym (ap (λ (t : Tier). groups_in t.catalog) c.leave_at.ensures.same)) c.requires.groups

pub returns-in-Some : goal.returns-in-Some
returns-in-Some c =
    runs_left c.args.tier.now c.leave_at.new.tier c.turn_at.new.tier c.args.place c.in-Some.horizon c.requires.groups c.in-Some.ensures c.leave_at.ensures.leaves c.leave_at.ensures.same c.leave_at.ensures.noted c.turn_at.ensures.same
    (c.turn_at.ensures.groups ∙ ap (λ (t : Tier). turned c.args.place c.in-Some.horizon t.clock.now (groups_in c.leave_at.new.tier.catalog)) c.leave_at.ensures.same)
