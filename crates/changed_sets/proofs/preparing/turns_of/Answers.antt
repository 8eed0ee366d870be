use Rattle.std.proofs.Common.{◌≡◌, ◌++◌, ◌∷◌, [], rules, subst, sym}
use Rattle.group_catalog.specs.Kept.{group_seen}
use Rattle.changed_sets.specs.Turning.{AreTurns}
use Rattle.changed_sets.proofs.ListSteps.{found}
use Rattle.changed_sets.proofs.PrepareSteps.{turns_all, turns_more, turns_none}
use Rattle.changed_sets.proofs.preparing.turns_of.Goals as goal

pub loop-touched-init : goal.loop-touched-init
loop-touched-init c = subst (AreTurns (group_seen c.args.group.now) c.args.store.now c.args.hidden.now.table c.args.gains []) (sym c.in_ok-turns.ensures.items) (turns_none (group_seen c.args.group.now) c.args.store.now c.args.hidden.now.table c.args.gains)

pub loop-touched-preserved : goal.loop-touched-preserved
loop-touched-preserved c =
    let pushed : c.push.new.self.items ≡ c.loop-touched.turns.items ++ c.in_ok-turn.turn ∷ [] = first_of (search rules, cc) in
    turns_more (group_seen c.args.group.now) c.args.store.now c.args.hidden.now.table c.args.gains c.args.told.now c.loop-touched.touched-index c.touched-item.result c.loop-touched.turns.items c.push.new.self.items c.in_ok-turn.turn
    (found c.args.told.now c.loop-touched.touched-index c.touched-item.result c.loop-touched-test.true c.touched-item.is) c.loop-touched.invariant c.in_ok-turn.ensures pushed

pub returns : goal.returns
returns c =
    subst (AreTurns (group_seen c.args.group.now) c.args.store.now c.args.hidden.now.table c.args.gains c.args.told.now) (sym c.from_vec.ensures)
    (turns_all (group_seen c.args.group.now) c.args.store.now c.args.hidden.now.table c.args.gains c.args.told.now c.loop-touched.touched-index c.loop-touched.turns.items c.loop-touched-test.false c.loop-touched.invariant)
