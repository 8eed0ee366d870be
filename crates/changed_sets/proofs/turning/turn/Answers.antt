use Rattle.std.proofs.Common.{arith, length, subst, sym, ◌+◌, ◌∙◌}
use Rattle.changed_sets.specs.Turning.{FitTurns}
use Rattle.changed_sets.proofs.TurnSteps.{cut_form, turned_same}
use Rattle.changed_sets.proofs.turning.turn.Goals as goal

pub put_back-requires-clause-fits : goal.put_back-requires-clause-fits
put_back-requires-clause-fits c =
    subst (λ ls. FitTurns (length ls + 1) c.args.turns) (sym (c.cut_down.ensures.cut.layers ∙ (cut_form c.args.cuts c.args.store.now).layers)) c.requires.fits

pub put_back-requires-clause-room : goal.put_back-requires-clause-room
put_back-requires-clause-room c =
    let room = c.requires.room in
    let spare = c.cut_down.ensures.spare in
    omega (arith, room, spare)

pub returns-clause-turned : goal.returns-clause-turned
returns-clause-turned c = turned_same c.args.cuts c.args.turns c.args.store.now c.cut_down.new.store c.put_back.new.store c.cut_down.ensures.cut c.put_back.ensures
