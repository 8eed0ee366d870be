use Rattle.std.proofs.Common.{arith, length, subst, sym, ◌+◌, ◌∙◌}
use Rattle.changed_sets.specs.Turning.{FitTurns, put_back}
use Rattle.changed_sets.proofs.TurnSteps.{back_count, back_more, fits_first, fits_later, shown_layers}
use Rattle.changed_sets.proofs.turning.put_back.Goals as goal

pub put_one-requires-clause-fits : goal.put_one-requires-clause-fits
put_one-requires-clause-fits c = fits_first c.loop-turn.turn-iterator.rest.items c.next.new.self.rest.items c.in-Some.turn c.in-Some.ensures.steps.0 (length c.loop-turn.store.layers + 1) c.loop-turn.invariant.fits

pub put_one-requires-clause-room : goal.put_one-requires-clause-room
put_one-requires-clause-room c =
    let count = back_count c.loop-turn.turn-iterator.rest.items c.next.new.self.rest.items c.in-Some.turn c.in-Some.ensures.steps.0 in
    let room = c.loop-turn.invariant.room in
    omega (arith, count, room)

pub loop-turn-preserved : goal.loop-turn-preserved
loop-turn-preserved c =
    let rest = c.loop-turn.turn-iterator.rest.items in
    let later = c.next.new.self.rest.items in
    let is = c.in-Some.ensures.steps.0 in
    let count = back_count c.loop-turn.turn-iterator.rest.items c.next.new.self.rest.items c.in-Some.turn c.in-Some.ensures.steps.0 in
    let room = c.loop-turn.invariant.room in
    let more = c.put_one.ensures.spare in
    let layers = c.put_one.ensures.put.layers ∙ shown_layers c.in-Some.turn.rows c.loop-turn.store in
    record {
      back = back_more rest later c.in-Some.turn is (put_back c.args.turns c.args.store.now) c.loop-turn.store c.put_one.new.store c.loop-turn.invariant.back c.put_one.ensures.put;
      fits = subst (λ ls. FitTurns (length ls + 1) later) (sym layers) (fits_later rest later c.in-Some.turn is (length c.loop-turn.store.layers + 1) c.loop-turn.invariant.fits);
      room = omega (arith, count, room, more);
    }
