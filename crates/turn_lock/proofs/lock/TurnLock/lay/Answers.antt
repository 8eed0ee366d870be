use Rattle.std.proofs.Common.{◌∙◌, ap, sym, subst, [], ◌∷◌, ◌++◌, Some}
use Rattle.atomic_table.specs.Table.{opening}
use Rattle.turn_lock.specs.Turns.{KeepsTurns, opening_view}
use Rattle.turn_lock.proofs.Steps.{starts}
use Rattle.turn_lock.proofs.lock.TurnLock.lay.Goals as goal

pub new-requires : goal.new-requires
new-requires g c =
    let list = g.V.Grows.list c.args.about.now.value.value in
    let seats = c.args.about.now.seats in
    let slots = c.push_reserved.ensures.items ∙ ap (λ l. l ++ Some c.args.value ∷ []) (c.reserve.ensures.items ∙ c.new-slots.ensures.items) in
    subst (λ xs. KeepsTurns g.V.Grows.list list seats (opening (0 ∷ 0 ∷ []) xs (opening_view seats list))) (sym slots) (starts g.V.Grows.list list seats c.args.value (ap g.V.Grows.list (sym c.requires.value)))
