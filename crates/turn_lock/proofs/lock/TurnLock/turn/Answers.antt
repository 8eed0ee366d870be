use Rattle.std.proofs.Common.{rules, ◌∷◌, Some, ap, ◌∙◌, sym}
use Rattle.atomic_table.specs.Table.{rest}
use Rattle.turn_lock.proofs.lock.TurnLock.turn.Goals as goal

pub exchange-requires : goal.exchange-requires
exchange-requires g c =
    let took = c.await_turn.ensures.took in
    let has = ap (λ m. m.1) took.1 in
    (search rules, (Some took.0, has ∙ ap (λ cs. (0, Some took.0) ∷ rest cs) (sym has)))
