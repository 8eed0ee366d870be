use Rattle.std.proofs.Common.{rules}
use Rattle.turn_lock.proofs.Steps.{allows_advance}
use Rattle.turn_lock.proofs.lock.TurnLock.advance.Goals as goal

pub fetch_add-requires : goal.fetch_add-requires
fetch_add-requires g c =
    let full = c.requires.full in
    (search rules, search rules, allows_advance g.V.Grows.list _ _ _ _ _ _ _ full.0 c.requires.served full.1 full.2)

pub returns-clause-given : goal.returns-clause-given
returns-clause-given g c = λ x full.
    let did = c.fetch_add.ensures.2 _ _ x c.requires.served full in
    (λ i. (did.1 i, did.0 i))
