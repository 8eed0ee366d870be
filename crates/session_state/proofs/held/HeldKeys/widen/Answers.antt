-- What was so of the places that were there is so of more.
use Rattle.std.proofs.Common.{sym, subst}
use Rattle.session_state.specs.Holding.{AreKeysOf, KeysHaveRoom}
use Rattle.session_state.proofs.held.HeldKeys.widen.Goals as goal

pub returns-clause-keys : goal.returns-clause-keys
returns-clause-keys c = λ held keys. c.widen_keys.ensures.keys held (subst (AreKeysOf held) (sym c.self.view_is) keys)

pub returns-clause-room : goal.returns-clause-room
returns-clause-room c = λ n few room. c.widen_keys.ensures.room n few (subst (KeysHaveRoom n) (sym c.self.view_is) room)
