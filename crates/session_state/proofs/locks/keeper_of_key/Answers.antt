-- Found among what is stored.
use Rattle.std.proofs.Common.{◌∙◌}
use Rattle.session_state.proofs.LockLaws.{keeper_is}
use Rattle.session_state.proofs.locks.keeper_of_key.Goals as goal

pub returns : goal.returns
returns c = λ schema kept. c.number_of.ensures ∙ keeper_is schema c.args.but (record { table = c.args.table; key = c.args.key.now }) c.args.sessions.now kept _ c.first_with_key.ensures
