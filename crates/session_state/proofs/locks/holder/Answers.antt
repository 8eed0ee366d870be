-- Where no session is met there is no conflict.
use Rattle.std.proofs.Common.{map, sym, ◌∙◌}
use Rattle.session_state.specs.Kept.{seen_of}
use Rattle.session_state.proofs.ApartLaws.{apart}
use Rattle.session_state.proofs.locks.holder.Goals as goal

pub returns-clause-apart : goal.returns-clause-apart
returns-clause-apart c = λ none. apart c.args.but c.args.schema.now (map seen_of c.args.sessions.now) c.args.ops.now (sym c.first_holder.ensures ∙ none)
