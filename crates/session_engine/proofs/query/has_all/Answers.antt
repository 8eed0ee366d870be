use Rattle.std.proofs.Common.{◌∙◌}
use Rattle.stored_tier.proofs.OwnSeen.{all_cached}
use Rattle.session_engine.proofs.query.has_all.Goals as goal

pub returns : goal.returns
returns c = λ a is. c.have_all.ensures ∙ all_cached c.args.tier.now a c.args.tables.now is
