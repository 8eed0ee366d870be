use Rattle.std.proofs.Common.{◌≡◌, subst, sym}
use Rattle.cache_tier.specs.Routes.{visible}
use Rattle.stored_tier.proofs.OwnSeen.{visible_seen}
use Rattle.session_engine.proofs.query.names.Goals as goal

pub returns-then-level-eq0 : goal.returns-then-level-eq0
returns-then-level-eq0 c = λ a is.
    subst (λ n. c.args.tier.now.visible ≡ visible n a) (sym c.if-level-eq0.true)
    (visible_seen c.args.tier.now a c.requires is)
