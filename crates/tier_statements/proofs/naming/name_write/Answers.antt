use Rattle.std.proofs.Common.{sym, subst}
use Rattle.resolution.specs.Results.{Gives}
use Rattle.resolution.specs.Writes.{change_seen, resolved_write}
use Rattle.tier_statements.proofs.NameLaws.{seen_at_0}
use Rattle.tier_statements.proofs.naming.name_write.Goals as goal

pub returns-then-level-eq0 : goal.returns-then-level-eq0
returns-then-level-eq0 g c = λ t has.
    subst (λ l. Gives change_seen (resolved_write l c.args.write.now) c.name_cached_write.result)
    (sym (seen_at_0 c.args.schema.now _ t has c.args.level c.if-level-eq0.true)) c.name_cached_write.ensures
