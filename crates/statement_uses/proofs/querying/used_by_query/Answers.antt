use Rattle.std.proofs.Common.{ap, sym, ◌∙◌}
use Rattle.std.specs.List.{list_any}
use Rattle.cache_tier.specs.Groups.{covers}
use Rattle.group_catalog.specs.Catalogs.{groups_in}
use Rattle.statement_uses.specs.Uses.{keys_at}
use Rattle.statement_uses.proofs.UseLaws.{none_used}
use Rattle.statement_uses.proofs.querying.used_by_query.Goals as goal

pub returns-then-not-some_used : goal.returns-then-not-some_used
returns-then-not-some_used g c = λ place group at keeps.
    ap (λ uses. keys_at uses place) c.new.ensures
    ∙ none_used (g.S.Scan.state c.args.scan.now) c.args.plan.now (groups_in c.args.catalog.now)
    (λ p h there keeps_it. sym (ap (list_any (λ table. covers table h)) c.as_slice.ensures) ∙ c.some_used.ensures c.if-not-some_used.true p h there keeps_it)
    place group at keeps
