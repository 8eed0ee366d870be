-- It is the only one of the name.
use Rattle.std.proofs.Common.{◌∙◌}
use Rattle.cache_tier.specs.AlterSteps.{with_state}
use Rattle.group_catalog.specs.Catalogs.{groups_in}
use Rattle.recalling.proofs.NamingLaws.{changed_at}
use Rattle.recalling.proofs.naming.set_state.Goals as goal

pub returns-then-is_read_only-clause-left : goal.returns-then-is_read_only-clause-left
returns-then-is_read_only-clause-left c = λ e.
    c.with_state.ensures ∙ changed_at (groups_in c.args.catalog.now) c.args.name.now (with_state c.args.state) c.in-Some.place c.requires c.in-Some.ensures.found
