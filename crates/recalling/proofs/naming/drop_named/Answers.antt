-- It is the only one of the name.
use Rattle.std.proofs.Common.{◌∙◌}
use Rattle.group_catalog.specs.Catalogs.{groups_in}
use Rattle.recalling.proofs.NamingLaws.{left_at}
use Rattle.recalling.proofs.naming.drop_named.Goals as goal

pub returns-in-Some-clause-left : goal.returns-in-Some-clause-left
returns-in-Some-clause-left c = λ e.
    c.drop_group.ensures ∙ left_at (groups_in c.args.catalog.now) c.args.name.now c.in-Some.place c.requires c.in-Some.ensures.found
