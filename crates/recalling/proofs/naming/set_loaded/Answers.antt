-- It is the only one of the name.
use Rattle.std.proofs.Common.{◌∙◌}
use Rattle.group_catalog.specs.Catalogs.{groups_in}
use Rattle.recovery.specs.Recalling.{with_loaded}
use Rattle.recalling.proofs.NamingLaws.{changed_at}
use Rattle.recalling.proofs.naming.set_loaded.Goals as goal

pub returns-in-Some-clause-left : goal.returns-in-Some-clause-left
returns-in-Some-clause-left c = λ e.
    c.with_loaded.ensures ∙ changed_at (groups_in c.args.catalog.now) c.args.name.now (with_loaded c.args.loaded) c.in-Some.place c.requires c.in-Some.ensures.found
