use Rattle.group_catalog.specs.Catalogs.{groups_in}
use Rattle.stored_tier.proofs.NamingLaws.{name_hidden, name_kept}
use Rattle.stored_tier.proofs.naming.name_one.Goals as goal

pub returns-then-has_table : goal.returns-then-has_table
returns-then-has_table c =
    name_kept (groups_in c.args.catalog.now) c.args.table c.args.def.now c.in_ok-named.named c.has_table.result
    c.has_table.ensures c.if-has_table.true c.in_ok-named.ensures

pub returns : goal.returns
returns c =
    name_hidden (groups_in c.args.catalog.now) c.args.table c.args.def.now c.in_ok-named.named c.hidden.result
    c.has_table.result c.has_table.ensures c.if-has_table.false c.in_ok-named.ensures c.hidden.ensures
