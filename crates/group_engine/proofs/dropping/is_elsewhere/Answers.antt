use Rattle.std.proofs.Common.{◌∙◌, arith, sym}
use Rattle.group_catalog.specs.Catalogs.{groups_in}
use Rattle.cache_tier.specs.Groups.{covers}
use Rattle.group_engine.proofs.GroupGoes.{none_elsewhere, one_else}
use Rattle.group_engine.proofs.dropping.is_elsewhere.Goals as goal

pub returns-then-has_table : goal.returns-then-has_table
returns-then-has_table c =
    sym (one_else (covers c.args.table) (groups_in c.args.catalog.now) c.args.place c.loop-number.number c.if-number-place.true
    (sym c.has_table.ensures ∙ c.if-has_table.true))

pub returns : goal.returns
returns c =
    sym (none_elsewhere (covers c.args.table) (groups_in c.args.catalog.now) c.args.place c.loop-number.number (omega arith) c.loop-number.invariant)
