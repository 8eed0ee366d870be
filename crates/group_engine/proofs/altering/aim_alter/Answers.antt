use Rattle.std.proofs.Common.{sym}
use Rattle.group_catalog.specs.Catalogs.{groups_in}
use Rattle.group_catalog.specs.Kept.{group_seen}
use Rattle.group_engine.proofs.AlteringLaws.{finds_alter, refused_alter, unknown_alter}
use Rattle.group_engine.proofs.DropLocks.{place_within}
use Rattle.group_engine.proofs.altering.aim_alter.Goals as goal

pub returns-in-None-clause-aims : goal.returns-in-None-clause-aims
returns-in-None-clause-aims c = λ a s is has. unknown_alter c.args.tier.now a s c.args.alter.now c.about.result is (sym c.in-None.ensures) c.about.ensures

pub returns-in-Err-clause-aims : goal.returns-in-Err-clause-aims
returns-in-Err-clause-aims c = λ a s is has.
    refused_alter c.label_law.ensures.number c.args.tier.now a s c.args.id c.args.alter.now c.in-Some.place (group_seen c.in-Some-get.group.now) c.ops.result.now c.requires is has
    (sym c.in-Some.ensures) (sym c.in-Some-get.ensures) c.ops.ensures c.in-Err.refused c.in-Err.ensures

pub returns-in-Ok-clause-aims : goal.returns-in-Ok-clause-aims
returns-in-Ok-clause-aims c = λ a s is has.
    finds_alter c.label_law.ensures.number c.args.tier.now a s c.args.id c.args.alter.now c.in-Some.place (group_seen c.in-Some-get.group.now) c.ops.result.now c.requires is has
    (sym c.in-Some.ensures) (sym c.in-Some-get.ensures) c.ops.ensures c.in-Ok.ensures

pub returns-in-Ok-clause-within : goal.returns-in-Ok-clause-within
returns-in-Ok-clause-within c = place_within (groups_in c.args.tier.now.catalog) c.args.alter.now.group c.in-Some.place (sym c.in-Some.ensures)
