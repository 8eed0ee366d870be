use Rattle.std.proofs.Common.{◌∷◌, [], ap, subst, sym}
use Rattle.sql_subset.specs.declared.stmt.CreateGroup.{CreateGroup}
use Rattle.sql_subset.specs.declared.stmt.Stmt.TheVariants as statement
use Rattle.cache_tier.specs.declared.group.GroupDef.{GroupDef}
use Rattle.cache_tier.specs.Journals.{Defines}
use Rattle.row_types.specs.declared.rule.Refused.TheVariants as refused
use Rattle.stored_tier.specs.Performing.{Executes, PerformsInOver}
use Rattle.stored_tier.proofs.QuietLaws.{calm_refused}
use Rattle.group_engine.specs.Defining.{IsDefinition, IsUnrefused}
use Rattle.group_engine.proofs.DefiningLaws.{create_moved, create_ready_for, create_refused, create_wanting}
use Rattle.group_engine.proofs.DroppingLaws.{same_groups}
use Rattle.group_engine.proofs.ReadyLaws.{calm_cause, moved_cause, placed_ready}
use Rattle.group_engine.proofs.defining.create_group.Goals as goal

pub create_ready-requires-clause-made : goal.create_ready-requires-clause-made
create_ready-requires-clause-made g c = subst (λ d. IsDefinition c.args.tier.now d c.in-Ok.def) (sym (ap (λ (def : GroupDef). def.declared) c.in-Ok.ensures.made.is)) c.in-Ok.ensures.made

pub create_ready-requires-clause-free : goal.create_ready-requires-clause-free
create_ready-requires-clause-free g c = subst (IsUnrefused c.args.tier.now c.args.id) (sym (ap (λ (def : GroupDef). def.declared) c.in-Ok.ensures.made.is)) c.in-Ok.ensures.told

pub create_ready-requires-clause-ready : goal.create_ready-requires-clause-ready
create_ready-requires-clause-ready g c = create_ready_for _ c.in-Ok.def.declared c.args.declared c.args.text.now c.in-Ok-ready_definition.ready (ap (λ (def : GroupDef). def.declared) c.in-Ok.ensures.made.is) c.requires.text c.in-Ok-ready_definition.ensures.ready

pub create_ready-requires-clause-placed : goal.create_ready-requires-clause-placed
create_ready-requires-clause-placed g c = placed_ready [] _ c.in-Ok-ready_definition.ready (Defines c.args.declared c.args.text.now ∷ []) (c.in-Ok-ready_definition.ensures.ready [] c.args.declared)

pub returns-in-Err-clause-performs : goal.returns-in-Err-clause-performs
returns-in-Err-clause-performs g c = create_refused g.P.Disk.state g.P.Disk.possible c.args.tier.now c.args.journal.now c.args.site.now c.args.id c.args.declared c.in-Err.refused c.in-Err.ensures.told

pub returns-in-Err-clause-cause : goal.returns-in-Err-clause-cause
returns-in-Err-clause-cause g c = calm_cause _ _ _ (calm_refused c.in-Err.refused)

pub returns-in-Err-ready_definition-clause-performs : goal.returns-in-Err-ready_definition-clause-performs
returns-in-Err-ready_definition-clause-performs g c =
    create_wanting g.P.Disk.state g.P.Disk.possible c.args.tier.now c.args.tier.now c.args.journal.now c.ready_definition.new.journal c.args.site.now c.args.id c.args.declared c.ready_definition.ensures.kept (same_groups _)

pub returns-in-Err-ready_definition-clause-cause : goal.returns-in-Err-ready_definition-clause-cause
returns-in-Err-ready_definition-clause-cause g c = calm_cause _ _ _ (calm_refused refused.Memory)

pub returns-in-Ok-ready_definition-clause-performs : goal.returns-in-Ok-ready_definition-clause-performs
returns-in-Ok-ready_definition-clause-performs g c =
    create_moved g.P.Disk.state g.P.Disk.possible c.args.tier.now c.create_ready.new.tier c.args.journal.now c.ready_definition.new.journal c.create_ready.new.journal c.args.site.now c.create_ready.new.site c.args.id (statement.CreateGroup c.args.declared) c.create_ready.result c.ready_definition.ensures.kept
    (subst (λ (d : CreateGroup). PerformsInOver g.P.Disk.state g.P.Disk.possible c.args.tier.now c.create_ready.new.tier c.ready_definition.new.journal c.create_ready.new.journal c.args.site.now c.create_ready.new.site c.args.id (Executes (statement.CreateGroup d)) c.create_ready.result)
    (ap (λ (def : GroupDef). def.declared) c.in-Ok.ensures.made.is) c.create_ready.ensures.performs)

pub returns-in-Ok-ready_definition-clause-cause : goal.returns-in-Ok-ready_definition-clause-cause
returns-in-Ok-ready_definition-clause-cause g c = moved_cause _ _ _ _ _ c.ready_definition.ensures.kept c.create_ready.ensures.cause
