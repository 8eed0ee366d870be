use Rattle.std.proofs.Common.{◌∙◌, ap, arith, subst, sym}
use Rattle.table_defs.specs.Declarations.{IsRefusedBy}
use Rattle.group_catalog.specs.Catalogs.{groups_in}
use Rattle.cache_tier.specs.Rules.{open_writes}
use Rattle.group_engine.proofs.CalmLaws.{own_here}
use Rattle.group_engine.proofs.DropLocks.{drop_known, drop_unknown, open_none, open_some, place_within}
use Rattle.group_engine.proofs.dropping.judge_drop.Goals as goal

pub returns-in-None-clause-told : goal.returns-in-None-clause-told
returns-in-None-clause-told c = λ a s is has.
    subst (λ o. IsRefusedBy o c.refuse_name.result) (sym (drop_unknown c.args.tier.now a s c.args.name.now is (sym c.in-None.ensures))) c.refuse_name.ensures

pub returns-then-not-is_empty-clause-told : goal.returns-then-not-is_empty-clause-told
returns-then-not-is_empty-clause-told c = λ a s is has. (
    drop_known c.args.tier.now a s c.args.name.now c.in-Some.place is (sym c.in-Some.ensures) (place_within (groups_in c.args.tier.now.catalog) c.args.name.now c.in-Some.place (sym c.in-Some.ensures))
    ∙ ap open_writes (sym (c.ops.ensures ∙ own_here c.label_law.ensures.number c.args.tier.now c.args.id s c.requires has))
    ∙ open_some c.ops.result.now (sym c.if-not-is_empty.ensures))

pub returns-else-place-len-clause-told : goal.returns-else-place-len-clause-told
returns-else-place-len-clause-told c = λ a s is has. (
    drop_known c.args.tier.now a s c.args.name.now c.in-Some.place is (sym c.in-Some.ensures) (omega (arith, c.if-place-len.false, c.len.ensures))
    ∙ ap open_writes (sym (c.ops.ensures ∙ own_here c.label_law.ensures.number c.args.tier.now c.args.id s c.requires has))
    ∙ open_none c.ops.result.now (sym c.if-not-is_empty.ensures))
