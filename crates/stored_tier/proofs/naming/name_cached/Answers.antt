use Rattle.std.proofs.Common.{◌<◌, ◌++◌, ◌∷◌, [], ap, ◌∙◌, sym, length, arith, take}
use Rattle.group_catalog.specs.Catalogs.{groups_in}
use Rattle.stored_tier.specs.Stored.{named_where_cached}
use Rattle.stored_tier.proofs.NamingLaws.{named_more}
use Rattle.stored_tier.proofs.naming.name_cached.Goals as goal

pub loop-number-preserved : goal.loop-number-preserved
loop-number-preserved c =
    let groups = groups_in c.args.catalog.now in
    let lt : c.loop-number.number < length c.args.schema.now = omega arith in
    c.in_ok-push.ensures.items
    ∙ ap (λ defs. defs ++ c.in_ok-name_one.field-0 ∷ []) c.loop-number.invariant
    ∙ ap (λ def. named_where_cached groups (take c.loop-number.number c.args.schema.now) ++ def ∷ []) c.in_ok-name_one.ensures
    ∙ sym (named_more groups c.args.schema.now c.loop-number.number c.index-schema-number.result lt c.index-schema-number.is)
