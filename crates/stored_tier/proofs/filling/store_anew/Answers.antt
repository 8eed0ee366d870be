use Rattle.std.proofs.Common.{◌≤◌, ◌+◌, ◌∷◌, [], ◌∙◌, ap, length, subst, sym}
use Rattle.instances.specs.Views.{with_children}
use Rattle.group_catalog.specs.Kept.{group_seen}
use Rattle.stored_tier.proofs.AnewLaws.{anew_fits, made_anew}
use Rattle.stored_tier.proofs.filling.store_anew.Goals as goal

pub fill-requires : goal.fill-requires
fill-requires c =
    subst (λ rows. length rows ≤ length c.in_ok-store.store.layers + 1) (sym (c.as_slice.ensures ∙ c.in_ok-rows.ensures))
    (anew_fits c.args.schema.now c.args.group.now.def.tree c.args.tables.now c.in_ok-roots.roots c.in_ok-store.store c.in_ok-store.ensures)

pub returns : goal.returns
returns c =
    made_anew c.args.schema.now c.args.tables.now (group_seen c.args.group.now) c.args.old.now c.args.hidden.now.table c.as_slice.result.now c.in_ok-store.store c.fill.new.store c.keep_order.new.store
    (c.as_slice.ensures ∙ c.in_ok-rows.ensures ∙ ap (λ roots. with_children c.args.tables.now c.args.group.now.def.tree.children (roots ∷ [])) c.in_ok-roots.ensures)
    c.in_ok-store.ensures c.in_ok-fill.ensures c.in_ok-keep_order.ensures
