use Rattle.std.proofs.Common.{◌∙◌, ap, map, refl, subst, sym}
use Rattle.std.specs.FinMap as finite
use Rattle.group_catalog.specs.Kept.{group_seen}
use Rattle.group_engine.specs.OfAgingCycles.Fitting.{AreFit}
use Rattle.dynamic_loads.proofs.TakenParts.{may_put, took}
use Rattle.dynamic_loads.proofs.taking.take_instance.Goals as goal

pub put_rows-requires-clause-may : goal.put_rows-requires-clause-may
put_rows-requires-clause-may c =
    may_put c.args.tier.now c.args.place (group_seen c.in-Some.group.now) c.as_slice.result.now c.in-Ok.rows c.is_known-known.result c.requires (sym c.in-Some.ensures) (sym c.if-is_read_only.ensures) (c.if-not-fits.ensures refl)
    (c.in-Ok.ensures ∙ ap (map finite.values) (c.as_slice-tables.ensures ∙ sym c.as_slice.ensures)) c.is_known-known.ensures.verified
    (λ yes. subst (AreFit c.args.tier.now.schema c.in-Some.group.now.def.tree) (c.as_slice-tables.ensures ∙ sym c.as_slice.ensures) (c.is_known-known.ensures.fit yes))

pub returns-in-Ok : goal.returns-in-Ok
returns-in-Ok c =
    took c.args.tier.now c.put_rows.new.tier c.args.place (group_seen c.in-Some.group.now) c.args.instance.now c.in-Ok.rows c.put_rows.result (sym c.in-Some.ensures) (sym c.if-is_read_only.ensures) (sym c.if-not-is_viewed.ensures)
    (c.in-Ok.ensures ∙ ap (map finite.values) c.as_slice-tables.ensures) c.put_rows.ensures
