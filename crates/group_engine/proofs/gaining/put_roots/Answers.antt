use Rattle.std.proofs.Common.{◌∙◌, refl, sym}
use Rattle.std.specs.FinMap.{values}
use Rattle.stored_tier.proofs.GatherLaws.{values_long}
use Rattle.group_engine.proofs.GainingLaws.{put_all, put_more}
use Rattle.group_engine.proofs.gaining.put_roots.Goals as goal

pub loop-place-init : goal.loop-place-init
loop-place-init c = record { table = refl; places = refl }

pub loop-place-preserved : goal.loop-place-preserved
loop-place-preserved c = record {
  table = put_more c.args.out.now.places (values c.args.rows.now) c.loop-place.place c.row_at.result.now _ c.loop-place.out c.insert.new.self.table c.args.out.now.table c.row_at.ensures c.in_ok-row.ensures c.loop-place.invariant.places c.loop-place.invariant.table c.in_ok-insert.ensures.ok;
  places = c.insert.ensures.places ∙ c.loop-place.invariant.places;
}

pub returns : goal.returns
returns c = put_all c.args.out.now.places (values c.args.rows.now) c.loop-place.place c.loop-place.out.table c.args.out.now.table c.len-place-end.result c.loop-place.invariant.table (c.len-place-end.ensures.value ∙ sym (values_long c.args.rows.now)) c.loop-place-test.false
