use Rattle.std.proofs.Common.{◌∙◌, sym}
use Rattle.group_engine.proofs.GainingLaws.{put_more, rows_again}
use Rattle.group_engine.proofs.gaining.copied_rows.Goals as goal

pub loop-place-init : goal.loop-place-init
loop-place-init c = record { table = c.new-copy.ensures.table; places = c.new-copy.ensures.places ∙ c.in_ok-places.ensures ∙ c.places.ensures }

pub loop-place-preserved : goal.loop-place-preserved
loop-place-preserved c = record {
  table = put_more c.args.rows.now.places _ c.loop-place.place c.in-Some.row.now _ c.loop-place.copy c.insert.new.self.table _ (sym c.in-Some.ensures) c.in_ok-row-in-Some.ensures c.loop-place.invariant.places c.loop-place.invariant.table c.in_ok-insert-in-Some.ensures.ok;
  places = c.insert.ensures.places ∙ c.loop-place.invariant.places;
}

pub returns-clause-table : goal.returns-clause-table
returns-clause-table c = rows_again c.args.rows.now.places c.args.rows.now.table c.loop-place.place c.loop-place.copy.table c.len-place-end.result c.len-place-end.ensures.keyed c.loop-place.invariant.table c.len-place-end.ensures.value c.loop-place-test.false

pub returns-clause-places : goal.returns-clause-places
returns-clause-places c = c.loop-place.invariant.places
