use Rattle.std.proofs.Common.{◌≡◌, ◌++◌, ◌∷◌, [], ◌∙◌, rules, sym}
use Rattle.std.specs.FinMap.{values}
use Rattle.stored_tier.proofs.GatherLaws.{took_all, took_more, values_long}
use Rattle.changed_sets.proofs.preparing.listed_rows.Goals as goal

pub loop-place-preserved : goal.loop-place-preserved
loop-place-preserved c =
    let pushed : c.push.new.self.items ≡ c.loop-place.list.items ++ c.row_at.result.now ∷ [] = first_of (search rules, cc) in
    pushed ∙ took_more (values c.args.rows.now) c.loop-place.list.items c.loop-place.place c.row_at.result.now c.row_at.ensures c.loop-place.invariant

pub returns : goal.returns
returns c = c.from_vec.ensures ∙ took_all (values c.args.rows.now) c.loop-place.list.items c.loop-place.place c.len-place-end.result c.loop-place.invariant (c.len-place-end.ensures.value ∙ sym (values_long c.args.rows.now)) c.loop-place-test.false
