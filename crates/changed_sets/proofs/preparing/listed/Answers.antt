use Rattle.std.proofs.Common.{◌≡◌, ◌++◌, ◌∷◌, [], ◌∙◌, rules}
use Rattle.std.specs.FinMap.{values}
use Rattle.stored_tier.proofs.GatherLaws.{mapped_all, mapped_more}
use Rattle.changed_sets.proofs.preparing.listed.Goals as goal

pub loop-rows-preserved : goal.loop-rows-preserved
loop-rows-preserved c =
    let pushed : c.push.new.self.items ≡ c.loop-rows.lists.items ++ values c.rows-item.result ∷ [] = first_of (search rules, cc) in
    pushed ∙ mapped_more values c.args.tables.now c.loop-rows.lists.items c.loop-rows.rows-index c.rows-item.result c.loop-rows-test.true c.rows-item.is c.loop-rows.invariant

pub returns : goal.returns
returns c =
    let all = mapped_all values c.args.tables.now c.loop-rows.lists.items c.loop-rows.rows-index c.loop-rows.invariant c.loop-rows-test.false in
    c.from_vec.ensures ∙ all
