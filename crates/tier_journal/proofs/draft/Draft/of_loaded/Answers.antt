use Rattle.std.proofs.Common.{◌<◌, length, rules}
use Rattle.tier_journal.proofs.DraftLaws.{drafts, if_ok}
use Rattle.tier_journal.proofs.draft.Draft.of_loaded.Goals as goal

pub returns-in_ok-batch-in-Some-clause-draft : goal.returns-in_ok-batch-in-Some-clause-draft
returns-in_ok-batch-in-Some-clause-draft c =
    let small : length c.args.name.now < 256 = search rules in
    if_ok c.placed.result _ _
    (λ draft fills schema. drafts schema c.in-Some.journal c.placed.new.journal _ _ draft _ fills c.behind.ensures (c.in_ok-batch-in-Some.ensures schema) small) c.placed.ensures.draft
