use Rattle.std.proofs.Common.{refl}
use Rattle.tier_journal.proofs.DraftLaws.{drafts, if_ok}
use Rattle.tier_journal.proofs.draft.Draft.of_prepare.Goals as goal

pub returns-in_ok-batch-in-Some-clause-draft : goal.returns-in_ok-batch-in-Some-clause-draft
returns-in_ok-batch-in-Some-clause-draft c =
    if_ok c.placed.result _ _
    (λ draft fills. drafts c.args.schema.now c.in-Some.journal c.placed.new.journal _ _ draft _ fills c.behind-batch.ensures c.in_ok-batch-in-Some.ensures (c.if-not-can_take.ensures.prepare refl).bytes) c.placed.ensures.draft
