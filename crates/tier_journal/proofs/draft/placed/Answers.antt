use Rattle.std.proofs.Common.{rules}
use Rattle.tier_journal.proofs.DraftLaws.{much_still}
use Rattle.tier_journal.proofs.draft.placed.Goals as goal

pub returns-in-Err-Limit-clause-draft : goal.returns-in-Err-Limit-clause-draft
returns-in-Err-Limit-clause-draft c = λ schema e place holds. record {
  batch = c.args.batch;
  holds = holds;
  much = much_still _ _ c.args.batch c.in-Err-Limit.ensures.same (search rules);
}
