use Rattle.std.proofs.Common.{rules}
use Rattle.tier_journal.proofs.DraftLaws.{much_still}
use Rattle.group_engine.proofs.ready.room_made.Goals as goal

pub returns-in-Err-Limit-clause-ready : goal.returns-in-Err-Limit-clause-ready
returns-in-Err-Limit-clause-ready c = λ schema entries place holds some. record {
  batch = c.args.batch;
  holds = holds;
  much = much_still _ _ c.args.batch c.in-Err-Limit.ensures.same (search rules);
  some = some;
}
