use Rattle.group_engine.proofs.TakeLaws.{judged_full, judged_not}
use Rattle.stored_tier.proofs.QuietLaws.{calm_refused}
use Rattle.group_engine.proofs.loading_written.judge_full.Goals as goal

pub returns-in-Err-clause-judges : goal.returns-in-Err-clause-judges
returns-in-Err-clause-judges c = judged_not c.args.tier.now c.args.place c.args.which.now c.args.refreshes c.args.tables.now c.in-Err.refused c.in-Err.ensures

pub returns-in-Err-clause-calm : goal.returns-in-Err-clause-calm
returns-in-Err-clause-calm c = calm_refused c.in-Err.refused

pub returns-in-Ok-clause-judges : goal.returns-in-Ok-clause-judges
returns-in-Ok-clause-judges c = judged_full c.args.tier.now c.args.place c.args.which.now c.args.refreshes c.args.tables.now c.in-Ok.gathered c.slot_is_full.result c.in-Ok.ensures c.slot_is_full.ensures.told
