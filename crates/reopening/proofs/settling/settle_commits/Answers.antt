use Rattle.std.proofs.Common.{arith}
use Rattle.cache_tier.specs.Rounds.{Drained}
use Rattle.propagators.specs.Rounds.{doubts_at}
use Rattle.stored_tier.proofs.SettlingLaws.{doubt_rose, few_doubts}
use Rattle.reopening.proofs.SettlingLaws.{differs_told, settled_told, settled_with}
use Rattle.reopening.proofs.settling.settle_commits.Goals as goal

pub returns-in-Ok-clause-settles : goal.returns-in-Ok-clause-settles
returns-in-Ok-clause-settles g c =
    settled_with (record { left = c.left_law.ensures; follow = c.follow_law.ensures; shown = c.round_shown_law.ensures })
    c.args.commits.now.items c.round.new.unsettled.items _ _ 0 Drained
    (record {
      told = c.in-Ok.ensures.goes;
      faults = c.in-Ok.ensures.cause.later;
      moment = c.in-Ok.ensures.moment;
      shares = c.in-Ok.ensures.cause.shared;
      one = omega arith;
      rose = λ one. absurd (omega (arith, one));
    })
    c.in-Ok.ensures.all

pub returns-in-Err-clause-settles : goal.returns-in-Err-clause-settles
returns-in-Err-clause-settles g c =
    settled_told (record { left = c.left_law.ensures; follow = c.follow_law.ensures; shown = c.round_shown_law.ensures })
    c.args.commits.now.items c.round.new.unsettled.items _ _ c.in-Err.fault c.told_of.result
    (record {
      told = c.in-Err.ensures.goes;
      faults = c.in-Err.ensures.cause.later;
      moment = c.in-Err.ensures.moment;
      shares = c.in-Err.ensures.cause.shared;
      one = few_doubts c.in-Err.fault;
      rose = doubt_rose c.in-Err.fault _ _ c.in-Err.ensures.cause.failed;
    })
    c.told_of.ensures

pub returns-in-Err-clause-differs : goal.returns-in-Err-clause-differs
returns-in-Err-clause-differs g c =
    differs_told c.args.commits.now.items c.round.new.unsettled.items (g.P.Disk.state c.args.site.now) (g.P.Disk.state c.round.new.site) (doubts_at c.in-Err.fault) c.in-Err.fault c.told_of.result
    (record {
      told = c.in-Err.ensures.goes;
      faults = c.in-Err.ensures.cause.later;
      moment = c.in-Err.ensures.moment;
      shares = c.in-Err.ensures.cause.shared;
      one = few_doubts c.in-Err.fault;
      rose = doubt_rose c.in-Err.fault _ _ c.in-Err.ensures.cause.failed;
    })
    c.in-Err.ensures.rest c.in-Err.ensures.differs c.told_of.ensures
