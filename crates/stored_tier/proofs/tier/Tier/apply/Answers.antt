use Rattle.std.proofs.Common.{arith, refl}
use Rattle.stored_tier.proofs.SettlingLaws.{all_caused, doubt_rose, end_caused, few_doubts, settled_all, settled_so_far, sound_settled, still_told}
use Rattle.stored_tier.proofs.tier.Tier.apply.Goals as goal

pub returns-in-Ok-clause-performs : goal.returns-in-Ok-clause-performs
returns-in-Ok-clause-performs g c =
    settled_all (record { left = c.left_law.ensures; follow = c.follow_law.ensures; shown = c.round_shown_law.ensures })
    c.args.self.now _ _ _ c.in-Ok.receipts refl
    (record {
      told = c.in-Ok.ensures.goes;
      faults = c.in-Ok.ensures.cause.later;
      moment = c.in-Ok.ensures.moment;
      shares = c.in-Ok.ensures.cause.shared;
      one = omega arith;
      rose = λ one. absurd (omega (arith, one));
    })
    c.in-Ok.ensures.all c.in-Ok.ensures.told c.requires

pub returns-in-Err-clause-performs : goal.returns-in-Err-clause-performs
returns-in-Err-clause-performs g c =
    settled_so_far (record { left = c.left_law.ensures; follow = c.follow_law.ensures; shown = c.round_shown_law.ensures })
    c.args.self.now _ _ _ c.in-Err.fault c.reply_to_round.result refl
    (record {
      told = c.in-Err.ensures.goes;
      faults = c.in-Err.ensures.cause.later;
      moment = c.in-Err.ensures.moment;
      shares = c.in-Err.ensures.cause.shared;
      one = few_doubts c.in-Err.fault;
      rose = doubt_rose c.in-Err.fault _ _ c.in-Err.ensures.cause.failed;
    })
    (still_told c.args.self.now _ c.in-Err.fault c.reply_to_round.result refl c.reply_to_round.ensures) c.requires

pub returns-in-Ok-clause-sound : goal.returns-in-Ok-clause-sound
returns-in-Ok-clause-sound g c = sound_settled c.args.self.now _ c.requires refl c.in-Ok.ensures.rest

pub returns-in-Err-clause-sound : goal.returns-in-Err-clause-sound
returns-in-Err-clause-sound g c = sound_settled c.args.self.now _ c.requires refl c.in-Err.ensures.rest

pub returns-in-Ok-clause-cause : goal.returns-in-Ok-clause-cause
returns-in-Ok-clause-cause g c =
    all_caused c.args.self.now.unsettled.items c.round.new.unsettled.items _ _ c.in-Ok.receipts
    (record {
      told = c.in-Ok.ensures.goes;
      faults = c.in-Ok.ensures.cause.later;
      moment = c.in-Ok.ensures.moment;
      shares = c.in-Ok.ensures.cause.shared;
      one = omega arith;
      rose = λ one. absurd (omega (arith, one));
    })

pub returns-in-Err-clause-cause : goal.returns-in-Err-clause-cause
returns-in-Err-clause-cause g c =
    end_caused c.args.self.now c.args.self.now.unsettled.items c.round.new.unsettled.items _ _ c.in-Err.fault c.reply_to_round.result
    (record {
      told = c.in-Err.ensures.goes;
      faults = c.in-Err.ensures.cause.later;
      moment = c.in-Err.ensures.moment;
      shares = c.in-Err.ensures.cause.shared;
      one = few_doubts c.in-Err.fault;
      rose = doubt_rose c.in-Err.fault _ _ c.in-Err.ensures.cause.failed;
    })
    (still_told c.args.self.now _ c.in-Err.fault c.reply_to_round.result refl c.reply_to_round.ensures)
