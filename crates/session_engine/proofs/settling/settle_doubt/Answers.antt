use Rattle.std.proofs.Common.{◌∙◌, sym}
use Rattle.session_engine.proofs.AskedLaws.{asked_failed, asked_known}
use Rattle.session_engine.proofs.SettledLaws.{leads_settled, leads_unsettled, ready_some, rest_kept}
use Rattle.propagators.proofs.CertainLaws.{bank_certain}
use Rattle.session_engine.proofs.settling.settle_doubt.Goals as goal

pub settle-requires-clause-ready : goal.settle-requires-clause-ready
settle-requires-clause-ready g c =
    ready_some c.args.tier.now c.args.doubt.now c.in-Some.asked (sym c.take.ensures.value ∙ c.in-Some.is) c.requires.ready

pub returns-in-Err-clause-performs : goal.returns-in-Err-clause-performs
returns-in-Err-clause-performs g c =
    leads_unsettled
    (record {
      commit = c.commit_shown_law.ensures;
      others = c.others_shown_law.ensures.entries;
      round = c.round_shown_law.ensures;
      skip = c.flow_skip_law.ensures;
    })
    c.label_law.ensures.number c.label_law.ensures.change c.session_law.ensures.ends c.args.tier.now c.args.doubt.now
    c.in-Some.asked _ _ c.in-Err.error c.requires.sound (sym c.take.ensures.value ∙ c.in-Some.is)
    (record {
      told = c.in-Err.ensures.told;
      later = c.in-Err.ensures.cause.later;
      moment = c.in-Err.ensures.crash.later;
      shares = c.in-Err.ensures.cause.shared;
    })

pub returns-in-Err-clause-ready : goal.returns-in-Err-clause-ready
returns-in-Err-clause-ready g c =
    ready_some c.args.tier.now c.args.doubt.now c.in-Some.asked (sym c.take.ensures.value ∙ c.in-Some.is) c.requires.ready

pub returns-in-Err-clause-cause : goal.returns-in-Err-clause-cause
returns-in-Err-clause-cause g c =
    asked_failed c.in-Some.asked _ _ c.in-Err.error
    (record {
      told = c.in-Err.ensures.told;
      later = c.in-Err.ensures.cause.later;
      moment = c.in-Err.ensures.crash.later;
      shares = c.in-Err.ensures.cause.shared;
    })
    c.in-Err.ensures.cause

pub returns-in-Ok-clause-performs : goal.returns-in-Ok-clause-performs
returns-in-Ok-clause-performs g c =
    leads_settled
    (record {
      commit = c.commit_shown_law.ensures;
      others = c.others_shown_law.ensures.entries;
      round = c.round_shown_law.ensures;
      skip = c.flow_skip_law.ensures;
    })
    c.label_law.ensures.number c.label_law.ensures.change c.session_law.ensures.ends c.args.tier.now c.settle.new.tier
    c.args.doubt.now c.take.new.self c.in-Some.asked _ _ c.in-Ok.stands c.settle.result c.requires.sound
    (sym c.take.ensures.value ∙ c.in-Some.is) c.take.ensures.after c.settle.ensures.told
    (record {
      told = c.in-Ok.ensures.told;
      later = c.in-Ok.ensures.cause.later;
      moment = c.in-Ok.ensures.crash.later;
      shares = c.in-Ok.ensures.cause.shared;
    })
    c.settle.ensures.settles

pub returns-in-Ok-clause-keeps : goal.returns-in-Ok-clause-keeps
returns-in-Ok-clause-keeps g c =
    rest_kept c.args.tier.now c.settle.new.tier c.in-Some.asked.of c.in-Some.asked.session c.in-Ok.stands c.settle.ensures.settles

pub returns-in-Ok-clause-cause : goal.returns-in-Ok-clause-cause
returns-in-Ok-clause-cause g c =
    asked_known c.in-Some.asked _ _ c.in-Ok.stands c.settle.result c.settle.ensures.told
    (record {
      told = c.in-Ok.ensures.told;
      later = c.in-Ok.ensures.cause.later;
      moment = c.in-Ok.ensures.crash.later;
      shares = c.in-Ok.ensures.cause.shared;
    })
    c.in-Ok.ensures.cause

pub returns-in-Err-clause-certain : goal.returns-in-Err-clause-certain
returns-in-Err-clause-certain g c = bank_certain g.P.Disk.state g.P.Disk.possible g.met.P.Disk.certain c.args.site.now c.recorded.new.self _ c.in-Err.ensures.told c.in-Err.ensures.crash

pub returns-in-Ok-clause-certain : goal.returns-in-Ok-clause-certain
returns-in-Ok-clause-certain g c = bank_certain g.P.Disk.state g.P.Disk.possible g.met.P.Disk.certain c.args.site.now c.recorded.new.self _ c.in-Ok.ensures.told c.in-Ok.ensures.crash
