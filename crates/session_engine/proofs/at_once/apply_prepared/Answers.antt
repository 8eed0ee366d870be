use Rattle.std.proofs.Common.{Err}
use Rattle.stored_tier.proofs.OverLaws.{caused_stopped, caused_then}
use Rattle.stored_tier.proofs.QuietLaws.{calm_refused}
use Rattle.tier_journal.proofs.DraftLaws.{placed_so}
use Rattle.cache_tier.specs.Journals.{Prepares}
use Rattle.propagators.proofs.CertainLaws.{bank_certain}
use Rattle.session_engine.specs.Committing.{sealed_next}
use Rattle.session_engine.proofs.AtOnceDone.{concluded, concluded_cause, drawn_free, undrawn}
use Rattle.session_engine.proofs.KeptLaws.{calm_over, kept_same, settled_over}
use Rattle.session_engine.proofs.NowKept.{applied_over, undrawn_over, unflushed_over}
use Rattle.session_engine.proofs.at_once.apply_prepared.Goals as goal

pub flush_draft-requires : goal.flush_draft-requires
flush_draft-requires g c = placed_so c.args.tier.now.schema c.args.journal.now c.args.draft.now (Prepares (sealed_next c.args.tier.now c.args.id)) c.requires.draft

pub returns-in-Err-clause-performs : goal.returns-in-Err-clause-performs
returns-in-Err-clause-performs g c =
    settled_over g.P.Disk.state g.P.Disk.possible c.args.tier.now c.draw.new.tier c.args.doubt.now c.args.journal.now c.args.journal.now c.args.site.now c.args.site.now c.args.id (Err c.in-Err.refused) c.requires.free
    (undrawn_over g.P.Disk.state g.P.Disk.possible c.label_law.ensures.number c.args.tier.now c.args.id c.requires.sound c.requires.some c.requires.on c.draw.new.tier c.args.journal.now c.args.journal.now c.args.site.now
    c.in-Err.refused (kept_same c.args.journal.now) (undrawn c.args.tier.now c.draw.new.tier c.in-Err.ensures.err) c.in-Err.ensures.told)

pub returns-in-Err-clause-cause : goal.returns-in-Err-clause-cause
returns-in-Err-clause-cause g c = calm_over c.args.journal.now (g.P.Disk.state c.args.site.now) _ (calm_refused c.in-Err.refused)

pub returns-in-Err-flush_draft-clause-performs : goal.returns-in-Err-flush_draft-clause-performs
returns-in-Err-flush_draft-clause-performs g c =
    unflushed_over g.P.Disk.state g.P.Disk.possible c.label_law.ensures.number c.args.tier.now c.args.id c.requires.sound c.requires.some c.requires.on c.args.journal.now c.args.draft.now c.requires.draft
    c.draw.new.tier c.args.doubt.now c.flush_draft.new.journal c.args.site.now c.flush_draft.new.disk (drawn_free c.args.tier.now c.draw.new.tier c.args.id c.in-Ok.ready c.in-Ok.ensures.ok) c.requires.fits
    c.in-Err-flush_draft.fault c.in-Err-flush_draft.ensures.flushes c.in-Err-flush_draft.ensures.cause

pub returns-in-Err-flush_draft-clause-cause : goal.returns-in-Err-flush_draft-clause-cause
returns-in-Err-flush_draft-clause-cause g c = caused_stopped c.args.journal.now _ _ c.in-Err-flush_draft.fault c.in-Err-flush_draft.ensures.cause

pub returns-in-Ok-flush_draft-clause-performs : goal.returns-in-Ok-flush_draft-clause-performs
returns-in-Ok-flush_draft-clause-performs g c =
    applied_over g.P.Disk.state g.P.Disk.possible c.label_law.ensures.number c.args.tier.now c.args.id c.requires.sound c.requires.some c.requires.on c.args.journal.now c.args.draft.now c.requires.draft
    c.conclude.new.tier c.conclude.new.doubt c.flush_draft.new.journal c.args.site.now c.flush_draft.new.disk (drawn_free c.args.tier.now c.draw.new.tier c.args.id c.in-Ok.ready c.in-Ok.ensures.ok) c.requires.fits
    c.apply_once-applied.new.self c.conclude.result c.in-Ok-flush_draft.ensures.flushes c.in-Ok-flush_draft.ensures.cause
    (bank_certain g.P.Disk.state g.P.Disk.possible g.met.P.Disk.certain c.flush_draft.new.disk c.apply_once-applied.new.self _ c.apply_once-applied.ensures.told c.apply_once-applied.ensures.crash)
    (concluded
    (record {
      commit = c.commit_shown_law.ensures;
      others = c.others_shown_law.ensures.entries;
      round = c.round_shown_law.ensures;
      skip = c.flow_skip_law.ensures;
    })
    c.label_law.ensures.number c.label_law.ensures.change c.args.tier.now c.draw.new.tier c.conclude.new.tier c.args.id
    c.in-Ok.ready c.requires.sound c.draw.ensures.sound c.in-Ok.ensures.ok c.requires.some c.requires.on _ _
    c.apply_once-applied.result c.conclude.new.doubt c.conclude.result
    (record {
      told = c.apply_once-applied.ensures.told;
      later = c.apply_once-applied.ensures.cause.later;
      moment = c.apply_once-applied.ensures.crash.later;
      shares = c.apply_once-applied.ensures.cause.shared;
    })
    c.conclude.ensures.concludes)

pub returns-in-Ok-flush_draft-clause-cause : goal.returns-in-Ok-flush_draft-clause-cause
returns-in-Ok-flush_draft-clause-cause g c =
    caused_then c.args.journal.now _ _ _ c.conclude.result c.in-Ok-flush_draft.ensures.cause c.apply_once-applied.ensures.cause.disk
    (concluded_cause c.in-Ok.ready.entered c.in-Ok.ready.sealed c.draw.new.tier c.conclude.new.tier c.conclude.new.doubt c.args.id _ _
    c.apply_once-applied.result c.conclude.result
    (record {
      told = c.apply_once-applied.ensures.told;
      later = c.apply_once-applied.ensures.cause.later;
      moment = c.apply_once-applied.ensures.crash.later;
      shares = c.apply_once-applied.ensures.cause.shared;
    })
    c.apply_once-applied.ensures.cause c.conclude.ensures.concludes)
