use Rattle.std.proofs.Common.{refl, sym, ◌∙◌}
use Rattle.tier_journal.proofs.DraftLaws.{placed_so}
use Rattle.cache_tier.specs.Journals.{Commits}
use Rattle.stored_tier.proofs.OverLaws.{caused_stopped, caused_then}
use Rattle.stored_tier.proofs.QuietLaws.{calm_refused}
use Rattle.session_engine.specs.Committing.{sealed_next}
use Rattle.session_engine.proofs.KeptLaws.{calm_over, caused_kept}
use Rattle.session_engine.proofs.LaterKept.{full_later, recorded, unanswered_over, unfit_over, unrecorded}
use Rattle.session_engine.proofs.recording.commit_recorded.Goals as goal

pub record_draft-requires-clause-placed : goal.record_draft-requires-clause-placed
record_draft-requires-clause-placed g c = placed_so c.args.tier.now.schema c.draft_commit.new.journal c.in-Ok.draft (Commits (sealed_next c.args.tier.now c.args.id)) c.in-Ok.ensures.draft

pub record_draft-requires-clause-fits : goal.record_draft-requires-clause-fits
record_draft-requires-clause-fits g c = sym c.is_full.ensures ∙ c.if-is_full.false

pub returns-in-Err-clause-performs : goal.returns-in-Err-clause-performs
returns-in-Err-clause-performs g c =
    unfit_over g.P.Disk.state g.P.Disk.possible c.commit_shown_law.ensures c.label_law.ensures.number c.args.tier.now c.args.id c.requires.sound c.requires.some c.requires.deferred c.args.journal.now c.draft_commit.new.journal c.in-Err.ensures.kept
    c.args.site.now c.in-Err.refused c.in-Err.ensures.told

pub returns-in-Err-clause-cause : goal.returns-in-Err-clause-cause
returns-in-Err-clause-cause g c = calm_over c.args.journal.now (g.P.Disk.state c.args.site.now) _ (calm_refused c.in-Err.refused)

pub returns-then-is_full-clause-performs : goal.returns-then-is_full-clause-performs
returns-then-is_full-clause-performs g c =
    full_later g.P.Disk.state g.P.Disk.possible c.commit_shown_law.ensures c.label_law.ensures.number c.args.tier.now c.args.id c.requires.sound c.requires.some c.requires.deferred c.args.journal.now c.draft_commit.new.journal c.in-Ok.ensures.kept
    c.in-Ok.draft c.in-Ok.ensures.draft c.args.site.now c.past.result c.in-Ok.ensures.told (sym c.is_full.ensures ∙ c.if-is_full.true) c.past.ensures

pub returns-then-is_full-clause-cause : goal.returns-then-is_full-clause-cause
returns-then-is_full-clause-cause g c = calm_over c.args.journal.now (g.P.Disk.state c.args.site.now) _ (calm_refused c.past.result)

pub returns-in-Err-commit_writes-clause-performs : goal.returns-in-Err-commit_writes-clause-performs
returns-in-Err-commit_writes-clause-performs g c =
    unanswered_over g.P.Disk.state g.P.Disk.possible c.commit_shown_law.ensures c.label_law.ensures.number c.args.tier.now c.args.id c.requires.sound c.requires.some c.requires.deferred c.args.journal.now c.draft_commit.new.journal c.in-Ok.ensures.kept
    c.in-Ok.draft c.in-Ok.ensures.draft c.commit_writes.new.tier c.args.site.now c.in-Err-commit_writes.refused c.in-Err-commit_writes.ensures.answers c.in-Err-commit_writes.ensures.stores c.commit_writes.ensures.hidden

pub returns-in-Err-commit_writes-clause-cause : goal.returns-in-Err-commit_writes-clause-cause
returns-in-Err-commit_writes-clause-cause g c = calm_over c.args.journal.now (g.P.Disk.state c.args.site.now) _ (calm_refused c.in-Err-commit_writes.refused)

pub returns-in-Ok-record_draft-clause-performs : goal.returns-in-Ok-record_draft-clause-performs
returns-in-Ok-record_draft-clause-performs g c =
    recorded g.P.Disk.state g.P.Disk.possible c.commit_shown_law.ensures c.label_law.ensures.number c.args.tier.now c.args.id c.requires.sound c.requires.some c.requires.deferred c.args.journal.now c.draft_commit.new.journal c.in-Ok.ensures.kept
    c.in-Ok.draft c.in-Ok.ensures.draft c.commit_writes.new.tier c.record_draft.new.journal c.args.site.now c.record_draft.new.disk c.is_durable-durable.result c.in-Ok-commit_writes.reply
    (sym c.is_full.ensures ∙ c.if-is_full.false) c.is_durable-durable.ensures c.in-Ok-commit_writes.ensures.answers c.in-Ok-commit_writes.ensures.stores c.commit_writes.ensures.hidden
    c.in-Ok-record_draft.ensures.records c.in-Ok-record_draft.ensures.cause

pub returns-in-Ok-record_draft-clause-cause : goal.returns-in-Ok-record_draft-clause-cause
returns-in-Ok-record_draft-clause-cause g c =
    caused_kept c.args.journal.now c.draft_commit.new.journal _ _ c.in-Ok-commit_writes.reply c.in-Ok.ensures.kept
    (caused_then c.draft_commit.new.journal _ _ _ c.in-Ok-commit_writes.reply c.in-Ok-record_draft.ensures.cause refl (c.in-Ok-commit_writes.ensures.calm _))

pub returns-clause-performs : goal.returns-clause-performs
returns-clause-performs g c =
    unrecorded g.P.Disk.state g.P.Disk.possible c.commit_shown_law.ensures c.label_law.ensures.number c.args.tier.now c.args.id c.requires.sound c.requires.some c.requires.deferred c.args.journal.now c.draft_commit.new.journal c.in-Ok.ensures.kept
    c.in-Ok.draft c.in-Ok.ensures.draft c.commit_writes.new.tier c.record_draft.new.journal c.args.site.now c.record_draft.new.disk c.is_durable-durable.result c.in-Ok-commit_writes.reply
    (sym c.is_full.ensures ∙ c.if-is_full.false) c.is_durable-durable.ensures c.in-Ok-commit_writes.ensures.answers c.in-Ok-commit_writes.ensures.stores c.commit_writes.ensures.hidden
    c.in-Err-record_draft.fault c.in-Err-record_draft.ensures.records c.in-Err-record_draft.ensures.cause

pub returns-clause-cause : goal.returns-clause-cause
returns-clause-cause g c =
    caused_kept c.args.journal.now c.draft_commit.new.journal _ _ c.in-Err-record_draft.fault c.in-Ok.ensures.kept
    (caused_stopped c.draft_commit.new.journal _ _ c.in-Err-record_draft.fault c.in-Err-record_draft.ensures.cause)
