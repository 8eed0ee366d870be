use Rattle.std.proofs.Common.{Err, sym, ◌∙◌}
use Rattle.session_engine.proofs.KeptLaws.{calm_over, caused_kept, ends_kept, settled_over}
use Rattle.session_engine.proofs.NowKept.{full_now, undrawn_over}
use Rattle.stored_tier.proofs.QuietLaws.{calm_refused}
use Rattle.session_engine.proofs.at_once.commit_at_once.Goals as goal

pub returns-in-Err-clause-performs : goal.returns-in-Err-clause-performs
returns-in-Err-clause-performs g c =
    settled_over g.P.Disk.state g.P.Disk.possible c.args.tier.now c.args.tier.now c.args.doubt.now c.args.journal.now c.draft_prepare.new.journal c.args.site.now c.args.site.now c.args.id (Err c.in-Err.refused) c.requires.free
    (undrawn_over g.P.Disk.state g.P.Disk.possible c.label_law.ensures.number c.args.tier.now c.args.id c.requires.sound c.requires.some c.requires.on c.args.tier.now c.args.journal.now c.draft_prepare.new.journal c.args.site.now
    c.in-Err.refused c.in-Err.ensures.kept (λ w is. is) c.in-Err.ensures.told)

pub returns-in-Err-clause-cause : goal.returns-in-Err-clause-cause
returns-in-Err-clause-cause g c = calm_over c.args.journal.now (g.P.Disk.state c.args.site.now) _ (calm_refused c.in-Err.refused)

pub returns-then-is_full-clause-performs : goal.returns-then-is_full-clause-performs
returns-then-is_full-clause-performs g c =
    settled_over g.P.Disk.state g.P.Disk.possible c.args.tier.now c.args.tier.now c.args.doubt.now c.args.journal.now c.draft_prepare.new.journal c.args.site.now c.args.site.now c.args.id (Err c.past.result) c.requires.free
    (full_now g.P.Disk.state g.P.Disk.possible c.label_law.ensures.number c.args.tier.now c.args.id c.requires.sound c.requires.some c.requires.on c.draft_prepare.new.journal c.in-Ok.draft c.in-Ok.ensures.draft c.args.journal.now c.args.site.now
    c.past.result c.in-Ok.ensures.kept c.in-Ok.ensures.told (sym c.is_full.ensures ∙ c.if-is_full.true) c.past.ensures)

pub returns-then-is_full-clause-cause : goal.returns-then-is_full-clause-cause
returns-then-is_full-clause-cause g c = calm_over c.args.journal.now (g.P.Disk.state c.args.site.now) _ (calm_refused c.past.result)

pub returns-else-is_full-clause-performs : goal.returns-else-is_full-clause-performs
returns-else-is_full-clause-performs g c =
    ends_kept g.P.Disk.state g.P.Disk.possible c.args.tier.now c.apply_prepared.new.tier c.apply_prepared.new.doubt c.args.journal.now c.draft_prepare.new.journal c.apply_prepared.new.journal c.args.site.now c.apply_prepared.new.site c.args.id c.apply_prepared.result
    c.in-Ok.ensures.kept c.apply_prepared.ensures.performs

pub returns-else-is_full-clause-cause : goal.returns-else-is_full-clause-cause
returns-else-is_full-clause-cause g c = caused_kept c.args.journal.now c.draft_prepare.new.journal _ _ _ c.in-Ok.ensures.kept c.apply_prepared.ensures.cause
