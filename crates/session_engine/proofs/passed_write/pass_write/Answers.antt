use Rattle.std.proofs.Common.{Err, Ok, sym, ◌∙◌}
use Rattle.session_engine.proofs.DoubtLaws.{ready_none}
use Rattle.session_engine.proofs.KeptLaws.{calm_over, caused_kept}
use Rattle.session_engine.proofs.PassedKept.{full_over, passed_free, passed_kept, unnumbered_over}
use Rattle.stored_tier.proofs.QuietLaws.{calm_refused}
use Rattle.session_engine.proofs.passed_write.pass_write.Goals as goal

pub returns-in-Err-clause-passes : goal.returns-in-Err-clause-passes
returns-in-Err-clause-passes g c =
    passed_free g.P.Disk.state g.P.Disk.possible c.args.tier.now c.args.tier.now c.args.doubt.now c.args.journal.now c.draft_number.new.journal c.args.site.now c.args.site.now c.args.id c.args.change.now (Err c.in-Err.refused) c.requires.free
    (unnumbered_over g.P.Disk.state g.P.Disk.possible c.args.tier.now c.args.id c.args.change.now c.args.journal.now c.draft_number.new.journal c.args.site.now c.in-Err.refused c.in-Err.ensures.kept c.in-Err.ensures.told)

pub returns-in-Err-clause-cause : goal.returns-in-Err-clause-cause
returns-in-Err-clause-cause g c = calm_over c.args.journal.now (g.P.Disk.state c.args.site.now) _ (calm_refused c.in-Err.refused)

pub returns-in-Err-clause-ready : goal.returns-in-Err-clause-ready
returns-in-Err-clause-ready g c = ready_none c.args.tier.now c.args.doubt.now c.requires.free

pub returns-then-is_full-clause-passes : goal.returns-then-is_full-clause-passes
returns-then-is_full-clause-passes g c =
    passed_free g.P.Disk.state g.P.Disk.possible c.args.tier.now c.args.tier.now c.args.doubt.now c.args.journal.now c.draft_number.new.journal c.args.site.now c.args.site.now c.args.id c.args.change.now (Err c.past.result) c.requires.free
    (full_over g.P.Disk.state g.P.Disk.possible c.args.tier.now c.args.id c.args.change.now c.draft_number.new.journal c.in-Ok.draft c.in-Ok.ensures.draft c.in-Ok.ensures.left c.args.journal.now c.args.site.now c.past.result c.in-Ok.ensures.kept
    (sym c.is_full.ensures ∙ c.if-is_full.true) c.past.ensures)

pub returns-then-is_full-clause-cause : goal.returns-then-is_full-clause-cause
returns-then-is_full-clause-cause g c = calm_over c.args.journal.now (g.P.Disk.state c.args.site.now) _ (calm_refused c.past.result)

pub returns-then-is_full-clause-ready : goal.returns-then-is_full-clause-ready
returns-then-is_full-clause-ready g c = ready_none c.args.tier.now c.args.doubt.now c.requires.free

pub returns-else-is_full-clause-passes : goal.returns-else-is_full-clause-passes
returns-else-is_full-clause-passes g c =
    passed_kept g.P.Disk.state g.P.Disk.possible c.args.tier.now c.pass_numbered.new.tier c.pass_numbered.new.doubt c.args.journal.now c.draft_number.new.journal c.pass_numbered.new.journal c.args.site.now c.pass_numbered.new.site c.args.id c.args.change.now (Ok c.pass_numbered.result)
    c.in-Ok.ensures.kept c.pass_numbered.ensures.passes

pub returns-else-is_full-clause-cause : goal.returns-else-is_full-clause-cause
returns-else-is_full-clause-cause g c = caused_kept c.args.journal.now c.draft_number.new.journal _ _ _ c.in-Ok.ensures.kept c.pass_numbered.ensures.cause
