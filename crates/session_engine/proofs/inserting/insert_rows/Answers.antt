use Rattle.std.proofs.Common.{Err, Ok, subst, sym}
use Rattle.stored_tier.specs.Performing.{IsCaused, IsPerformed}
use Rattle.session_engine.specs.Changing.{ChangesUnwritten}
use Rattle.propagators.proofs.CertainLaws.{bank_certain}
use Rattle.session_engine.proofs.InsertDone.{Called, called, called_cause, failed, failed_cause, taken_in}
use Rattle.session_engine.proofs.inserting.insert_rows.Goals as goal

pub returns-in-Err-find-clause-performs : goal.returns-in-Err-find-clause-performs
returns-in-Err-find-clause-performs g c = λ w s change has at is apart prepared.
    let before = (g.P.Disk.state c.args.site.now) in
    let after = (g.P.Disk.state c.find.new.self) in
    subst (λ r. IsPerformed c.args.tier.now after (λ w'. ChangesUnwritten change s w w' r)) (sym c.bank_fault.ensures)
    (failed c.tier_law.ensures.over_is_applied c.label_law.ensures.number c.label_law.ensures.change
    c.pending_row_law.ensures.own c.others_shown_law.ensures.entries c.others_shown_law.ensures.around
    c.use_shown_law.ensures.written c.args.tier.now before after c.args.id w s change c.args.prepared c.in-Ok.weighed
    c.requires.sound (c.requires.sound.verified c.requires.verified) has at is apart prepared c.in-Ok.ensures
    c.in-Err-find.error
    (subst (λ u. Called before after w u c.in-Ok.weighed.key (Err c.in-Err-find.error)) c.in-Ok.ensures.weighed.table
    (called before after w c.in-Ok.weighed.table c.in-Ok.weighed.key (Err c.in-Err-find.error) at c.in-Err-find.ensures.told
    c.in-Err-find.ensures.cause.later c.in-Err-find.ensures.crash.later c.in-Err-find.ensures.cause.shared)))

pub returns-in-Err-find-clause-cause : goal.returns-in-Err-find-clause-cause
returns-in-Err-find-clause-cause g c =
    let before = (g.P.Disk.state c.args.site.now) in
    let after = (g.P.Disk.state c.find.new.self) in
    subst (IsCaused before after) (sym c.bank_fault.ensures)
    (failed_cause before after c.in-Ok.weighed.table c.in-Ok.weighed.key c.in-Err-find.error c.in-Err-find.ensures.told
    c.in-Err-find.ensures.crash.later c.in-Err-find.ensures.cause.shared c.in-Err-find.ensures.cause)

pub returns-in-Ok-find-clause-performs : goal.returns-in-Ok-find-clause-performs
returns-in-Ok-find-clause-performs g c = λ w s change has at is apart prepared.
    let before = (g.P.Disk.state c.args.site.now) in
    let after = (g.P.Disk.state c.find.new.self) in
    taken_in c.tier_law.ensures.over_is_applied c.label_law.ensures.number c.label_law.ensures.change
    c.pending_row_law.ensures.own c.others_shown_law.ensures.entries c.others_shown_law.ensures.around
    c.use_shown_law.ensures.written c.args.tier.now before after c.args.id w s change c.args.prepared c.in-Ok.weighed
    c.requires.sound (c.requires.sound.verified c.requires.verified) has at is apart prepared c.in-Ok.ensures
    c.take_in.new.tier c.in-Ok-find.found
    (subst (λ u. Called before after w u c.in-Ok.weighed.key (Ok c.in-Ok-find.found)) c.in-Ok.ensures.weighed.table
    (called before after w c.in-Ok.weighed.table c.in-Ok.weighed.key (Ok c.in-Ok-find.found) at c.in-Ok-find.ensures.told
    c.in-Ok-find.ensures.cause.later c.in-Ok-find.ensures.crash.later c.in-Ok-find.ensures.cause.shared))
    c.take_in.result c.take_in.ensures.taken

pub returns-in-Ok-find-clause-cause : goal.returns-in-Ok-find-clause-cause
returns-in-Ok-find-clause-cause g c =
    let before = (g.P.Disk.state c.args.site.now) in
    let after = (g.P.Disk.state c.find.new.self) in
    called_cause before after c.in-Ok.weighed.table c.in-Ok.weighed.key (Ok c.in-Ok-find.found) _ c.in-Ok-find.ensures.told
    c.in-Ok-find.ensures.cause.later c.in-Ok-find.ensures.crash.later c.in-Ok-find.ensures.cause.shared c.take_in.ensures.calm

pub returns-in-Err-find-clause-certain : goal.returns-in-Err-find-clause-certain
returns-in-Err-find-clause-certain g c = bank_certain g.P.Disk.state g.P.Disk.possible g.met.P.Disk.certain c.args.site.now c.find.new.self _ c.in-Err-find.ensures.told c.in-Err-find.ensures.crash

pub returns-in-Ok-find-clause-certain : goal.returns-in-Ok-find-clause-certain
returns-in-Ok-find-clause-certain g c = bank_certain g.P.Disk.state g.P.Disk.possible g.met.P.Disk.certain c.args.site.now c.find.new.self _ c.in-Ok-find.ensures.told c.in-Ok-find.ensures.crash
