use Rattle.std.proofs.Common.{◌∙◌, ap, subst}
use Rattle.pending_writes.specs.Noting.{AreEntered, found_in, with_writes, told_by}
use Rattle.pending_writes.proofs.NoteLaws.{found_all}
use Rattle.pending_writes.proofs.pending.enter_and_note.Goals as goal

pub returns-clause-ok : goal.returns-clause-ok
returns-clause-ok c = λ k.
    ap (λ ts. found_in ts k) c.note_all.ensures
    ∙ found_all c.args.ticket c.args.writes.items c.enter_all.new.tables (subst (AreEntered c.enter_all.new.tables) c.as_slice.ensures.value c.in_ok-enter_all.ensures.entered) k
    ∙ ap (with_writes c.args.ticket (told_by k c.args.writes.items)) (c.enter_all.ensures.told k)
