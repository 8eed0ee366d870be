-- Each write is one of those that are left.
use Rattle.std.proofs.Common.{sym, ap, subst, ◌∙◌}
use Rattle.pending_writes.specs.Noting.{AreEntered, noted_all}
use Rattle.pending_writes.proofs.NoteLaws.{rest_entered}
use Rattle.pending_writes.proofs.pending.note_all.Goals as goal

pub loop-write-preserved : goal.loop-write-preserved
loop-write-preserved c =
    let all = subst (AreEntered c.loop-write.tables) c.in-Some.ensures.steps.0 c.loop-write.invariant.entered in
    record {
      rest = ap (noted_all c.args.ticket c.next.new.self.rest.items) c.note.ensures
          ∙ ap (λ ws. noted_all c.args.ticket ws c.loop-write.tables) (sym c.in-Some.ensures.steps.0) ∙ c.loop-write.invariant.rest;
      entered = rest_entered c.args.ticket _ _ _ _ all c.note.ensures;
    }
