use Rattle.std.proofs.Common.{sym, ap, subst, ◌∙◌}
use Rattle.table_state.specs.Changes.{AllHaveRoom, all_taken_back}
use Rattle.table_state.proofs.ChangeLaws.{back_push, room_last}
use Rattle.table_state.proofs.tables.Tables.take_all_back.Goals as goal

pub loop-undo-preserved : goal.loop-undo-preserved
loop-undo-preserved c =
    let last = room_last c.pop.new.self.items c.in-Some.undo c.loop-undo.self (subst (λ l. AllHaveRoom l c.loop-undo.self) c.in-Some.ensures.items c.loop-undo.invariant.room) in record {
      back =
          ap (all_taken_back c.pop.new.self.items) c.take_back.ensures ∙ sym (back_push c.pop.new.self.items c.in-Some.undo c.loop-undo.self)
          ∙ ap (λ l. all_taken_back l c.loop-undo.self) (sym c.in-Some.ensures.items) ∙ c.loop-undo.invariant.back;
      room = subst (AllHaveRoom c.pop.new.self.items) (sym c.take_back.ensures) last.1;
    }

pub take_back-requires : goal.take_back-requires
take_back-requires c = (room_last c.pop.new.self.items c.in-Some.undo c.loop-undo.self (subst (λ l. AllHaveRoom l c.loop-undo.self) c.in-Some.ensures.items c.loop-undo.invariant.room)).0
