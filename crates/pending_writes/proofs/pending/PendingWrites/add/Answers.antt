use Rattle.std.proofs.Common.{◌∙◌, ap}
use Rattle.std.specs.Vec.{with_items}
use Rattle.std.proofs.lemmas.List.{with_items_is}
use Rattle.pending_writes.specs.LastWriters.{last_left}
use Rattle.pending_writes.proofs.NoteLaws.{add_told}
use Rattle.pending_writes.proofs.pending.PendingWrites.add.Goals as goal

pub returns-clause-ok : goal.returns-clause-ok
returns-clause-ok c = λ first waiting le tells.
    let is = with_items_is c.widen.new.tables c.enter_and_note.new.tables (c.enter_and_note.auto.tables ∙ c.as_mut_slice.ensures.len) in
    add_told c.args.schema.now first waiting c.args.sealed.now c.args.self.now (record { tables = with_items c.widen.new.tables c.enter_and_note.new.tables }) c.enter_and_note.result c.widen.new.tables.items c.as_mut_slice.result.now c.enter_and_note.new.tables c.in_ok-writes.writes.items le
    (λ k. c.in_ok-writes.ensures k ∙ ap (last_left c.args.schema.now k) c.as_slice.ensures) c.widen.ensures.told c.as_mut_slice.ensures.value is c.enter_and_note.ensures.ok tells
