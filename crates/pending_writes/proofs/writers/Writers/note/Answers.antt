use Rattle.std.proofs.Common.{Some, ◌≡◌, true, false, sym, ◌∙◌}
use Rattle.pending_writes.proofs.MapLaws.{inside, no_key, goes_over, now_sorted, now_has}
use Rattle.pending_writes.proofs.writers.Writers.note.Goals as goal

pub replace-requires : goal.replace-requires
replace-requires c = inside c.self.inside.entries c.args.self.now c.self.invariant c.self.view_is _ c.in-Ok.ensures.bound

pub invariant_of-self : goal.invariant_of-self
invariant_of-self c =
    now_sorted c.self.inside.entries c.args.self.now c.self.invariant c.self.view_is c.args.key (Some c.args.writer) _ (c.replace.ensures.new ∙ goes_over c.self.inside.entries c.args.self.now c.self.invariant c.self.view_is c.args.key (Some c.args.writer) c.in-Ok.place c.in-Ok.ensures.found)

pub returns-in-Ok : goal.returns-in-Ok
returns-in-Ok c =
    now_has c.self.inside.entries c.args.self.now c.self.invariant c.self.view_is c.args.key (Some c.args.writer) _ (c.replace.ensures.new ∙ goes_over c.self.inside.entries c.args.self.now c.self.invariant c.self.view_is c.args.key (Some c.args.writer) c.in-Ok.place c.in-Ok.ensures.found)

pub returns-in-Err : goal.returns-in-Err
returns-in-Err c =
    let absent = no_key c.args.self.now c.args.key c.in-Err.field-0 c.in-Err.ensures.absent in
    let never : true ≡ false = sym c.requires ∙ absent in
    cc
