use Rattle.std.proofs.Common.{None, Some, ap, subst}
use Rattle.indexed_rows.proofs.MapLaws.{has_key, no_key}
use Rattle.slot_rows.specs.SlotKeys.{IsSlotOf}
use Rattle.slot_rows.specs.Slots.{table_in}
use Rattle.slot_rows.proofs.SlotKeyLaws.{key_in_slot, key_there, no_slot, only_slot}
use Rattle.std.proofs.Common.{◌∙◌}
use Rattle.slot_rows.proofs.rows.SlotRows.slot_of.Goals as goal

pub returns-in-Ok : goal.returns-in-Ok
returns-in-Ok c =
    let l = c.self.inside in
    let o = l.by_key in
    let key = c.args.key.now in
    let is = key_in_slot l.rows o.places o.entries c.self.invariant.0 key c.in-Ok.place c.slot_at.result c.slot_at.ensures c.in-Ok.ensures.found in
    subst (λ h. IsSlotOf h key (Some c.slot_at.result)) c.self.view_is (
      has_key (table_in l.rows o.places o.entries) key c.in-Ok.place c.in-Ok.ensures.found,
      key_there l.rows o.places o.entries c.self.invariant.0 c.in-Ok.place c.slot_at.result c.slot_at.ensures ∙ ap Some is,
      λ other e. ap Some (only_slot l.rows o.places o.entries c.self.invariant.0 key c.in-Ok.place c.slot_at.result c.slot_at.ensures is other e),
    )

pub returns-in-Err : goal.returns-in-Err
returns-in-Err c =
    let l = c.self.inside in
    let o = l.by_key in
    let key = c.args.key.now in
    subst (λ h. IsSlotOf h key None) c.self.view_is (
      no_key (table_in l.rows o.places o.entries) key c.in-Err.field-0 c.in-Err.ensures.absent,
      λ other e. absurd (no_slot l.rows o.places o.entries c.self.invariant.0 key c.in-Err.field-0 c.in-Err.ensures.absent other e),
    )
