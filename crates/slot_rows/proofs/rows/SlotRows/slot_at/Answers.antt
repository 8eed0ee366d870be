use Rattle.std.proofs.Common.{◌<◌, Some, ap, sym, subst, ◌∙◌}
use Rattle.std.specs.FinMap as fm
use Rattle.indexed_rows.specs.Places.{IsKeyAt}
use Rattle.indexed_rows.proofs.MapLaws.{has_key}
use Rattle.slot_rows.specs.SlotKeys.{IsSlotOf}
use Rattle.slot_rows.specs.Slots.{table_in}
use Rattle.slot_rows.proofs.OrderLaws.{table_len}
use Rattle.slot_rows.proofs.SlotKeyLaws.{key_in_slot, key_there, only_slot}
use Rattle.slot_rows.proofs.rows.SlotRows.slot_at.Goals as goal

pub slot_at-requires : goal.slot_at-requires
slot_at-requires c =
    let l = c.self.inside in
    subst (λ n. c.args.place < n) (ap (λ h. fm.len h.table) (sym c.self.view_is) ∙ table_len l.rows l.by_key.places l.by_key.entries c.self.invariant.0) c.requires

pub returns : goal.returns
returns c = λ key found.
    let l = c.self.inside in
    let o = l.by_key in
    let here = subst (λ h. IsKeyAt (fm.entries h.table) key c.args.place) (sym c.self.view_is) found in
    let is = key_in_slot l.rows o.places o.entries c.self.invariant.0 key c.args.place c.slot_at.result c.slot_at.ensures here in
    subst (λ h. IsSlotOf h key (Some c.slot_at.result)) c.self.view_is (
      has_key (table_in l.rows o.places o.entries) key c.args.place here,
      key_there l.rows o.places o.entries c.self.invariant.0 c.args.place c.slot_at.result c.slot_at.ensures ∙ ap Some is,
      λ other e. ap Some (only_slot l.rows o.places o.entries c.self.invariant.0 key c.args.place c.slot_at.result c.slot_at.ensures is other e),
    )
