use Rattle.std.proofs.Common.{None, Some, subst}
use Rattle.std.specs.FinMap as fm
use Rattle.indexed_rows.specs.Places.{IsGapFor, IsKeyAt}
use Rattle.indexed_rows.proofs.MapLaws.{no_key}
use Rattle.indexed_rows.specs.Rows.{key_of}
use Rattle.slot_rows.specs.SlotKeys.{IsPlaceOf}
use Rattle.slot_rows.specs.Slots.{table_in}
use Rattle.slot_rows.proofs.SlotKeyLaws.{no_slot}
use Rattle.slot_rows.proofs.rows.SlotRows.place_of.Goals as goal

pub returns-in-Ok : goal.returns-in-Ok
returns-in-Ok c =
    let l = c.self.inside in
    let o = l.by_key in
    subst (λ h. IsPlaceOf h (key_of h.places c.args.row.now) (Some c.in-Ok.place)) c.self.view_is
    (subst (λ v. IsKeyAt (fm.entries (table_in l.rows o.places o.entries)) (key_of o.places v) c.in-Ok.place) c.values.ensures c.in-Ok.ensures.found)

pub returns-in-Err : goal.returns-in-Err
returns-in-Err c =
    let l = c.self.inside in
    let o = l.by_key in
    let gap = subst (λ v. IsGapFor (fm.entries (table_in l.rows o.places o.entries)) (key_of o.places v) c.in-Err.field-0) c.values.ensures c.in-Err.ensures.absent in
    subst (λ h. IsPlaceOf h (key_of h.places c.args.row.now) None) c.self.view_is (
      no_key (table_in l.rows o.places o.entries) (key_of o.places c.args.row.now) c.in-Err.field-0 gap,
      λ other e. absurd (no_slot l.rows o.places o.entries c.self.invariant.0 (key_of o.places c.args.row.now) c.in-Err.field-0 gap other e),
    )
