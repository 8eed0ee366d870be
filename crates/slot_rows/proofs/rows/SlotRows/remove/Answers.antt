use Rattle.std.proofs.Common.{◌≡◌, ◌<◌, Some, refl, ap, sym, subst, ◌∙◌}
use Rattle.std.specs.FinMap as fm
use Rattle.indexed_rows.specs.Places.{IsKeyAt}
use Rattle.indexed_rows.proofs.MapLaws.{no_row, not_removed}
use Rattle.slot_rows.specs.Slots.{table_in}
use Rattle.slot_rows.proofs.OrderLaws.{table_len}
use Rattle.slot_rows.proofs.SlotKeyLaws.{no_slot}
use Rattle.slot_rows.proofs.rows.SlotRows.remove.Goals as goal

pub remove_at-requires : goal.remove_at-requires
remove_at-requires c =
    let l = c.self.inside in
    subst (λ n. c.in-Ok.place < n) (sym (table_len l.rows l.by_key.places l.by_key.entries c.self.invariant.0) ∙ ap (λ h. fm.len h.table) c.self.view_is) c.in-Ok.ensures.bound

pub returns-in-Err-clause-old : goal.returns-in-Err-clause-old
returns-in-Err-clause-old c =
    let o = c.self.inside.by_key in
    sym (no_row (table_in c.self.inside.rows o.places o.entries) c.args.key.now c.in-Err.field-0 c.in-Err.ensures.absent) ∙ ap (λ h. fm.get h.table c.args.key.now) c.self.view_is

pub returns-in-Err-clause-table : goal.returns-in-Err-clause-table
returns-in-Err-clause-table c =
    let o = c.self.inside.by_key in
    subst (λ h. h.table ≡ fm.remove h.table c.args.key.now) c.self.view_is (not_removed (table_in c.self.inside.rows o.places o.entries) c.args.key.now c.in-Err.field-0 c.in-Err.ensures.absent)

pub returns-in-Ok-clause-old : goal.returns-in-Ok-clause-old
returns-in-Ok-clause-old c = (c.remove_at.ensures.taken c.args.key.now (subst (λ h. IsKeyAt (fm.entries h.table) c.args.key.now c.in-Ok.place) c.self.view_is c.in-Ok.ensures.found)).was

pub returns-in-Ok-clause-table : goal.returns-in-Ok-clause-table
returns-in-Ok-clause-table c = (c.remove_at.ensures.taken c.args.key.now (subst (λ h. IsKeyAt (fm.entries h.table) c.args.key.now c.in-Ok.place) c.self.view_is c.in-Ok.ensures.found)).now

pub returns-in-Err-clause-slots : goal.returns-in-Err-clause-slots
returns-in-Err-clause-slots c =
    let l = c.self.inside in
    let o = l.by_key in (
      λ none. refl,
      λ other e. absurd (no_slot l.rows o.places o.entries c.self.invariant.0 c.args.key.now c.in-Err.field-0 c.in-Err.ensures.absent other (subst (λ h. fm.get h.slots other ≡ Some c.args.key.now) (sym c.self.view_is) e)),
    )

pub returns-in-Ok-clause-slots : goal.returns-in-Ok-clause-slots
returns-in-Ok-clause-slots c = c.remove_at.ensures.slots c.args.key.now (subst (λ h. IsKeyAt (fm.entries h.table) c.args.key.now c.in-Ok.place) c.self.view_is c.in-Ok.ensures.found)
