use Rattle.std.proofs.Common.{◌≡◌, ◌<◌, Some, cond, ap, sym, subst, ◌∙◌}
use Rattle.std.specs.FinMap as fm
use Rattle.indexed_rows.specs.Places.{IsGapFor, IsKeyAt}
use Rattle.indexed_rows.proofs.MapLaws.{has_key, no_key}
use Rattle.indexed_rows.specs.Rows.{key_of, put_in, put_over}
use Rattle.slot_rows.specs.SlotKeys.{PutsInSlot}
use Rattle.slot_rows.specs.Slots.{table_in}
use Rattle.slot_rows.proofs.FrontLaws.{not_left, put_again}
use Rattle.slot_rows.proofs.OrderLaws.{table_len}
use Rattle.slot_rows.proofs.SlotKeyLaws.{back_in, slot_at_key}
use Rattle.slot_rows.proofs.rows.SlotRows.replace_reserved.Goals as goal

pub remove_at-requires : goal.remove_at-requires
remove_at-requires c =
    let l = c.self.inside in
    subst (λ n. c.in-Ok.place < n) (sym (table_len l.rows l.by_key.places l.by_key.entries c.self.invariant.0) ∙ ap (λ h. fm.len h.table) c.self.view_is) c.in-Ok.ensures.bound

pub returns-in-Err-clause-table : goal.returns-in-Err-clause-table
returns-in-Err-clause-table c =
    let l = c.self.inside in
    let o = l.by_key in
    let gap = subst (λ v. IsGapFor (fm.entries (table_in l.rows o.places o.entries)) (key_of o.places v) c.in-Err.field-0) c.values.ensures c.in-Err.ensures.absent in
    let none = no_key (table_in l.rows o.places o.entries) (key_of o.places c.args.row) c.in-Err.field-0 gap in
    subst (λ h. h.table ≡ put_over h.table (key_of h.places c.args.row) c.args.row) c.self.view_is
    (ap (λ b. cond b (fm.insert (table_in l.rows o.places o.entries) (key_of o.places c.args.row) c.args.row) (table_in l.rows o.places o.entries)) (sym none))

pub returns-in-Ok-clause-table : goal.returns-in-Ok-clause-table
returns-in-Ok-clause-table c =
    let l = c.self.inside in
    let o = l.by_key in
    let m = c.args.self.now.table in
    let key = key_of c.args.self.now.places c.args.row in
    let here : IsKeyAt (fm.entries m) key c.in-Ok.place = subst (λ h. IsKeyAt (fm.entries h.table) (key_of h.places c.args.row) c.in-Ok.place) c.self.view_is
    (subst (λ v. IsKeyAt (fm.entries (table_in l.rows o.places o.entries)) (key_of o.places v) c.in-Ok.place) c.values.ensures c.in-Ok.ensures.found) in
    c.insert_reserved.ensures.table
    ∙ ap (λ ps. put_in c.remove_at.new.self.table (key_of ps c.args.row) c.args.row) c.remove_at.ensures.places
    ∙ ap (λ t. put_in t key c.args.row) (c.remove_at.ensures.taken key here).now
    ∙ ap (λ b. cond b (fm.remove m key) (fm.insert (fm.remove m key) key c.args.row)) (not_left m key)
    ∙ put_again m key c.args.row (has_key m key c.in-Ok.place here)

pub returns-in-Ok-clause-slots : goal.returns-in-Ok-clause-slots
returns-in-Ok-clause-slots c =
    let l = c.self.inside in
    let o = l.by_key in
    let h = c.args.self.now in
    let key = key_of h.places c.args.row in
    let here : IsKeyAt (fm.entries h.table) key c.in-Ok.place = subst (λ h. IsKeyAt (fm.entries h.table) (key_of h.places c.args.row) c.in-Ok.place) c.self.view_is
    (subst (λ v. IsKeyAt (fm.entries (table_in l.rows o.places o.entries)) (key_of o.places v) c.in-Ok.place) c.values.ensures c.in-Ok.ensures.found) in
    let s = slot_at_key l.rows o.places o.entries c.self.invariant.0 key c.in-Ok.place (subst (λ h. IsKeyAt (fm.entries h.table) key c.in-Ok.place) (sym c.self.view_is) here) in
    let in_slot = subst (λ h. fm.get h.slots s.0 ≡ Some key) c.self.view_is s.1 in
    back_in h c.remove_at.new.self c.insert_reserved.new.self key s.0 in_slot ((c.remove_at.ensures.slots key here).1 s.0 in_slot) (ap (λ t. fm.contains_key t key) (c.remove_at.ensures.taken key here).now ∙ not_left h.table key)
    c.insert_reserved.result (subst (λ ps. PutsInSlot c.remove_at.new.self c.insert_reserved.new.self (key_of ps c.args.row) c.insert_reserved.result) c.remove_at.ensures.places c.insert_reserved.ensures.slot)
